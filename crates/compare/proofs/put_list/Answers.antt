use native.Mathlib.Omega.{arith}
use Prim.Native.Nat.{◌+◌, ◌*◌, ◌≤◌}
use mathlib.Core.Path.{◌≡◌, ap}
use lib.ListN.{length, take}
use Rattle.std.proofs.lemmas.Grind.{common_steps}
use Rattle.compare.specs.Found.{partnerless, found}
use Rattle.compare.proofs.Found.{partnerless_few, list_put}
use Rattle.compare.proofs.put_list.Goals as goal

pub returns : goal.returns
returns c =
    let a = c.args in
    let n = a.first + a.second in
    let first_alone = partnerless a.matrix.now n 0 a.first a.first a.second in
    let second_alone = partnerless a.matrix.now n a.first a.second 0 a.first in
    let i : 0 * n + a.first ≡ a.first = omega arith in
    let put : (take c.put_bytes-4.new.self.at c.put_bytes-4.new.self.bytes.now ≡ found a.matrix.now a.first a.second) × (c.put_bytes-4.new.self.at ≤ length c.put_bytes-4.new.self.bytes.now) =
    rw i (list_put c.new-page.result _ _ _ _ _ first_alone second_alone c.new-page.ensures.empty.0 (omega (arith, c.requires.room, partnerless_few a.matrix.now n 0 a.first a.first a.second, partnerless_few a.matrix.now n a.first a.second 0 a.first, ap length c.new-page.ensures.empty.1))
    (rw (c.len.ensures.value, c.partnerless-first_alone.ensures) at c.put_bytes.ensures)
    (rw (c.as_slice.ensures.value, c.partnerless-first_alone.ensures) at c.put_bytes-2.ensures)
    (rw (c.len-2.ensures.value, c.partnerless-second_alone.ensures) at c.put_bytes-3.ensures)
    (rw (c.as_slice-2.ensures.value, c.partnerless-second_alone.ensures) at c.put_bytes-4.ensures)) in
    grind (arith, common_steps)
