-- A comparison's list has three bytes and at most one for each state; so a buffer as long as the longest has room for every list. Assumes nothing.
use Prim.Native.Nat.{ℕ, ◌+◌, ◌≤◌}
use mathlib.Core.Path.{◌≡◌, refl, ap}
use mathlib.Core.List.{List}
use native.Mathlib.Omega.{arith}
use borrow.Author.Tests.{le-ltb}
use lib.ListN.{length}
use Rattle.refusal.specs.declared.Refusal.{Refusal}
use Rattle.chart.specs.Chart.{Chart, states}
use Rattle.beside.specs.Reading.{TwoRead, two, refused, read_two}
use Rattle.chart.proofs.Rising.{rising_few}
use Rattle.beside.proofs.Formed.{fine_exactly}
use Rattle.beside.proofs.Reading.{two_read}
use Rattle.compare.specs.Comparison.{listed, longest_comparison, Alone, Comparison}
use Rattle.compare.specs.Promise.{Answers, ComparePromise}
use Rattle.compare.proofs.Found.{listed_length}
use Rattle.compare.proofs.Determined.{not_compared}
use Rattle.compare.proofs.Told.{reading_number}
use Rattle.std.specs.Prelude.{Err}

-- no more are listed than there are
alone_few : {n : ℕ} {Matched : ℕ → Type 0} (list : List ℕ) → Alone n Matched list → length list ≤ n
alone_few {n} list a = omega (arith, rising_few 0 n list a.rising (λ x m. (omega arith, ((a.exactly x).0 m).0)))

pub comparison_short : (c d : Chart) {mark rounds : ℕ} {first second : List ℕ} → Comparison c d mark first second rounds
    → (3 ≤ length (listed mark first second)) × (length (listed mark first second) ≤ 3 + states c + states d)
comparison_short c d {mark} {rounds} {first} {second} w =
    let e = listed_length mark first second in
    (omega arith, omega (arith, alone_few first w.first_alone, alone_few second w.second_alone))

-- a buffer as long as the longest list is never refused 14
pub comparison_room : (first second old new : List ℕ) (r : Refusal) → longest_comparison ≤ length old → ComparePromise first second old new (Err r) → r.number ≡ 14 → ⊥
comparison_room first second old new r room = by_read (read_two first second) refl
  where
    by_read : (t : TwoRead) → read_two first second ≡ t → Answers t old new (Err r) → r.number ≡ 14 → ⊥
    by_read (refused s) e p z = let a = p.0 in let q : s ≡ r = cc in omega (arith, ap (λ (x : Refusal). x.number) q, reading_number first second s e (omega (arith, ap (λ (x : Refusal). x.number) q)))
    by_read (two c d) e p z =
        let few = ((fine_exactly c d).0 (two_read first second c d e).fine).0 in
        let short = (comparison_short c d p.comparison).1 in
        not_compared (rw (le-ltb (length old) (length (listed p.mark p.first p.second)) (omega arith)) at p.answered)
