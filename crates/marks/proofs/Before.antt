-- The marks are what the byte matrix held after as many rounds. Assumes nothing.
use Prim.Native.Nat.{ℕ, zero, suc, ◌<◌}
use mathlib.Core.Path.{◌≡◌, subst⁻¹}
use mathlib.Core.Bool.{true}
use mathlib.Core.List.{List, Memᴰ as Mem}
use Rattle.settle.specs.Finite.{pairs}
use Rattle.settle.proofs.Finite.{pairs_i}
use Rattle.chart.specs.Chart.{Step}
use Rattle.sheet.proofs.Meaning.{TargetsBelow}
use Rattle.nearness.proofs.Mark.{mark_unique}
use Rattle.nearness.proofs.Rounds.{mark_test}
use Rattle.relation.specs.Bytes.{round_of, struck_by, byte_after}
use Rattle.relation.specs.Promise.{byte_at}
use Rattle.relation.specs.declared.Matrix.{Matrix}
use Rattle.relation.proofs.Bytes.{byte_after_lem}
use Rattle.classes.proofs.Marked.{Marked, marked_first, marked_round}
use Rattle.marks.specs.Promise.{MarksOf}

module _ (n m : ℕ) (steps : List Step) (targets : TargetsBelow n steps) where
  bytes_marked : (k : ℕ) (x : ℕ × ℕ) → Mem x (pairs n) → Marked steps k x (byte_after true steps k x)
  unfolding byte_after round_of struck_by
  bytes_marked zero x i = marked_first steps x
  bytes_marked (suc k) x i = subst⁻¹ (Marked steps (suc k) x) (byte_after_lem true steps n targets k x i) (marked_round steps k x (byte_after true steps k x) (bytes_marked k x i))

  pub marks_as_bytes : {bytes : List ℕ} {given : Matrix} → MarksOf n m steps bytes given → (p q : ℕ) → p < n → q < n → byte_at n bytes p q ≡ byte_after true steps given.rounds (p, q)
  marks_as_bytes {bytes} {given} w p q i j = mark_unique steps p q _ _ (w.marks_are p q i j) (mark_test n steps targets p q i j given.rounds w.rounds_are.0 _ (bytes_marked given.rounds (p, q) (pairs_i n p q i j)).1)
