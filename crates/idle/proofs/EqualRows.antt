-- No idle build meets the promise of the words of equal states: states 0 and 1 of chart E are not equal, and at rest they are. Assumes nothing.
use Prim.Native.Nat.{ℕ, ◌^◌, ◌<◌}
use mathlib.Core.Path.{◌≡◌, refl, sym, ap, ◌∙◌}
use mathlib.Core.Bool.{So}
use mathlib.Core.List.{List, Memᴰ as Mem}
use native.Mathlib.Omega.{arith}
use lib.Dec.{ltb}
use lib.ListN.{replicate}
use borrow.Author.Tests.{ltb-true}
use Rattle.settle.specs.Test.{both, all_of}
use Rattle.settle.proofs.Test.{all_e}
use Rattle.chart.specs.Reading.{steps_at}
use Rattle.nearness.specs.Bisimulation.{Bisimilar}
use Rattle.starred.proofs.Boards.{shape_e, read_e}
use Rattle.relation.specs.Rows.{in_rows}
use Rattle.idle.specs.EqualRows.{Words, Build, Meets, RefusesEverything, SameAlways, LeavesUnwritten, CopiesFirstRound, NotIdle}
use Rattle.idle.proofs.Slice.{e}
use Rattle.idle.proofs.Matrix.{steps_e, resting_bytes, shape_at_rest, read_at_rest}
use Rattle.idle.proofs.Marks.{at_rest, first}
use Rattle.idle.proofs.Simulation.{board}
use Rattle.std.specs.Prelude.{Ok}

are_words : (x : ℕ) → Mem x (replicate 64 7) → x < 2 ^ 64
unfolding all_of both
are_words x m = ltb-true x (2 ^ 64) (all_e (λ y. ltb y (2 ^ 64)) {xs = replicate 64 7} refl m)

abbrev lent : Words
lent = (replicate 64 7, refl, are_words)

-- 1 does not even simulate 0
differ : Bisimilar steps_e 0 1 → ⊥
differ (R, s, h) = board (R, s.0, h)

module _ (b : Build) (meets : Meets b) where
  on_e : ((b e lent).0 ≡ Ok 6) × (So (in_rows (b e lent).1 0 1) → ⊥)
  on_e = let a = (meets e lent).then_answered shape_e read_e in (a.0, λ t. differ ((a.1.bit_exactly 0 1 (omega arith) (omega arith)).0 t).2)

  on_rest : ((b resting_bytes lent).0 ≡ Ok 6) × So (in_rows (b resting_bytes lent).1 0 1)
  unfolding steps_at
  on_rest = let a = (meets resting_bytes lent).then_answered shape_at_rest read_at_rest in (a.0, (a.1.bit_exactly 0 1 (omega arith) (omega arith)).1 (omega arith, omega arith, at_rest 0 1))

  refusing : RefusesEverything b → ⊥
  refusing f = let z : ◌≡◌ {A = ℕ} 0 1 = cc ((f e lent).1, on_e.0) in omega arith

  same : SameAlways b → ⊥
  same (bits, f) = on_e.1 (f e lent 6 on_e.0 0 1 (omega arith) (omega arith) ∙ sym (f resting_bytes lent 6 on_rest.0 0 1 (omega arith) (omega arith)) ∙ on_rest.1)

  unwritten : LeavesUnwritten b → ⊥
  unwritten f = same (λ old n. in_rows old.0, λ chart old n i p q g h. ap (λ (x : List ℕ). in_rows x p q) (f chart old))

  copies : CopiesFirstRound b → ⊥
  copies f = on_e.1 (f e lent shape_e 6 read_e on_e.0 0 1 (omega arith) (omega arith) ∙ first)

  pub equal_rows_not_idle : NotIdle b
  equal_rows_not_idle =
      record {
        not_refusing = refusing;
        not_same = same;
        not_unwritten = unwritten;
        not_none_equal = λ f. same (_, f);
        not_only_itself = λ f. same (_, f);
        not_all_equal = λ f. same (_, f);
        not_first_round = copies;
      }
