-- The move that is found for a pair is the chosen one. Assumes nothing.
use Prim.Native.Nat.{ℕ, ◌<◌}
use mathlib.Core.Path.{◌≡◌}
use Rattle.std.specs.Prelude.{Option, Some, None, IsSome}
use Rattle.ranges.proofs.Rising.{ordered_rise}
use Rattle.choice.specs.Marked.{Found, MoveChosen, marks_of}
use Rattle.choice.specs.declared.Marked.{Marked}
use Rattle.choice.proofs.Choosing.{right_0, other_found, right_1}

module _ (m : Marked) (p q mark : ℕ) (p_in : p < m.triples.now.shape.n) (q_in : q < m.triples.now.shape.n) (unequal : 0 < marks_of m (p, q)) (mark_is : mark ≡ marks_of m (p, q))
    (own : Option ℕ) (forth : Found m.triples.now p q (λ x y. marks_of m (x, y)) mark own) where
  pub first_chosen : (i : ℕ) → own ≡ Some i → MoveChosen m p q (0, i)
  first_chosen = right_0 m.triples.now.bytes.now m.triples.now.at m.triples.now.shape.n m.triples.now.first m.triples.now.ranged.sorted (ordered_rise m.triples.now.ranged) m.matrix.now p q p_in q_in unequal mark mark_is own forth

  module _ (none : own ≡ None) (other : Option ℕ) (back : Found m.triples.now q p (λ x y. marks_of m (y, x)) mark other) where
    pub other_there : IsSome other
    other_there = other_found m.triples.now.bytes.now m.triples.now.at m.triples.now.shape.n m.triples.now.first m.triples.now.ranged.sorted (ordered_rise m.triples.now.ranged) m.matrix.now p q p_in q_in unequal mark mark_is own forth none m.marks_are other back

    pub other_chosen : (i : ℕ) → other ≡ Some i → MoveChosen m p q (1, i)
    other_chosen = right_1 m.triples.now.bytes.now m.triples.now.at m.triples.now.shape.n m.triples.now.first m.triples.now.ranged.sorted (ordered_rise m.triples.now.ranged) m.matrix.now p q p_in q_in unequal mark mark_is own forth none m.marks_are other back
