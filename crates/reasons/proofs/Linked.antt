-- Cells linked by their marks, one more at a time, from the last to the first.
use Prim.Native.Nat.{ℕ, ◌+◌, ◌-◌, ◌≤◌, ◌<◌}
use mathlib.Core.Path.{◌≡◌, refl, sym, ◌∙◌}
use mathlib.Core.List.{List}
use native.Mathlib.Omega.{arith}
use native.Mathlib.Decide.{ℕ_discrete}
use lib.ListN.{length, get_or, set, length-set}
use lib.Seq.{get_or-set_same, get_or-set_other}
use Rattle.reasons.specs.Linked.{Following, Linked}

module _ (matrix : List ℕ) (cells : ℕ) where
  -- where no cell is linked yet, every head is none of the cells
  pub linked_none : (head next : List ℕ) → ((mark : ℕ) → mark < 64 → (cells ≤ get_or head mark 0) × (get_or head mark 0 ≤ 4096)) → Linked matrix cells cells head next
  linked_none head next none =
      record {
        heads = λ mark h. record { onward = (none mark h).0; within = (none mark h).1; bears = λ k. absurd (omega (arith, (none mark h).0)); passed = λ y l k. absurd (omega arith) };
        nexts = λ y l h. absurd (omega arith);
      }

  -- the cell itself is the first of its mark, from itself on
  here : (y : ℕ) → y ≤ 4096 → Following matrix cells (get_or matrix y 0) y y
  here y small = record { onward = omega arith; within = small; bears = λ h. refl; passed = λ z l h k. absurd (omega arith) }

  -- of another mark it is not one
  past_other : (y mark r : ℕ) → (mark ≡ get_or matrix y 0 → ⊥) → Following matrix cells mark (y + 1) r → Following matrix cells mark y r
  past_other y mark r f w =
      record {
        onward = omega (arith, w.onward);
        within = w.within;
        bears = w.bears;
        passed = λ z l h k e. elim (ℕ_discrete z y) [ yes i ↦ f (sym e ∙ rw i) | no g ↦ w.passed z (omega arith) h k e ];
      }

  module _ (y : ℕ) (head next : List ℕ) (w : Linked matrix cells (y + 1) head next) (few : get_or matrix y 0 < 64) (heads_room : 64 ≡ length head) (nexts_room : y < length next) (small : y ≤ 4096) where
    pub linked_more : Linked matrix cells y (set head (get_or matrix y 0) y) (set next y (get_or head (get_or matrix y 0) 0))
    linked_more =
        record {
          heads = λ mark h. elim (ℕ_discrete mark (get_or matrix y 0)) [ yes e ↦ head_same mark e | no f ↦ head_other mark h f ];
          nexts = λ z l h. elim (ℕ_discrete z y) [ yes e ↦ next_same z e | no f ↦ next_other z l h f ];
        }
      where
        head_same : (mark : ℕ) → mark ≡ get_or matrix y 0 → Following matrix cells mark y (get_or (set head (get_or matrix y 0) y) mark 0)
        head_same mark e = rw (e, get_or-set_same head (get_or matrix y 0) y 0 (omega arith)) (here y small)

        head_other : (mark : ℕ) → mark < 64 → (mark ≡ get_or matrix y 0 → ⊥) → Following matrix cells mark y (get_or (set head (get_or matrix y 0) y) mark 0)
        head_other mark h f = rw (get_or-set_other head (get_or matrix y 0) mark y 0 f) (past_other y mark (get_or head mark 0) f (w.heads mark h))

        next_same : (z : ℕ) → z ≡ y → Following matrix cells (get_or matrix z 0) (z + 1) (get_or (set next y (get_or head (get_or matrix y 0) 0)) z 0)
        next_same z e = rw (e, get_or-set_same next y (get_or head (get_or matrix y 0) 0) 0 nexts_room) (w.heads (get_or matrix y 0) few)

        next_other : (z : ℕ) → y ≤ z → z < cells → (z ≡ y → ⊥) → Following matrix cells (get_or matrix z 0) (z + 1) (get_or (set next y (get_or head (get_or matrix y 0) 0)) z 0)
        next_other z l h f = rw (get_or-set_other next y z (get_or head (get_or matrix y 0) 0) 0 f) (w.nexts z (omega arith) h)

-- the cell before y linked too
pub linked_one : (matrix : List ℕ) (cells : ℕ) (head next : List ℕ) (y mark : ℕ) → 0 < y → y ≤ 4096 → mark ≡ get_or matrix (y - 1) 0 → mark < 64 → length head ≡ 64 → length next ≡ 4096 → Linked matrix cells y head next
    → (length (set head mark (y - 1)) ≡ 64) × (length (set next (y - 1) (get_or head mark 0)) ≡ 4096) × Linked matrix cells (y - 1) (set head mark (y - 1)) (set next (y - 1) (get_or head mark 0))
linked_one matrix cells head next y mark some few e small h k w =
    let back : y - 1 + 1 ≡ y = omega arith in
    (length-set head mark (y - 1) ∙ h, length-set next (y - 1) _ ∙ k, rw e (linked_more matrix cells (y - 1) head next (rw back w) (omega arith) (omega arith) (omega arith) (omega arith)))
