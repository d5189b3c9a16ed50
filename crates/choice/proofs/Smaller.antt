-- Looking for the first step of a state whose move has all its pairs smaller. Assumes nothing.
use Prim.Native.Nat.{ℕ, ◌+◌, ◌≤◌, ◌<◌}
use mathlib.Core.Path.{◌≡◌, refl, sym, subst, ◌∙◌}
use mathlib.Core.Bool.{Bool, true, false, So}
use mathlib.Core.List.{List}
use native.Mathlib.Omega.{arith}
use native.Mathlib.Decide.{ℕ_discrete}
use lib.Dec.{ltb}
use lib.ListN.{get_or}
use borrow.Author.Tests.{ltb-true, lt-ltb}
use Rattle.std.specs.Prelude.{◌&&◌, Some, None}
use Rattle.settle.proofs.Test.{never}
use Rattle.ranges.specs.Sources.{action_at, target_at, Leads}
use Rattle.ranges.specs.declared.Triples.{Triples}
use Rattle.ranges.proofs.Ranges.{range_rises}
use Rattle.choice.specs.Search.{smaller, SmallerAll}
use Rattle.choice.specs.Marked.{Found}

both_smaller : (cell mark : ℕ) → (a b : Bool) → ltb 0 cell ≡ a → ltb cell mark ≡ b → (So (a && b) → (0 < cell) × (cell < mark)) × ((0 < cell) × (cell < mark) → So (a && b))
both_smaller cell mark true true d e = (λ s. (ltb-true _ _ d, ltb-true _ _ e), λ h. refl)
both_smaller cell mark true false d e = (λ s. never s, λ h. sym e ∙ lt-ltb _ _ h.1)
both_smaller cell mark false b d e = (λ s. never s, λ h. sym d ∙ lt-ltb _ _ h.0)

pub leads_smaller : (bytes : List ℕ) (at : ℕ) (first : List ℕ) (o action : ℕ) (cell : ℕ → ℕ) (mark : ℕ) (b : Bool) → Leads bytes at first o action (λ u. smaller (cell u) mark) b
    → SmallerAll bytes at (get_or first o 0) (get_or first (o + 1) 0) action cell mark b
leads_smaller bytes at first o action cell mark true f = λ j l h e. (both_smaller _ mark _ _ refl refl).0 (f j l h e)
leads_smaller bytes at first o action cell mark false f = (f.0, f.1, f.2, f.3, λ h. f.4 ((both_smaller _ mark _ _ refl refl).1 h))

module _ (t : Triples) (s o : ℕ) (s_in : s < t.shape.n) (cell : ℕ → ℕ → ℕ) (mark : ℕ) where
  abbrev bytes : List ℕ
  bytes = t.bytes.now

  abbrev at : ℕ
  at = t.at

  abbrev first : List ℕ
  first = t.first

  abbrev Tried : ℕ → Bool → Type 0
  Tried i = SmallerAll bytes at (get_or first o 0) (get_or first (o + 1) 0) (action_at bytes at i) (cell (target_at bytes at i)) mark

  abbrev Before : ℕ → Type 0
  Before i = (k : ℕ) → get_or first s 0 ≤ k → k < i → Tried k false

  -- what was asked of the steps of o, where number i leads to x by the action
  abbrev Asked : ℕ → ℕ → ℕ → Bool → Type 0
  Asked i x action b = (x ≡ target_at bytes at i) × (action ≡ action_at bytes at i) × Leads bytes at first o action (λ u. smaller (cell x u) mark) b

  tried : (i x action : ℕ) (b : Bool) → Asked i x action b → Tried i b
  tried i x action b r = rw (← r.0, ← r.1) (leads_smaller bytes at first o action (cell x) mark b r.2)

  pub one_passed : (i x action : ℕ) (b : Bool) → Before i → Asked i x action b → b ≡ false → Before (i + 1)
  one_passed i x action b f r z k l h = elim (ℕ_discrete k i) [ yes e ↦ rw e (subst (Tried i) z (tried i x action b r)) | no g ↦ f k l (omega arith) ]

  pub move_found : (i x action : ℕ) (b : Bool) → get_or first s 0 ≤ i → i < get_or first (s + 1) 0 → Before i → Asked i x action b → b ≡ true → Found t s o cell mark (Some i)
  move_found i x action b l h f r z = (h, record { onward = l; passed = f; found = λ g. subst (Tried i) z (tried i x action b r) })

  pub none_found : (i : ℕ) → get_or first (s + 1) 0 ≤ i → Before i → Found t s o cell mark None
  none_found i l f = record { onward = range_rises bytes at t.shape.n first t.ranged.sorted s s_in; passed = λ k g h. f k g (omega arith); found = λ h. absurd (omega arith) }
