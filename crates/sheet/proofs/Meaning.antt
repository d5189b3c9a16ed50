-- What makes each clause of a formula's meaning true, and what follows where it is; a formula's meaning is monotone in the set that stands for the
-- variable; 'every action' is 'any step at all'; box holds where there is no such step. Assumes nothing.
use mathlib.Core.Path.{◌≡◌, refl, ap, fun_ext}
use mathlib.Core.Bool.{Bool, true, false, So}
use mathlib.Core.List.{List, Memᴰ as Mem}
use mathlib.Core.Logic.{inl, inr}
use Prim.Native.Nat.{ℕ, ◌<◌}
use lib.Dec.{eqb}
use borrow.Author.Tests.{eqb-true, eq-eqb}
use Rattle.settle.specs.Test.{some, each, any_of, all_of}
use Rattle.settle.specs.Finite.{below}
use Rattle.settle.specs.Chain.{Monotone}
use Rattle.settle.proofs.Test.{never, ext, both_i, both_e, either_l, either_r, either_e, any_i, any_e, all_i, all_e, some_i, some_e, each_i, each_e}
use Rattle.settle.proofs.Finite.{below_i, below_e}
use Rattle.settle.proofs.Chain.{applied_same}
use Rattle.chart.specs.Chart.{Step}
use Rattle.sheet.specs.Formula.{Label, only, every, Formula, variable, top, bottom, and, or, diamond, box, variable_free}
use Rattle.sheet.specs.Meaning.{leaves, some_step, every_step, some_label, every_label, holds}

-- every step leads to a state below n
abbrev pub TargetsBelow : ℕ → List Step → Type 0
TargetsBelow n steps = (t : Step) → Mem t steps → t.target < n

-- ---- a-steps

pub leaves_i : (s a : ℕ) (t : Step) → t.source ≡ s → t.action ≡ a → So (leaves s a t)
unfolding leaves
leaves_i s a t e f = both_i (eq-eqb _ _ e) (eq-eqb _ _ f)

pub leaves_e : (s a : ℕ) (t : Step) → So (leaves s a t) → (t.source ≡ s) × (t.action ≡ a)
unfolding leaves
leaves_e s a t h = let r = both_e _ _ h in (eqb-true _ _ r.0, eqb-true _ _ r.1)

module _ (steps : List Step) (a : ℕ) (P : ℕ → Bool) (s : ℕ) where
  pub some_step_i : (t : Step) → Mem t steps → t.source ≡ s → t.action ≡ a → So (P t.target) → So (some_step steps a P s)
  unfolding some_step
  some_step_i t m e f h = some_i _ _ m (leaves_i s a t e f) h

  pub some_step_e : So (some_step steps a P s) → (t : Step) × Mem t steps × (t.source ≡ s) × (t.action ≡ a) × So (P t.target)
  unfolding some_step
  some_step_e h = let r = some_e _ _ _ h in let e = leaves_e s a r.0 r.2 in (r.0, r.1, e.0, e.1, r.3)

  pub every_step_i : ((t : Step) → Mem t steps → t.source ≡ s → t.action ≡ a → So (P t.target)) → So (every_step steps a P s)
  unfolding every_step
  every_step_i f = each_i _ _ _ (λ t m v. let e = leaves_e s a t v in f t m e.0 e.1)

  pub every_step_e : So (every_step steps a P s) → (t : Step) → Mem t steps → t.source ≡ s → t.action ≡ a → So (P t.target)
  unfolding every_step
  every_step_e h t m e f = each_e _ _ h m (leaves_i s a t e f)

-- ---- every action

module _ (m : ℕ) (steps : List Step) (P : ℕ → Bool) (s : ℕ) where
  -- with actions below m, the or of the diamonds and the and of the boxes ask of any step at all
  module _ (actions : (t : Step) → Mem t steps → t.action < m) where
    pub some_every : some_label m steps every P s ≡ some (λ t. eqb t.source s) (λ t. P t.target) steps
    unfolding some_label
    some_every = ext
        (λ h. let q = any_e _ _ h in let r = some_step_e _ _ _ _ q.2 in some_i _ _ r.1 (eq-eqb _ _ r.2) r.4)
        (λ h. let r = some_e _ _ _ h in any_i _ (below_i _ _ (actions _ r.1)) (some_step_i _ _ _ _ r.0 r.1 (eqb-true _ _ r.2) refl r.3))

    pub every_every : every_label m steps every P s ≡ each (λ t. eqb t.source s) (λ t. P t.target) steps
    unfolding every_label
    every_every = ext
        (λ h. each_i _ _ _ (λ t i e. every_step_e _ _ _ _ (all_e _ h (below_i _ _ (actions t i))) t i (eqb-true _ _ e) refl))
        (λ h. all_i _ _ (λ a i. every_step_i _ _ _ _ (λ t j e f. each_e _ _ h j (eq-eqb _ _ e))))

-- a chart without actions
module _ (steps : List Step) (P : ℕ → Bool) (s : ℕ) where
  pub some_every_none : some_label 0 steps every P s ≡ false
  unfolding some_label below any_of
  some_every_none = refl

  pub every_every_none : every_label 0 steps every P s ≡ true
  unfolding every_label below all_of
  every_every_none = refl

-- ---- a state without such steps: box holds there, whatever it asks and whatever stands for the variable

module _ (m : ℕ) (steps : List Step) (f : Formula) (T : ℕ → Bool) (s : ℕ) where
  pub box_without_steps : (a : ℕ) → ((t : Step) → Mem t steps → t.source ≡ s → t.action ≡ a → ⊥) → So (holds m steps (box (only a) f) T s)
  unfolding holds every_label
  box_without_steps a none = every_step_i _ _ _ _ (λ t i e g. absurd (none t i e g))

  pub box_at_rest : ((t : Step) → Mem t steps → t.source ≡ s → ⊥) → So (holds m steps (box every f) T s)
  unfolding holds every_label
  box_at_rest none = all_i _ _ (λ a i. every_step_i _ _ _ _ (λ t j e g. absurd (none t j e)))

-- ---- the set that stands for the variable

module _ (m : ℕ) (steps : List Step) (P Q : ℕ → Bool) (inside : (t : Step) → Mem t steps → So (P t.target) → So (Q t.target)) (s : ℕ) where
  some_step_mono : (a : ℕ) → So (some_step steps a P s) → So (some_step steps a Q s)
  some_step_mono a h = let r = some_step_e _ _ _ _ h in some_step_i _ _ _ _ r.0 r.1 r.2 r.3 (inside _ r.1 r.4)

  every_step_mono : (a : ℕ) → So (every_step steps a P s) → So (every_step steps a Q s)
  every_step_mono a h = every_step_i _ _ _ _ (λ t i e f. inside t i (every_step_e _ _ _ _ h t i e f))

  some_label_mono : (l : Label) → So (some_label m steps l P s) → So (some_label m steps l Q s)
  unfolding some_label
  some_label_mono (only a) h = some_step_mono a h
  some_label_mono every h = let q = any_e _ _ h in any_i _ q.1 (some_step_mono q.0 q.2)

  every_label_mono : (l : Label) → So (every_label m steps l P s) → So (every_label m steps l Q s)
  unfolding every_label
  every_label_mono (only a) h = every_step_mono a h
  every_label_mono every h = all_i _ _ (λ a i. every_step_mono a (all_e _ h i))

module _ (m n : ℕ) (steps : List Step) (targets : TargetsBelow n steps) where
  pub holds_monotone : (f : Formula) → Monotone (below n) (holds m steps f)
  unfolding holds
  holds_monotone variable S T i s b t = i s b t
  holds_monotone top S T i s b t = refl
  holds_monotone bottom S T i s b t = t
  holds_monotone (and f g) S T i s b t = let r = both_e _ _ t in both_i (holds_monotone f S T i s b r.0) (holds_monotone g S T i s b r.1)
  holds_monotone (or f g) S T i s b t = elim (either_e _ _ t) [ inl p ↦ either_l _ (holds_monotone f S T i s b p) | inr p ↦ either_r _ (holds_monotone g S T i s b p) ]
  holds_monotone (diamond l f) S T i s b t = some_label_mono m steps _ _ (λ u j. holds_monotone f S T i u.target (below_i _ _ (targets u j))) s l t
  holds_monotone (box l f) S T i s b t = every_label_mono m steps _ _ (λ u j. holds_monotone f S T i u.target (below_i _ _ (targets u j))) s l t

  -- it depends on no state but those below n
  pub holds_same : (f : Formula) (T U : ℕ → Bool) → ((s : ℕ) → s < n → T s ≡ U s) → (s : ℕ) → s < n → holds m steps f T s ≡ holds m steps f U s
  holds_same f T U e s h = applied_same (below n) (holds m steps f) (holds_monotone f) T U (λ x b. e x (below_e n x b)) s (below_i n s h)

-- a formula without variable means the same whatever set stands for the variable
pub free_same : (m : ℕ) (steps : List Step) (f : Formula) → So (variable_free f) → (T U : ℕ → Bool) (s : ℕ) → holds m steps f T s ≡ holds m steps f U s
unfolding holds variable_free
free_same m steps variable v T U s = never v
free_same m steps top v T U s = refl
free_same m steps bottom v T U s = refl
free_same m steps (and f g) v T U s = let e = both_e _ _ v in rw (free_same m steps f e.0 T U s, free_same m steps g e.1 T U s)
free_same m steps (or f g) v T U s = let e = both_e _ _ v in rw (free_same m steps f e.0 T U s, free_same m steps g e.1 T U s)
free_same m steps (diamond l f) v T U s = ap (λ (P : ℕ → Bool). some_label m steps l P s) (fun_ext (free_same m steps f v T U))
free_same m steps (box l f) v T U s = ap (λ (P : ℕ → Bool). every_label m steps l P s) (fun_ext (free_same m steps f v T U))
