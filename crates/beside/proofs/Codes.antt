-- The codes of two charts together: which they are, that they rise, that the order of the two does not matter; and where a code stands among codes.
-- Assumes nothing.
use Prim.Native.Nat.{ℕ, suc, ◌<◌}
use mathlib.Core.Path.{◌≡◌, refl, sym, ap, ◌∙◌}
use mathlib.Core.Bool.{Bool, So}
use mathlib.Core.List.Memᴰ
use mathlib.Core.List.Memᴰ.{cases_cons}
use mathlib.Core.List.Memᴰ.{head as here}
use mathlib.Core.List.Memᴰ.{not-nil}
use mathlib.Core.List.Memᴰ.{tail as there}
use mathlib.Core.List.{List, [], ◌∷◌, ◌++◌, Memᴰ as Mem}
use mathlib.Core.Logic.{◌⊎◌, inl, inr, ◌↔◌, ⊎_elim}
use native.Mathlib.Decide.{ℕ_discrete}
use native.Mathlib.Omega.{arith}
use lib.ListN.{length, get_or}
use borrow.Author.Tests.{eq-eqb, eqb-true, ne_eqb}
use Rattle.settle.specs.Test.{either}
use Rattle.settle.proofs.Test.{ext, either_l, either_r, either_e, any_i, any_e}
use Rattle.chart.specs.Chart.{Chart}
use Rattle.chart.specs.Layout.{Rising, Bytes}
use Rattle.beside.specs.Beside.{declares, joint_codes, index_of}
use Rattle.chart.proofs.Rising.{rising_rest, rising_first}
use Rattle.beside.proofs.Chosen.{chosen_i, chosen_e, chosen_rising, chosen_cong}

-- ---- declared

declares_i : (codes : List ℕ) (x : ℕ) → Mem x codes → So (declares codes x)
unfolding declares
declares_i codes x m = any_i _ m (eq-eqb x x refl)

declares_e : (codes : List ℕ) (x : ℕ) → So (declares codes x) → Mem x codes
unfolding declares
declares_e codes x t = let r = any_e _ codes t in Memᴰ.cast (eqb-true _ _ r.2) r.1

-- ---- the codes of both

module _ (c d : Chart) where
  pub joint_members : Bytes c.codes → Bytes d.codes → (x : ℕ) → Mem x (joint_codes c d) ↔ (Mem x c.codes ⊎ Mem x d.codes)
  unfolding joint_codes
  joint_members B C x = (
    λ m. ⊎_elim (λ t. inl (declares_e c.codes x t)) (λ t. inr (declares_e d.codes x t)) (either_e _ _ (chosen_e _ 256 x m).1),
    ⊎_elim (λ m. chosen_i _ 256 x (B x m) (either_l _ (declares_i c.codes x m))) (λ m. chosen_i _ 256 x (C x m) (either_r _ (declares_i d.codes x m))),
  )

  pub joint_rising : Rising ◌<◌ (joint_codes c d)
  unfolding joint_codes
  joint_rising = chosen_rising _ 256

  pub joint_swapped : joint_codes c d ≡ joint_codes d c
  unfolding joint_codes
  joint_swapped = chosen_cong _ _ 256 (λ x h. ext (swap _ _) (swap _ _))
    where
      swap : (a b : Bool) → So (either a b) → So (either b a)
      swap a b t = ⊎_elim (either_r b) (either_l a) (either_e a b t)

-- ---- where a code stands

at_first : (x y : ℕ) (l : List ℕ) → x ≡ y → index_of x (y ∷ l) ≡ 0
unfolding index_of
at_first x y l e = rw (eq-eqb x y e)

further : (x y : ℕ) (l : List ℕ) → (x ≡ y → ⊥) → index_of x (y ∷ l) ≡ suc (index_of x l)
unfolding index_of
further x y l f = rw (ne_eqb x y f) (omega arith)

-- a member is the first, and stands at 0, or one of the rest, and stands one further than there
found : (x y : ℕ) (l : List ℕ) → Mem x (y ∷ l) → ((x ≡ y) × (index_of x (y ∷ l) ≡ 0)) ⊎ (Mem x l × (x ≡ y → ⊥) × (index_of x (y ∷ l) ≡ suc (index_of x l)))
found x y l m = elim (ℕ_discrete x y) [ yes e ↦ inl (e, at_first x y l e) | no f ↦ inr (⊎_elim (λ e. absurd (f e)) (λ k. k) (cases_cons m), f, further x y l f) ]

pub index_in : (x : ℕ) (l : List ℕ) → Mem x l → index_of x l < length l
index_in x [] m = absurd (not-nil m)
index_in x (y ∷ l) m = elim (found x y l m) [ inl e ↦ omega (arith, e.1) | inr r ↦ omega (arith, r.2, index_in x l r.0) ]

pub index_code : (x : ℕ) (l : List ℕ) → Mem x l → get_or l (index_of x l) 0 ≡ x
index_code x [] m = absurd (not-nil m)
index_code x (y ∷ l) m = elim (found x y l m) [ inl e ↦ rw (e.1, e.0) | inr r ↦ rw (r.2, index_code x l r.0) ]

pub index_same : (x y : ℕ) (l : List ℕ) → Mem x l → Mem y l → index_of x l ≡ index_of y l → x ≡ y
index_same x y l m k e = sym (index_code x l m) ∙ ap (λ i. get_or l i 0) e ∙ index_code y l k

pub index_append : (x : ℕ) (l m : List ℕ) → Mem x l → index_of x (l ++ m) ≡ index_of x l
index_append x [] m i = absurd (not-nil i)
index_append x (y ∷ l) m i = elim (found x y l i) [ inl e ↦ rw (e.1, at_first x y (l ++ m) e.0) | inr r ↦ rw (r.2, further x y (l ++ m) r.1, index_append x l m r.0) ]

pub index_last : (x : ℕ) (l : List ℕ) → (Mem x l → ⊥) → index_of x (l ++ (x ∷ [])) ≡ length l
index_last x [] f = at_first x x [] refl
index_last x (y ∷ l) f = further x y (l ++ (x ∷ [])) (λ e. f (here e)) ∙ ap suc (index_last x l (λ m. f (there m)))

-- among codes that rise, a greater code stands further
pub index_rising : (x y : ℕ) (l : List ℕ) → Rising ◌<◌ l → Mem x l → Mem y l → x < y → index_of x l < index_of y l
index_rising x y [] r i j h = absurd (not-nil i)
index_rising x y (z ∷ l) r i j h = elim (found x z l i) [
  | inl e ↦ omega (arith, e.0, e.1, further y z l (λ q. omega arith))
  | inr a ↦ elim (found y z l j) [ inl e ↦ absurd (omega (arith, rising_first z l r x a.0, e.0)) | inr b ↦ omega (arith, a.2, b.2, index_rising x y l (rising_rest ◌<◌ z l r) a.0 b.0 h) ]
]
