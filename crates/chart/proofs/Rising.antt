-- Lists each of whose members stands in a relation to the next: put one after the other, mapped, told by their members, and, where they are of
-- numbers, by place and how many. Assumes nothing.
use Prim.Native.Nat.{ℕ, zero, suc, ◌-◌, ◌≤◌, ◌<◌}
use mathlib.Core.List.Memᴰ.{cases_cons}
use mathlib.Core.List.Memᴰ.{head as here}
use mathlib.Core.List.Memᴰ.{not-nil}
use mathlib.Core.List.Memᴰ.{tail as there}
use mathlib.Core.List.{List, [], ◌∷◌, ◌++◌, map, Memᴰ as Mem}
use mathlib.Core.Path.{◌≡◌, refl, sym, subst, subst⁻¹, ◌∙◌}
use mathlib.Core.Logic.{◌⊎◌, inl, inr, ◌↔◌}
use native.Mathlib.Omega.{arith}
use lib.ListN.{length, get_or}
use Rattle.chart.specs.Layout.{Rising}

module _ {A : Type 0} where
  pub rising_rest : (R : A → A → Type 0) (x : A) (l : List A) → Rising R (x ∷ l) → Rising R l
  unfolding Rising
  rising_rest R x [] r = tt
  rising_rest R x (y ∷ l) r = r.1

  pub rising_append : (R : A → A → Type 0) (l m : List A) → Rising R l → Rising R m → ((x y : A) → Mem x l → Mem y m → R x y) → Rising R (l ++ m)
  unfolding Rising
  rising_append R [] m r s f = s
  rising_append R (x ∷ []) [] r s f = tt
  rising_append R (x ∷ []) (y ∷ m) r s f = (f x y (here refl) (here refl), s)
  rising_append R (x ∷ (y ∷ l)) m r s f = (r.0, rising_append R (y ∷ l) m r.1 s (λ a b i j. f a b (there i) j))

  pub rising_under : (R S : A → A → Type 0) (l : List A) → ((x y : A) → Mem x l → Mem y l → R x y → S x y) → Rising R l → Rising S l
  unfolding Rising
  rising_under R S [] k r = tt
  rising_under R S (x ∷ []) k r = tt
  rising_under R S (x ∷ (y ∷ l)) k r = (k x y (here refl) (there (here refl)) r.0, rising_under R S (y ∷ l) (λ a b i j. k a b (there i) (there j)) r.1)

pub rising_map : {A B : Type 0} (R : A → A → Type 0) (S : B → B → Type 0) (f : A → B) (l : List A) → ((x y : A) → Mem x l → Mem y l → R x y → S (f x) (f y)) → Rising R l → Rising S (map f l)
unfolding Rising
rising_map R S f [] k r = tt
rising_map R S f (x ∷ []) k r = tt
rising_map R S f (x ∷ (y ∷ l)) k r = (k x y (here refl) (there (here refl)) r.0, rising_map R S f (y ∷ l) (λ a b i j. k a b (there i) (there j)) r.1)

-- ---- where the relation is an order

module _ {A : Type 0} (R : A → A → Type 0) (trans : (x y z : A) → R x y → R y z → R x z) where
  -- the first stands in R to every other
  pub rising_before : (x : A) (l : List A) → Rising R (x ∷ l) → (z : A) → Mem z l → R x z
  unfolding Rising
  rising_before x [] r z m = absurd (not-nil m)
  rising_before x (y ∷ l) r z m = elim (cases_cons m) [ inl e ↦ subst⁻¹ (R x) e r.0 | inr k ↦ trans x y z r.0 (rising_before y l r.1 z k) ]

  -- a list that rises is told by its members
  pub rising_same : ((x : A) → R x x → ⊥) → (xs ys : List A) → Rising R xs → Rising R ys → ((x : A) → Mem x xs ↔ Mem x ys) → xs ≡ ys
  rising_same strict [] [] r s e = refl
  rising_same strict [] (y ∷ ys) r s e = absurd (not-nil ((e y).1 (here refl)))
  rising_same strict (x ∷ xs) [] r s e = absurd (not-nil ((e x).0 (here refl)))
  rising_same strict (x ∷ xs) (y ∷ ys) r s e =
      let f = first (cases_cons ((e x).0 (here refl))) (cases_cons ((e y).1 (here refl))) in
      let t = rising_same strict xs ys (rising_rest R x xs r) (rising_rest R y ys s) (λ z. (λ m. after (λ q. strict x (subst (R x) (q ∙ sym f) (rising_before x xs r z m))) (cases_cons ((e z).0 (there m))), λ m. after (λ q. strict y (subst (R y) (q ∙ f) (rising_before y ys s z m))) (cases_cons ((e z).1 (there m))))) in
      rw (f, t)
    where
      first : (x ≡ y) ⊎ Mem x ys → (y ≡ x) ⊎ Mem y xs → x ≡ y
      first (inl q) o = q
      first (inr m) (inl q) = sym q
      first (inr m) (inr l) = absurd (strict x (trans x y x (rising_before x xs r y l) (rising_before y ys s x m)))

      after : {z w : A} {zs : List A} → (z ≡ w → ⊥) → (z ≡ w) ⊎ Mem z zs → Mem z zs
      after n (inl q) = absurd (n q)
      after n (inr m) = m

-- ---- three numbers, compared one after the other

abbrev pub Less : ℕ → ℕ → ℕ → ℕ → ℕ → ℕ → Type 0
Less a b c d e f = (a < d) ⊎ ((a ≡ d) × ((b < e) ⊎ ((b ≡ e) × (c < f))))

pub less_trans : (a b c d e f g h i : ℕ) → Less a b c d e f → Less d e f g h i → Less a b c g h i
less_trans a b c d e f g h i (inl x) (inl y) = inl (omega arith)
less_trans a b c d e f g h i (inl x) (inr y) = inl (omega (arith, y.0))
less_trans a b c d e f g h i (inr x) (inl y) = inl (omega (arith, x.0))
less_trans a b c d e f g h i (inr (x, inl u)) (inr (y, inl v)) = inr (omega arith, inl (omega arith))
less_trans a b c d e f g h i (inr (x, inl u)) (inr (y, inr v)) = inr (omega arith, inl (omega (arith, v.0)))
less_trans a b c d e f g h i (inr (x, inr u)) (inr (y, inl v)) = inr (omega arith, inl (omega (arith, u.0)))
less_trans a b c d e f g h i (inr (x, inr u)) (inr (y, inr v)) = inr (omega arith, inr (omega (arith, u.0, v.0), omega (arith, u.1, v.1)))

pub less_strict : (a b c : ℕ) → Less a b c a b c → ⊥
less_strict a b c (inl x) = omega arith
less_strict a b c (inr (x, inl y)) = omega arith
less_strict a b c (inr (x, inr y)) = omega (arith, y.1)

-- ---- numbers

pub rising_first : (x : ℕ) (l : List ℕ) → Rising ◌<◌ (x ∷ l) → (z : ℕ) → Mem z l → x < z
rising_first = rising_before ◌<◌ (λ x y z a b. omega arith)

-- what stands at a place is a member
pub place_member : (l : List ℕ) (i : ℕ) → i < length l → Mem (get_or l i 0) l
place_member [] i h = absurd (omega arith)
place_member (x ∷ l) zero h = here refl
place_member (x ∷ l) (suc i) h = there (place_member l i (omega arith))

pub rising_place : (l : List ℕ) → Rising ◌<◌ l → (i j : ℕ) → i < j → j < length l → get_or l i 0 < get_or l j 0
rising_place [] r i j h k = absurd (omega arith)
rising_place (x ∷ l) r i zero h k = absurd (omega arith)
rising_place (x ∷ l) r zero (suc j) h k = rising_first x l r _ (place_member l j (omega arith))
rising_place (x ∷ l) r (suc i) (suc j) h k = rising_place l (rising_rest ◌<◌ x l r) i j (omega arith) (omega arith)

-- from k on and below n there are n - k numbers, and no more rise
pub rising_few : (k n : ℕ) (l : List ℕ) → Rising ◌<◌ l → ((x : ℕ) → Mem x l → (k ≤ x) × (x < n)) → length l ≤ n - k
rising_few k n [] r f = omega arith
rising_few k n (x ∷ l) r f =
    let h = f x (here refl) in
    omega (arith, h.0, h.1, rising_few (suc x) n l (rising_rest ◌<◌ x l r) (λ y m. (rising_first x l r y m, (f y (there m)).1)))
