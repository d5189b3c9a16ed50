-- What makes each test true (-i), what follows where it is (-e) and where it is not (-n). Assumes nothing.
use mathlib.Core.Path.{◌≡◌, refl, sym, ap, subst, subst⁻¹, ◌∙◌}
use mathlib.Core.Bool.{Bool, true, false, So, false≢true}
use mathlib.Core.List.Memᴰ.{head as here}
use mathlib.Core.List.Memᴰ.{tail as there}
use mathlib.Core.List.{List, [], ◌∷◌, ◌++◌, map, Memᴰ as Mem}
use mathlib.Core.Logic.{◌⊎◌, inl, inr}
use Prim.Native.Nat.{suc, ◌+◌, ◌≤◌, ◌<◌}
use native.Mathlib.Omega.{arith}
use lib.ListN.{length}
use Rattle.settle.specs.Test.{pick, both, either, implies, neg, same, tick, any_of, all_of, some, each, count}

-- ---- one test

pub never {ℓ} : {X : Type ℓ} → So false → X
never t = absurd (false≢true t)

-- of a choice by a test, each case under what the test then says
pub by_test : {A : Type 0} {x y : A} (P : A → Type 0) (b : Bool) → (b ≡ true → P x) → (b ≡ false → P y) → P (pick b x y)
by_test P true holds fails = holds refl
by_test P false holds fails = fails refl

-- where the test holds, the first; where it fails, the second
pub picked : {A : Type 0} (x y : A) (b : Bool) → So b → pick b x y ≡ x
picked x y true t = refl
picked x y false t = never t

pub unpicked : {A : Type 0} (x y : A) (b : Bool) → (So b → ⊥) → pick b x y ≡ y
unpicked x y true f = absurd (f refl)
unpicked x y false f = refl

pub tested : (b : Bool) → So b ⊎ (So b → ⊥)
tested true = inl refl
tested false = inr never

pub stable : (b : Bool) → ((So b → ⊥) → ⊥) → So b
stable true f = refl
stable false f = absurd (f never)

-- two tests are equal where each follows from the other
pub ext : {a b : Bool} → (So a → So b) → (So b → So a) → a ≡ b
ext {a = true} f g = sym (f refl)
ext {a = false} {b = true} f g = g refl
ext {a = false} {b = false} f g = refl

pub both_i : {a b : Bool} → So a → So b → So (both a b)
unfolding both
both_i {a = true} s t = t
both_i {a = false} s t = s

pub both_e : (a b : Bool) → So (both a b) → So a × So b
unfolding both
both_e true b t = (refl, t)
both_e false b t = never t

pub both_n : (a b : Bool) → (So (both a b) → ⊥) → (So a → ⊥) ⊎ (So b → ⊥)
unfolding both
both_n true b f = inr f
both_n false b f = inl never

pub either_l : {a : Bool} (b : Bool) → So a → So (either a b)
unfolding either
either_l {a = true} b t = refl
either_l {a = false} b t = never t

pub either_r : (a : Bool) {b : Bool} → So b → So (either a b)
unfolding either
either_r true t = refl
either_r false t = t

pub either_e : (a b : Bool) → So (either a b) → So a ⊎ So b
unfolding either
either_e true b t = inl refl
either_e false b t = inr t

pub either_n : {a b : Bool} → (So a → ⊥) → (So b → ⊥) → So (either a b) → ⊥
unfolding either
either_n {a = true} f g = f
either_n {a = false} f g = g

pub either_false : (b : Bool) → either b false ≡ b
unfolding either
either_false true = refl
either_false false = refl

pub implies_i : (a b : Bool) → (So a → So b) → So (implies a b)
unfolding implies
implies_i true b f = f refl
implies_i false b f = refl

pub implies_e : (a b : Bool) → So (implies a b) → So a → So b
unfolding implies
implies_e true b t s = t
implies_e false b t s = never s

pub implies_n : (a b : Bool) → (So (implies a b) → ⊥) → So a × (So b → ⊥)
unfolding implies
implies_n true b f = (refl, f)
implies_n false b f = absurd (f refl)

pub neg_i : (b : Bool) → (So b → ⊥) → So (neg b)
unfolding neg
neg_i true f = absurd (f refl)
neg_i false f = refl

pub neg_e : (b : Bool) → So (neg b) → So b → ⊥
unfolding neg
neg_e true t s = never t
neg_e false t s = never s

pub same_i : (a b : Bool) → a ≡ b → So (same a b)
unfolding same neg
same_i true b e = sym e
same_i false true e = e
same_i false false e = refl

pub same_e : (a b : Bool) → So (same a b) → a ≡ b
unfolding same neg
same_e true b e = sym e
same_e false true e = e
same_e false false e = refl

-- ---- a test of each member of a list

module _ {A : Type 0} where
  pub any_i : (p : A → Bool) {x : A} {xs : List A} → Mem x xs → So (p x) → So (any_of p xs)
  unfolding any_of
  any_i p (here e) t = either_l _ (subst (λ z. So (p z)) e t)
  any_i p (there m) t = either_r _ (any_i p m t)

  pub any_e : (p : A → Bool) (xs : List A) → So (any_of p xs) → (x : A) × Mem x xs × So (p x)
  unfolding any_of
  any_e p [] t = never t
  any_e p (x ∷ xs) t = elim (either_e _ _ t) [ inl s ↦ (x, here refl, s) | inr s ↦ let r = any_e p xs s in (r.0, there r.1, r.2) ]

  pub any_more : (p : A → Bool) (xs : List A) (x : A) → any_of p (xs ++ (x ∷ [])) ≡ either (any_of p xs) (p x)
  unfolding any_of either
  any_more p [] x = either_false (p x)
  any_more p (y ∷ xs) x = rw (any_more p xs x) (go (p y))
    where
      go : (b : Bool) → either b (either (any_of p xs) (p x)) ≡ either (either b (any_of p xs)) (p x)
      go true = refl
      go false = refl

  pub all_i : (p : A → Bool) (xs : List A) → ((x : A) → Mem x xs → So (p x)) → So (all_of p xs)
  unfolding all_of
  all_i p [] f = refl
  all_i p (x ∷ xs) f = both_i (f x (here refl)) (all_i p xs (λ y m. f y (there m)))

  pub all_e : (p : A → Bool) {x : A} {xs : List A} → So (all_of p xs) → Mem x xs → So (p x)
  unfolding all_of
  all_e p t (here e) = subst⁻¹ (λ z. So (p z)) e (both_e _ _ t).0
  all_e p t (there m) = all_e p (both_e _ _ t).1 m

  pub all_n : (p : A → Bool) (xs : List A) → (So (all_of p xs) → ⊥) → (x : A) × Mem x xs × (So (p x) → ⊥)
  unfolding all_of
  all_n p [] f = absurd (f refl)
  all_n p (x ∷ xs) f = elim (tested (p x)) [ inl s ↦ let r = all_n p xs (λ t. f (both_i s t)) in (r.0, there r.1, r.2) | inr n ↦ (x, here refl, n) ]

  pub some_i : (p q : A → Bool) {x : A} {xs : List A} → Mem x xs → So (p x) → So (q x) → So (some p q xs)
  unfolding some
  some_i p q m s t = any_i _ m (both_i s t)

  pub some_e : (p q : A → Bool) (xs : List A) → So (some p q xs) → (x : A) × Mem x xs × So (p x) × So (q x)
  unfolding some
  some_e p q xs t = let r = any_e _ xs t in let s = both_e _ _ r.2 in (r.0, r.1, s.0, s.1)

  pub each_i : (p q : A → Bool) (xs : List A) → ((x : A) → Mem x xs → So (p x) → So (q x)) → So (each p q xs)
  unfolding each
  each_i p q xs f = all_i _ xs (λ x m. implies_i _ _ (f x m))

  pub each_e : (p q : A → Bool) {x : A} {xs : List A} → So (each p q xs) → Mem x xs → So (p x) → So (q x)
  unfolding each
  each_e p q t m = implies_e _ _ (all_e _ t m)

  pub each_n : (p q : A → Bool) (xs : List A) → (So (each p q xs) → ⊥) → (x : A) × Mem x xs × So (p x) × (So (q x) → ⊥)
  unfolding each
  each_n p q xs f = let r = all_n _ xs f in let s = implies_n _ _ r.2 in (r.0, r.1, s.0, s.1)

  -- tests that agree on the members give the same answer
  pub any_cong : (p q : A → Bool) (xs : List A) → ((x : A) → Mem x xs → p x ≡ q x) → any_of p xs ≡ any_of q xs
  any_cong p q xs e = ext (λ t. let r = any_e p xs t in any_i q r.1 (sym (e _ r.1) ∙ r.2)) (λ t. let r = any_e q xs t in any_i p r.1 (e _ r.1 ∙ r.2))

  pub all_cong : (p q : A → Bool) (xs : List A) → ((x : A) → Mem x xs → p x ≡ q x) → all_of p xs ≡ all_of q xs
  all_cong p q xs e = ext (λ t. all_i q xs (λ x m. sym (e x m) ∙ all_e p t m)) (λ t. all_i p xs (λ x m. e x m ∙ all_e q t m))

  -- ---- how many pass

  pub count_cong : (p q : A → Bool) (xs : List A) → ((x : A) → Mem x xs → p x ≡ q x) → count p xs ≡ count q xs
  unfolding count
  count_cong p q [] e = refl
  count_cong p q (x ∷ xs) e = rw (e x (here refl), count_cong p q xs (λ y m. e y (there m)))

  pub count_inside : (p q : A → Bool) (xs : List A) → ((x : A) → Mem x xs → So (p x) → So (q x)) → count p xs ≤ count q xs
  unfolding count
  count_inside p q [] f = omega arith
  count_inside p q (x ∷ xs) f = go (p x) (q x) (f x (here refl)) (count_inside p q xs (λ y m. f y (there m)))
    where
      go : (b d : Bool) → (So b → So d) → count p xs ≤ count q xs → tick b (count p xs) ≤ tick d (count q xs)
      go true true g h = omega arith
      go true false g h = never (g refl)
      go false true g h = omega arith
      go false false g h = omega arith

  pub count_length : (p : A → Bool) (xs : List A) → count p xs ≤ length xs
  unfolding count
  count_length p [] = omega arith
  count_length p (x ∷ xs) = go (p x) (count_length p xs)
    where
      go : (b : Bool) → count p xs ≤ length xs → tick b (count p xs) ≤ suc (length xs)
      go true h = omega arith
      go false h = omega arith

  pub count_append : (p : A → Bool) (xs ys : List A) → count p (xs ++ ys) ≡ count p xs + count p ys
  unfolding count
  count_append p [] ys = omega arith
  count_append p (x ∷ xs) ys = go (p x) (count_append p xs ys)
    where
      go : (b : Bool) → count p (xs ++ ys) ≡ count p xs + count p ys → tick b (count p (xs ++ ys)) ≡ tick b (count p xs) + count p ys
      go true h = omega arith
      go false h = omega arith

  -- a list with a member that does not pass
  pub count_miss : (p : A → Bool) {x : A} {xs : List A} → Mem x xs → (So (p x) → ⊥) → count p xs < length xs
  unfolding count
  count_miss p (here {x = y} {xs = ys} e) n = go (p y) (subst (λ z. So (p z) → ⊥) e n)
    where
      go : (b : Bool) → (So b → ⊥) → tick b (count p ys) < suc (length ys)
      go true f = absurd (f refl)
      go false f = omega (arith, count_length p ys)
  count_miss p (there {x = y} {xs = ys} m) n = go (p y) (count_miss p m n)
    where
      go : (b : Bool) → count p ys < length ys → tick b (count p ys) < suc (length ys)
      go true f = omega arith
      go false f = omega arith

pub count_map : {A B : Type 0} (p : B → Bool) (f : A → B) (xs : List A) → count p (map f xs) ≡ count (λ x. p (f x)) xs
unfolding count
count_map p f [] = refl
count_map p f (x ∷ xs) = ap (tick (p (f x))) (count_map p f xs)
