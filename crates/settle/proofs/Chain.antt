-- A chain of subsets that only grows, or only falls, settles within as many steps as elements can change. The chain of a monotone operator from
-- the empty set settles at its least solution, from the full set at its greatest. Assumes nothing.
use mathlib.Core.Path.{◌≡◌, refl, sym, subst⁻¹, ◌∙◌}
use mathlib.Core.Bool.{Bool, true, false, So}
use mathlib.Core.List.Memᴰ.{cases_cons}
use mathlib.Core.List.Memᴰ.{head as here}
use mathlib.Core.List.Memᴰ.{not-nil}
use mathlib.Core.List.Memᴰ.{tail as there}
use mathlib.Core.List.{List, [], ◌∷◌, Memᴰ as Mem}
use mathlib.Core.Logic.{◌⊎◌, inl, inr, ◌↔◌, ⊎_elim}
use Prim.Native.Nat.{ℕ, zero, suc, ◌≤◌, ◌<◌, zero-le}
use native.Mathlib.Nat.{le_of_suc-le-suc, not-suc-le-zero}
use native.Mathlib.Decide.{le_ind}
use native.Mathlib.Omega.{arith}
use lib.ListN.{length}
use Rattle.settle.specs.Test.{both, neg, tick, count}
use Rattle.settle.specs.Chain.{Least, Inside, Same, Monotone, empty, full, chain, LeastSolution, GreatestSolution, Settled, Rounds, settled, stops}
use Rattle.settle.proofs.Test.{never, both_i, both_e, neg_i, neg_e, stable, tested, ext, same_i, same_e, all_i, all_e, count_length}
use Rattle.settle.proofs.Finite.{below_i}

-- ---- the least number of which something holds

pub least_unique : (P : ℕ → Type 0) (j k : ℕ) → Least P j → Least P k → j ≡ k
least_unique P j k p q =
    let a : j < k → ⊥ = λ h. q.1 j h p.0 in
    let b : k < j → ⊥ = λ h. p.1 k h q.0 in
    omega arith

pub find_least : (P : ℕ → Type 0) → ((k : ℕ) → P k ⊎ (P k → ⊥)) → (k : ℕ) → P k → (j : ℕ) × (j ≤ k) × Least P j
find_least P d zero p = (zero, zero-le, (p, λ j h. absurd (not-suc-le-zero h)))
find_least P d (suc k) p = elim (d zero) [ inl q ↦ (zero, zero-le, (q, λ j h. absurd (not-suc-le-zero h))) | inr f ↦ let r = find_least (λ i. P (suc i)) (λ i. d (suc i)) k p in (suc r.0, omega arith, (r.2.0, before f r.2.1)) ]
  where
    before : (P zero → ⊥) → {m : ℕ} → ((j : ℕ) → j < m → P (suc j) → ⊥) → (j : ℕ) → j < suc m → P j → ⊥
    before f g zero h = f
    before f g (suc j) h = g j (le_of_suc-le-suc h)

module _ {A : Type 0} where
  -- ---- subsets of a list

  pub same_of : (xs : List A) (S T : A → Bool) → Inside xs S T → Inside xs T S → Same xs S T
  same_of xs S T f g x m = ext (f x m) (g x m)

  pub inside_of : (xs : List A) (S T : A → Bool) → Same xs S T → Inside xs S T × Inside xs T S
  inside_of xs S T e = (λ x m t. sym (e x m) ∙ t, λ x m t. e x m ∙ t)

  -- a subset has no more elements, and fewer unless it is the whole
  grows : (xs : List A) (S T : A → Bool) → Inside xs S T → (count S xs ≤ count T xs) × (Inside xs T S ⊎ (count S xs < count T xs))
  unfolding count
  grows [] S T s = (zero-le, inl (λ x m. absurd (not-nil m)))
  grows (y ∷ ys) S T s = let r = grows ys S T (λ x m. s x (there m)) in go (S y) (T y) (s y (here refl)) back r.0 r.1
    where
      back : (So (T y) → So (S y)) → Inside ys T S → Inside (y ∷ ys) T S
      back f g x m = ⊎_elim (λ e. subst⁻¹ (λ z. So (T z) → So (S z)) e f) (λ n. g x n) (cases_cons m)

      go : (a b : Bool) → (So a → So b) → ((So b → So a) → Inside ys T S → Inside (y ∷ ys) T S) → count S ys ≤ count T ys → Inside ys T S ⊎ (count S ys < count T ys)
          → (tick a (count S ys) ≤ tick b (count T ys)) × (Inside (y ∷ ys) T S ⊎ (tick a (count S ys) < tick b (count T ys)))
      go true true i bk l (inl g) = (omega arith, inl (bk (λ t. t) g))
      go true true i bk l (inr h) = (omega arith, inr (omega arith))
      go true false i bk l o = never (i refl)
      go false true i bk l o = (omega arith, inr (omega arith))
      go false false i bk l (inl g) = (omega arith, inl (bk (λ t. t) g))
      go false false i bk l (inr h) = (omega arith, inr (omega arith))

  -- a chain that grows, and only in W, stands still at a step that is no later than W has elements
  pub stands_still : (xs : List A) (W : A → Bool) (C : ℕ → A → Bool)
      → ((k : ℕ) → Inside xs (C k) (C (suc k)))
      → ((k : ℕ) (x : A) → Mem x xs → So (C (suc k) x) → So (C k x) ⊎ So (W x))
      → (k : ℕ) × (k ≤ count W xs) × Inside xs (C (suc k)) (C k)
  stands_still xs W C up off = stop (climb (suc (count W xs)))
    where
      In : ℕ → A → Bool
      In k x = both (C k x) (W x)

      still : (k : ℕ) → Inside xs (In (suc k)) (In k) → Inside xs (C (suc k)) (C k)
      still k s x m t = ⊎_elim (λ c. c) (λ w. (both_e _ _ (s x m (both_i t w))).0) (off k x m t)

      climb : (k : ℕ) → ((j : ℕ) × (j < k) × Inside xs (C (suc j)) (C j)) ⊎ (k ≤ count (In k) xs)
      climb zero = inr zero-le
      climb (suc k) = elim (climb k) [ inl r ↦ inl (r.0, omega arith, r.2) | inr h ↦ elim (grows xs (In k) (In (suc k)) (λ x m t. let s = both_e _ _ t in both_i (up k x m s.0) s.1)).1 [ inl s ↦ inl (k, omega arith, still k s) | inr l ↦ inr (omega arith) ] ]

      stop : ((j : ℕ) × (j < suc (count W xs)) × Inside xs (C (suc j)) (C j)) ⊎ (suc (count W xs) ≤ count (In (suc (count W xs))) xs) → (k : ℕ) × (k ≤ count W xs) × Inside xs (C (suc k)) (C k)
      stop (inl r) = (r.0, omega arith, r.2)
      stop (inr h) = let l = grows xs (In (suc (count W xs))) W (λ x m t. (both_e _ _ t).1) in absurd (omega arith)

  -- ---- rounds

  pub settled_iff : (xs : List A) (C : ℕ → A → Bool) (k : ℕ) → So (settled xs C k) ↔ Settled xs C k
  unfolding settled
  settled_iff xs C k = (λ t x m. same_e _ _ (all_e _ t m), λ e. all_i _ xs (λ x m. same_i _ _ (e x m)))

  pub stops_e : (xs : List A) (C : ℕ → A → Bool) (k : ℕ) → So (stops xs C k) → Rounds xs C k
  unfolding stops
  stops_e xs C k t = let a = both_e _ _ t in ((settled_iff xs C k).0 a.0, λ j l e. neg_e _ (all_e _ a.1 (below_i k j l)) ((settled_iff xs C j).1 e))

  pub rounds_unique : (xs : List A) (C : ℕ → A → Bool) (j k : ℕ) → Rounds xs C j → Rounds xs C k → j ≡ k
  rounds_unique xs C = least_unique (Settled xs C)

  pub rounds_by : (xs : List A) (C : ℕ → A → Bool) (k : ℕ) → Settled xs C k → (j : ℕ) × (j ≤ k) × Rounds xs C j
  rounds_by xs C = find_least (Settled xs C) (λ i. ⊎_elim (λ t. inl ((settled_iff xs C i).0 t)) (λ f. inr (λ e. f ((settled_iff xs C i).1 e))) (tested (settled xs C i)))

  pub rounds_up : (xs : List A) (W : A → Bool) (C : ℕ → A → Bool)
      → ((k : ℕ) → Inside xs (C k) (C (suc k)))
      → ((k : ℕ) (x : A) → Mem x xs → So (C (suc k) x) → So (C k x) ⊎ So (W x))
      → (k : ℕ) × (k ≤ count W xs) × Rounds xs C k
  rounds_up xs W C up off =
      let r = stands_still xs W C up off in
      let q = rounds_by xs C r.0 (same_of xs _ _ (up r.0) r.2) in
      (q.0, omega arith, q.2)

  -- the same of a chain that falls, by complements
  pub rounds_down : (xs : List A) (W : A → Bool) (C : ℕ → A → Bool)
      → ((k : ℕ) → Inside xs (C (suc k)) (C k))
      → ((k : ℕ) (x : A) → Mem x xs → So (C k x) → So (C (suc k) x) ⊎ So (W x))
      → (k : ℕ) × (k ≤ count W xs) × Rounds xs C k
  rounds_down xs W C down off =
      let r = stands_still xs W (λ k x. neg (C k x)) (λ k x m t. neg_i _ (λ s. neg_e _ t (down k x m s))) flip in
      let q = rounds_by xs C r.0 (same_of xs _ _ (λ x m t. stable _ (λ f. neg_e _ (r.2 x m (neg_i _ f)) t)) (down r.0)) in
      (q.0, omega arith, q.2)
    where
      flip : (k : ℕ) (x : A) → Mem x xs → So (neg (C (suc k) x)) → So (neg (C k x)) ⊎ So (W x)
      flip k x m t = elim (tested (C k x)) [ inl c ↦ elim (off k x m c) [ inl d ↦ absurd (neg_e _ t d) | inr w ↦ inr w ] | inr f ↦ inl (neg_i _ f) ]

  -- ---- a monotone operator, its chains and its solutions

  module _ (xs : List A) (F : (A → Bool) → A → Bool) (mono : Monotone xs F) where
    -- the operator sees no more of a set than its members in xs
    pub applied_same : (S T : A → Bool) → Same xs S T → Same xs (F S) (F T)
    applied_same S T e x m = let s = inside_of xs _ _ e in ext (mono _ _ s.0 x m) (mono _ _ s.1 x m)

    -- a chain that has settled stays
    pub stays : (S : A → Bool) (k : ℕ) → Settled xs (chain F S) k → (j : ℕ) → k ≤ j → Same xs (chain F S k) (chain F S j)
    unfolding chain
    stays S k e = le_ind (λ j. Same xs (chain F S k) (chain F S j)) (λ x m. refl) (λ j h f x m. e x m ∙ applied_same _ _ f x m)

    pub up : (k : ℕ) → Inside xs (chain F empty k) (chain F empty (suc k))
    unfolding chain empty
    up zero x m t = never t
    up (suc k) x m t = mono _ _ (up k) x m t

    pub down : (k : ℕ) → Inside xs (chain F full (suc k)) (chain F full k)
    unfolding chain full
    down zero x m t = refl
    down (suc k) x m t = mono _ _ (down k) x m t

    under : (T : A → Bool) → Inside xs (F T) T → (k : ℕ) → Inside xs (chain F empty k) T
    unfolding chain empty
    under T s zero x m t = never t
    under T s (suc k) x m t = s x m (mono _ _ (under T s k) x m t)

    over : (T : A → Bool) → Inside xs T (F T) → (k : ℕ) → Inside xs T (chain F full k)
    unfolding chain full
    over T s zero x m t = refl
    over T s (suc k) x m t = mono _ _ (over T s k) x m (s x m t)

    -- where the chain from the empty set settles is the intersection of all T with F(T) inside T
    pub least_solution : (k : ℕ) → Settled xs (chain F empty) k → (x : A) → Mem x xs → So (chain F empty k x) ↔ LeastSolution xs F x
    unfolding chain
    least_solution k e x m = (λ t T s. under T s k x m t, λ f. f (chain F empty k) (inside_of xs _ _ e).1)

    -- where the chain from the full set settles is the union of all T inside F(T)
    pub greatest_solution : (k : ℕ) → Settled xs (chain F full) k → (x : A) → Mem x xs → So (chain F full k x) ↔ GreatestSolution xs F x
    unfolding chain
    greatest_solution k e x m = (λ t. (chain F full k, (inside_of xs _ _ e).0, t), λ r. over r.0 r.1 k x m r.2)

    -- the rounds exist, and are no more than the elements, or than those that can change
    pub least_rounds : (k : ℕ) × (k ≤ length xs) × Rounds xs (chain F empty) k
    unfolding full
    least_rounds = let r = rounds_up xs full (chain F empty) up (λ k x m t. inr refl) in (r.0, omega (arith, count_length full xs), r.2)

    pub greatest_rounds : (k : ℕ) × (k ≤ length xs) × Rounds xs (chain F full) k
    unfolding full
    greatest_rounds = let r = rounds_down xs full (chain F full) down (λ k x m t. inr refl) in (r.0, omega (arith, count_length full xs), r.2)

    pub greatest_rounds_in : (W : A → Bool) → ((x : A) → Mem x xs → So (W x) ⊎ ((k : ℕ) → So (chain F full k x))) → (k : ℕ) × (k ≤ count W xs) × Rounds xs (chain F full) k
    greatest_rounds_in W o = rounds_down xs W (chain F full) down (λ k x m t. ⊎_elim (λ w. inr w) (λ f. inl (f (suc k))) (o x m))

    -- the least solution lies inside the greatest
    pub least_in_greatest : (x : A) → Mem x xs → LeastSolution xs F x → GreatestSolution xs F x
    unfolding chain
    least_in_greatest x m f = let r = least_rounds in (chain F empty r.0, up r.0, (least_solution r.0 r.2.0 x m).1 f)
