-- Pairs counted row by row, the diagonal, and words that have the same bits. Assumes nothing.
use Prim.Native.Nat.{ℕ, zero, suc, ◌+◌, ◌^◌, ◌≤◌, ◌<◌}
use mathlib.Core.Path.{◌≡◌, refl, sym, ap, subst, ◌∙◌}
use mathlib.Core.Bool.{Bool, true, false, So}
use mathlib.Core.List.Memᴰ.{head as here}
use mathlib.Core.List.Memᴰ.{tail as there}
use mathlib.Core.List.{List, map, Memᴰ as Mem}
use native.Mathlib.Omega.{arith}
use native.Mathlib.Nat.{pow-suc}
use native.Mathlib.Numerals.{add-one}
use native.Mathlib.Decide.{ℕ_discrete}
use borrow.Author.Tests.{eq-eqb, ne_eqb}
use lib.Dec.{eqb}
use lib.ListN.{get_or}
use Rattle.settle.specs.Test.{tick, count}
use Rattle.settle.specs.Finite.{below, product, pairs}
use Rattle.settle.specs.Chain.{Inside}
use Rattle.settle.proofs.Test.{never, count_inside, count_append, count_map, count_length}
use Rattle.settle.proofs.Finite.{below_length}
use Rattle.words.specs.Words.{member, Size}
use Rattle.words.proofs.Words.{same_members, word_ext}
use Rattle.nearness.specs.Relation.{Relation}
use Rattle.relation.specs.Rows.{Within}
use Rattle.equal.specs.Promise.{pairs_in}

-- ---- row by row

-- the pairs of one more row, which stand before the others
count_row : (P : Relation) (k : ℕ) (ys : List ℕ) → count P (product (below (suc k)) ys) ≡ count (λ y. P (k, y)) ys + count P (product (below k) ys)
unfolding product below
count_row P k ys =
    count_append P (map (λ y. (k, y)) ys) (product (below k) ys)
    ∙ ap (λ (x : ℕ). x + count P (product (below k) ys)) (count_map P (λ y. (k, y)) ys)

-- how many pairs the first k rows of n states have
abbrev pub count_to : ℕ → List ℕ → ℕ → ℕ
count_to n rows k = count (pairs_in rows) (product (below k) (below n))

pub count_none : (n : ℕ) (rows : List ℕ) → 0 ≡ count_to n rows 0
unfolding count product below
count_none n rows = refl

-- one row more: its word's ones, at most 64
pub count_next : (n : ℕ) (rows : List ℕ) (k size : ℕ) → n ≤ 64 → Within n rows → Size (get_or rows k 0) size → (size ≤ 64) × (count_to n rows k + size ≡ count_to n rows (k + 1))
count_next n rows k size few w is =
    let e = is n (member (get_or rows k 0)) (sym (word_ext n _ (w.no_bit_above k))) in
    (omega (arith, count_length (member (get_or rows k 0)) (below n), below_length n), rw (add-one k) (omega (arith, count_row (pairs_in rows) k (below n))))

pub count_all : (n : ℕ) (rows : List ℕ) → count_to n rows n ≡ count (pairs_in rows) (pairs n)
unfolding pairs
count_all n rows = refl

-- ---- the diagonal

abbrev pub diagonal : Relation
diagonal x = eqb x.0 x.1

one_in_row : (x n : ℕ) → (n ≤ x → count (eqb x) (below n) ≡ 0) × (x < n → count (eqb x) (below n) ≡ 1)
unfolding count below
one_in_row x zero = (λ h. refl, λ h. absurd (omega arith))
one_in_row x (suc n) = let ih = one_in_row x n in (
  λ h. rw (ne_eqb x n (λ e. omega arith)) (ih.0 (omega arith)),
  λ h. elim (ℕ_discrete x n) [ yes e ↦ rw (eq-eqb x n e) (ap suc (ih.0 (omega arith))) | no f ↦ rw (ne_eqb x n f) (ih.1 (omega arith)) ],
)

diagonal_rows : (n k : ℕ) → k ≤ n → count diagonal (product (below k) (below n)) ≡ k
unfolding product below count
diagonal_rows n zero h = refl
diagonal_rows n (suc k) h = omega (arith, count_row diagonal k (below n), (one_in_row k n).1 h, diagonal_rows n k (omega arith))

pub diagonal_count : (n : ℕ) → count diagonal (pairs n) ≡ n
unfolding pairs
diagonal_count n = diagonal_rows n n (omega arith)

-- ---- one set inside another that has more

module _ {A : Type 0} (S T : A → Bool) where
  pub count_more : {x : A} {xs : List A} → Mem x xs → Inside xs S T → So (T x) → (So (S x) → ⊥) → count S xs < count T xs
  unfolding count
  count_more (here {x = y} {xs = ys} e) f t n = go (S y) (T y) (subst (λ z. So (S z) → ⊥) e n) (subst (λ z. So (T z)) e t) (count_inside S T ys (λ z m. f z (there m)))
    where
      go : (a b : Bool) → (So a → ⊥) → So b → count S ys ≤ count T ys → tick a (count S ys) < tick b (count T ys)
      go true b g u l = absurd (g refl)
      go false true g u l = omega arith
      go false false g u l = never u
  count_more (there {x = y} {xs = ys} m) f t n = go (S y) (T y) (f y (here refl)) (count_more m (λ z i. f z (there i)) t n)
    where
      go : (a b : Bool) → (So a → So b) → count S ys < count T ys → tick a (count S ys) < tick b (count T ys)
      go true true g l = omega arith
      go true false g l = never (g refl)
      go false true g l = omega arith
      go false false g l = l

-- ---- a number is below a power, so a word is what its bits are, however many they be

below_power : (n : ℕ) → n < 2 ^ n
below_power zero = omega arith
below_power (suc n) = rw (pow-suc 2 n) (omega (arith, below_power n))

pub same_bits : (v w : ℕ) → ((q : ℕ) → member v q ≡ member w q) → v ≡ w
same_bits v w e = same_members (v + w) v w (omega (arith, below_power (v + w))) (omega (arith, below_power (v + w))) (λ q h. e q)
