-- Any two tables, and any two steps of a set, that a call's promise allows for the same input agree. Assumes nothing.
use Prim.Native.Nat.{ℕ, zero, suc, ◌+◌, ◌*◌, ◌/◌, ◌%◌, ◌^◌, ◌≤◌, ◌<◌}
use mathlib.Core.Path.{◌≡◌, sym, ap, subst, ◌∙◌}
use mathlib.Core.List.{List}
use native.Mathlib.Decide.{dec_lt}
use native.Mathlib.Nat.{mod-lt, div-add-mod', mul-le-mul_right}
use native.Mathlib.Numerals.{add-one}
use native.Mathlib.Omega.{arith}
use lib.ListN.{length, get_or}
use lib.Seq.{ext_get_or}
use Rattle.settle.specs.Test.{either}
use Rattle.settle.proofs.Test.{ext}
use Rattle.chart.specs.Chart.{Step}
use Rattle.words.specs.Words.{member}
use Rattle.words.proofs.Words.{same_members}
use Rattle.steps.specs.Table.{Table}
use Rattle.steps.specs.Walk.{leads}

pub gather_determined : (into : List ℕ) (base known set a b : ℕ) → a < 2 ^ 64 → b < 2 ^ 64
    → ((s : ℕ) → member a s ≡ either (member known s) (leads into base set s))
    → ((s : ℕ) → member b s ≡ either (member known s) (leads into base set s)) → a ≡ b
gather_determined into base known set a b h k p q = same_members 64 a b h k (λ s l. p s ∙ sym (q s))

module _ (n m : ℕ) (some : 0 < n) (steps : List Step) (into other : List ℕ) (T : Table n m steps into) (U : Table n m steps other) where
  row_word : (row u : ℕ) → row ≤ m → u < n → (s : ℕ) → member (get_or into (row * n + u) 0) s ≡ member (get_or other (row * n + u) 0) s
  row_word zero u h k s = rw (first) (ext (λ t. (U.by_any u s k).1 ((T.by_any u s k).0 t)) (λ t. (T.by_any u s k).1 ((U.by_any u s k).0 t)))
    where
      first : 0 * n + u ≡ u
      first = omega arith
  row_word (suc a) u h k s =
      rw (own) (ext (λ t. (U.by_action a u s (omega arith) k).1 ((T.by_action a u s (omega arith) k).0 t)) (λ t. (T.by_action a u s (omega arith) k).1 ((U.by_action a u s (omega arith) k).0 t)))
    where
      own : suc a * n + u ≡ (a + 1) * n + u
      own = ap (λ (x : ℕ). x * n + u) (sym (add-one a))

  row_in : {e : ℕ} → e < (m + 1) * n → e / n ≤ m
  row_in {e} l = elim (dec_lt m (e / n)) [ yes k ↦ absurd (omega (arith, l, mul-le-mul_right {m = m + 1} {n = e / n} n (omega arith), div-add-mod' e n)) | no k ↦ omega arith ]

  word : (e : ℕ) → get_or into e 0 ≡ get_or other e 0
  word e = elim (dec_lt e ((m + 1) * n)) [
    | no f ↦ T.none_after e (omega arith) ∙ sym (U.none_after e (omega arith))
    | yes l ↦ same_members n _ _ (T.no_bit_above e) (U.no_bit_above e) (λ s i. subst (λ (x : ℕ). member (get_or into x 0) s ≡ member (get_or other x 0) s) (div-add-mod' e n) (row_word (e / n) (e % n) (row_in l) (mod-lt e some) s))
  ]

  pub table_determined : length into ≡ length other → into ≡ other
  table_determined e = ext_get_or 0 into other e (λ i h. word i)
