-- The list of reasons of the row has a line for each pair of two states, and a buffer as long as that is never too short. Assumes nothing.
use Prim.Native.Nat.{ℕ, zero, suc, ◌+◌, ◌≤◌, ◌<◌}
use mathlib.Core.Path.{◌≡◌, refl, sym, ap, subst⁻¹}
use mathlib.Core.Bool.{Bool, true, false, So}
use mathlib.Core.List.Memᴰ.{head as here}
use mathlib.Core.List.Memᴰ.{not-nil}
use mathlib.Core.List.Memᴰ.{tail as there}
use mathlib.Core.List.{List, [], ◌∷◌, map, Memᴰ as Mem}
use mathlib.Core.Logic.{⊎_elim}
use native.Mathlib.Omega.{arith}
use native.Mathlib.Decide.{ℕ_discrete}
use borrow.Author.Tests.{eq-eqb}
use lib.ListN.{length}
use Rattle.refusal.specs.declared.Refusal.{Refusal}
use Rattle.settle.specs.Test.{both, neg, count, tick}
use Rattle.settle.specs.Finite.{below, product, pairs}
use Rattle.settle.proofs.Test.{both_e, neg_e, count_append, count_map}
use Rattle.settle.proofs.Finite.{below_e, product_e, pairs_e_lem, differ}
use Rattle.chart.specs.Chart.{Step, Chart, states}
use Rattle.chart.specs.Layout.{encode}
use Rattle.chart.specs.Reading.{chart_in, shape_of}
use Rattle.chart.proofs.Accepted.{accepted}
use Rattle.chart.proofs.Refused.{refused}
use Rattle.nearness.proofs.Mark.{mark_unique}
use Rattle.reason.specs.Line.{Line, list_bytes, longest_list}
use Rattle.reason.specs.Good.{Listed}
use Rattle.reason.specs.Spelled.{is_pair}
use Rattle.reason.specs.Own.{MarksAre, OwnList}
use Rattle.reason.proofs.Bytes.{bytes_length}
use Rattle.reason.proofs.Few.{few_lines}
use Rattle.reason.proofs.Spelled.{is_pair_i, is_pair_e, listed_cases}
use Rattle.reasons.specs.Promise.{ReasonsPromise}
use Rattle.reasons.proofs.Begun.{own_fits}
use Rattle.reasons.proofs.Promise.{reasons_refused}
use Rattle.longest.specs.Header.{ReasonsReach}
use Rattle.longest.specs.Longest.{row_chart, row_mark}
use Rattle.longest.proofs.Row.{row_states, row_read, links, other_mark, row_marks, row_list}
use Rattle.std.specs.Prelude.{Err}

-- ---- how many pairs are listed

-- those that pass are at most the ones that fail another test and the ones that pass it
count_parts : {A : Type 0} (p q : A → Bool) (xs : List A) → count p xs ≤ count (λ x. both (p x) (neg (q x))) xs + count q xs
unfolding count both neg
count_parts p q [] = omega arith
count_parts p q (x ∷ xs) = go (p x) (q x) _ _ _ (count_parts p q xs)
  where
    go : (b c : Bool) (j k l : ℕ) → j ≤ k + l → tick b j ≤ tick (both b (neg c)) k + tick c l
    go true true j k l h = omega arith
    go true false j k l h = omega arith
    go false true j k l h = omega arith
    go false false j k l h = omega arith

count_none : {A : Type 0} (p : A → Bool) (xs : List A) → ((x : A) → Mem x xs → So (p x) → ⊥) → count p xs ≡ 0
unfolding count
count_none p [] f = refl
count_none p (x ∷ xs) f = go (p x) (f x (here refl)) (count_none p xs (λ y m. f y (there m)))
  where
    go : (b : Bool) {k : ℕ} → (So b → ⊥) → k ≡ 0 → tick b k ≡ 0
    go true g h = absurd (g refl)
    go false g h = h

-- a number stands once among those below n
below_once : (p : ℕ → Bool) (v n : ℕ) → ((x : ℕ) → So (p x) → x ≡ v) → count p (below n) ≤ 1
unfolding below count
below_once p v zero only = omega arith
below_once p v (suc n) only = go (p n) (only n) (below_once p v n only)
  where
    go : (b : Bool) → (So b → n ≡ v) → count p (below n) ≤ 1 → tick b (count p (below n)) ≤ 1
    go true e h = omega (arith, count_none p (below n) (λ x m t. omega (arith, below_e n x m, only x t, e refl)))
    go false e h = h

module _ (l : Line) where
  abbrev own : ℕ × ℕ → Bool
  own x = is_pair x l

  -- so does a pair among the pairs
  rows_once : (n k : ℕ) → count own (product (below k) (below n)) ≤ 1
  unfolding below product count
  rows_once n zero = omega arith
  rows_once n (suc k) =
      let row : ℕ → ℕ × ℕ = λ y. (k, y) in
      let parts = count_append own (map row (below n)) (product (below k) (below n)) in
      let e = count_map own row (below n) in
      elim (ℕ_discrete l.p k) [
        | yes i ↦ omega (arith, below_once (λ y. own (row y)) l.q n (λ y t. ap (λ (x : ℕ × ℕ). x.1) (sym (is_pair_e (row y) l t))), count_none own (product (below k) (below n)) (λ x m t. omega (arith, below_e k x.0 (product_e x (below k) (below n) m).0, ap (λ (y : ℕ × ℕ). y.0) (is_pair_e x l t))))
        | no f ↦ omega (arith, rows_once n k, count_none (λ y. own (row y)) (below n) (λ y m t. f (ap (λ (x : ℕ × ℕ). x.0) (is_pair_e (row y) l t))))
      ]

-- where every pair that passes is listed, the lines are at least as many
listed_many : (n : ℕ) (lines : List Line) (passes : ℕ × ℕ → Bool) → ((x : ℕ × ℕ) → Mem x (pairs n) → So (passes x) → Listed lines x) → count passes (pairs n) ≤ length lines
unfolding pairs
listed_many n [] passes f = omega (arith, count_none passes (pairs n) (λ x m t. not-nil (f x m t).1))
listed_many n (l ∷ earlier) passes f =
    omega (arith, count_parts passes (own l) (pairs n), rows_once l n n, listed_many n earlier (λ x. both (passes x) (neg (own l x))) rest)
  where
    rest : (x : ℕ × ℕ) → Mem x (pairs n) → So (both (passes x) (neg (own l x))) → Listed earlier x
    rest x m t = let d = both_e _ _ t in ⊎_elim (λ e. absurd (neg_e _ d.1 (is_pair_i x l e))) (λ k. k) (listed_cases l earlier x (f x m d.0))

differ_e : (x : ℕ × ℕ) → So (differ x) → x.0 ≡ x.1 → ⊥
unfolding differ
differ_e x t e = neg_e _ t (eq-eqb _ _ e)

differ_64 : count differ (pairs 64) ≡ 4032
unfolding pairs product below count differ neg
differ_64 = refl

-- ---- the row

module _ (mark : ℕ × ℕ → ℕ) (marks : MarksAre 64 links mark) where
  all_unequal : (p q : ℕ) → p < 64 → q < 64 → (p ≡ q → ⊥) → 0 < mark (p, q)
  all_unequal p q h k f = omega (arith, mark_unique links p q (mark (p, q)) (row_mark (p, q)) (marks p q h k) (row_marks p q h k), other_mark p q f)

  -- a line for each pair of two, and no more
  row_length : (lines : List Line) → OwnList 64 links mark lines → length (list_bytes lines) ≡ longest_list
  row_length lines own =
      omega (arith, bytes_length lines, few_lines 64 links mark marks lines own.chosen own.rising, differ_64, listed_many 64 lines differ listed)
    where
      listed : (x : ℕ × ℕ) → Mem x (pairs 64) → So (differ x) → Listed lines x
      listed x m t = let i = pairs_e_lem 64 x m in own.every x.0 x.1 i.0 i.1 (all_unequal x.0 x.1 i.0 i.1 (differ_e x t))

-- what holds of 64 states with these steps holds of the chart that is read
as_read : (P : ℕ → List Step → Type 0) → P 64 links → P (states row_chart) (chart_in (encode row_chart) (shape_of row_chart)).steps
as_read P h = subst⁻¹ (P (states row_chart)) (ap (λ (c : Chart). c.steps) row_read.1) (subst⁻¹ (λ (n : ℕ). P n links) row_states h)

pub reasons_reached : ReasonsReach (encode row_chart) longest_list
reasons_reached = record {
  shape = shape_of row_chart;
  read = row_read.0;
  some = as_read (λ n steps. (mark : ℕ × ℕ → ℕ) × (lines : List Line) × MarksAre n steps mark × OwnList n steps mark lines) (row_mark, row_list.0, row_marks, row_list.1);
  each = as_read (λ n steps. (mark : ℕ × ℕ → ℕ) (lines : List Line) → MarksAre n steps mark → OwnList n steps mark lines → length (list_bytes lines) ≡ longest_list) (λ mark lines marks own. row_length mark marks lines own);
}

-- ---- a buffer as long

-- a chart's own refusals have other numbers, and no list of reasons is longer
pub reasons_room : (chart old new : List ℕ) (r : Refusal) → longest_list ≤ length old → ReasonsPromise chart old new (Err r) → r.number ≡ 14 → ⊥
reasons_room chart old new r room p e = ⊎_elim
    (λ i. omega (arith, (refused chart r i).number_few))
    (λ f. let short = f.1 in let o = short.own in omega (arith, short.longer, own_fits o.shape.n short.lines (accepted chart o.shape o.read).states_few o.marks_are o.own))
    (reasons_refused chart old new r p).0
