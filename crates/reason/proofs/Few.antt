-- A good list has at most n * n - n lines, and so have chosen lines that rise: as many as there are pairs of two states. Assumes nothing.
use Prim.Native.Nat.{ℕ, zero, suc, ◌-◌, ◌*◌, ◌≤◌, ◌<◌}
use mathlib.Core.Path.{◌≡◌, refl, sym, subst, subst⁻¹}
use mathlib.Core.Bool.{Bool, true, false, So}
use mathlib.Core.List.Memᴰ.{cases_cons}
use mathlib.Core.List.Memᴰ.{head as here}
use mathlib.Core.List.Memᴰ.{not-nil}
use mathlib.Core.List.Memᴰ.{tail as there}
use mathlib.Core.List.{List, [], ◌∷◌, Memᴰ as Mem}
use mathlib.Core.Logic.{⊎_elim}
use native.Mathlib.Omega.{arith}
use native.Mathlib.Nat.{mul-le-mul_right}
use lib.ListN.{length}
use Rattle.settle.specs.Test.{both, neg, count, tick}
use Rattle.settle.specs.Finite.{pairs}
use Rattle.settle.proofs.Test.{never, both_i, both_e, neg_i, neg_e, tested}
use Rattle.settle.proofs.Finite.{pairs_i, differ, differ_n, differ_count}
use Rattle.chart.specs.Chart.{Step}
use Rattle.chart.specs.Layout.{Rising}
use Rattle.chart.proofs.Rising.{rising_rest}
use Rattle.nearness.specs.Mark.{Mark}
use Rattle.nearness.proofs.Formulas.{near_refl}
use Rattle.reason.specs.Line.{Line, pair_of}
use Rattle.reason.specs.Good.{Listed, GoodLine, Good}
use Rattle.reason.specs.Spelled.{is_pair}
use Rattle.reason.specs.Own.{MarksAre}
use Rattle.reason.proofs.Spelled.{is_pair_i, is_pair_e, good_told}
use Rattle.reason.proofs.Order.{Later, never_twice}
use Rattle.reason.proofs.Own.{AllChosen}

-- one that passes the first test and not the second makes a difference
count_less : {A : Type 0} (p q : A → Bool) (xs : List A) (z : A) → ((x : A) → So (q x) → So (p x)) → Mem z xs → So (p z) → (So (q z) → ⊥) → count q xs < count p xs
unfolding count
count_less p q [] z f m h n = absurd (not-nil m)
count_less {A} p q (x ∷ xs) z f m h n = ⊎_elim (λ e. here_less (p x) (q x) (subst (λ (y : A). So (p y)) e h) (λ t. n (subst (λ (y : A). So (q y)) (sym e) t)) (count_le xs)) (λ i. there_less (p x) (q x) (f x) (count_less p q xs z f i h n)) (cases_cons m)
  where
    ticks : (b c : Bool) → (So c → So b) → {j k : ℕ} → j ≤ k → tick c j ≤ tick b k
    ticks true true g l = omega arith
    ticks true false g l = omega arith
    ticks false true g l = never (g refl)
    ticks false false g l = l

    count_le : (ys : List A) → count q ys ≤ count p ys
    count_le [] = omega arith
    count_le (y ∷ ys) = ticks (p y) (q y) (f y) (count_le ys)

    here_less : (b c : Bool) → So b → (So c → ⊥) → {j k : ℕ} → j ≤ k → tick c j < tick b k
    here_less true true t g l = absurd (g refl)
    here_less true false t g l = omega arith
    here_less false c t g l = never t

    there_less : (b c : Bool) → (So c → So b) → {j k : ℕ} → j < k → tick c j < tick b k
    there_less true true g l = omega arith
    there_less true false g l = omega arith
    there_less false true g l = never (g refl)
    there_less false false g l = l

-- the pairs that pass and are not the line's
abbrev without : (ℕ × ℕ → Bool) → Line → ℕ × ℕ → Bool
without passes l x = both (passes x) (neg (is_pair x l))

-- no pair comes twice
unfoldable Once : List Line → Type 0
Once [] = Unit {0}
Once (l ∷ earlier) = Once earlier × (Listed earlier (pair_of l) → ⊥)

rising_once : (mark : ℕ × ℕ → ℕ) (lines : List Line) → Rising (Later mark) lines → Once lines
unfolding Once
rising_once mark [] r = tt
rising_once mark (l ∷ earlier) r = (rising_once mark earlier (rising_rest (Later mark) l earlier r), never_twice mark l earlier r)

good_once : (n : ℕ) (steps : List Step) (lines : List Line) → Good n steps lines → Once lines
unfolding Once Good
good_once n steps [] good = tt
good_once n steps (l ∷ earlier) good = (good_once n steps earlier good.0, good.1.new)

-- lines whose pairs pass and come once are no more than the pairs that pass
once_few : (n : ℕ) (lines : List Line) (passes : ℕ × ℕ → Bool) → ((l : Line) → Mem l lines → Mem (pair_of l) (pairs n) × So (passes (pair_of l))) → Once lines → length lines ≤ count passes (pairs n)
unfolding Once
once_few n [] passes f once = omega arith
once_few n (l ∷ earlier) passes f once =
    let rest = once_few n earlier (without passes l) (λ k m. ((f k (there m)).0, both_i (f k (there m)).1 (neg_i _ (λ h. once.1 (k, m, sym (is_pair_e (pair_of k) l h)))))) once.0 in
    let own = f l (here refl) in
    omega (arith, rest, count_less passes (without passes l) (pairs n) (pair_of l) (λ x h. (both_e _ _ h).0) own.0 own.1 (λ h. neg_e _ (both_e _ _ h).1 (is_pair_i (pair_of l) l refl)))

-- ---- a good list

good_line : (n : ℕ) (steps : List Step) (lines : List Line) → Good n steps lines → (l : Line) → Mem l lines → (earlier : List Line) × GoodLine n steps earlier l
unfolding Good
good_line n steps [] good l m = absurd (not-nil m)
good_line n steps (k ∷ earlier) good l m = ⊎_elim (λ e. (earlier, subst⁻¹ (GoodLine n steps earlier) e good.1)) (λ i. good_line n steps earlier good.0 l i) (cases_cons m)

-- a pair of one state twice is never listed: no formula is true and false of it
pub never_itself : (n : ℕ) (steps : List Step) (lines : List Line) → Good n steps lines → (p : ℕ) → Listed lines (p, p) → ⊥
never_itself n steps lines good p k = let t = good_told 0 n steps lines good (p, p) k in t.at_second t.at_first

pub good_few : (n : ℕ) (steps : List Step) (lines : List Line) → Good n steps lines → length lines ≤ n * n - n
good_few n steps lines good = omega (arith, once_few n lines differ (λ l m. let g = (good_line n steps lines good l m).1 in (pairs_i n l.p l.q g.p_in g.q_in, apart l m)) (good_once n steps lines good), differ_count n)
  where
    apart : (l : Line) → Mem l lines → So (differ (pair_of l))
    apart l m = ⊎_elim (λ t. t) (λ f. absurd (let e = differ_n (pair_of l) f in never_itself n steps lines good l.q (l, m, rw e))) (tested (differ (pair_of l)))

-- ---- chosen lines that rise

-- a state is equal to itself
same_zero : (steps : List Step) (p d : ℕ) → Mark steps p p d → d ≡ 0
unfolding Mark
same_zero steps p zero m = refl
same_zero steps p (suc d) m = absurd (m.0 (near_refl steps (suc d) p))

module _ (n : ℕ) (steps : List Step) (mark : ℕ × ℕ → ℕ) (marks : MarksAre n steps mark) where
  unequal_differ : (x : ℕ × ℕ) → x.0 < n → x.1 < n → 0 < mark x → So (differ x)
  unequal_differ x a b some = ⊎_elim (λ t. t) (λ f. absurd (go (differ_n x f))) (tested (differ x))
    where
      go : x.0 ≡ x.1 → ⊥
      go e = let z = same_zero steps x.1 (mark x) (subst (λ (y : ℕ). Mark steps y x.1 (mark x)) e (marks x.0 x.1 a b)) in omega arith

  pub few_lines : (lines : List Line) → AllChosen n steps mark lines → Rising (Later mark) lines → length lines ≤ n * n - n
  few_lines lines c r = omega (arith, once_few n lines differ (λ l m. let o = c l m in (pairs_i n l.p l.q o.p_in o.q_in, unequal_differ (pair_of l) o.p_in o.q_in o.unequal)) (rising_once mark lines r), differ_count n)

  -- where an unequal pair is not listed yet, one less
  pub one_more : (lines : List Line) → AllChosen n steps mark lines → Rising (Later mark) lines → (p q : ℕ) → p < n → q < n → 0 < mark (p, q) → (Listed lines (p, q) → ⊥) → length lines < n * n - n
  one_more lines c r p q a b some new =
      let l : Line = record { p = p; q = q; side = 0; action = 0; target = 0 } in
      let rest = once_few n lines (without differ l) (λ k m. let o = c k m in (pairs_i n k.p k.q o.p_in o.q_in, both_i (unequal_differ (pair_of k) o.p_in o.q_in o.unequal) (neg_i _ (λ h. new (k, m, sym (is_pair_e (pair_of k) l h)))))) (rising_once mark lines r) in
      omega (arith, rest, differ_count n, count_less differ (without differ l) (pairs n) (p, q) (λ x h. (both_e _ _ h).0) (pairs_i n p q a b) (unequal_differ (p, q) a b some) (λ h. neg_e _ (both_e _ _ h).1 (is_pair_i (p, q) l refl)))

-- ---- and a chart has at most 64 states

pub pairs_few : (n : ℕ) → n ≤ 64 → n * n - n ≤ 4032
pairs_few n h = omega (arith, mul-le-mul_right n h)
