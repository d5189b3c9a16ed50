-- What the check's promise comes to: it leaves no choice, a list is accepted exactly if it is good, and its refusal tells the first bad line.
-- Assumes nothing.
use Prim.Native.Nat.{ℕ, zero, suc, ◌*◌, ◌≤◌, ◌<◌}
use mathlib.Core.Path.{◌≡◌, refl, sym, ap, subst, subst⁻¹, ◌∙◌}
use mathlib.Core.List.{List}
use mathlib.Core.Logic.{◌↔◌, ◌⊎◌, inl, inr}
use native.Mathlib.Omega.{arith}
use native.Mathlib.Decide.{dec_lt}
use lib.ListN.{length, take}
use lib.Seq.{length-take-le, get_or-take}
use Rattle.refusal.specs.Refusal.{sheet_refusal}
use Rattle.refusal.specs.declared.Refusal.{Refusal}
use Rattle.refusal.specs.declared.Input.TheVariants as Input
use Rattle.chart.specs.Chart.{Step}
use Rattle.chart.specs.Reading.{chart_in, read_chart}
use Rattle.chart.specs.declared.Shape.{Shape}
use Rattle.sheet.specs.Formula.{depth}
use Rattle.nearness.specs.Mark.{Mark}
use Rattle.reason.specs.Line.{Line, list_bytes, line_at, lines_in}
use Rattle.reason.specs.Good.{Listed, GoodLine, Good}
use Rattle.reason.specs.Spelled.{spelled}
use Rattle.reason.proofs.Spelled.{Told, good_told, good_mark}
use Rattle.reason.proofs.Bytes.{bytes_length, lines_length, lines_same, lines_of_bytes, bytes_of_lines}
use Rattle.check_reasons.specs.Promise.{Accepts, FirstBad, Judges, Answers, CheckPromise}
use Rattle.std.specs.Prelude.{Result, Ok, Err}

-- ---- the promise of a chart that is accepted

module _ (chart list : List ℕ) (sh : Shape) (read : read_chart chart ≡ Ok sh) (answer : Result ℕ Refusal) where
  promise_judged : Judges sh.n (chart_in chart sh).steps list answer → CheckPromise chart list answer
  promise_judged j = subst⁻¹ (λ (x : Result Shape Refusal). Answers chart x list answer) read j

  judged_promise : CheckPromise chart list answer → Judges sh.n (chart_in chart sh).steps list answer
  judged_promise w = subst (λ (x : Result Shape Refusal). Answers chart x list answer) read w

-- ---- the lines of a good list

module _ (n : ℕ) (steps : List Step) (list : List ℕ) where
  -- its first i lines are good, and so is line number i after them
  good_first : (k i : ℕ) → i ≤ k → Good n steps (lines_in list k) → Good n steps (lines_in list i)
  unfolding lines_in Good
  good_first zero i h g = let e : i ≡ 0 = omega arith in rw e g
  good_first (suc k) i h g = elim (dec_lt k i) [ yes l ↦ (let e : i ≡ suc k = omega arith in rw e g) | no f ↦ good_first k i (omega arith) g.0 ]

  line_good : (k i : ℕ) → i < k → Good n steps (lines_in list k) → GoodLine n steps (lines_in list i) (line_at list (5 * i))
  unfolding lines_in Good
  line_good zero i h g = absurd (omega arith)
  line_good (suc k) i h g = elim (dec_lt i k) [ yes l ↦ line_good k i l g.0 | no f ↦ (let e : i ≡ k = omega arith in rw e g.1) ]

  -- no line that is bad or incomplete stands before the end of a good list
  none_bad : (k i : ℕ) → Good n steps (lines_in list k) → 5 * k ≤ length list → i < k → FirstBad n steps list i → ⊥
  none_bad k i g h l b = b.bad (omega arith) (line_good k i l g)

  -- ---- determined

  judges_determined : (a b : Result ℕ Refusal) → Judges n steps list a → Judges n steps list b → a ≡ b
  judges_determined (Ok j) (Ok k) a b = ap Ok (omega (arith, a.whole, b.whole))
  judges_determined (Ok k) (Err r) a (i, e, b) = absurd (none_bad k i a.good (omega (arith, a.whole)) (omega (arith, a.whole, b.begun)) b)
  judges_determined (Err r) (Ok k) (i, e, a) b = absurd (none_bad k i b.good (omega (arith, b.whole)) (omega (arith, b.whole, a.begun)) a)
  judges_determined (Err r) (Err s) (i, d, a) (j, e, b) = ap Err (d ∙ ap (λ (x : ℕ). sheet_refusal 21 x) same ∙ sym e)
    where
      same : i ≡ j
      same = elim (dec_lt i j) [
        | yes l ↦ absurd (none_bad j i b.earlier_good (omega (arith, b.begun)) l a)
        | no f ↦ elim (dec_lt j i) [ yes l ↦ absurd (none_bad i j a.earlier_good (omega (arith, a.begun)) l b) | no g ↦ omega arith ]
      ]

pub check_determined : (chart list : List ℕ) (a b : Result ℕ Refusal) → CheckPromise chart list a → CheckPromise chart list b → a ≡ b
check_determined chart list a b = go (read_chart chart)
  where
    go : (x : Result Shape Refusal) → Answers chart x list a → Answers chart x list b → a ≡ b
    go (Err r) v w = v ∙ sym w
    go (Ok sh) v w = judges_determined sh.n (chart_in chart sh).steps list a b v w

-- ---- accepted exactly if it is good

module _ (chart : List ℕ) (sh : Shape) (read : read_chart chart ≡ Ok sh) (list : List ℕ) where
  abbrev steps : List Step
  steps = (chart_in chart sh).steps

  accepts : (k : ℕ) → CheckPromise chart list (Ok k) → Accepts sh.n steps list k
  accepts k w = judged_promise chart list sh read (Ok k) w

  pub check_accepted_exactly : (answer : Result ℕ Refusal) → CheckPromise chart list answer
      → (lines : List Line) → list ≡ list_bytes lines → (answer ≡ Ok (length lines)) ↔ Good sh.n steps lines
  check_accepted_exactly answer w lines e = (
    λ d. subst (λ (x : List Line). Good sh.n steps x) same (accepts (length lines) (subst (CheckPromise chart list) d w)).good,
    λ g. check_determined chart list answer (Ok (length lines)) w (promise_judged chart list sh read (Ok (length lines)) (record {
      whole = ap length e ∙ bytes_length lines;
      good = subst⁻¹ (λ (x : List Line). Good sh.n steps x) same g;
    })),
  )
    where
      same : lines_in list (length lines) ≡ lines
      same = ap (λ (s : List ℕ). lines_in s (length lines)) e ∙ lines_of_bytes lines

  -- the number that is answered is that of the list's lines
  pub accepted_lines : (k : ℕ) → CheckPromise chart list (Ok k) → (lines : List Line) × (list ≡ list_bytes lines) × (length lines ≡ k) × Good sh.n steps lines
  accepted_lines k w = let a = accepts k w in (lines_in list k, sym (bytes_of_lines list k a.whole), lines_length list k, a.good)

  -- every pair in an accepted list is told apart by the formula that its lines spell, which has no variable, is true at p and false at q
  pub accepted_told : (k : ℕ) → CheckPromise chart list (Ok k) → (x : ℕ × ℕ) → Listed (lines_in list k) x → Told sh.m steps (spelled steps (lines_in list k) x) x
  accepted_told k w = good_told sh.m sh.n steps (lines_in list k) (accepts k w).good

  -- so the pair's mark is not 0 and not above that formula's depth
  pub accepted_mark : (k : ℕ) → CheckPromise chart list (Ok k) → (x : ℕ × ℕ) → Listed (lines_in list k) x → (d : ℕ) → Mark steps x.0 x.1 d → (0 < d) × (d ≤ depth (spelled steps (lines_in list k) x))
  accepted_mark k w = good_mark sh.m sh.n steps (lines_in list k) (accepts k w).good

  -- a beginning of whole lines is accepted too
  pub accepted_beginning : (k i : ℕ) → i ≤ k → CheckPromise chart list (Ok k) → CheckPromise chart (take (5 * i) list) (Ok i)
  accepted_beginning k i h w =
      let a = accepts k w in
      promise_judged chart (take (5 * i) list) sh read (Ok i) (record {
        whole = length-take-le (5 * i) list (omega (arith, a.whole));
        good = rw (lines_same (take (5 * i) list) list i (λ j l. get_or-take (5 * i) list j 0 l)) (good_first sh.n steps list k i h a.good);
      })

-- ---- refused

-- the chart's refusal, or 21 of input 1 with the number of the first line that is bad or incomplete
pub check_refused : (chart list : List ℕ) (r : Refusal) → CheckPromise chart list (Err r)
    → (read_chart chart ≡ Err r)
    ⊎ ((sh : Shape) × (read_chart chart ≡ Ok sh) × (r.input ≡ Input.Sheet) × (r.number ≡ 21) × (r.byte ≡ 0) × FirstBad sh.n (chart_in chart sh).steps list r.place)
check_refused chart list r = go (read_chart chart) refl
  where
    go : (x : Result Shape Refusal) → read_chart chart ≡ x → Answers chart x list (Err r)
        → (read_chart chart ≡ Err r)
        ⊎ ((sh : Shape) × (read_chart chart ≡ Ok sh) × (r.input ≡ Input.Sheet) × (r.number ≡ 21) × (r.byte ≡ 0) × FirstBad sh.n (chart_in chart sh).steps list r.place)
    go (Err s) e w = let z : s ≡ r = cc in inl (e ∙ ap Err z)
    go (Ok sh) e (i, d, b) = inr (
      sh,
      e,
      ap (λ (x : Refusal). x.input) d,
      ap (λ (x : Refusal). x.number) d,
      ap (λ (x : Refusal). x.byte) d,
      subst⁻¹ (FirstBad sh.n (chart_in chart sh).steps list) (ap (λ (x : Refusal). x.place) d) b,
    )
