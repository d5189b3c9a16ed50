-- The promise: it allows one answer, it refuses exactly as `property` does, and never 15; codes are not asked. Assumes nothing.
use Prim.Native.Nat.{ℕ}
use mathlib.Core.Path.{◌≡◌, refl, ap}
use mathlib.Core.Logic.{◌↔◌, inl, inr, ⊎_elim}
use mathlib.Core.List.{List}
use Rattle.refusal.specs.declared.Refusal.{Refusal}
use Rattle.chart.specs.Chart.{Chart, states, actions}
use Rattle.chart.specs.Layout.{Bytes, WellFormed, encode}
use Rattle.chart.specs.Reading.{chart_in, read_chart, shape_of, Reads}
use Rattle.chart.specs.declared.Shape.{Shape}
use Rattle.sheet.specs.Formula.{Formula}
use Rattle.sheet.specs.Layout as SheetLayout
use Rattle.solve.specs.declared.Solved.{Solved}
use Rattle.property.specs.Promise.{PropertyPromise}
use Rattle.property.proofs.SheetPromise.{Unread, unread_not_15, promise_chart_refused, promise_sheet_refused, promise_accepted, refused_exactly, determined, same_steps, layout_answers}
use Rattle.property.proofs.Promise.{was_read, sheet_short, rounds_answer, solution_unique, same_answers, never_unsettled, property_refused_exactly}
use Rattle.both_solutions.specs.Promise.{BothSolved, Answers, BothPromise}
use Rattle.both_solutions.specs.declared.Solutions.{Solutions}
use Rattle.std.specs.Prelude.{Result, Ok, Err}
use Rattle.sheet.specs.Kinds.{kind_number}
use Rattle.sheet.specs.Reading.{read_sheet, sheet_read}
use Rattle.sheet.specs.declared.Outline.{Outline}
use Rattle.sheet.proofs.Accepted.{refused_exactly as sheet_refused_exactly}
use Rattle.solve.specs.Solving.{application, first_set, Solves}

-- ---- what the readers and the rounds find, in the code's terms

module _ (chart bytes : List ℕ) where
  pub by_chart : (r : Refusal) → read_chart chart ≡ Err r → BothPromise chart bytes (Err r)
  by_chart r e = promise_chart_refused chart bytes r e

  pub by_sheet : (sh : Shape) (r : Refusal) → read_chart chart ≡ Ok sh → sheet_read (read_sheet bytes sh.m) ≡ Err r → BothPromise chart bytes (Err r)
  by_sheet sh r e d = promise_sheet_refused chart bytes sh r e ((sheet_refused_exactly bytes sh.m r).0 d)

  -- of an accepted sheet
  module _ (sh : Shape) (o : Outline) (d : sheet_read (read_sheet bytes sh.m) ≡ Ok o) (e : read_chart chart ≡ Ok sh) where
    pub by_least : (x : Result Solved Refusal) (r : Refusal) → Solves sh.n (application chart sh bytes o.nodes) (first_set 1) x → x ≡ Err r → BothPromise chart bytes (Err r)
    by_least x r R q =
        let A = rounds_answer chart bytes sh o d 1 (Err r) e (rw q at R) in
        promise_accepted chart bytes sh (kind_number o.kind) o.nodes A.0 (Err r) e A.1 (inl A.2)

    pub by_greatest : (x : Result Solved Refusal) (r : Refusal) → Solves sh.n (application chart sh bytes o.nodes) (first_set 2) x → x ≡ Err r → BothPromise chart bytes (Err r)
    by_greatest x r R q =
        let A = rounds_answer chart bytes sh o d 2 (Err r) e (rw q at R) in
        promise_accepted chart bytes sh (kind_number o.kind) o.nodes A.0 (Err r) e A.1 (inr A.2)

    pub by_both : (a b : Solved) → Solves sh.n (application chart sh bytes o.nodes) (first_set 1) (Ok a) → Solves sh.n (application chart sh bytes o.nodes) (first_set 2) (Ok b)
        → BothPromise chart bytes (Ok (record { least = a; greatest = b }))
    by_both a b R S =
        let A = rounds_answer chart bytes sh o d 1 (Ok a) e R in
        let B = rounds_answer chart bytes sh o d 2 (Ok b) e S in
        let same : B.0 ≡ A.0 = cc in
        promise_accepted chart bytes sh (kind_number o.kind) o.nodes A.0 _ e A.1 (record { least_is = A.2; greatest_is = rw same at B.2 })

pub ruleset by_readers = (by_chart, by_sheet, was_read, sheet_short, by_least, by_greatest, by_both)

-- ---- when it refuses

-- neither end is left unsettled
pub neither_unsettled : (chart : List ℕ) (sh : Shape) → read_chart chart ≡ Ok sh → (kind : ℕ) (f : Formula) (r : Refusal) → Answers (chart_in chart sh) kind f (Err r) → ⊥
neither_unsettled chart sh e kind f r = ⊎_elim (never_unsettled chart sh e 1 f r) (never_unsettled chart sh e 2 f r)

pub both_refused_exactly : (chart bytes : List ℕ) (r : Refusal) → BothPromise chart bytes (Err r) ↔ Unread chart bytes r
both_refused_exactly chart bytes = refused_exactly chart bytes (λ r q e. cc) (neither_unsettled chart)

-- the refusals are those of the property question
pub refused_as_property : (chart bytes : List ℕ) (r : Refusal) → BothPromise chart bytes (Err r) ↔ PropertyPromise chart bytes (Err r)
refused_as_property chart bytes r =
    let b = both_refused_exactly chart bytes r in
    let p = property_refused_exactly chart bytes r in
    (λ x. p.1 (b.0 x), λ x. b.1 (p.0 x))

pub never_15 : (chart bytes : List ℕ) (r : Refusal) → BothPromise chart bytes (Err r) → r.number ≡ 15 → ⊥
never_15 chart bytes r P = unread_not_15 chart bytes r ((both_refused_exactly chart bytes r).0 P)

-- ---- the promise allows one answer

solutions : {a b d e : Solved} → a ≡ b → d ≡ e → ◌≡◌ {A = Solutions} (record { least = a; greatest = d }) (record { least = b; greatest = e })
solutions p q = cc

pub both_determined : (chart bytes : List ℕ) (x y : Result Solutions Refusal) → BothPromise chart bytes x → BothPromise chart bytes y → x ≡ y
both_determined chart bytes = determined chart bytes one
  where
    one : (sh : Shape) → read_chart chart ≡ Ok sh → (kind : ℕ) (f : Formula) (x y : Result Solutions Refusal) → Answers (chart_in chart sh) kind f x → Answers (chart_in chart sh) kind f y → x ≡ y
    one sh e kind f (Ok a) (Ok b) A B = ap Ok (solutions (solution_unique _ 1 f _ _ A.least_is B.least_is) (solution_unique _ 2 f _ _ A.greatest_is B.greatest_is))
    one sh e kind f (Err r) y A B = absurd (neither_unsettled chart sh e kind f r A)
    one sh e kind f (Ok a) (Err r) A B = absurd (neither_unsettled chart sh e kind f r B)

-- ---- codes are for display only: of two charts with the same steps the same is promised

pub codes_not_asked : (a b bytes : List ℕ) (sh : Shape) → read_chart a ≡ Ok sh → read_chart b ≡ Ok sh → (chart_in a sh).steps ≡ (chart_in b sh).steps
    → (answer : Result Solutions Refusal) → BothPromise a bytes answer → BothPromise b bytes answer
codes_not_asked = same_steps alike
  where
    alike : (c d : Chart) → states d ≡ states c → actions d ≡ actions c → d.steps ≡ c.steps → (kind : ℕ) (f : Formula) (x : Result Solutions Refusal) → Answers c kind f x → Answers d kind f x
    alike c d n m steps kind f (Ok a) S = record {
      least_is = same_answers c d n m steps 1 f (Ok a.least) S.least_is;
      greatest_is = same_answers c d n m steps 2 f (Ok a.greatest) S.greatest_is;
    }
    alike c d n m steps kind f (Err r) U = ⊎_elim (λ u. inl (same_answers c d n m steps 1 f (Err r) u)) (λ u. inr (same_answers c d n m steps 2 f (Err r) u)) U

-- ---- in the layout's terms: every chart and every sheet that follow it are answered

pub layout_answered : (chart : List ℕ) → Bytes chart → (c : Chart) (kind : ℕ) (f : Formula) → chart ≡ encode c → WellFormed c → SheetLayout.WellFormed (actions c) kind f
    → (answer : Result Solutions Refusal) → BothPromise chart (SheetLayout.encode kind f) answer → (a : Solutions) × (answer ≡ Ok a) × BothSolved c f a
layout_answered chart B c kind f e w v answer P = let (read, A) = layout_answers chart B c kind f e w v answer P in go answer read A
  where
    go : (x : Result Solutions Refusal) → Reads chart c → Answers (chart_in chart (shape_of c)) kind f x → (a : Solutions) × (x ≡ Ok a) × BothSolved c f a
    go (Ok a) read A = (a, refl, rw read.1 at A)
    go (Err r) read A = absurd (neither_unsettled chart (shape_of c) read.0 kind f r A)
