-- What every question that solves a sheet promises: the three cases, when it refuses, that it allows one answer, that codes are not asked, and what it
-- says in the layout's terms. Assumes nothing.
use Prim.Native.Nat.{ℕ, ◌+◌}
use mathlib.Core.Path.{◌≡◌, refl, ap, sym, ◌∙◌}
use mathlib.Core.Logic.{◌↔◌}
use mathlib.Core.List.{List}
use native.Mathlib.Omega.{arith}
use Rattle.refusal.specs.declared.Refusal.{Refusal}
use Rattle.chart.specs.Chart.{Chart, states, actions}
use Rattle.chart.specs.Layout.{Bytes, WellFormed, encode}
use Rattle.chart.specs.Reading.{chart_in, read_chart, shape_of, Reads}
use Rattle.chart.specs.declared.Shape.{Shape}
use Rattle.chart.proofs.Accepted.{never_both, same_shape}
use Rattle.chart.proofs.Exactly.{accepted_exactly as chart-accepted}
use Rattle.chart.proofs.Refused.{refused as chart-refused-placed}
use Rattle.chart.proofs.Steps.{bytes_at_length}
use Rattle.sheet.specs.Formula.{Formula, nodes}
use Rattle.sheet.specs.Layout as SheetLayout
use Rattle.sheet.specs.Reading.{Sheet, sheet, refused, read_sheet}
use Rattle.sheet.proofs.Accepted.{accepted_exactly as sheet-accepted, refusal_small}
use Rattle.sheet.proofs.Found.{number_few}
use Rattle.property.specs.SheetPromise.{SheetPromise}
use Rattle.std.specs.Prelude.{Result, Ok, Err}

-- a reader refuses: the chart's, or, where that accepts, the sheet's
pub data Unread (chart bytes : List ℕ) (r : Refusal) : Type 0 where
  of_chart : read_chart chart ≡ Err r → Unread chart bytes r
  of_sheet : (sh : Shape) → read_chart chart ≡ Ok sh → read_sheet bytes sh.m ≡ refused r → Unread chart bytes r

-- no reader gives 15
pub unread_not_15 : (chart bytes : List ℕ) (r : Refusal) → Unread chart bytes r → r.number ≡ 15 → ⊥
unread_not_15 chart bytes r (of_chart e) z = omega (arith, (chart-refused-placed chart r e).number_few)
unread_not_15 chart bytes r (of_sheet sh e d) z = omega (arith, number_few (refusal_small bytes sh.m r d))

module _ {A : Type 0} {no : Refusal → A} {Answers : Chart → ℕ → Formula → A → Type 0} where
  -- ---- the three cases

  module _ (chart bytes : List ℕ) where
    pub promise_chart_refused : (r : Refusal) → read_chart chart ≡ Err r → SheetPromise no Answers chart bytes (no r)
    promise_chart_refused r e = record {
      chart_refused = λ r' h. (let z : r ≡ r' = cc in ap no z);
      sheet_refused = λ sh r' h k. never_both h e;
      both_accepted = λ sh kind nodes f h k. never_both h e;
    }

    pub promise_sheet_refused : (sh : Shape) (r : Refusal) → read_chart chart ≡ Ok sh → read_sheet bytes sh.m ≡ refused r → SheetPromise no Answers chart bytes (no r)
    promise_sheet_refused sh r e d = record {
      chart_refused = λ r' h. never_both e h;
      sheet_refused = λ sh' r' h k. (let z : r ≡ r' = cc in ap no z);
      both_accepted = λ sh' kind nodes f h k. (let z : ◌≡◌ {A = ℕ} 0 1 = cc in absurd (omega arith));
    }

    pub promise_accepted : (sh : Shape) (kind nodes : ℕ) (f : Formula) (answer : A) → read_chart chart ≡ Ok sh → read_sheet bytes sh.m ≡ sheet kind nodes f
        → Answers (chart_in chart sh) kind f answer → SheetPromise no Answers chart bytes answer
    promise_accepted sh kind nodes f answer e d a = record {
      chart_refused = λ r h. never_both e h;
      sheet_refused = λ sh' r h k. (let z : ◌≡◌ {A = ℕ} 0 1 = cc in absurd (omega arith));
      both_accepted = λ sh' kind' nodes' f' h k. (
          let x : sh ≡ sh' = cc in
          let y : kind ≡ kind' = cc in
          let z : f ≡ f' = cc in
          rw (x, y, z) at a);
    }

    -- ---- where an accepted chart and sheet are never refused, it refuses exactly as the readers do

    pub refused_exactly : ((r q : Refusal) → no r ≡ no q → r ≡ q)
        → ((sh : Shape) → read_chart chart ≡ Ok sh → (kind : ℕ) (f : Formula) (r : Refusal) → Answers (chart_in chart sh) kind f (no r) → ⊥)
        → (r : Refusal) → SheetPromise no Answers chart bytes (no r) ↔ Unread chart bytes r
    refused_exactly same given r = (by_chart (read_chart chart) refl, back)
      where
        by_sheet : (sh : Shape) → read_chart chart ≡ Ok sh → (u : Sheet) → read_sheet bytes sh.m ≡ u → SheetPromise no Answers chart bytes (no r) → Unread chart bytes r
        by_sheet sh e (refused q) d P = of_sheet sh e (d ∙ ap refused (sym (same r q (P.sheet_refused sh q e d))))
        by_sheet sh e (sheet kind nodes f) d P = absurd (given sh e kind f r (P.both_accepted sh kind nodes f e d))

        by_chart : (u : Result Shape Refusal) → read_chart chart ≡ u → SheetPromise no Answers chart bytes (no r) → Unread chart bytes r
        by_chart (Err q) e P = of_chart (e ∙ ap Err (sym (same r q (P.chart_refused q e))))
        by_chart (Ok sh) e P = by_sheet sh e (read_sheet bytes sh.m) refl P

        back : Unread chart bytes r → SheetPromise no Answers chart bytes (no r)
        back (of_chart e) = promise_chart_refused r e
        back (of_sheet sh e d) = promise_sheet_refused sh r e d

    -- ---- where an accepted chart and sheet have one answer, there is one for all bytes

    pub determined : ((sh : Shape) → read_chart chart ≡ Ok sh → (kind : ℕ) (f : Formula) (x y : A) → Answers (chart_in chart sh) kind f x → Answers (chart_in chart sh) kind f y → x ≡ y)
        → (x y : A) → SheetPromise no Answers chart bytes x → SheetPromise no Answers chart bytes y → x ≡ y
    determined one x y X Y = by_chart (read_chart chart) refl
      where
        by_sheet : (sh : Shape) → read_chart chart ≡ Ok sh → (u : Sheet) → read_sheet bytes sh.m ≡ u → x ≡ y
        by_sheet sh e (refused r) d = X.sheet_refused sh r e d ∙ sym (Y.sheet_refused sh r e d)
        by_sheet sh e (sheet kind nodes f) d = one sh e kind f x y (X.both_accepted sh kind nodes f e d) (Y.both_accepted sh kind nodes f e d)

        by_chart : (u : Result Shape Refusal) → read_chart chart ≡ u → x ≡ y
        by_chart (Err r) e = X.chart_refused r e ∙ sym (Y.chart_refused r e)
        by_chart (Ok sh) e = by_sheet sh e (read_sheet bytes sh.m) refl

  -- ---- codes are for display only: where charts with the same steps have the same answers, the same is promised of both

  pub same_steps : ((c d : Chart) → states d ≡ states c → actions d ≡ actions c → d.steps ≡ c.steps → (kind : ℕ) (f : Formula) (x : A) → Answers c kind f x → Answers d kind f x)
      → (a b bytes : List ℕ) (sh : Shape) → read_chart a ≡ Ok sh → read_chart b ≡ Ok sh → (chart_in a sh).steps ≡ (chart_in b sh).steps
      → (answer : A) → SheetPromise no Answers a bytes answer → SheetPromise no Answers b bytes answer
  same_steps alike a b bytes sh read also same answer P = record {
    chart_refused = λ r h. never_both also h;
    sheet_refused = λ u r h k. P.sheet_refused sh r read (rw (same_shape also h) k);
    both_accepted = λ u kind nodes f h k. rw (← same_shape also h)
        (alike (chart_in a sh) (chart_in b sh) (bytes_at_length b 1 sh.n ∙ sym (bytes_at_length a 1 sh.n))
        (bytes_at_length b (2 + sh.n) sh.m ∙ sym (bytes_at_length a (2 + sh.n) sh.m)) (sym same) kind f answer (P.both_accepted sh kind nodes f read (rw (same_shape also h) k)));
  }

  -- ---- in the layout's terms: a chart and a sheet that follow it are read, and answered

  pub layout_answers : (chart : List ℕ) → Bytes chart → (c : Chart) (kind : ℕ) (f : Formula) → chart ≡ encode c → WellFormed c → SheetLayout.WellFormed (actions c) kind f
      → (answer : A) → SheetPromise no Answers chart (SheetLayout.encode kind f) answer → Reads chart c × Answers (chart_in chart (shape_of c)) kind f answer
  layout_answers chart B c kind f e w v answer P =
      let read = (chart-accepted chart B c).1 (e, w) in
      (read, P.both_accepted (shape_of c) kind (nodes f) f read.0 ((sheet-accepted (SheetLayout.encode kind f) (actions c) w.actions_few kind f).1 (refl, v)))
