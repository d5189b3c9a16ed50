-- Every refusal that a question promises can be packed: its number is from 1 to 21, its place not past the longest chart or the lines of the
-- longest list, and its byte one of a triple. Assumes nothing.
use Prim.Native.Nat.{ℕ, ◌*◌, ◌≤◌, ◌<◌}
use mathlib.Core.Path.{◌≡◌, refl, sym, ap, subst⁻¹}
use mathlib.Core.Logic.{⊎_elim}
use mathlib.Core.List.{List}
use native.Mathlib.Omega.{arith}
use native.Mathlib.Decide.{dec_lt}
use lib.ListN.{length}
use Rattle.refusal.specs.Refusal.{lent_refusal}
use Rattle.refusal.specs.declared.Refusal.{Refusal}
use Rattle.chart.specs.Reading.{read_chart, chart_in}
use Rattle.chart.specs.declared.Shape.{Shape}
use Rattle.chart.proofs.Refused.{refused as chart_refused}
use Rattle.chart.proofs.Accepted.{accepted}
use Rattle.sheet.specs.Formula.{Formula, nodes}
use Rattle.sheet.specs.Reading.{Sheet, sheet, refused, read_sheet}
use Rattle.sheet.proofs.Found.{number_some, number_few, bytes_few}
use Rattle.sheet.proofs.Accepted.{layout_read, refusal_small}
use Rattle.relation.specs.Promise.{Saying, Relations, MatrixPromise}
use Rattle.equal.specs.Promise.{RowsPromise, PairsPromise}
use Rattle.equal.proofs.Promise.{rows_refused_exactly, pairs_refused_exactly}
use Rattle.property.specs.Promise.{PropertyPromise}
use Rattle.property.proofs.SheetPromise.{Unread, of_chart, of_sheet}
use Rattle.property.proofs.Promise.{property_refused_exactly}
use Rattle.both_solutions.specs.Promise.{BothPromise}
use Rattle.both_solutions.proofs.Promise.{both_refused_exactly}
use Rattle.lent.specs.Lent.{refuses}
use Rattle.lent.proofs.Lent.{no_bytes, refused_by}
use Rattle.short_form.specs.Promise.{Form, form_of, form_of_sheet, form_of_chart, outcome_of, ShortFormPromise}
use Rattle.short_form.proofs.Scan.{before_within}
use Rattle.short_form.proofs.Promise.{form_cases}
use Rattle.reason.specs.Line.{lines_in}
use Rattle.reason.proofs.Bytes.{lines_length}
use Rattle.reason.proofs.Few.{good_few, pairs_few}
use Rattle.reasons.specs.Promise.{ReasonsPromise}
use Rattle.reasons.specs.Promise as Reasons
use Rattle.check_reasons.specs.Promise.{CheckPromise}
use Rattle.check_reasons.specs.Promise as Checks
use Rattle.beside.proofs.Reading.{Refusing, of_first, of_second_lem, of_both, two_refused}
use Rattle.compare.specs.Promise.{ComparePromise}
use Rattle.compare.proofs.Told.{compare_refused}
use Rattle.calls.proofs.Packing.{Packable}
use Rattle.std.specs.Prelude.{Result, Ok, Err}

packable_as : {r s : Refusal} → r ≡ s → Packable s → Packable r
packable_as e h = subst⁻¹ Packable e h

fits : {r : Refusal} → 1 ≤ r.number → r.number ≤ 21 → r.place ≤ 4032 → r.byte ≤ 2 → Packable r
fits some few near within = record { number_some = some; number_few = few; place_few = near; byte_few = within }

chart_packable : (chart : List ℕ) (r : Refusal) → read_chart chart ≡ Err r → Packable r
chart_packable chart r e = let p = chart_refused chart r e in fits p.number_some (omega (arith, p.number_few)) (omega (arith, p.place_few)) (omega (arith, p.byte_few))

sheet_packable : (bytes : List ℕ) (m : ℕ) (r : Refusal) → read_sheet bytes m ≡ refused r → Packable r
sheet_packable bytes m r e = let p = refusal_small bytes m r e in fits (number_some p) (omega (arith, number_few p)) (omega (arith, p.place_small)) (omega (arith, ap (λ (x : Refusal). x.byte) p.of_sheet))

lent_packable : (number : ℕ) → 1 ≤ number → number ≤ 21 → Packable (lent_refusal number)
lent_packable number some few = fits some few (omega arith) (omega arith)

-- an answer that refuses has one refusal
out : {X : Type 0} (r s : Refusal) → ◌≡◌ {A = Result X Refusal} (Err r) (Err s) → r ≡ s
out r s e = cc

-- ---- marks and simulation

pub matrix_packable : {Says : Saying} {R : Relations} (chart old new : List ℕ) (r : Refusal) → MatrixPromise Says R chart old new (Err r) → Packable r
matrix_packable chart old new r p = by_chart (read_chart chart) refl
  where
    by_room : (sh : Shape) → read_chart chart ≡ Ok sh → Dec (length old < sh.n * sh.n) → Packable r
    by_room sh e (yes l) = packable_as (out r _ (p.then_too_short sh e l)) (lent_packable 14 (omega arith) (omega arith))
    by_room sh e (no l) = packable_as (p.then_answered sh e (omega arith)).0 (lent_packable 15 (omega arith) (omega arith))

    by_chart : (x : Result Shape Refusal) → read_chart chart ≡ x → Packable r
    by_chart (Err s) e = packable_as (out r s (p.chart_refused s e)) (chart_packable chart s e)
    by_chart (Ok sh) e = by_room sh e (dec_lt (length old) (sh.n * sh.n))

-- ---- equal rows and equal pairs

pub rows_packable : (chart old new : List ℕ) (r : Refusal) → RowsPromise chart old new (Err r) → Packable r
rows_packable chart old new r p = chart_packable chart r ((rows_refused_exactly chart old new _ p r).0 refl)

pub pairs_packable : (chart : List ℕ) (r : Refusal) → PairsPromise chart (Err r) → Packable r
pairs_packable chart r p = chart_packable chart r ((pairs_refused_exactly chart _ p r).0 refl)

-- ---- property, and both solutions

unread_packable : (chart bytes : List ℕ) (r : Refusal) → Unread chart bytes r → Packable r
unread_packable chart bytes r (of_chart e) = chart_packable chart r e
unread_packable chart bytes r (of_sheet sh e d) = sheet_packable bytes sh.m r d

pub property_packable : (chart bytes : List ℕ) (r : Refusal) → PropertyPromise chart bytes (Err r) → Packable r
property_packable chart bytes r p = unread_packable chart bytes r ((property_refused_exactly chart bytes r).0 p)

pub both_packable : (chart bytes : List ℕ) (r : Refusal) → BothPromise chart bytes (Err r) → Packable r
both_packable chart bytes r p = unread_packable chart bytes r ((both_refused_exactly chart bytes r).0 p)

-- ---- short form

refuses_is : {r s : Refusal} → refuses r ≡ refuses s → s ≡ r
refuses_is e = cc

form_packable : (name : ℕ) (f : Formula) (r : Refusal) → nodes f ≤ 200 → outcome_of (form_of name f) ≡ refuses r → Packable r
form_packable name f r few =
    form_cases name f (λ (w : Form). outcome_of w ≡ refuses r → Packable r)
    (λ e. packable_as (refuses_is e) (fits (omega arith) (omega arith) (omega (arith, before_within f, bytes_few f)) (omega arith)))
    (λ e. packable_as (refuses_is e) (lent_packable 17 (omega arith) (omega arith)))
    (λ e. packable_as (refuses_is e) (fits (omega arith) (omega arith) (omega arith) (omega arith)))
    (λ v h e. no_bytes (sym e))

pub short_form_packable : (chart bytes : List ℕ) (name : ℕ) (old new : List ℕ) (r : Refusal) → ShortFormPromise chart bytes name old new (Err r) → Packable r
short_form_packable chart bytes name old new r p = ⊎_elim (by_chart (read_chart chart) refl) (λ e. packable_as e (lent_packable 14 (omega arith) (omega arith))) (refused_by _ old new r p)
  where
    by_sheet : (sh : Shape) (x : Sheet) → read_sheet bytes sh.m ≡ x → outcome_of (form_of_sheet name x) ≡ refuses r → Packable r
    by_sheet sh (refused s) d e = packable_as (refuses_is e) (sheet_packable bytes sh.m s d)
    by_sheet sh (sheet kind count f) d e = form_packable name f r (layout_read bytes sh.m kind count f d).1.nodes_few e

    by_chart : (x : Result Shape Refusal) → read_chart chart ≡ x → outcome_of (form_of_chart bytes name x) ≡ refuses r → Packable r
    by_chart (Err s) d e = packable_as (refuses_is e) (chart_packable chart s d)
    by_chart (Ok sh) d e = by_sheet sh (read_sheet bytes sh.m) refl e

-- ---- reasons, and the check of a list

pub reasons_packable : (chart old new : List ℕ) (r : Refusal) → ReasonsPromise chart old new (Err r) → Packable r
reasons_packable chart old new r = by_chart (read_chart chart) refl
  where
    by_chart : (x : Result Shape Refusal) → read_chart chart ≡ x → Reasons.Answers chart x old new (Err r) → Packable r
    by_chart (Err s) e p = ⊎_elim (λ f. packable_as (refuses_is f) (chart_packable chart s e)) (λ f. packable_as f (lent_packable 14 (omega arith) (omega arith))) (refused_by _ old new r p)
    by_chart (Ok sh) e p = ⊎_elim (λ f. no_bytes (sym f)) (λ f. packable_as f (lent_packable 14 (omega arith) (omega arith))) (refused_by _ old new r p.written)

pub check_packable : (chart list : List ℕ) (r : Refusal) → CheckPromise chart list (Err r) → Packable r
check_packable chart list r = by_chart (read_chart chart) refl
  where
    by_chart : (x : Result Shape Refusal) → read_chart chart ≡ x → Checks.Answers chart x list (Err r) → Packable r
    by_chart (Err s) e p = packable_as (out r s p) (chart_packable chart s e)
    by_chart (Ok sh) e (i, f, b) =
        let few = good_few sh.n (chart_in chart sh).steps (lines_in list i) b.earlier_good in
        packable_as f (fits (omega arith) (omega arith) (omega (arith, lines_length list i, few, pairs_few sh.n (accepted chart sh e).states_few)) (omega arith))

-- ---- compare

pub compare_packable : (first second old new : List ℕ) (r : Refusal) → ComparePromise first second old new (Err r) → Packable r
compare_packable first second old new r p = ⊎_elim (λ e. by_reading (two_refused first second r e)) (λ e. packable_as e (lent_packable 14 (omega arith) (omega arith))) (compare_refused first second old new r p).0
  where
    by_reading : Refusing first second r → Packable r
    by_reading (of_first e) = chart_packable first r e
    by_reading (of_second_lem s e f) = let q = chart_packable second s e in packable_as f (fits q.number_some q.number_few q.place_few q.byte_few)
    by_reading (of_both number some few f) = packable_as f (lent_packable number (omega arith) (omega arith))
