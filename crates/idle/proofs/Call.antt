-- No call for C that meets its promise is idle: what C reads off it is what the question promises. Assumes nothing.
use Prim.Native.Nat.{ℕ}
use mathlib.Core.Path.{◌≡◌, refl, sym, ap, ◌∙◌}
use mathlib.Core.List.{List}
use lib.Dec.{eqb}
use lib.ListN.{length}
use borrow.Author.Tests.{eq-eqb, ne_eqb}
use Rattle.settle.specs.Test.{pick}
use Rattle.refusal.specs.Refusal.{input_number}
use Rattle.refusal.specs.declared.Input.{Input}
use Rattle.refusal.specs.declared.Refusal.{Refusal}
use Rattle.nearness.specs.Relation.{Near, Simulating}
use Rattle.relation.specs.Promise.{Saying, Relations, MatrixPromise}
use Rattle.equal.specs.Promise.{RowsPromise, PairsPromise}
use Rattle.property.specs.Promise.{PropertyPromise}
use Rattle.both_solutions.specs.Promise.{BothPromise}
use Rattle.check_reasons.specs.Promise.{CheckPromise}
use Rattle.compare.specs.Promise.{ComparePromise}
use Rattle.calls.specs.Packing.{packed}
use Rattle.calls.specs.Shown.{lent, matrix_code, matrix_states, matrix_rounds, equal_code, counted_left, EqualShown, property_code, word_left, count_left, rounds_left, both_code, least_left, greatest_left, written_code, written_left, check_code, lines_left, compare_code, compare_written, compare_rounds, MatrixShown, MarksShown, SimulationShown, PropertyShown, BothShown, WrittenShown, CheckShown, CompareShown}
use Rattle.calls.proofs.Three.{three_numbers}
use Rattle.calls.proofs.Packing.{Packable, packed_some, packing}
use Rattle.calls.proofs.Packable.{matrix_packable, rows_packable, pairs_packable, property_packable, both_packable, short_form_packable, reasons_packable, check_packable, compare_packable}
use Rattle.idle.specs.Slice.{Slice}
use Rattle.idle.specs.Matrix as Matrix
use Rattle.idle.specs.EqualRows as Rows
use Rattle.idle.specs.EqualPairs as Pairs
use Rattle.idle.specs.Property as Properties
use Rattle.idle.specs.BothSolutions as Boths
use Rattle.idle.specs.Written as Written
use Rattle.idle.specs.ShortForm.{Asked}
use Rattle.idle.specs.ShortForm as ShortForms
use Rattle.idle.specs.Reasons as Reasoning
use Rattle.idle.specs.CheckReasons as Checks
use Rattle.idle.specs.Compare as Compare
use Rattle.idle.specs.Call.{input_of, refusal_of, MatrixLeft, matrix_read, matrix_build, MeetsMatrix, EqualLeft, equal_read, rows_build, MeetsRows, pairs_build, MeetsPairs, PropertyLeft, property_read, property_build, MeetsProperty, BothLeft, both_read, both_build, MeetsBoth, WrittenLeft, written_read, written_build, MeetsWritten, CheckLeft, check_read, check_build, MeetsCheck, CompareLeft, compare_read, compare_build, MeetsCompare}
use Rattle.idle.proofs.Marks.{marks_not_idle}
use Rattle.idle.proofs.Simulation.{simulation_not_idle}
use Rattle.idle.proofs.EqualRows.{equal_rows_not_idle}
use Rattle.idle.proofs.EqualPairs.{equal_pairs_not_idle}
use Rattle.idle.proofs.Property.{property_not_idle}
use Rattle.idle.proofs.BothSolutions.{both_not_idle}
use Rattle.idle.proofs.ShortForm.{short_form_not_idle}
use Rattle.idle.proofs.Reasons.{reasons_not_idle}
use Rattle.idle.proofs.CheckReasons.{check_not_idle}
use Rattle.idle.proofs.Compare.{compare_not_idle}
use Rattle.std.specs.Prelude.{Result, Ok, Err}
use Rattle.both_solutions.specs.declared.Solutions.{Solutions}
use Rattle.compare.specs.declared.Comparison.{Comparison}
use Rattle.relation.specs.declared.Matrix.{Matrix}
use Rattle.solve.specs.declared.Solved.{Solved}

-- ---- a refusal is read back from its code

input_back : (i : Input) → input_of (input_number i) ≡ i
input_back Input.Chart = refl
input_back Input.Sheet = refl
input_back Input.BufferOrName = refl
input_back Input.SecondChart = refl

refusal_back : (r : Refusal) → Packable r → refusal_of (packed r) ≡ r
refusal_back r fits = let p = packing r fits in same (ap input_of p.input_is ∙ input_back r.input) p.number_is p.place_is p.byte_is
  where
    same : {i j : Input} {n m p q b d : ℕ} → i ≡ j → n ≡ m → p ≡ q → b ≡ d
        → ◌≡◌ {A = Refusal} (record { input = i; number = n; place = p; byte = b }) (record { input = j; number = m; place = q; byte = d })
    same e f g h = cc

module _ {A : Type 0} (Promise : A → Type 0) (refused : Refusal → A) (given : A) (code : ℕ) where
  abbrev Read : A
  Read = pick (eqb code 0) given (refused (refusal_of code))

  read_given : code ≡ 0 → Promise given → Promise Read
  read_given e p = rw (eq-eqb code 0 e) p

  read_refused : (r : Refusal) → Packable r → code ≡ packed r → Promise (refused r) → Promise Read
  read_refused r fits e p = rw (ne_eqb code 0 (λ z. packed_some r fits (sym e ∙ z)), e, refusal_back r fits) p

-- ---- marks and simulation

module _ {Says : Saying} {R : Relations} (chart old : List ℕ) (states rounds : ℕ) (x : MatrixLeft) where
  matrix_promised : MatrixShown (MatrixPromise Says R) chart old x.bytes (lent states x.states) (lent rounds x.rounds) x.code → MatrixPromise Says R chart old x.bytes (matrix_read x)
  matrix_promised s = go s.answer s.promised s.code_is s.states_is s.rounds_is
    where
      go : (a : Result Matrix Refusal) → MatrixPromise Says R chart old x.bytes a → x.code ≡ matrix_code a → x.states ≡ matrix_states states a → x.rounds ≡ matrix_rounds rounds a
          → MatrixPromise Says R chart old x.bytes (matrix_read x)
      go (Ok g) p c e f = read_given (MatrixPromise Says R chart old x.bytes) Err _ x.code c (rw (e, f) p)
      go (Err r) p c e f = read_refused (MatrixPromise Says R chart old x.bytes) Err _ x.code r (matrix_packable chart old x.bytes r p) c p

module _ (states rounds : ℕ) (call : Slice → Slice → MatrixLeft) where
  pub marks_call_not_idle : MeetsMatrix MarksShown states rounds call → Matrix.NotIdle Near 0 1 (matrix_build call)
  marks_call_not_idle s = marks_not_idle (matrix_build call) (λ chart old. matrix_promised chart.0 old.0 states rounds (call chart old) (s chart old))

  pub simulation_call_not_idle : MeetsMatrix SimulationShown states rounds call → Matrix.NotIdle Simulating 1 0 (matrix_build call)
  simulation_call_not_idle s = simulation_not_idle (matrix_build call) (λ chart old. matrix_promised chart.0 old.0 states rounds (call chart old) (s chart old))

-- ---- equal rows and equal pairs

-- where every refusal that the question promises can be packed
equal_promised : (Promise : Result ℕ Refusal → Type 0) → ((r : Refusal) → Promise (Err r) → Packable r) → (counted : ℕ) (x : EqualLeft) → EqualShown Promise (lent counted x.counted) x.code → Promise (equal_read x)
equal_promised Promise packable counted x s = go s.answer s.promised s.code_is s.counted_is
  where
    go : (a : Result ℕ Refusal) → Promise a → x.code ≡ equal_code a → x.counted ≡ counted_left counted a → Promise (equal_read x)
    go (Ok count) p c e = read_given Promise Err _ x.code c (rw e p)
    go (Err r) p c e = read_refused Promise Err _ x.code r (packable r p) c p

pub equal_rows_call_not_idle : (states : ℕ) (call : Slice → Rows.Words → EqualLeft) → MeetsRows states call → Rows.NotIdle (rows_build call)
equal_rows_call_not_idle states call s =
    equal_rows_not_idle (rows_build call) (λ chart old. equal_promised (RowsPromise chart.0 old.0 (call chart old).words) (rows_packable chart.0 old.0 (call chart old).words) states (call chart old) (s chart old))

pub equal_pairs_call_not_idle : (pairs : ℕ) (call : Slice → EqualLeft) → MeetsPairs pairs call → Pairs.NotIdle (pairs_build call)
equal_pairs_call_not_idle pairs call s =
    equal_pairs_not_idle (pairs_build call) (λ chart. equal_promised (PairsPromise chart.0) (pairs_packable chart.0) pairs (call chart) (s chart))

-- ---- property

property_promised : (chart sheet : List ℕ) (word count rounds : ℕ) (x : PropertyLeft)
    → PropertyShown chart sheet (lent word x.word) (lent count x.count) (lent rounds x.rounds) x.code → PropertyPromise chart sheet (property_read x)
property_promised chart sheet word count rounds x s = go s.answer s.promised s.code_is s.word_is s.count_is s.rounds_is
  where
    go : (a : Result Solved Refusal) → PropertyPromise chart sheet a → x.code ≡ property_code a → x.word ≡ word_left word a → x.count ≡ count_left count a → x.rounds ≡ rounds_left rounds a
        → PropertyPromise chart sheet (property_read x)
    go (Ok a) p c e f g = read_given (PropertyPromise chart sheet) Err _ x.code c (rw (e, f, g) p)
    go (Err r) p c e f g = read_refused (PropertyPromise chart sheet) Err _ x.code r (property_packable chart sheet r p) c p

pub property_call_not_idle : (word count rounds : ℕ) (call : Slice → Slice → PropertyLeft) → MeetsProperty word count rounds call → Properties.NotIdle (property_build call)
property_call_not_idle word count rounds call s =
    property_not_idle (property_build call) (λ chart sheet. property_promised chart.0 sheet.0 word count rounds (call chart sheet) (s chart sheet))

-- ---- both solutions

both_promised : (chart sheet least greatest : List ℕ) → length least ≡ 3 → length greatest ≡ 3 → (x : BothLeft)
    → BothShown chart sheet least x.least greatest x.greatest x.code → BothPromise chart sheet (both_read x)
both_promised chart sheet least greatest three also x s = go s.answer s.promised s.code_is s.least_is s.greatest_is
  where
    go : (a : Result Solutions Refusal) → BothPromise chart sheet a → x.code ≡ both_code a → x.least ≡ least_left least a → x.greatest ≡ greatest_left greatest a → BothPromise chart sheet (both_read x)
    go (Ok a) p c e f = read_given (BothPromise chart sheet) Err _ x.code c (rw (e ∙ three_numbers least three a.least, f ∙ three_numbers greatest also a.greatest) p)
    go (Err r) p c e f = read_refused (BothPromise chart sheet) Err _ x.code r (both_packable chart sheet r p) c p

pub both_call_not_idle : (least greatest : List ℕ) → length least ≡ 3 → length greatest ≡ 3 → (call : Slice → Slice → BothLeft) → MeetsBoth least greatest call → Boths.NotIdle (both_build call)
both_call_not_idle least greatest three also call s = both_not_idle (both_build call) (λ chart sheet. both_promised chart.0 sheet.0 least greatest three also (call chart sheet) (s chart sheet))

-- ---- short form and reasons

-- where every refusal that the question promises can be packed
written_promised : {Promise : List ℕ → List ℕ → Result ℕ Refusal → Type 0} → ((old new : List ℕ) (r : Refusal) → Promise old new (Err r) → Packable r)
    → (old : List ℕ) (written : ℕ) (x : WrittenLeft) → WrittenShown Promise old x.bytes (lent written x.written) x.code → Promise old x.bytes (written_read x)
written_promised {Promise} packable old written x s = go s.answer s.promised s.code_is s.written_is
  where
    go : (a : Result ℕ Refusal) → Promise old x.bytes a → x.code ≡ written_code a → x.written ≡ written_left written a → Promise old x.bytes (written_read x)
    go (Ok length) p c e = read_given (Promise old x.bytes) Err _ x.code c (rw e p)
    go (Err r) p c e = read_refused (Promise old x.bytes) Err _ x.code r (packable old x.bytes r p) c p

pub short_form_call_not_idle : (written : ℕ) (call : Asked → Slice → WrittenLeft) → MeetsWritten ShortForms.Promise written call → Written.NotIdle (written_build call)
short_form_call_not_idle written call s =
    short_form_not_idle (written_build call) (λ i old. written_promised (short_form_packable i.chart.0 i.sheet.0 i.name) old.0 written (call i old) (s i old))

pub reasons_call_not_idle : (written : ℕ) (call : Slice → Slice → WrittenLeft) → MeetsWritten Reasoning.Promise written call → Reasoning.NotIdle (written_build call)
reasons_call_not_idle written call s =
    reasons_not_idle (written_build call) (λ chart old. written_promised (reasons_packable chart.0) old.0 written (call chart old) (s chart old))

-- ---- the check of a list

check_promised : (chart list : List ℕ) (lines : ℕ) (x : CheckLeft) → CheckShown chart list (lent lines x.lines) x.code → CheckPromise chart list (check_read x)
check_promised chart list lines x s = go s.answer s.promised s.code_is s.lines_is
  where
    go : (a : Result ℕ Refusal) → CheckPromise chart list a → x.code ≡ check_code a → x.lines ≡ lines_left lines a → CheckPromise chart list (check_read x)
    go (Ok count) p c e = read_given (CheckPromise chart list) Err _ x.code c (rw e p)
    go (Err r) p c e = read_refused (CheckPromise chart list) Err _ x.code r (check_packable chart list r p) c p

pub check_call_not_idle : (lines : ℕ) (call : Slice → Slice → CheckLeft) → MeetsCheck lines call → Checks.NotIdle (check_build call)
check_call_not_idle lines call s = check_not_idle (check_build call) (λ chart list. check_promised chart.0 list.0 lines (call chart list) (s chart list))

-- ---- compare

compare_promised : (first second old : List ℕ) (written rounds : ℕ) (x : CompareLeft)
    → CompareShown first second old x.bytes (lent written x.written) (lent rounds x.rounds) x.code → ComparePromise first second old x.bytes (compare_read x)
compare_promised first second old written rounds x s = go s.answer s.promised s.code_is s.written_is s.rounds_is
  where
    go : (a : Result Comparison Refusal) → ComparePromise first second old x.bytes a → x.code ≡ compare_code a → x.written ≡ compare_written written a → x.rounds ≡ compare_rounds rounds a
        → ComparePromise first second old x.bytes (compare_read x)
    go (Ok a) p c e f = read_given (ComparePromise first second old x.bytes) Err _ x.code c (rw (e, f) p)
    go (Err r) p c e f = read_refused (ComparePromise first second old x.bytes) Err _ x.code r (compare_packable first second old x.bytes r p) c p

pub compare_call_not_idle : (written rounds : ℕ) (call : Slice → Slice → Slice → CompareLeft) → MeetsCompare written rounds call → Compare.NotIdle (compare_build call)
compare_call_not_idle written rounds call s =
    compare_not_idle (compare_build call) (λ first second old. compare_promised first.0 second.0 old.0 written rounds (call first second old) (s first second old))
