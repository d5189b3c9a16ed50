-- What C reads off a call, as an answer of the question: with the lent numbers where the code is 0, else the refusal that the header's macros
-- take from the code. So a call for C is a build of its question; `marks_call_not_idle` and the like of proofs/Call.antt say that it is not idle.
use Rattle.std.specs.Prelude.{ℕ, ◌/◌, ◌%◌, List, eqb, get_or}
use Rattle.settle.specs.Test.{pick}
use Rattle.refusal.specs.declared.Input.{Input}
use Rattle.refusal.specs.declared.Refusal.{Refusal}
use Rattle.solve.specs.declared.Solved.{Solved}
use Rattle.calls.specs.Shown.{Lent, lent, EqualRowsShown, EqualPairsShown, PropertyShown, BothShown, WrittenShown, CheckShown, CompareShown}
use Rattle.idle.specs.Slice.{Slice}
use Rattle.idle.specs.Matrix as Matrix
use Rattle.idle.specs.EqualRows as Rows
use Rattle.idle.specs.EqualPairs as Pairs
use Rattle.idle.specs.Property as Properties
use Rattle.idle.specs.BothSolutions as Boths
use Rattle.idle.specs.Written as Written
use Rattle.idle.specs.CheckReasons as Checks
use Rattle.idle.specs.Compare as Compare
use Rattle.std.specs.Prelude.{Result, Ok, Err}
use Rattle.both_solutions.specs.declared.Solutions.{Solutions}
use Rattle.compare.specs.declared.Comparison.{Comparison}
use Rattle.relation.specs.declared.Matrix.{Matrix}

-- 0 chart, 1 sheet, 2 buffer or name, 3 second chart
abbrev pub input_of : ℕ → Input
input_of number = pick (eqb number 0) Input.Chart (pick (eqb number 1) Input.Sheet (pick (eqb number 2) Input.BufferOrName Input.SecondChart))

abbrev pub refusal_of : ℕ → Refusal
refusal_of code = record { input = input_of (code / 256 % 256); number = code % 256; place = code / 65536 % 4294967296; byte = code / 281474976710656 % 256 }

-- ---- marks and simulation

pub record MatrixLeft : Type 0 where
  pub code : ℕ
  pub bytes : List ℕ
  pub states : ℕ
  pub rounds : ℕ

abbrev pub matrix_read : MatrixLeft → Result Matrix Refusal
matrix_read x = pick (eqb x.code 0) (Ok (record { states = x.states; rounds = x.rounds })) (Err (refusal_of x.code))

abbrev pub matrix_build : (Slice → Slice → MatrixLeft) → Matrix.Build
matrix_build call chart old = (matrix_read (call chart old), (call chart old).bytes)

-- it keeps what is shown to C, whatever the lent numbers were
abbrev pub MeetsMatrix : (List ℕ → List ℕ → List ℕ → Lent → Lent → ℕ → Type 0) → ℕ → ℕ → (Slice → Slice → MatrixLeft) → Type 0
MeetsMatrix Shown states rounds call = (chart old : Slice) → let x = call chart old in
    Shown chart.0 old.0 x.bytes (lent states x.states) (lent rounds x.rounds) x.code

-- ---- equal rows and equal pairs

pub record EqualLeft : Type 0 where
  pub code : ℕ
  pub words : List ℕ
  pub counted : ℕ

abbrev pub equal_read : EqualLeft → Result ℕ Refusal
equal_read x = pick (eqb x.code 0) (Ok x.counted) (Err (refusal_of x.code))

abbrev pub rows_build : (Slice → Rows.Words → EqualLeft) → Rows.Build
rows_build call chart old = (equal_read (call chart old), (call chart old).words)

abbrev pub MeetsRows : ℕ → (Slice → Rows.Words → EqualLeft) → Type 0
MeetsRows states call = (chart : Slice) (old : Rows.Words) → let x = call chart old in EqualRowsShown chart.0 old.0 x.words (lent states x.counted) x.code

-- no words are lent for the pairs
abbrev pub pairs_build : (Slice → EqualLeft) → Pairs.Build
pairs_build call chart = equal_read (call chart)

abbrev pub MeetsPairs : ℕ → (Slice → EqualLeft) → Type 0
MeetsPairs pairs call = (chart : Slice) → let x = call chart in EqualPairsShown chart.0 (lent pairs x.counted) x.code

-- ---- property

pub record PropertyLeft : Type 0 where
  pub code : ℕ
  pub word : ℕ
  pub count : ℕ
  pub rounds : ℕ

abbrev pub property_read : PropertyLeft → Result Solved Refusal
property_read x = pick (eqb x.code 0) (Ok (record { word = x.word; count = x.count; rounds = x.rounds })) (Err (refusal_of x.code))

abbrev pub property_build : (Slice → Slice → PropertyLeft) → Properties.Build
property_build call chart sheet = property_read (call chart sheet)

abbrev pub MeetsProperty : ℕ → ℕ → ℕ → (Slice → Slice → PropertyLeft) → Type 0
MeetsProperty word count rounds call = (chart sheet : Slice) → let x = call chart sheet in
    PropertyShown chart.0 sheet.0 (lent word x.word) (lent count x.count) (lent rounds x.rounds) x.code

-- ---- both solutions

pub record BothLeft : Type 0 where
  pub code : ℕ
  pub least : List ℕ
  pub greatest : List ℕ

abbrev pub solved_of : List ℕ → Solved
solved_of numbers = record { word = get_or numbers 0 0; count = get_or numbers 1 0; rounds = get_or numbers 2 0 }

abbrev pub both_read : BothLeft → Result Solutions Refusal
both_read x = pick (eqb x.code 0) (Ok (record { least = solved_of x.least; greatest = solved_of x.greatest })) (Err (refusal_of x.code))

abbrev pub both_build : (Slice → Slice → BothLeft) → Boths.Build
both_build call chart sheet = both_read (call chart sheet)

-- the numbers lent for each solution, before the call; that three are lent is asked by `both_call_not_idle`
abbrev pub MeetsBoth : List ℕ → List ℕ → (Slice → Slice → BothLeft) → Type 0
MeetsBoth least greatest call = (chart sheet : Slice) → let x = call chart sheet in BothShown chart.0 sheet.0 least x.least greatest x.greatest x.code

-- ---- bytes in a lent buffer: short form, and reasons

pub record WrittenLeft : Type 0 where
  pub code : ℕ
  pub bytes : List ℕ
  pub written : ℕ

abbrev pub written_read : WrittenLeft → Result ℕ Refusal
written_read x = pick (eqb x.code 0) (Ok x.written) (Err (refusal_of x.code))

abbrev pub written_build : {I : Type 0} → (I → Slice → WrittenLeft) → Written.Build I
written_build call i old = (written_read (call i old), (call i old).bytes)

-- Promise is what the question promises of what is given, of the lent bytes before and after, and of the answer
abbrev pub MeetsWritten : {I : Type 0} → (I → List ℕ → List ℕ → Result ℕ Refusal → Type 0) → ℕ → (I → Slice → WrittenLeft) → Type 0
MeetsWritten {I} Promise written call = (i : I) (old : Slice) → let x = call i old in WrittenShown (Promise i) old.0 x.bytes (lent written x.written) x.code

-- ---- the check of a list

pub record CheckLeft : Type 0 where
  pub code : ℕ
  pub lines : ℕ

abbrev pub check_read : CheckLeft → Result ℕ Refusal
check_read x = pick (eqb x.code 0) (Ok x.lines) (Err (refusal_of x.code))

abbrev pub check_build : (Slice → Slice → CheckLeft) → Checks.Build
check_build call chart list = check_read (call chart list)

abbrev pub MeetsCheck : ℕ → (Slice → Slice → CheckLeft) → Type 0
MeetsCheck lines call = (chart list : Slice) → let x = call chart list in CheckShown chart.0 list.0 (lent lines x.lines) x.code

-- ---- compare

pub record CompareLeft : Type 0 where
  pub code : ℕ
  pub bytes : List ℕ
  pub written : ℕ
  pub rounds : ℕ

abbrev pub compare_read : CompareLeft → Result Comparison Refusal
compare_read x = pick (eqb x.code 0) (Ok (record { written = x.written; rounds = x.rounds })) (Err (refusal_of x.code))

abbrev pub compare_build : (Slice → Slice → Slice → CompareLeft) → Compare.Build
compare_build call first second old = (compare_read (call first second old), (call first second old).bytes)

abbrev pub MeetsCompare : ℕ → ℕ → (Slice → Slice → Slice → CompareLeft) → Type 0
MeetsCompare written rounds call = (first second old : Slice) → let x = call first second old in
    CompareShown first.0 second.0 old.0 x.bytes (lent written x.written) (lent rounds x.rounds) x.code
