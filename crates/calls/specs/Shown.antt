-- What each call from C leaves: the code, 0 where the question was answered; each lent number, written only then; the lent bytes, as the question
-- promises of them.
use Rattle.std.specs.Prelude.{ℕ, ◌≡◌, List, set}
use Rattle.marks.specs.Promise.{MarksPromise}
use Rattle.simulation.specs.Promise.{SimulationPromise}
use Rattle.equal.specs.Promise.{RowsPromise, PairsPromise}
use Rattle.property.specs.Promise.{PropertyPromise}
use Rattle.solve.specs.declared.Solved.{Solved}
use Rattle.both_solutions.specs.Promise.{BothPromise}
use Rattle.short_form.specs.Promise.{ShortFormPromise}
use Rattle.reasons.specs.Promise.{ReasonsPromise}
use Rattle.check_reasons.specs.Promise.{CheckPromise}
use Rattle.compare.specs.Promise.{ComparePromise}
use Rattle.calls.specs.Packing.{packed}
use Rattle.std.specs.Prelude.{Result, Ok, Err}
use Rattle.both_solutions.specs.declared.Solutions.{Solutions}
use Rattle.compare.specs.declared.Comparison.{Comparison}
use Rattle.refusal.specs.declared.Refusal.{Refusal}
use Rattle.relation.specs.declared.Matrix.{Matrix}

-- a lent number before and after a call
pub record Lent : Type 0 where
  pub before : ℕ
  pub after : ℕ

abbrev pub lent : ℕ → ℕ → Lent
lent old new = record { before = old; after = new }

-- ---- marks and simulation: the code, the number of states and the rounds of a matrix

abbrev pub matrix_code : Result Matrix Refusal → ℕ
matrix_code (Ok given) = 0
matrix_code (Err r) = packed r

abbrev pub matrix_states : ℕ → Result Matrix Refusal → ℕ
matrix_states old (Ok given) = given.states
matrix_states old (Err r) = old

abbrev pub matrix_rounds : ℕ → Result Matrix Refusal → ℕ
matrix_rounds old (Ok given) = given.rounds
matrix_rounds old (Err r) = old

-- Promise is what the question promises of the chart, the lent bytes before and after, and the answer
pub record MatrixShown (Promise : List ℕ → List ℕ → List ℕ → Result Matrix Refusal → Type 0) (chart old new : List ℕ) (states rounds : Lent) (code : ℕ) : Type 0 where
  pub answer : Result Matrix Refusal
  pub promised : Promise chart old new answer
  pub code_is : code ≡ matrix_code answer
  pub states_is : states.after ≡ matrix_states states.before answer
  pub rounds_is : rounds.after ≡ matrix_rounds rounds.before answer

abbrev pub MarksShown : List ℕ → List ℕ → List ℕ → Lent → Lent → ℕ → Type 0
MarksShown = MatrixShown MarksPromise

abbrev pub SimulationShown : List ℕ → List ℕ → List ℕ → Lent → Lent → ℕ → Type 0
SimulationShown = MatrixShown SimulationPromise

-- ---- equal rows and equal pairs: the number of states, or of pairs

abbrev pub equal_code : Result ℕ Refusal → ℕ
equal_code (Ok count) = 0
equal_code (Err r) = packed r

abbrev pub counted_left : ℕ → Result ℕ Refusal → ℕ
counted_left old (Ok count) = count
counted_left old (Err r) = old

-- Promise is what the question promises of the answer, and of the words that are lent for it
pub record EqualShown (Promise : Result ℕ Refusal → Type 0) (counted : Lent) (code : ℕ) : Type 0 where
  pub answer : Result ℕ Refusal
  pub promised : Promise answer
  pub code_is : code ≡ equal_code answer
  pub counted_is : counted.after ≡ counted_left counted.before answer

-- of 64 lent words, before and after: `sixty_four_words` of equal says what they are then
abbrev pub EqualRowsShown : List ℕ → List ℕ → List ℕ → Lent → ℕ → Type 0
EqualRowsShown chart old new = EqualShown (RowsPromise chart old new)

abbrev pub EqualPairsShown : List ℕ → Lent → ℕ → Type 0
EqualPairsShown chart = EqualShown (PairsPromise chart)

-- ---- property

abbrev pub property_code : Result Solved Refusal → ℕ
property_code (Ok a) = 0
property_code (Err r) = packed r

abbrev pub word_left : ℕ → Result Solved Refusal → ℕ
word_left old (Ok a) = a.word
word_left old (Err r) = old

abbrev pub count_left : ℕ → Result Solved Refusal → ℕ
count_left old (Ok a) = a.count
count_left old (Err r) = old

abbrev pub rounds_left : ℕ → Result Solved Refusal → ℕ
rounds_left old (Ok a) = a.rounds
rounds_left old (Err r) = old

pub record PropertyShown (chart sheet : List ℕ) (word count rounds : Lent) (code : ℕ) : Type 0 where
  pub answer : Result Solved Refusal
  pub promised : PropertyPromise chart sheet answer
  pub code_is : code ≡ property_code answer
  pub word_is : word.after ≡ word_left word.before answer
  pub count_is : count.after ≡ count_left count.before answer
  pub rounds_is : rounds.after ≡ rounds_left rounds.before answer

-- ---- both solutions: three numbers are lent for each

abbrev pub both_code : Result Solutions Refusal → ℕ
both_code (Ok a) = 0
both_code (Err r) = packed r

-- the word, the count and the rounds in their place. Where three numbers were lent these are all of them: `three_numbers` of proofs/Three.antt
abbrev pub solved_in : List ℕ → Solved → List ℕ
solved_in old a = set (set (set old 0 a.word) 1 a.count) 2 a.rounds

abbrev pub least_left : List ℕ → Result Solutions Refusal → List ℕ
least_left old (Ok a) = solved_in old a.least
least_left old (Err r) = old

abbrev pub greatest_left : List ℕ → Result Solutions Refusal → List ℕ
greatest_left old (Ok a) = solved_in old a.greatest
greatest_left old (Err r) = old

-- the numbers lent for the least solution, before and after, and those for the greatest
pub record BothShown (chart sheet least new_least greatest new_greatest : List ℕ) (code : ℕ) : Type 0 where
  pub answer : Result Solutions Refusal
  pub promised : BothPromise chart sheet answer
  pub code_is : code ≡ both_code answer
  pub least_is : new_least ≡ least_left least answer
  pub greatest_is : new_greatest ≡ greatest_left greatest answer

-- ---- bytes in a lent buffer: short form, and reasons

abbrev pub written_code : Result ℕ Refusal → ℕ
written_code (Ok length) = 0
written_code (Err r) = packed r

abbrev pub written_left : ℕ → Result ℕ Refusal → ℕ
written_left old (Ok length) = length
written_left old (Err r) = old

-- Promise is what the question promises of the lent bytes before and after, and of the answer
pub record WrittenShown (Promise : List ℕ → List ℕ → Result ℕ Refusal → Type 0) (old new : List ℕ) (written : Lent) (code : ℕ) : Type 0 where
  pub answer : Result ℕ Refusal
  pub promised : Promise old new answer
  pub code_is : code ≡ written_code answer
  pub written_is : written.after ≡ written_left written.before answer

abbrev pub ShortFormShown : List ℕ → List ℕ → ℕ → List ℕ → List ℕ → Lent → ℕ → Type 0
ShortFormShown chart sheet name = WrittenShown (ShortFormPromise chart sheet name)

abbrev pub ReasonsShown : List ℕ → List ℕ → List ℕ → Lent → ℕ → Type 0
ReasonsShown chart = WrittenShown (ReasonsPromise chart)

-- ---- the check of a list of reasons

abbrev pub check_code : Result ℕ Refusal → ℕ
check_code (Ok lines) = 0
check_code (Err r) = packed r

abbrev pub lines_left : ℕ → Result ℕ Refusal → ℕ
lines_left old (Ok lines) = lines
lines_left old (Err r) = old

pub record CheckShown (chart list : List ℕ) (lines : Lent) (code : ℕ) : Type 0 where
  pub answer : Result ℕ Refusal
  pub promised : CheckPromise chart list answer
  pub code_is : code ≡ check_code answer
  pub lines_is : lines.after ≡ lines_left lines.before answer

-- ---- compare

abbrev pub compare_code : Result Comparison Refusal → ℕ
compare_code (Ok a) = 0
compare_code (Err r) = packed r

abbrev pub compare_written : ℕ → Result Comparison Refusal → ℕ
compare_written old (Ok a) = a.written
compare_written old (Err r) = old

abbrev pub compare_rounds : ℕ → Result Comparison Refusal → ℕ
compare_rounds old (Ok a) = a.rounds
compare_rounds old (Err r) = old

pub record CompareShown (first second old new : List ℕ) (written rounds : Lent) (code : ℕ) : Type 0 where
  pub answer : Result Comparison Refusal
  pub promised : ComparePromise first second old new answer
  pub code_is : code ≡ compare_code answer
  pub written_is : written.after ≡ compare_written written.before answer
  pub rounds_is : rounds.after ≡ compare_rounds rounds.before answer
