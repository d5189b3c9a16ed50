-- What compare promises, for any bytes as first chart, second chart and lent buffer.
use Rattle.std.specs.Prelude.{ℕ, ◌≡◌, List}
use Rattle.chart.specs.Chart.{Chart}
use Rattle.lent.specs.Lent.{writes, answer_of, bytes_of}
use Rattle.beside.specs.Reading.{TwoRead, two, refused, read_two}
use Rattle.compare.specs.Comparison.{listed, Comparison}
use Rattle.std.specs.Prelude.{Result, Ok, Err}
use Rattle.compare.specs.declared.Comparison as Struct
use Rattle.refusal.specs.declared.Refusal.{Refusal}

-- the length written, with the rounds
abbrev pub with_rounds : ℕ → Result ℕ Refusal → Result Struct.Comparison Refusal
with_rounds rounds (Ok length) = Ok (record { written = length; rounds = rounds })
with_rounds rounds (Err r) = Err r

-- two charts that stand side by side: the list fills the start of the lent buffer and later bytes stay, or 14 where the buffer is shorter. old is
-- the buffer before the call, new after
pub record Compares (c d : Chart) (old new : List ℕ) (answer : Result Struct.Comparison Refusal) : Type 0 where
  pub mark : ℕ
  pub first : List ℕ
  pub second : List ℕ
  pub rounds : ℕ
  pub comparison : Comparison c d mark first second rounds
  pub answered : answer ≡ with_rounds rounds (answer_of old (writes (listed mark first second)))
  pub bytes : new ≡ bytes_of old (writes (listed mark first second))

-- a refusal leaves every byte
abbrev pub Answers : TwoRead → List ℕ → List ℕ → Result Struct.Comparison Refusal → Type 0
Answers (two c d) old new answer = Compares c d old new answer
Answers (refused r) old new answer = (answer ≡ Err r) × (new ≡ old)

abbrev pub ComparePromise : List ℕ → List ℕ → List ℕ → List ℕ → Result Struct.Comparison Refusal → Type 0
ComparePromise first second = Answers (read_two first second)
