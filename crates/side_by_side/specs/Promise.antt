-- What putting two charts side by side promises, for any bytes: the layout of the one chart, or the first refusal and nothing written.
use Rattle.std.specs.Prelude.{ℕ, ◌≡◌, List, length}
use Rattle.chart.specs.Chart.{states}
use Rattle.chart.specs.Layout.{encode}
use Rattle.chart.specs.Reading.{chart_in}
use Rattle.chart.specs.declared.Shape.{Shape}
use Rattle.text.specs.Text.{placed}
use Rattle.beside.specs.Beside.{beside}
use Rattle.beside.specs.Reading.{TwoRead, two, refused, read_second, read_two}
use Rattle.std.specs.Prelude.{Result, Ok, Err}
use Rattle.refusal.specs.declared.Refusal.{Refusal}
use Rattle.side_by_side.specs.declared.Joined.{Joined}

abbrev pub joining_of : TwoRead → Result Joined Refusal
joining_of (two c d) = Ok (record { length = length (encode (beside c d)); first = states c; second = states d })
joining_of (refused r) = Err r

abbrev pub bytes_of : List ℕ → TwoRead → List ℕ
bytes_of old (two c d) = placed old 0 (encode (beside c d))
bytes_of old (refused r) = old

-- old is what is lent before the call, new after
pub record Promise (read : TwoRead) (old new : List ℕ) (answer : Result Joined Refusal) : Type 0 where
  pub answered : answer ≡ joining_of read
  pub bytes : new ≡ bytes_of old read

abbrev pub TogetherPromise : List ℕ → Shape → List ℕ → Shape → List ℕ → List ℕ → Result Joined Refusal → Type 0
TogetherPromise first a second b = Promise (read_second second (chart_in first a) (Ok b))

abbrev pub JoinPromise : List ℕ → List ℕ → List ℕ → List ℕ → Result Joined Refusal → Type 0
JoinPromise first second = Promise (read_two first second)
