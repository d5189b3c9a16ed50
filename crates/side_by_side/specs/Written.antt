-- The parts of the chart that is written: everything before the triples, and the triples of one chart.
use Rattle.std.specs.Prelude.{ℕ, ◌+◌, ◌/◌, ◌%◌, List, [], ◌∷◌, ◌++◌, map, length, get_or}
use Rattle.chart.specs.Chart.{Step}
use Rattle.chart.specs.Reading.{chart_in}
use Rattle.chart.specs.declared.Shape.{Shape}
use Rattle.beside.specs.Partner.{code_of}

-- states, actions, transitions, each after its count, up to the first triple
unfoldable pub head : List ℕ → List ℕ → List ℕ → ℕ → List ℕ
head first second codes t = (length first + length second) ∷ (first ++ second) ++ (length codes ∷ codes ++ (t % 256 ∷ t / 256 ∷ []))

-- a step of the chart in these bytes, its action by its code's place and its states by `shift` further on
abbrev pub tabled : List ℕ → Shape → List ℕ → ℕ → Step → Step
tabled bytes sh places shift t = record { source = shift + t.source; action = get_or places (code_of (chart_in bytes sh) t) 0; target = shift + t.target }

abbrev pub tabled_steps : List ℕ → Shape → List ℕ → ℕ → List Step
tabled_steps bytes sh places shift = map (tabled bytes sh places shift) (chart_in bytes sh).steps
