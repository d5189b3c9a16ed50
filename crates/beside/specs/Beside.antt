-- Two charts side by side, as one chart (document 02, T-01): the first's states and then the second's, actions matched by code.
use Rattle.std.specs.Prelude.{ℕ, ◌+◌, Bool, List, [], ◌∷◌, ◌++◌, map, length, eqb, ltb}
use Rattle.settle.specs.Test.{pick, either, any_of}
use Rattle.refusal.specs.Refusal.{lent_refusal}
use Rattle.chart.specs.Chart.{Step, Chart, states, transitions}
use Rattle.beside.specs.Partner.{code_of}
use Rattle.beside.specs.Chosen.{chosen}
use Rattle.std.specs.Prelude.{Err}
use Rattle.chart.specs.Reading.{Judged}
use Rattle.chart.specs.Reading.{faultless}

-- ---- actions, matched by code

unfoldable pub declares : List ℕ → ℕ → Bool
declares codes x = any_of (eqb x) codes

-- the codes of both, risen and single: those of the 256 bytes that one or the other declares
unfoldable pub joint_codes : Chart → Chart → List ℕ
joint_codes c d = chosen (λ x. either (declares c.codes x) (declares d.codes x)) 256

-- the action of a code: where it stands among the codes
unfoldable pub index_of : ℕ → List ℕ → ℕ
index_of x [] = 0
index_of x (y ∷ rest) = pick (eqb x y) 0 (1 + index_of x rest)

-- ---- side by side

-- a step of c, its action found among these codes and its states numbered from `shift` on
abbrev pub moved : Chart → List ℕ → ℕ → Step → Step
moved c codes shift t = record { source = shift + t.source; action = index_of (code_of c t) codes; target = shift + t.target }

abbrev pub moved_steps : Chart → List ℕ → ℕ → List Step
moved_steps c codes shift = map (moved c codes shift) c.steps

unfoldable pub beside : Chart → Chart → Chart
beside c d =
    record {
      modes = c.modes ++ d.modes;
      codes = joint_codes c d;
      steps = moved_steps c (joint_codes c d) 0 ++ moved_steps d (joint_codes c d) (states c);
    }

-- 18: states above 64 together; 19: distinct action codes above 32; 20: transitions above 1,024 together; all of the buffer's input, place 0
abbrev pub judge_together : Chart → Chart → Judged
judge_together c d =
    pick (ltb 64 (states c + states d)) (Err (lent_refusal 18)) (
    pick (ltb 32 (length (joint_codes c d))) (Err (lent_refusal 19)) (
    pick (ltb 1024 (transitions c + transitions d)) (Err (lent_refusal 20)) faultless))
