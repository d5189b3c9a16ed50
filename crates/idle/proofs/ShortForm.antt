-- No idle build of the short form meets its promise: F is true, on chart L, by the names 0 and 1. Assumes nothing.
use Prim.Native.Nat.{ℕ, ◌<◌, ◌^◌}
use mathlib.Core.Path.{◌≡◌, refl, ap}
use mathlib.Core.List.{List, [], ◌∷◌}
use native.Mathlib.Omega.{arith}
use lib.ListN.{get_or}
use Rattle.settle.specs.Test.{both, all_of}
use Rattle.chart.specs.Layout.{Bytes}
use Rattle.chart.specs.Reading.{read_chart, read_actions, read_transitions, judge_codes, judge_triples}
use Rattle.sheet.specs.Formula.{variable_free, nodes}
use Rattle.sheet.specs.Layout.{encode, formula_bytes, label_byte}
use Rattle.sheet.specs.Reading.{read_sheet, read_nodes, parse, node_at}
use Rattle.starred.specs.Boards.{chart_l}
use Rattle.lent.specs.Lent.{writes}
use Rattle.short_form.specs.Promise.{form_of, form_of_chart, outcome_of}
use Rattle.idle.specs.Written.{Build, Meets, NotIdle}
use Rattle.idle.specs.ShortForm.{Asked, Promise}
use Rattle.idle.proofs.Slice.{are_bytes, l}
use Rattle.idle.proofs.Written.{not_idle}

abbrev sheet_true : List ℕ
sheet_true = 1 ∷ 0 ∷ 1 ∷ 1 ∷ []

bytes_true : Bytes sheet_true
unfolding all_of both
bytes_true = are_bytes sheet_true refl

abbrev asked : (name : ℕ) → name < 2 ^ 64 → Asked
asked name h = record { chart = l; sheet = (sheet_true, bytes_true); name = name; name_word = h }

abbrev always : List ℕ
always = 1 ∷ 2 ∷ 4 ∷ 3 ∷ 1 ∷ 6 ∷ 255 ∷ 0 ∷ []

abbrev possible : List ℕ
possible = 1 ∷ 1 ∷ 4 ∷ 4 ∷ 1 ∷ 5 ∷ 255 ∷ 0 ∷ []

outcome_always : outcome_of (form_of_chart sheet_true 0 (read_chart chart_l)) ≡ writes always
unfolding chart_l read_chart read_actions read_transitions judge_codes judge_triples read_sheet read_nodes parse node_at form_of variable_free nodes encode formula_bytes label_byte
outcome_always = refl

outcome_possible : outcome_of (form_of_chart sheet_true 1 (read_chart chart_l)) ≡ writes possible
unfolding chart_l read_chart read_actions read_transitions judge_codes judge_triples read_sheet read_nodes parse node_at form_of variable_free nodes encode formula_bytes label_byte
outcome_possible = refl

pub short_form_not_idle : (b : Build Asked) → Meets Promise b → NotIdle b
short_form_not_idle =
    not_idle Promise (asked 0 (omega arith)) (asked 1 (omega arith)) always possible
    (λ old new answer p. rw outcome_always at p) (λ old new answer p. rw outcome_possible at p)
    (omega arith) (omega arith)
    (λ e. omega (arith, ap (λ (x : List ℕ). get_or x 1 0) e)) (λ e. omega (arith, ap (λ (x : List ℕ). get_or x 0 0) e))
