-- How far the list of a chart is written whose triples and marks are at hand.
use Rattle.std.specs.Prelude.{ℕ, ◌-◌, ◌*◌, List, Result}
use Rattle.refusal.specs.declared.Refusal.{Refusal}
use Rattle.ranges.specs.Triples.{steps_of}
use Rattle.reason.specs.Line.{Line}
use Rattle.choice.specs.Marked.{marks_of}
use Rattle.choice.specs.declared.Marked.{Marked}
use Rattle.reasons.specs.Linked.{Linked}
use Rattle.reasons.specs.Begun.{Begun, MarkPut, ListPut}
use Rattle.reasons.specs.Promise.{Reasons}

abbrev pub states : Marked → ℕ
states m = m.triples.now.shape.n

-- a cell for each pair
abbrev pub cells : Marked → ℕ
cells m = states m * states m

-- the bytes of a line for each two states
abbrev pub longest : Marked → ℕ
longest m = 5 * (cells m - states m)

-- the cells from `low` on are linked
abbrev pub LinkedFrom : Marked → ℕ → List ℕ → List ℕ → Type 0
LinkedFrom m = Linked m.matrix.now (cells m)

abbrev pub BegunBy : Marked → ℕ → ℕ → List Line → Type 0
BegunBy m = Begun (states m) (steps_of m.triples.now) (marks_of m)

abbrev pub MarkPutBy : Marked → ℕ → List ℕ → ℕ → List ℕ → ℕ → Type 0
MarkPutBy m = MarkPut (states m) (steps_of m.triples.now) (marks_of m)

abbrev pub ListPutBy : Marked → List ℕ → List ℕ → ℕ → Type 0
ListPutBy m = ListPut (states m) (steps_of m.triples.now) (marks_of m)

abbrev pub ReasonsBy : Marked → List ℕ → List ℕ → Result ℕ Refusal → Type 0
ReasonsBy m = Reasons (states m) (steps_of m.triples.now)
