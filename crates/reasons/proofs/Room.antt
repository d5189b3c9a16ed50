-- There is room for each line of a chart's own list. Assumes nothing.
use Prim.Native.Nat.{ℕ, ◌+◌, ◌*◌, ◌≤◌, ◌<◌}
use mathlib.Core.Path.{◌≡◌}
use mathlib.Core.List.{List}
use native.Mathlib.Omega.{arith}
use lib.ListN.{get_or}
use Rattle.ranges.specs.Triples.{steps_of}
use Rattle.relation.proofs.Cells.{cells_few}
use Rattle.reason.specs.Line.{lines_in}
use Rattle.reason.proofs.Bytes.{lines_length}
use Rattle.reason.proofs.Few.{few_lines, pairs_few}
use Rattle.choice.specs.Marked.{marks_of}
use Rattle.choice.specs.declared.Marked.{Marked}
use Rattle.reasons.specs.Marked.{states, cells, longest, BegunBy, ListPutBy}
use Rattle.reasons.proofs.Begun.{room_for}

-- a line more, where the list is begun up to a cell that bears the mark
pub room : (m : Marked) (y k : ℕ) (list : List ℕ) (d : ℕ) → 0 < d → y < cells m → get_or m.matrix.now y 0 ≡ d → BegunBy m d y (lines_in list k) → (5 * k + 5 ≤ longest m) × (longest m ≤ 20480)
room m y k list d some h e w =
    (room_for (states m) (steps_of m.triples.now) m.matrix.now k list w h e some m.marks_are, omega (arith, cells_few (states m) m.triples.now.ranged.sorted.triples.few))

-- the own list has no more lines than there is room for, and is no longer than the longest
pub fits : (m : Marked) {old : List ℕ} (new : List ℕ) (k : ℕ) → ListPutBy m old new k → (5 * k ≤ longest m) × (longest m ≤ 20160)
fits m new k put =
    let few = few_lines (states m) (steps_of m.triples.now) (marks_of m) m.marks_are (lines_in new k) put.own.chosen put.own.rising in
    (omega (arith, few, lines_length new k), omega (arith, pairs_few (states m) m.triples.now.ranged.sorted.triples.few))
