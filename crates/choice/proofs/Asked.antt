-- Triples and marks that are known as putting a line asks it: sorted by source and rising, and the marks of all their pairs. Then they are a `Triples`
-- and a `Marked`, whatever the bytes around them, so that these types ask no more. Assumes nothing.
use Prim.Native.Nat.{ℕ, ◌/◌, ◌%◌}
use mathlib.Core.Path.{◌≡◌, ap}
use mathlib.Core.List.{List}
use native.Mathlib.Omega.{arith}
use lib.ListN.{get_or}
use Rattle.chart.specs.declared.Shape.{Shape}
use Rattle.nearness.proofs.Rounds.{near_rounds, mark_le}
use Rattle.ranges.specs.Sources.{Sorted, TriplesRise, Ordered, steps_by}
use Rattle.ranges.proofs.Ranges.{targets_below}
use Rattle.ranges.proofs.Rising.{rise_ordered}
use Rattle.relation.proofs.Cells.{row_in, column_in, pair_cell}
use Rattle.reason.specs.Own.{MarksAre}
use Rattle.choice.specs.Choice.{mark_in, MarksBelow}

pub asks_no_more : (bytes : List ℕ) (sh : Shape) (at : ℕ) (first matrix : List ℕ) → Sorted bytes at sh.n first → TriplesRise bytes at (get_or first sh.n 0)
    → get_or first sh.n 0 ≡ sh.t → MarksAre sh.n (steps_by bytes at sh.n first) (mark_in sh.n matrix) → Ordered bytes sh at first × MarksBelow sh.n matrix
asks_no_more bytes sh at first matrix w rise all marks = (rise_ordered w rise all, below)
  where
    below : MarksBelow sh.n matrix
    below y h =
        let n = sh.n in
        let p = y / n in
        let q = y % n in
        let p_in = row_in n y h in
        let r = near_rounds n (steps_by bytes at n first) (omega arith) in
        let most = mark_le n (steps_by bytes at n first) (targets_below bytes at (get_or first n 0) n w.triples) p q p_in (column_in n y h) r.0 r.2.0 (mark_in n matrix (p, q)) (marks p q p_in (column_in n y h)) in
        omega (arith, most, r.1, p_in, ap (λ (x : ℕ). get_or matrix x 0) (pair_cell n y))
