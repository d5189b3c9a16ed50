-- No reader that refuses everything accepts exactly what follows the layout: chart E and its sheet do. Assumes nothing.
use Prim.Native.Nat.{ℕ}
use mathlib.Core.Path.{◌≡◌, refl, sym}
use native.Mathlib.Omega.{arith}
use Rattle.settle.specs.Test.{both, all_of}
use Rattle.refusal.specs.declared.Refusal.{Refusal}
use Rattle.chart.specs.Layout.{Bytes}
use Rattle.chart.specs.Reading.{chart_in}
use Rattle.chart.specs.Reading as Charts
use Rattle.chart.proofs.Accepted.{never_both}
use Rattle.chart.proofs.Exactly.{read_well_formed}
use Rattle.sheet.specs.Formula.{Formula, only, top, and, diamond, box, nodes}
use Rattle.sheet.specs.Reading.{sheet, read_sheet, read_nodes, parse, node_at}
use Rattle.sheet.specs.Reading as Sheets
use Rattle.sheet.proofs.Accepted.{layout_read}
use Rattle.starred.specs.Boards.{chart_e, sheet_e}
use Rattle.starred.proofs.Boards.{shape_e, read_e}
use Rattle.idle.specs.Slice.{Slice}
use Rattle.idle.proofs.Slice.{are_bytes, bytes_e, e}
use Rattle.std.specs.Prelude.{Result, Err}
use Rattle.chart.specs.declared.Shape.{Shape}
use Rattle.sheet.specs.declared.Outline.{Outline}
use Rattle.sheet.specs.declared.Kind.{Kind}

pub chart_reader_not_idle : (read : Slice → Result Shape Refusal) → ((s : Slice) → Charts.AcceptedExactly s.0 (read s)) → ((s : Slice) → (r : Refusal) × (read s ≡ Err r)) → ⊥
chart_reader_not_idle read exactly refuses =
    let w = read_well_formed chart_e shape_e bytes_e read_e in
    never_both ((exactly e (chart_in chart_e shape_e)).1 (w.1, w.0)).0 (refuses e).1

abbrev f : Formula
f = box (only 0) (and (diamond (only 1) top) (diamond (only 2) top))

read_sheet_lem : read_sheet sheet_e 3 ≡ sheet 1 6 f
unfolding sheet_e read_sheet read_nodes parse node_at
read_sheet_lem = refl

bytes_sheet : Bytes sheet_e
unfolding sheet_e all_of both
bytes_sheet = are_bytes sheet_e refl

pub sheet_reader_not_idle : (read : Slice → ℕ → Result Outline Refusal) → ((s : Slice) (m : ℕ) → Sheets.AcceptedExactly s.0 m (read s m)) → ((s : Slice) (m : ℕ) → (r : Refusal) × (read s m ≡ Err r)) → ⊥
unfolding nodes
sheet_reader_not_idle read exactly refuses =
    let w = layout_read sheet_e 3 1 6 f read_sheet_lem in
    let accepted = (exactly (sheet_e, bytes_sheet) 3 (omega arith) (record { kind = Kind.Least; nodes = 6 })).1 (f, sym w.2, w.0, w.1) in
    let refused = (refuses (sheet_e, bytes_sheet) 3).1 in
    let z : ◌≡◌ {A = ℕ} 0 1 = cc in
    omega arith
