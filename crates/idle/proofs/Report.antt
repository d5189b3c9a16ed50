-- No idle build of the report meets its promise: chart L, and chart E with a triple too many, which is refused. Assumes nothing.
use Prim.Native.Nat.{ℕ}
use mathlib.Core.Path.{refl, ap}
use mathlib.Core.List.{List}
use native.Mathlib.Omega.{arith}
use lib.ListN.{get_or}
use Rattle.settle.specs.Test.{both, all_of}
use Rattle.chart.specs.Layout.{Bytes}
use Rattle.report.specs.Promise.{ReportPromise}
use Rattle.report.proofs.Printed.{chart_e8, lines_l, line_e8, report_of_l, report_of_refused}
use Rattle.idle.specs.Slice.{Slice}
use Rattle.idle.specs.Written.{Build, Meets, NotIdle}
use Rattle.idle.proofs.Slice.{are_bytes, l}
use Rattle.idle.proofs.Written.{not_idle}

bytes_e8 : Bytes chart_e8
unfolding all_of both
bytes_e8 = are_bytes chart_e8 refl

pub report_not_idle : (b : Build Slice) → Meets (λ chart. ReportPromise chart.0) b → NotIdle b
report_not_idle =
    not_idle (λ chart. ReportPromise chart.0) l (chart_e8, bytes_e8) lines_l line_e8
    (λ old new answer p. rw ((report_of_l p.text).0 p.is_report) at p.in_buffer) (λ old new answer p. rw ((report_of_refused p.text).0 p.is_report) at p.in_buffer)
    (omega arith) (omega arith)
    (λ e. omega (arith, ap (λ (x : List ℕ). get_or x 0 0) e)) (λ e. omega (arith, ap (λ (x : List ℕ). get_or x 0 0) e))
