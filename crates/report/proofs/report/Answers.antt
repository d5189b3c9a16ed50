use native.Mathlib.Omega.{arith}
use mathlib.Core.Path.{sym}
use lib.Seq.{length-take-le}
use Rattle.report.proofs.Promise.{report_short, promised}
use Rattle.report.proofs.report.Goals as goal

pub slice_bounds-bytes-end : goal.slice_bounds-bytes-end
slice_bounds-bytes-end c = omega (arith, c.make-size.ensures.size_is, report_short c.args.chart.now c.make-size.ensures.text c.make-size.ensures.is_report, c.make-size.auto.bytes)

pub slice_bounds-fill-end : goal.slice_bounds-fill-end
slice_bounds-fill-end c = sym (length-take-le _ c.make-size.new.bytes (omega (arith, c.make-size.ensures.size_is, report_short c.args.chart.now c.make-size.ensures.text c.make-size.ensures.is_report, c.make-size.auto.bytes)))

pub returns : goal.returns
returns c =
    let a = c.args in
    promised a.chart.now a.buffer.now _ _ c.make-size.ensures c.fill.ensures
