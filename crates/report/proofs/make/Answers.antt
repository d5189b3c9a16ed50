use native.Mathlib.Omega.{arith}
use mathlib.Core.Path.{ap}
use lib.ListN.{length}
use Rattle.std.proofs.lemmas.Grind.{common_steps}
use Rattle.text.proofs.Pieces.{added_stands}
use Rattle.report.proofs.Promise.{report_short}
use Rattle.report.proofs.make.Goals as goal

pub returns : goal.returns
returns c =
    let put = c.put_report.ensures in
    let start = c.new-page.ensures.empty in
    let stands = added_stands c.new-page.result put.text c.put_report.new.page start.0 (omega (arith, report_short c.args.chart.now put.text put.is_report, ap length start.1)) put.added in
    let there = stands.0 in
    record { text = put.text; is_report = put.is_report; size_is = stands.2; stands = grind (arith, common_steps) }
