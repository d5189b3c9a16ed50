use native.Mathlib.Omega.{arith}
use mathlib.Core.Path.{refl}
use Rattle.report.proofs.Promise.{report_short, report_refused, report_marked, states_marked}
use Rattle.report.proofs.put_report.Goals as goal

pub put_refusal-requires : goal.put_refusal-requires
put_refusal-requires c = omega (arith, report_short c.args.chart.now _ (report_refused c.args.chart.now _ _ _ c.marks.ensures refl c.in-Err.r c.in-Err.is))

pub put_chart-requires-clause-n_bound : goal.put_chart-requires-clause-n_bound
put_chart-requires-clause-n_bound c = states_marked c.args.chart.now _ _ _ c.marks.ensures refl c.in-Ok.given c.in-Ok.is

pub put_chart-requires-clause-room : goal.put_chart-requires-clause-room
put_chart-requires-clause-room c = omega (arith, report_short c.args.chart.now _ (report_marked c.args.chart.now _ _ _ c.marks.ensures refl c.in-Ok.given c.in-Ok.is))

pub returns-in-Err : goal.returns-in-Err
returns-in-Err c = record { text = _; is_report = report_refused c.args.chart.now _ _ _ c.marks.ensures refl c.in-Err.r c.in-Err.is; added = c.put_refusal.ensures }

pub returns-in-Ok : goal.returns-in-Ok
returns-in-Ok c = record { text = _; is_report = report_marked c.args.chart.now _ _ _ c.marks.ensures refl c.in-Ok.given c.in-Ok.is; added = c.put_chart.ensures }
