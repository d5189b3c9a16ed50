use Rattle.std.proofs.Common.{length, arith}
use Rattle.std.proofs.lemmas.Bool.{le-ltb}
use Rattle.report.proofs.Promise.{report_short}
use Rattle.printer.proofs.print_report.Goals as goal

-- the longest text has 18,164 bytes
pub unreachable-requires : goal.unreachable-requires
unreachable-requires g c =
    let p = c.report.ensures in
    let written = rw (le-ltb 20480 (length p.text) (omega (arith, report_short c.args.bytes.now p.text p.is_report))) at p.in_buffer.answered in
    let refused = c.in-Err.is in
    cc
