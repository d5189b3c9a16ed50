use mathlib.Core.Path.{◌≡◌, ◌∙◌}
use Rattle.refusal.specs.Refusal.{input_number}
use Rattle.report.proofs.Laws.{refused_added}
use Rattle.report.proofs.put_refusal.Goals as goal

pub returns : goal.returns
returns c =
    let input : c.from-2.result ≡ input_number c.args.r.input = c.from-2.ensures ∙ c.from.ensures in
    refused_added c.args.page.now _ _ _ _ c.args.r _ input c.requires c.put_bytes.ensures c.put_number.ensures c.put_bytes-2.ensures (rw (c.from-3.ensures, c.from-4.ensures) at c.put_line.ensures)
