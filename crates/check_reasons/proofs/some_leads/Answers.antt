use Rattle.std.proofs.Common.{rules}
use mathlib.Core.Bool.{not}
use lib.Dec.{eqb}
use Rattle.check_reasons.proofs.Leads.{some_by}
use Rattle.check_reasons.proofs.some_leads.Goals as goal

pub returns : goal.returns
returns c =
    let a = c.args in
    some_by a.triples.now.bytes.now a.triples.now.at a.triples.now.first a.s a.action a.target c.each_leads.result (c.each_leads.ensures (λ u. not (eqb u a.target)) (λ u b e. search rules))
