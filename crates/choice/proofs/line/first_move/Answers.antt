use Rattle.std.proofs.Common.{rules}
use native.Mathlib.Omega.{arith}
use Rattle.choice.specs.Search.{smaller}
use Rattle.choice.proofs.Smaller.{one_passed, move_found, none_found}
use Rattle.choice.proofs.line.first_move.Goals as goal

pub returns-then-each_leads : goal.returns-then-each_leads
returns-then-each_leads g c = λ cell says.
    let l = c.loop-i in
    let asked = c.each_leads.ensures (λ u. smaller (cell c.target-x.result u) c.args.mark) (λ u b p. search (rules, says)) in
    move_found c.args.triples.now _ _ c.requires.states.0 cell _ l.i _ _ _ (omega arith) c.loop-i-test.true (l.invariant cell says) (c.target-x.ensures, c.action.ensures, asked) c.if-each_leads.true

pub loop-i-preserved : goal.loop-i-preserved
loop-i-preserved g c = λ cell says.
    let asked = c.each_leads.ensures (λ u. smaller (cell c.target-x.result u) c.args.mark) (λ u b p. search (rules, says)) in
    one_passed c.args.triples.now _ _ c.requires.states.0 cell _ c.loop-i.i _ _ _ (c.loop-i.invariant cell says) (c.target-x.ensures, c.action.ensures, asked) c.if-each_leads.false

pub returns : goal.returns
returns g c = λ cell says. none_found c.args.triples.now _ _ c.requires.states.0 cell _ c.loop-i.i c.loop-i-test.false (c.loop-i.invariant cell says)
