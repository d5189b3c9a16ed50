use Rattle.falls.proofs.Striking.{by_none, by_more}
use Rattle.falls.proofs.round.strike_into.Goals as goal

pub loop-a-init : goal.loop-a-init
loop-a-init c = by_none _ _ c.requires.within

pub loop-a-preserved : goal.loop-a-preserved
loop-a-preserved c = by_more _ _ _ c.loop-a.invariant c.strike_sources.ensures
