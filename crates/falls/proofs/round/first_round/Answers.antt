use Rattle.falls.proofs.Striking.{strike_able, by_none, by_more}
use Rattle.falls.proofs.round.first_round.Goals as goal

pub loop-a-init : goal.loop-a-init
loop-a-init c = by_none _ _ c.requires

pub loop-a-preserved : goal.loop-a-preserved
loop-a-preserved c = by_more _ _ _ c.loop-a.invariant (strike_able c.loop-a.invariant.within {new = c.strike.new.rows} _ _ c.sources-able.ensures.members c.strike.ensures)
