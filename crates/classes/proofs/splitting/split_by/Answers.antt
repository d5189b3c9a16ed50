use Rattle.classes.proofs.Undivided.{keeps_sharing, undivided_none, undivided_more}
use Rattle.classes.proofs.splitting.split_by.Goals as goal

pub loop-a-init : goal.loop-a-init
loop-a-init c = undivided_none _ _ _ c.requires.within.0

pub split-requires-clause-within : goal.split-requires-clause-within
split-requires-clause-within c = (c.loop-a.invariant.within, keeps_sharing c.requires.within.1 c.loop-a.invariant)

pub loop-a-preserved : goal.loop-a-preserved
loop-a-preserved c = undivided_more _ _ _ _ _ c.sources.ensures.members c.loop-a.invariant c.split.ensures
