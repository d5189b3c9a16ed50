use borrow.Author.Rules.{rules}
use Rattle.steps.proofs.Stepping.{row_there, sources_are, sources_small}
use Rattle.steps.proofs.filled.Filled.sources.Goals as goal

pub gather-requires : goal.gather-requires
gather-requires c = row_there c.args.self.now.sized c.args.row c.args.set c.requires.0 c.requires.1

pub returns-clause-members : goal.returns-clause-members
returns-clause-members c = sources_are c.args.self.now.sized c.args.row c.args.set _ c.gather.ensures

pub returns-clause-states : goal.returns-clause-states
returns-clause-states c = sources_small c.args.self.now.sized c.args.row c.args.set _ c.gather.ensures c.args.self.now.few (search rules)
