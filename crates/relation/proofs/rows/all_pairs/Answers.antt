use Rattle.relation.proofs.Keeping.{all_filled}
use Rattle.relation.proofs.rows.all_pairs.Goals as goal

pub returns : goal.returns
returns c = all_filled c.args.n c.all.result c.requires (c.all.ensures.0 c.requires) (c.fill.ensures.after (λ y e. e))
