use Rattle.compare.proofs.Found.{zero_among}
use Rattle.compare.proofs.some_zero.Goals as goal

pub returns : goal.returns
returns c = let among = zero_among c.args.matrix.now c.args.from c.args.count c.requires in cc
