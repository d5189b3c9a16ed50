use Rattle.sheet.proofs.Accepted.{read_exactly}
use Rattle.sheet.proofs.read_sheet.Goals as goal

pub returns-clause-accepted_exactly : goal.returns-clause-accepted_exactly
returns-clause-accepted_exactly c = (read_exactly c.args.bytes.now c.args.m c.read_equation.ensures).1
