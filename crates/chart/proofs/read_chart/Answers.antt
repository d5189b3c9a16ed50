use native.Mathlib.Omega.{arith}
use Rattle.chart.proofs.Exactly.{read_exactly}
use Rattle.chart.proofs.read_chart.Goals as goal

pub returns-clause-accepted_exactly : goal.returns-clause-accepted_exactly
returns-clause-accepted_exactly c = (read_exactly c.args.bytes.now (λ i. omega (arith, c.type_inv.bytes i)) c.read_states.ensures).1
