-- The loop's invariant: the codes that were passed bear their flags.
use Rattle.std.proofs.Common.{take}
use Rattle.side_by_side.specs.Table.{Flagged}
use Rattle.side_by_side.proofs.flag.Given as goal

abbrev pub invariant-loop-code : goal.invariant-loop-code
invariant-loop-code l = Flagged (take l.code-index l.codes) l.initial.flags l.flags
