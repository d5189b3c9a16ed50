-- The loop's invariant: the codes that were passed are numbered.
use Rattle.side_by_side.proofs.Table.{Numbering}
use Rattle.side_by_side.proofs.number.Given as goal

abbrev pub invariant-loop-code : goal.invariant-loop-code
invariant-loop-code l = Numbering l.flags l.places l.codes.items l.code
