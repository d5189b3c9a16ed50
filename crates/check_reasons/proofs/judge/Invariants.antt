-- The lines before number i are good, and the words hold their pairs.
use Rattle.ranges.specs.Triples.{steps_of}
use Rattle.check_reasons.proofs.Judged.{GoodSo}
use Rattle.check_reasons.proofs.judge.Given as goal

abbrev pub invariant-loop-i : goal.invariant-loop-i
invariant-loop-i l = GoodSo l.triples.shape.n (steps_of l.triples) l.list l.rows l.i
