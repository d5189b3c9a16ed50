use Rattle.std.proofs.Common.{rules}
use Rattle.equal.proofs.Promise.{words_equal, rows_answered}
use Rattle.equal.proofs.equal_rows.Goals as goal

pub returns : goal.returns
returns c =
    let read = c.in_ok-chart.ensures in
    rows_answered _ _ read.0 (words_equal _ _ (rw read.1 at c.equal_words.ensures) (search rules) c.told-rows)
