use mathlib.Core.Path.{subst⁻¹}
use Rattle.chart.proofs.Accepted.{accepted}
use Rattle.equal.specs.Promise.{HowMany}
use Rattle.equal.proofs.Promise.{how_many, pairs_answered}
use Rattle.equal.proofs.equal_pairs.Goals as goal

pub count_pairs-requires : goal.count_pairs-requires
count_pairs-requires c = ((accepted _ _ c.in_ok-chart.chart.read).states_few, c.equal_words-rows.ensures.within)

pub returns : goal.returns
returns c =
    let read = c.in_ok-chart.ensures in
    let words = rw read.1 at c.equal_words-rows.ensures in
    pairs_answered _ _ read.0 (subst⁻¹ (HowMany _ _) c.count_pairs.ensures (how_many _ _ _ words.tells))
