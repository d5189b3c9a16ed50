-- The loop keeps: what is left from number i on is judged as the whole is; it begins in the bytes, and with the least rank that it may have.
use Prim.Native.Nat.{◌+◌, ◌*◌, ◌-◌, ◌≤◌}
use mathlib.Core.Path.{◌≡◌}
use lib.ListN.{length}
use Rattle.chart.specs.Fine.{least_rank}
use Rattle.chart.specs.Reading.{judge_triples}
use Rattle.chart.proofs.judge_triples.Given as goal

abbrev pub invariant-loop-i : goal.invariant-loop-i
invariant-loop-i l =
    (judge_triples l.bytes l.n l.m l.at 0 l.t ≡ judge_triples l.bytes l.n l.m (l.at + 3 * l.i) l.i (l.t - l.i))
    × (l.at + 3 * l.i ≤ length l.bytes)
    × (l.least ≡ least_rank l.bytes (l.at + 3 * l.i) l.i)
