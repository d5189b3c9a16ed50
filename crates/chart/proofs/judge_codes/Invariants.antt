-- The loop keeps: what is left from number i on is judged as the whole is.
use Prim.Native.Nat.{◌+◌, ◌-◌, ◌≤◌, ◌<◌}
use mathlib.Core.Path.{◌≡◌}
use lib.ListN.{length}
use Rattle.chart.specs.Reading.{judge_codes}
use Rattle.chart.proofs.judge_codes.Given as goal

abbrev pub invariant-loop-i : goal.invariant-loop-i
invariant-loop-i l = (judge_codes l.bytes l.at 0 l.m ≡ judge_codes l.bytes (l.at + l.i) l.i (l.m - l.i)) × (0 < l.i → l.at + l.i ≤ length l.bytes)
