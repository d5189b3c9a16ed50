-- The loop's invariant: the pieces that were read stand from the place on, one after another, up to `end`.
use Rattle.std.proofs.Common.{◌≡◌, ◌-◌, ◌≤◌, length, take, drop}
use Rattle.std.specs.Io.KnownBytes.{Consumes}
use Rattle.printer.proofs.fill.Given as goal

abbrev pub invariant-loop-end : goal.invariant-loop-end
invariant-loop-end g l =
    record {
      after : l.at ≤ l.end;
      inside : l.at ≤ length l.bytes → l.end ≤ length l.bytes;
      kept : take l.at l.bytes ≡ take l.at l.initial.bytes;
      taken : Consumes (g.R.Read.remaining l.initial.file) (g.R.Read.remaining l.file) (drop l.at (take l.end l.bytes));
    }

-- the room that is left falls at each piece
abbrev pub decreases-loop-end : goal.decreases-loop-end
decreases-loop-end g l = length l.bytes - l.end
