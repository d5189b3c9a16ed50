-- The loop's invariant: what is passed and what the rest of the bytes says are what the whole says.
use Prim.Native.Nat.{◌+◌}
use mathlib.Core.Path.{◌≡◌}
use mathlib.Core.Bool.{false}
use lib.ListN.{drop}
use Rattle.short_form.proofs.Scan.{scan}
use Rattle.short_form.proofs.first_variable.Given as goal

abbrev pub invariant-loop-at : goal.invariant-loop-at
invariant-loop-at l = l.at + scan l.action (drop l.at l.sheet) ≡ 3 + scan false (drop 3 l.sheet)
