use Prim.Native.Nat.{◌+◌, ◌*◌}
use lib.ListN.{get_or}
use Rattle.words.specs.Words.{member}
use Rattle.falls.specs.Round.{keeps_step}
use Rattle.falls.proofs.Striking.{ByFirst}
use Rattle.falls.proofs.round.strike_into.Given as goal

-- the first actions are done
abbrev pub invariant-loop-a : goal.invariant-loop-a
invariant-loop-a l =
    ByFirst l.tables.into.n (λ b. member (get_or l.tables.into.words.now ((b + 1) * l.tables.into.n + l.x) 0)) (λ b. keeps_step l.change.by_left l.tables.into.words.now l.tables.out.now ((b + 1) * l.tables.into.n) l.change.left l.change.gone) l.a l.initial.next l.next
