use Prim.Native.Nat.{◌+◌, ◌*◌}
use Rattle.steps.specs.Walk.{leads}
use Rattle.falls.proofs.Striking.{ByFirst}
use Rattle.falls.proofs.round.first_round.Given as goal

-- those able to the first actions have kept those able to them
abbrev pub invariant-loop-a : goal.invariant-loop-a
invariant-loop-a l = ByFirst l.steps.n (λ b. leads l.steps.words.now ((b + 1) * l.steps.n) l.all) (λ b. leads l.steps.words.now ((b + 1) * l.steps.n) l.all) l.a l.initial.next l.next
