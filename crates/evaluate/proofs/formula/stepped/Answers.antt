use Prim.Native.Nat.{◌<◌, ◌^◌}
use mathlib.Core.Path.{◌≡◌, sym, ◌∙◌}
use borrow.Author.Rules.{rules}
use lib.Bits.{bit_and}
use Rattle.evaluate.proofs.Stepped.{stepped_all, stepped_more}
use Rattle.evaluate.proofs.formula.stepped.Goals as goal

pub returns-then-meet-was : goal.returns-then-meet-was
returns-then-meet-was c =
    let a = c.args in
    let inside : bit_and a.was a.f ≡ a.was = sym c.meet.ensures ∙ c.if-meet-was.true in
    let small : c.gather.result < 2 ^ 64 = search rules in
    stepped_more a.n a.row a.into.now c.requires.serves a.was a.known a.f c.gather.result c.requires.was_bound.0 c.requires.was_bound.1 inside c.requires.known_value small c.gather.ensures

pub returns : goal.returns
returns c =
    let a = c.args in
    let small : c.gather-2.result < 2 ^ 64 = search rules in
    stepped_all a.n a.row a.into.now c.requires.serves a.f c.gather-2.result small c.gather-2.ensures
