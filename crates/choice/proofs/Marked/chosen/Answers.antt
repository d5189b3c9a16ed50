use Rattle.std.proofs.Common.{rules}
use Rattle.choice.specs.Marked.{marks_of}
use Rattle.choice.proofs.Chosen.{first_chosen, other_there, other_chosen}
use Rattle.choice.proofs.Marked.chosen.Goals as goal

pub returns-in-Some : goal.returns-in-Some
returns-in-Some c =
    let m = c.args.self.now in
    let forth = c.first_move.ensures (λ x y. marks_of m (x, y)) (λ x y r e. search rules) in
    first_chosen m _ _ _ c.requires.pair.0 c.requires.pair.1 c.requires.unequal c.mark-mark.ensures _ forth _ c.in-Some.is

pub unwrap-requires : goal.unwrap-requires
unwrap-requires c =
    let m = c.args.self.now in
    let forth = c.first_move.ensures (λ x y. marks_of m (x, y)) (λ x y r e. search rules) in
    let back = c.first_move-2.ensures (λ x y. marks_of m (y, x)) (λ x y r e. search rules) in
    other_there m _ _ _ c.requires.pair.0 c.requires.pair.1 c.requires.unequal c.mark-mark.ensures _ forth c.in_default.is _ back

pub returns : goal.returns
returns c =
    let m = c.args.self.now in
    let forth = c.first_move.ensures (λ x y. marks_of m (x, y)) (λ x y r e. search rules) in
    let back = c.first_move-2.ensures (λ x y. marks_of m (y, x)) (λ x y r e. search rules) in
    other_chosen m _ _ _ c.requires.pair.0 c.requires.pair.1 c.requires.unequal c.mark-mark.ensures _ forth c.in_default.is _ back _ c.unwrap.ensures
