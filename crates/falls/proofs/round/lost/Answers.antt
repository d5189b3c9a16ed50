use borrow.Author.Rules.{rules}
use mathlib.Core.Path.{◌≡◌, ◌∙◌}
use Prim.Native.Nat.{ℕ, ◌+◌}
use lib.ListN.{get_or}
use Rattle.words.proofs.Lowest.{rest_in}
use Rattle.steps.proofs.Walked.{bits_done, bits_walked}
use Rattle.falls.specs.Round.{apart}
use Rattle.falls.proofs.Walks.{none_yet}
use Rattle.falls.proofs.round.lost.Goals as goal

pub loop-q-init : goal.loop-q-init
loop-q-init c = let e : c.into_iter-q-iterator.result.left ≡ c.args.candidates = search rules in rw e (tt, tt, c.requires, λ q. none_yet q _)

pub loop-q-preserved : goal.loop-q-preserved
loop-q-preserved c =
    let a = c.args in
    let l = c.loop-q in
    let low = c.in-Some.ensures.steps in
    (tt, tt, λ q i. l.invariant.2 q (rest_in low q i), λ q. bits_walked (λ (x : ℕ). apart (get_or a.out.now (a.base + x) 0) a.row) l.gone _ q low c.one_apart-gone.ensures ∙ l.invariant.3 q)

pub returns : goal.returns
returns c =
    let a = c.args in
    let l = c.loop-q in
    λ q. bits_done (λ (x : ℕ). apart (get_or a.out.now (a.base + x) 0) a.row) l.gone c.in-None.ensures.steps.0 q ∙ l.invariant.3 q
