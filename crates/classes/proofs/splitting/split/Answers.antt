use mathlib.Core.Path.{ap}
use mathlib.Core.Logic.{inl, inr}
use Prim.Native.Nat.{ℕ, ◌-◌}
use Rattle.relation.proofs.Keeping.{strike_keeps}
use Rattle.classes.proofs.Undivided.{split_none, split_all, split_both}
use Rattle.classes.proofs.splitting.split.Goals as goal

pub returns-then-side-eq0 : goal.returns-then-side-eq0
returns-then-side-eq0 c = let h = c.requires.within in
    elim c.then-side-eq0.either [ inl none ↦ split_none h.0 h.1 c.args.able none | inr all ↦ split_all h.0 h.1 c.args.able all.1 ]

pub returns : goal.returns
returns c =
    let h = c.requires.within in
    let few = c.requires.n_bound in
    let kept = strike_keeps {new = c.strike.new.rows} _ _ h.0 c.strike.ensures in
    let second = strike_keeps {new = c.strike-2.new.rows} _ _ kept.within c.strike-2.ensures in
    split_both h.0 h.1 _ few.1 _ (ap (λ (x : ℕ). x - c.args.able) (c.all.ensures.0 few.0)) kept second
