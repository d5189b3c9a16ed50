-- An unequal pair has a move that qualifies. Assumes nothing.
use Prim.Native.Nat.{ℕ, zero, suc, ◌≤◌, ◌<◌}
use mathlib.Core.Path.{◌≡◌, refl, subst}
use mathlib.Core.Bool.{So}
use mathlib.Core.List.{List, Memᴰ as Mem}
use mathlib.Core.Logic.{⊎_elim}
use native.Mathlib.Omega.{arith}
use native.Mathlib.Decide.{dec_le}
use Rattle.settle.specs.Chain.{chain}
use Rattle.settle.proofs.Test.{stable, both_n}
use Rattle.chart.specs.Chart.{Step}
use Rattle.sheet.proofs.Meaning.{TargetsBelow, leaves_i}
use Rattle.nearness.specs.Relation.{Near, turned, matched, bisimulation_round}
use Rattle.nearness.specs.Mark.{Mark}
use Rattle.nearness.proofs.Matched.{matched_n}
use Rattle.reason.specs.Line.{Line, pair_of}
use Rattle.reason.specs.Own.{MarksAre, Qualifies}
use Rattle.reason.proofs.Relies.{relies_0, relies_1}

-- a pair that is not in Rk bears a mark that is not 0 and not above k
pub mark_within : (steps : List Step) (k x y d : ℕ) → (So (Near steps k (x, y)) → ⊥) → Mark steps x y d → (0 < d) × (d ≤ k)
unfolding Mark
mark_within steps k x y zero f m = absurd (f (m k))
mark_within steps k x y (suc d) f m = (omega arith, elim (dec_le (suc d) k) [ yes l ↦ l | no g ↦ absurd (f (stable _ (m.1 k (omega arith)))) ])

module _ (n : ℕ) (steps : List Step) (mark : ℕ × ℕ → ℕ) (targets : TargetsBelow n steps) (marks : MarksAre n steps mark) (p q : ℕ) where
  abbrev Found : Type 0
  Found = (l : Line) × (pair_of l ≡ (p, q)) × Qualifies steps mark l

  -- a step of p that q does not match is a move of side 0
  of_side_0 : (k : ℕ) → k < mark (p, q) → (So (matched steps (Near steps k) p q) → ⊥) → Found
  of_side_0 k h f =
      let r = matched_n steps (Near steps k) p q f in
      let t = r.0 in
      let l : Line = record { p = p; q = q; side = 0; action = t.action; target = t.target } in (
        l,
        refl,
        record {
          moves = subst (λ (s : ℕ). Mem (record { source = s; action = t.action; target = t.target }) steps) r.2 r.1;
          smaller = λ x m.
              let u = (relies_0 steps l refl x).0 m in
              let w = mark_within steps k t.target u.0.target (mark (t.target, u.0.target)) (r.3 u.0 u.1 (leaves_i q t.action u.0 u.2 u.3)) (marks t.target u.0.target (targets t r.1) (targets u.0 u.1)) in
              rw u.4 (w.0, omega (arith, w.1));
        },
      )

  -- a step of q that p does not match is a move of side 1
  of_side_1 : (k : ℕ) → k < mark (p, q) → (So (matched steps (turned (Near steps k)) q p) → ⊥) → Found
  of_side_1 k h f =
      let r = matched_n steps (turned (Near steps k)) q p f in
      let t = r.0 in
      let l : Line = record { p = p; q = q; side = 1; action = t.action; target = t.target } in (
        l,
        refl,
        record {
          moves = subst (λ (s : ℕ). Mem (record { source = s; action = t.action; target = t.target }) steps) r.2 r.1;
          smaller = λ x m.
              let u = (relies_1 steps l refl x).0 m in
              let w = mark_within steps k u.0.target t.target (mark (u.0.target, t.target)) (r.3 u.0 u.1 (leaves_i p t.action u.0 u.2 u.3)) (marks u.0.target t.target (targets u.0 u.1) (targets t r.1)) in
              rw u.4 (w.0, omega (arith, w.1));
        },
      )

  pub some_qualifies : p < n → q < n → 0 < mark (p, q) → Found
  unfolding Mark chain bisimulation_round
  some_qualifies h i some = by_mark (mark (p, q)) refl (marks p q h i) some
    where
      by_mark : (d : ℕ) → mark (p, q) ≡ d → Mark steps p q d → 0 < d → Found
      by_mark zero e m o = absurd (omega arith)
      by_mark (suc d) e m o = ⊎_elim (of_side_0 d (omega arith)) (of_side_1 d (omega arith)) (both_n _ _ m.0)
