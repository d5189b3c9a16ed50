-- Of the list that reasons writes: the check accepts it, it has every unequal pair and no other, and each pair's formula tells the pair apart at the
-- depth of its mark. Assumes nothing.
use Prim.Native.Nat.{ℕ, zero, suc, ◌*◌, ◌<◌}
use mathlib.Core.Path.{◌≡◌, ap, ◌∙◌}
use mathlib.Core.List.{List}
use mathlib.Core.Logic.{◌↔◌}
use native.Mathlib.Omega.{arith}
use lib.ListN.{length, take}
use Rattle.chart.specs.Chart.{Step}
use Rattle.chart.specs.Reading.{chart_in}
use Rattle.chart.proofs.Accepted.{each_step}
use Rattle.sheet.specs.Formula.{depth}
use Rattle.sheet.proofs.Meaning.{TargetsBelow}
use Rattle.nearness.specs.Bisimulation.{Bisimilar}
use Rattle.nearness.specs.Mark.{Mark}
use Rattle.nearness.proofs.Mark.{mark_unique}
use Rattle.nearness.proofs.Rounds.{equal_iff}
use Rattle.reason.specs.Line.{Line}
use Rattle.reason.specs.Good.{Listed, Good}
use Rattle.reason.specs.Spelled.{spelled}
use Rattle.reason.proofs.Spelled.{good_told}
use Rattle.reason.proofs.Spelled as Spells
use Rattle.reason.proofs.Own.{own_good, own_depth}
use Rattle.check_reasons.specs.Promise.{CheckPromise}
use Rattle.check_reasons.proofs.Promise.{check_accepted_exactly}
use Rattle.reasons.specs.Promise.{ReasonsPromise}
use Rattle.reasons.proofs.Promise.{OwnOf, told}
use Rattle.std.specs.Prelude.{Result, Ok}
use Rattle.refusal.specs.declared.Refusal.{Refusal}

-- `told` gives the lines that were written, and that they are the chart's own list
module _ (chart : List ℕ) (lines : List Line) (o : OwnOf chart lines) where
  abbrev n : ℕ
  n = o.shape.n

  abbrev steps : List Step
  steps = (chart_in chart o.shape).steps

  targets : TargetsBelow n steps
  targets u i = (each_step chart o.shape o.read u i).target_in

  good : Good n steps lines
  good = own_good n steps o.mark targets lines o.own

  -- a pair has a line exactly if no strong bisimulation relates it
  pub own_complete : (p q : ℕ) → p < n → q < n → Listed lines (p, q) ↔ (Bisimilar steps p q → ⊥)
  own_complete p q h k = (unequal, λ f. o.own.every p q h k (some f (o.mark (p, q)) (o.marks_are p q h k)))
    where
      unequal : Listed lines (p, q) → Bisimilar steps p q → ⊥
      unequal (l, m, e) b =
          let zero_mark = mark_unique steps p q (o.mark (p, q)) 0 (o.marks_are p q h k) ((equal_iff n steps targets p q h k).1 b) in
          omega (arith, (o.own.chosen l m).unequal, ap o.mark e)

      some : (Bisimilar steps p q → ⊥) → (d : ℕ) → Mark steps p q d → 0 < d
      some f zero m = absurd (f ((equal_iff n steps targets p q h k).0 m))
      some f (suc d) m = omega arith

  -- its formula has no variable, is true at the first and false at the second, and its depth is the pair's mark
  pub own_spells : (p q d : ℕ) → p < n → q < n → Listed lines (p, q) → Mark steps p q d → Spells.Told o.shape.m steps (spelled steps lines (p, q)) (p, q) × (depth (spelled steps lines (p, q)) ≡ d)
  own_spells p q d h k l m = (
    good_told o.shape.m n steps lines good (p, q) l,
    own_depth n steps o.mark targets o.marks_are lines o.own p q h k l ∙ mark_unique steps p q (o.mark (p, q)) d (o.marks_are p q h k) m,
  )

-- the check accepts what was written, and the number answered is that of its lines, of five bytes each
pub own_accepted : (chart old new : List ℕ) (size : ℕ) → ReasonsPromise chart old new (Ok size) → (answer : Result ℕ Refusal) → CheckPromise chart (take size new) answer → (lines : ℕ) × (answer ≡ Ok lines) × (size ≡ 5 * lines)
own_accepted chart old new size p answer w =
    let t = told chart old new size p in
    let o = t.own in
    (length t.lines, (check_accepted_exactly chart o.shape o.read (take size new) answer w t.lines t.start_is).1 (good chart t.lines o), t.length_is)
