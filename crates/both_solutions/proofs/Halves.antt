-- The two halves of an answer: each is what `property` answers for the same formula with that kind, and the least lies inside the greatest. Assumes
-- nothing.
use Prim.Native.Nat.{ℕ, ◌<◌, ◌≤◌}
use mathlib.Core.Path.{◌≡◌, refl, sym}
use mathlib.Core.Bool.{Bool, true, false, So}
use mathlib.Core.Logic.{◌↔◌}
use mathlib.Core.List.{List}
use native.Mathlib.Omega.{arith}
use Rattle.settle.specs.Test.{pick}
use Rattle.settle.proofs.Test.{count_inside}
use Rattle.settle.proofs.Finite.{below_e}
use Rattle.chart.specs.Chart.{Chart, states}
use Rattle.chart.specs.Reading.{chart_in, read_chart}
use Rattle.chart.specs.declared.Shape.{Shape}
use Rattle.chart.proofs.Accepted.{accepted}
use Rattle.sheet.specs.Formula.{Formula}
use Rattle.sheet.specs.WithKind.{with_kind}
use Rattle.sheet.specs.Reading.{sheet, read_sheet}
use Rattle.sheet.specs.Solution.{asks_least}
use Rattle.sheet.proofs.Accepted.{read_with_kind}
use Rattle.sheet.proofs.Solution.{read_targets, least_inside}
use Rattle.words.specs.Words.{member}
use Rattle.solve.specs.declared.Solved.{Solved}
use Rattle.property.specs.Promise.{Solution, PropertyPromise}
use Rattle.property.proofs.SheetPromise.{promise_accepted}
use Rattle.property.proofs.Promise.{same_kind}
use Rattle.both_solutions.specs.Promise.{BothSolved, BothPromise}
use Rattle.both_solutions.specs.declared.Solutions.{Solutions}
use Rattle.std.specs.Prelude.{Result, Ok, Err}
use Rattle.refusal.specs.declared.Refusal.{Refusal}

-- of an accepted chart and sheet, whatever its kind
module _ (chart bytes : List ℕ) (sh : Shape) (kind nodes : ℕ) (f : Formula) (e : read_chart chart ≡ Ok sh) (d : read_sheet bytes sh.m ≡ sheet kind nodes f) where
  abbrev c : Chart
  c = chart_in chart sh

  -- the same formula with another kind
  with_kind_lem : (other : ℕ) → other ≤ 2 → read_sheet (with_kind other bytes) sh.m ≡ sheet other nodes f
  with_kind_lem = read_with_kind bytes sh.m (accepted chart sh e).actions_few kind nodes f d

  -- what such an answer says
  pub solved : (a : Solutions) → BothPromise chart bytes (Ok a) → BothSolved c f a
  solved a P = P.both_accepted sh kind nodes f e d

  pub halves_are_property : (a : Solutions)
      → BothPromise chart bytes (Ok a)
      ↔ (PropertyPromise chart (with_kind 1 bytes) (Ok a.least) × PropertyPromise chart (with_kind 2 bytes) (Ok a.greatest))
  halves_are_property a = (
    λ P. let S = solved a P in (half 1 (omega arith) a.least S.least_is, half 2 (omega arith) a.greatest S.greatest_is),
    λ p. promise_accepted chart bytes sh kind nodes f (Ok a) e d (record {
      least_is = p.0.both_accepted sh 1 nodes f e (with_kind_lem 1 (omega arith));
      greatest_is = p.1.both_accepted sh 2 nodes f e (with_kind_lem 2 (omega arith));
    }),
  )
    where
      half : (other : ℕ) → other ≤ 2 → (s : Solved) → Solution c other f s → PropertyPromise chart (with_kind other bytes) (Ok s)
      half other known s S = promise_accepted chart (with_kind other bytes) sh other nodes f (Ok s) e (with_kind_lem other known) S

  -- the sheet as it stands is answered the half that its kind asks for
  pub own_half : (a : Solutions) → BothPromise chart bytes (Ok a) → PropertyPromise chart bytes (Ok (pick (asks_least kind) a.least a.greatest))
  own_half a P = promise_accepted chart bytes sh kind nodes f _ e d (go (asks_least kind) refl)
    where
      go : (least : Bool) → asks_least kind ≡ least → Solution c kind f (pick least a.least a.greatest)
      go true h = same_kind c 1 kind f a.least (sym h) (solved a P).least_is
      go false h = same_kind c 2 kind f a.greatest (sym h) (solved a P).greatest_is

  -- the kind is not asked: with another the answer is the same
  pub kind_not_asked : (other : ℕ) → other ≤ 2 → (answer : Result Solutions Refusal) → BothPromise chart bytes answer → BothPromise chart (with_kind other bytes) answer
  kind_not_asked other known (Ok a) P = promise_accepted chart (with_kind other bytes) sh other nodes f (Ok a) e (with_kind_lem other known) (P.both_accepted sh kind nodes f e d)
  kind_not_asked other known (Err r) P = promise_accepted chart (with_kind other bytes) sh other nodes f (Err r) e (with_kind_lem other known) (P.both_accepted sh kind nodes f e d)

  module _ (a : Solutions) (P : BothPromise chart bytes (Ok a)) where
    pub least_inside_greatest : (s : ℕ) → s < states c → So (member a.least.word s) → So (member a.greatest.word s)
    least_inside_greatest s h t =
        ((solved a P).greatest_is.bit_exactly s h).1 (least_inside c (read_targets chart sh e) f s h (((solved a P).least_is.bit_exactly s h).0 t))

    pub least_no_more : a.least.count ≤ a.greatest.count
    least_no_more = rw ((solved a P).least_is.count_is, (solved a P).greatest_is.count_is) (count_inside _ _ _ (λ s i. least_inside_greatest s (below_e _ s i)))
