-- The rounds one after the other, to the one that changes nothing. Assumes nothing.
use Prim.Native.Nat.{ℕ, zero, suc, ◌+◌, ◌-◌, ◌^◌, ◌≤◌, ◌<◌}
use mathlib.Core.Path.{◌≡◌, sym, subst, ◌∙◌}
use mathlib.Core.Bool.{So}
use mathlib.Core.List.{List, Memᴰ as Mem}
use native.Mathlib.Omega.{arith}
use native.Mathlib.Decide.{dec_lt, dec_le}
use native.Mathlib.Nat.{pow-suc}
use native.Mathlib.Numerals.{add-one}
use lib.Count.{count_trailing_zeros}
use lib.ListN.{get_or}
use Rattle.settle.specs.Finite.{pairs}
use Rattle.settle.specs.Chain.{full, Settled}
use Rattle.settle.proofs.Test.{never, both_e, neg_e}
use Rattle.settle.proofs.Finite.{pairs_i, pairs_e_lem}
use Rattle.chart.specs.Chart.{Step}
use Rattle.chart.specs.Layout.{StepIn}
use Rattle.words.specs.Words.{member}
use Rattle.words.proofs.Words.{none_member}
use Rattle.steps.specs.Table.{Table}
use Rattle.steps.specs.Walk.{leads}
use Rattle.words.proofs.Bits.{lowest_lt, lowest_in}
use Rattle.nearness.specs.Relation.{Simulating}
use Rattle.nearness.proofs.Rounds.{simulation_rounds_lem}
use Rattle.relation.specs.Rows.{in_rows, Holds, Keeps}
use Rattle.relation.specs.Settles.{Settles}
use Rattle.relation.proofs.Cells.{cells_few}
use Rattle.falls.specs.Round.{outlasts, able_too, Noted}
use Rattle.falls.proofs.Steps.{Tables}
use Rattle.falls.proofs.Falling.{Took, round_holds, round_took, first_holds, first_took}

number_fits : (k : ℕ) → k < 2 ^ k
number_fits zero = omega arith
number_fits (suc k) = omega (arith, number_fits k, pow-suc 2 k)

-- k + 1 rounds are done, and the last took what is noted; none before it took nothing
pub record Rounding (n : ℕ) (steps : List Step) (near fell : List ℕ) (changed k : ℕ) : Type 0 where
  pub holds : Holds n (Simulating steps (suc k)) near
  pub took : Took n (Simulating steps k) near fell changed
  pub unsettled : (j : ℕ) → j < k → Settled (pairs n) (Simulating steps) j → ⊥

pub rounding_first : {n m : ℕ} {steps : List Step} {into : List ℕ} → n ≤ 64 → ((v : Step) → Mem v steps → StepIn n m v) → Table n m steps into
    → {whole near old fell : List ℕ} {changed : ℕ} → Holds n full whole → Keeps n (able_too into n m) whole near
    → Noted n (member (2 ^ n - 1)) whole near old fell changed → Rounding n steps near fell changed 0
rounding_first few steps_in T h k d = record { holds = first_holds few steps_in T h k; took = first_took few steps_in T h k d; unsettled = λ j l. absurd (omega arith) }

-- where nothing fell, the rounds have settled
module _ {n : ℕ} {steps : List Step} {near fell : List ℕ} {changed k : ℕ} (w : Rounding n steps near fell changed k) where
  pub rounding_done : changed ≡ 0 → Settles n (Simulating steps) (record { rows = near; rounds = k })
  rounding_done z =
      record {
        rows_hold = record { within = w.holds.within; bits = λ p q i j. sym (same p q i j) };
        rounds_are = (λ x i. let b = pairs_e_lem n x i in same _ _ b.0 b.1 ∙ w.holds.bits _ _ b.0 b.1, w.unsettled);
      }
    where
      same : (p q : ℕ) → p < n → q < n → Simulating steps k (p, q) ≡ in_rows near p q
      same p q i j = w.took.others_stay p q i j (λ c. never (sym (none_member p) ∙ subst (λ (y : ℕ). So (member y p)) z c))

module _ {n m : ℕ} {steps : List Step} {into out : List ℕ} (T : Tables n m steps into out) where
  module _ {near fell : List ℕ} {changed k : ℕ} (w : Rounding n steps near fell changed k) where
    -- where something fell, the rounds have not settled
    module _ (some : 0 < changed) where
      still_falling : Settled (pairs n) (Simulating steps) k → ⊥
      still_falling e =
          let x : ℕ = count_trailing_zeros changed changed in
          let c = lowest_in changed changed some (number_fits changed) in
          let f = w.took.some_fell x c in
          let q : ℕ = count_trailing_zeros n (get_or fell x 0) in
          let q_in = lowest_lt n (get_or fell x 0) f.1 f.2 in
          let d = both_e _ _ (sym (w.took.fell_is x q c q_in) ∙ lowest_in n (get_or fell x 0) f.1 f.2) in
          neg_e _ d.1 (w.holds.bits x q f.0 q_in ∙ sym (e (x, q) (pairs_i n x q f.0 q_in)) ∙ d.0)

      unsettled_yet : (j : ℕ) → j < suc k → Settled (pairs n) (Simulating steps) j → ⊥
      unsettled_yet j l e = elim (dec_lt j k) [ yes h ↦ w.unsettled j h e | no g ↦ let z : j ≡ k = omega arith in still_falling (subst (Settled (pairs n) (Simulating steps)) z e) ]

      pub rounding_few : k < 4096
      rounding_few =
          let r = simulation_rounds_lem n steps (λ u i. (T.steps_in u i).target_in) in
          elim (dec_le r.0 k) [ yes l ↦ absurd (unsettled_yet r.0 (omega arith) r.2.0) | no g ↦ omega (arith, r.1, cells_few n T.states_few) ]

      pub rounding_more : {r old noted : List ℕ} {next : ℕ} → Keeps n (outlasts into out n m near fell changed) near r → Noted n (leads into 0 changed) near r old noted next → Rounding n steps r noted next (k + 1)
      rounding_more keeps d = rw (add-one k) (record { holds = round_holds T k w.holds w.took keeps; took = round_took T k w.holds w.took keeps d; unsettled = unsettled_yet })
