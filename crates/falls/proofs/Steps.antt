-- What the words of the two tables say of the chart's steps; and that both walks find the states that keep a step into a row. Assumes nothing.
use Prim.Native.Nat.{ℕ, ◌+◌, ◌-◌, ◌*◌, ◌^◌, ◌≤◌, ◌<◌}
use mathlib.Core.Path.{◌≡◌, sym, ap, ◌∙◌}
use mathlib.Core.Bool.{Bool, true, false, So}
use mathlib.Core.List.Memᴰ
use mathlib.Core.List.{List, map, Memᴰ as Mem}
use mathlib.Core.Logic.{◌⊎◌, inl, inr}
use native.Mathlib.Omega.{arith}
use native.Mathlib.Decide.{dec_lt}
use borrow.Author.Tests.{eq-eqb, eqb-true}
use lib.Bits.{bit_and, and_le_l}
use lib.Count.{count_trailing_zeros}
use lib.ListN.{get_or}
use Rattle.settle.proofs.Test.{never, both_i, both_e, neg_i, neg_e}
use Rattle.chart.specs.Chart.{Step}
use Rattle.chart.specs.Layout.{StepIn}
use Rattle.chart.specs.Reading.{chart_in}
use Rattle.chart.specs.declared.Shape.{Shape}
use Rattle.chart.proofs.Accepted.{accepted, each_step}
use Rattle.words.specs.Words.{member}
use Rattle.words.proofs.Words.{none_member, all_word, word_member}
use Rattle.steps.specs.Table.{ReadAs, Table, HasStep, turn}
use Rattle.words.proofs.Bits.{and_member, lowest_in}
use Rattle.steps.proofs.Stepping.{lead_i, lead_e}
use Rattle.falls.specs.Round.{apart, keeps_step}

-- ---- two sets with a member in common

apart_e : (v w x : ℕ) → So (apart v w) → So (member v x) → So (member w x) → ⊥
apart_e v w x e s t = never (sym (ap (λ (y : ℕ). member y x) (eqb-true _ _ e) ∙ none_member x) ∙ and_member v w x ∙ both_i s t)

apart_n : (n v w : ℕ) → v < 2 ^ n → (So (apart v w) → ⊥) → (x : ℕ) × So (member v x) × So (member w x)
apart_n n v w h f =
    let low : ℕ = count_trailing_zeros n (bit_and v w) in
    let some : 0 < bit_and v w = elim (positive (bit_and v w)) [ inl z ↦ absurd (f (eq-eqb _ _ z)) | inr p ↦ p ] in
    let r = both_e _ _ (sym (and_member v w low) ∙ lowest_in n (bit_and v w) some (omega (arith, and_le_l v w))) in
    (low, r.0, r.1)
  where
    positive : (k : ℕ) → (k ≡ 0) ⊎ (0 < k)
    positive k = elim (dec_lt 0 k) [ yes p ↦ inr p | no q ↦ inl (omega arith) ]

-- every state is one of all
pub all_member : (n u : ℕ) → u < n → So (member (2 ^ n - 1) u)
all_member n u h = ap (λ (w : ℕ). member w u) (sym (all_word n)) ∙ word_member n u (λ x. true) h

-- ---- the tables of a chart's steps and of them turned back

pub record Tables (n m : ℕ) (steps : List Step) (into out : List ℕ) : Type 0 where
  pub states_few : n ≤ 64
  pub steps_in : (v : Step) → Mem v steps → StepIn n m v
  pub forth : Table n m steps into
  pub back : Table n m (map turn steps) out

pub chart_tables : (chart : List ℕ) (sh : Shape) {into out : List ℕ} → ReadAs chart sh → Table sh.n sh.m (chart_in chart sh).steps into
    → Table sh.n sh.m (map turn (chart_in chart sh).steps) out → Tables sh.n sh.m (chart_in chart sh).steps into out
chart_tables chart sh read T U = record { states_few = (accepted chart sh read).states_few; steps_in = each_step chart sh read; forth = T; back = U }

module _ {n m : ℕ} {steps : List Step} {into out : List ℕ} (T : Tables n m steps into out) (a : ℕ) (a_in : a < m) where
  out_i : (q y : ℕ) → q < n → HasStep steps q a y → So (member (get_or out ((a + 1) * n + q) 0) y)
  out_i q y h i = (T.back.by_action a q y a_in h).1 (Memᴰ.map turn i)

  out_e : (q y : ℕ) → q < n → So (member (get_or out ((a + 1) * n + q) 0) y) → HasStep steps q a y
  out_e q y h t = let r = Memᴰ.of_map turn steps ((T.back.by_action a q y a_in h).0 t) in Memᴰ.cast (sym (ap turn r.2)) r.1

  -- ---- who keeps a step into a row

  module _ (row gone q : ℕ) (q_in : q < n) (row_small : row < 2 ^ n) where
    pub keeps_step_i : (by_left : Bool) (y : ℕ) → HasStep steps q a y → So (member row y) → So (keeps_step by_left into out ((a + 1) * n) row gone q)
    unfolding keeps_step
    keeps_step_i true y i s = lead_i T.states_few T.forth a a_in row q y (T.steps_in _ i).target_in s i
    keeps_step_i false y i s = neg_i _ (λ t. apart_e _ row y (both_e _ _ t).1 (out_i q y q_in i) s)

    -- of those that had one into what is left and what fell
    pub keeps_step_e : (by_left : Bool) → So (keeps_step by_left into out ((a + 1) * n) row gone q) → (z : ℕ) → HasStep steps q a z → So (member row z) ⊎ So (member gone z)
        → (y : ℕ) × HasStep steps q a y × So (member row y)
    unfolding keeps_step
    keeps_step_e true t z i o = let r = lead_e T.states_few T.forth a a_in row q row_small t in (r.0, r.2, r.1)
    keeps_step_e false t z i (inl s) = (z, i, s)
    keeps_step_e false t z i (inr s) =
        let r = apart_n n _ row (T.back.no_bit_above ((a + 1) * n + q)) (λ e. neg_e _ t (both_i (lead_i T.states_few T.forth a a_in gone q z (T.steps_in _ i).target_in s i) e)) in
        (r.0, out_e q r.0 q_in r.1, r.2)
