-- What an accepted chart says of its bytes, and that these facts make a chart accepted.
use Prim.Native.Nat.{ℕ, zero, suc, ◌+◌, ◌*◌, ◌<◌, ◌≤◌}
use mathlib.Core.Path.{◌≡◌, refl, ap, ◌∙◌}
use mathlib.Core.Bool.{Bool, true, false}
use mathlib.Core.List.{List, Memᴰ as Mem}
use mathlib.Core.Logic.{inl, inr}
use native.Mathlib.Omega.{arith}
use native.Mathlib.Decide.{le_ind}
use lib.ListN.{length, get_or}
use lib.Dec.{ltb}
use borrow.Author.Tests.{ltb-false, lt-leb, le-ltb, lt-ltb}
use Rattle.refusal.specs.declared.Refusal.{Refusal}
use Rattle.settle.specs.Test.{pick}
use Rattle.chart.specs.Chart.{Step}
use Rattle.chart.specs.Layout.{longest_chart, Earlier, StepIn}
use Rattle.chart.specs.Reading.{step_at, chart_in, presence, judge_codes, judge_triple, judge_triples, and_then, read_transitions, read_actions, read_chart}
use Rattle.chart.specs.declared.Shape.{Shape}
use Rattle.chart.proofs.Judging.{CodesIn, codes_fine, fine_codes, triples_fine, fine_triples, code_rises, rises_code, triple_rises, rises_triple}
use Rattle.chart.proofs.Reading.{present, triple_fine}
use Rattle.chart.proofs.Steps.{step_member}
use Rattle.std.specs.Prelude.{Result, Ok, Err}
use Rattle.chart.specs.Reading.{Judged}
use Rattle.chart.specs.Reading.{faultless}

pub record Accepted (s : List ℕ) (sh : Shape) : Type 0 where
  pub states_some : 1 ≤ sh.n
  pub states_few : sh.n ≤ 64
  pub actions_few : sh.m ≤ 32
  pub transitions_few : sh.t ≤ 1024
  pub whole : length s ≡ 4 + sh.n + sh.m + 3 * sh.t
  pub states_at : get_or s 0 0 ≡ sh.n
  pub actions_at : get_or s (1 + sh.n) 0 ≡ sh.m
  pub transitions_at : get_or s (2 + sh.n + sh.m) 0 + 256 * get_or s (3 + sh.n + sh.m) 0 ≡ sh.t
  pub codes_rise : (i : ℕ) → i + 1 < sh.m → get_or s (2 + sh.n + i) 0 < get_or s (2 + sh.n + (i + 1)) 0
  pub steps_in : (i : ℕ) → i < sh.t → StepIn sh.n sh.m (step_at s (4 + sh.n + sh.m + 3 * i))
  pub steps_rise : (i : ℕ) → i + 1 < sh.t → Earlier (step_at s (4 + sh.n + sh.m + 3 * i)) (step_at s (4 + sh.n + sh.m + 3 * (i + 1)))

-- ---- section by section

and_then_lem : (x : Judged) (k : Result Shape Refusal) (sh : Shape) → and_then x k ≡ Ok sh → (x ≡ faultless) × (k ≡ Ok sh)
and_then_lem (Ok tt) k sh e = (refl, e)
and_then_lem (Err r) k sh e = let z : ◌≡◌ {A = ℕ} 0 1 = cc in absurd (omega arith)

-- a test that refuses, and what stands after it
past : (x : Bool) (r : Refusal) (k : Result Shape Refusal) (sh : Shape) → pick x (Err r) k ≡ Ok sh → (x ≡ false) × (k ≡ Ok sh)
past false r k sh e = (refl, e)
past true r k sh e = let z : ◌≡◌ {A = ℕ} 0 1 = cc in absurd (omega arith)

record Transitions (s : List ℕ) (n m p t : ℕ) : Type 0 where
  few : t ≤ 1024
  whole : length s ≡ p + 2 + 3 * t
  count : get_or s p 0 + 256 * get_or s (p + 1) 0 ≡ t
  steps_in : (i : ℕ) → i < t → StepIn n m (step_at s (p + 2 + 3 * i))
  steps_rise : (i : ℕ) → i + 1 < t → Earlier (step_at s (p + 2 + 3 * i)) (step_at s (p + 2 + 3 * (i + 1)))

-- t triples are there where the last is
pub reached : (s : List ℕ) (n m p t : ℕ) → p ≤ length s → ((j : ℕ) → j < t → judge_triple s n m (p + 3 * j) (0 + j) ≡ faultless)
    → p + 3 * t ≤ length s
reached s n m p zero h f = omega arith
reached s n m p (suc k) h f = omega (arith, (triple_fine s n m (p + 3 * k) (0 + k) (f k (omega arith))).0)

transitions_are : (s : List ℕ) (n m p : ℕ) (sh : Shape) → read_transitions s n m p ≡ Ok sh
    → (n ≡ sh.n) × (m ≡ sh.m) × Transitions s n m p sh.t
unfolding read_transitions
transitions_are s n m p sh e =
    let t : ℕ = get_or s p 0 + 256 * get_or s (p + 1) 0 in
    let a = and_then_lem (presence s p) _ sh e in
    let b = and_then_lem (presence s (p + 1)) _ sh a.1 in
    let c = past (ltb 1024 t) _ _ sh b.1 in
    let d = and_then_lem (judge_triples s n m (p + 2) 0 t) _ sh c.1 in
    let f = past (ltb (p + 2 + 3 * t) (length s)) _ _ sh d.1 in
    go t refl (present s (p + 1) b.0) (ltb-false _ _ c.0) (triples_fine s n m (p + 2) 0 t d.0) (ltb-false _ _ f.0) f.1
  where
    go : (t : ℕ) → get_or s p 0 + 256 * get_or s (p + 1) 0 ≡ t → p + 1 < length s → t ≤ 1024
        → ((i : ℕ) → i < t → judge_triple s n m (p + 2 + 3 * i) (0 + i) ≡ faultless) → length s ≤ p + 2 + 3 * t
        → ◌≡◌ {A = Result Shape Refusal} (Ok (record { n = n; m = m; t = t })) (Ok sh) → (n ≡ sh.n) × (m ≡ sh.m) × Transitions s n m p sh.t
    go t u h₁ h₂ f h₃ e =
        let q : ◌≡◌ {A = Shape} (record { n = n; m = m; t = t }) sh = cc in
        let v : t ≡ sh.t = ap (λ (x : Shape). x.t) q in (
          ap (λ (x : Shape). x.n) q,
          ap (λ (x : Shape). x.m) q,
          record {
            few = omega arith;
            whole = omega (arith, reached s n m (p + 2) t (omega arith) f);
            count = u ∙ v;
            steps_in = λ i h. (triple_fine s n m (p + 2 + 3 * i) (0 + i) (f i (omega arith))).1;
            steps_rise = λ i h. triple_rises s (p + 2) i (triple_fine s n m (p + 2 + 3 * (i + 1)) (0 + (i + 1)) (f (i + 1) (omega arith))).2;
          },
        )

-- triples that are there, in range and rising are judged fine
pub steps_fine : (s : List ℕ) (n m p t : ℕ) → p + 3 * t ≤ length s → ((i : ℕ) → i < t → StepIn n m (step_at s (p + 3 * i)))
    → ((i : ℕ) → i + 1 < t → Earlier (step_at s (p + 3 * i)) (step_at s (p + 3 * (i + 1)))) → (j : ℕ) → j < t → judge_triple s n m (p + 3 * j) (0 + j) ≡ faultless
steps_fine s n m p t h steps_in steps_rise j l =
    rw (
      lt-leb (length s) (p + 3 * j) (omega arith),
      lt-ltb _ _ (steps_in j l).source_in,
      lt-leb (length s) (p + 3 * j + 1) (omega arith),
      lt-ltb _ _ (steps_in j l).action_in,
      lt-leb (length s) (p + 3 * j + 2) (omega arith),
      lt-ltb _ _ (steps_in j l).target_in,
    ) (rises_triple s p t steps_rise j l)

are_transitions : (s : List ℕ) (n m p t : ℕ) → Transitions s n m p t → read_transitions s n m p ≡ Ok (record { n = n; m = m; t = t })
unfolding read_transitions
are_transitions s n m p t T =
    let h : length s ≡ p + 2 + 3 * t = T.whole in
    rw (
      lt-leb (length s) p (omega arith),
      lt-leb (length s) (p + 1) (omega arith),
      T.count,
      le-ltb 1024 t T.few,
      fine_triples s n m (p + 2) 0 t (steps_fine s n m (p + 2) t (omega arith) T.steps_in T.steps_rise),
      le-ltb (p + 2 + 3 * t) (length s) (omega arith),
    )

record Actions (s : List ℕ) (n m p t : ℕ) : Type 0 where
  few : m ≤ 32
  count : get_or s p 0 ≡ m
  codes_rise : (i : ℕ) → i + 1 < m → get_or s (p + 1 + i) 0 < get_or s (p + 1 + (i + 1)) 0
  transitions : Transitions s n m (p + 1 + m) t

actions_are : (s : List ℕ) (n p : ℕ) (sh : Shape) → read_actions s n p ≡ Ok sh → (n ≡ sh.n) × Actions s n sh.m p sh.t
unfolding read_actions
actions_are s n p sh e =
    let a = and_then_lem (presence s p) _ sh e in
    let b = past (ltb 32 (get_or s p 0)) _ _ sh a.1 in
    let d = and_then_lem (judge_codes s (p + 1) 0 (get_or s p 0)) _ sh b.1 in
    let f = transitions_are s n (get_or s p 0) (p + 1 + get_or s p 0) sh d.1 in
    (f.0, go (get_or s p 0) sh.m refl f.1 (ltb-false _ _ b.0) (codes_fine s (p + 1) 0 (get_or s p 0) d.0) f.2)
  where
    go : (k m : ℕ) → get_or s p 0 ≡ k → k ≡ m → k ≤ 32 → CodesIn s (p + 1) 0 k → Transitions s n k (p + 1 + k) sh.t → Actions s n m p sh.t
    go k m e q h f T =
        record {
          few = omega arith;
          count = e ∙ q;
          codes_rise = λ i l. code_rises s (p + 1) i (f (i + 1) (omega arith)).1;
          transitions = rw q at T;
        }

are_actions : (s : List ℕ) (n m p t : ℕ) → Actions s n m p t → read_actions s n p ≡ Ok (record { n = n; m = m; t = t })
unfolding read_actions
are_actions s n m p t A =
    let h : length s ≡ p + 1 + m + 2 + 3 * t = A.transitions.whole in
    let faultless : CodesIn s (p + 1) 0 m = λ j l. (omega arith, rises_code s (p + 1) m A.codes_rise j l) in
    rw (lt-leb (length s) p (omega arith), A.count, le-ltb 32 m A.few, fine_codes s (p + 1) 0 m faultless) (are_transitions s n m (p + 1 + m) t A.transitions)

-- the bytes of an accepted chart
pub accepted : (s : List ℕ) (sh : Shape) → read_chart s ≡ Ok sh → Accepted s sh
unfolding read_chart
accepted s sh e =
    let a = and_then_lem (presence s 0) _ sh e in
    let b = past (ltb (get_or s 0 0) 1) _ _ sh a.1 in
    let c = past (ltb 64 (get_or s 0 0)) _ _ sh b.1 in
    let d = and_then_lem (presence s (get_or s 0 0)) _ sh c.1 in
    let f = actions_are s (get_or s 0 0) (1 + get_or s 0 0) sh d.1 in
    go (get_or s 0 0) refl f.0 (ltb-false _ _ b.0) (ltb-false _ _ c.0) f.1
  where
    go : (k : ℕ) → get_or s 0 0 ≡ k → k ≡ sh.n → 1 ≤ k → k ≤ 64 → Actions s k sh.m (1 + k) sh.t → Accepted s sh
    go k e q h₁ h₂ A' =
        let A = rw q at A' in
        let T = A.transitions in
        let p₁ : 1 + sh.n + 1 ≡ 2 + sh.n = omega arith in
        let p₂ : 1 + sh.n + 1 + sh.m ≡ 2 + sh.n + sh.m = omega arith in
        let p₃ : 1 + sh.n + 1 + sh.m + 1 ≡ 3 + sh.n + sh.m = omega arith in
        let p₄ : 1 + sh.n + 1 + sh.m + 2 ≡ 4 + sh.n + sh.m = omega arith in
        record {
          states_some = omega arith;
          states_few = omega arith;
          actions_few = A.few;
          transitions_few = T.few;
          whole = omega (arith, T.whole);
          states_at = e ∙ q;
          actions_at = A.count;
          transitions_at = rw (p₃, p₂) at T.count;
          codes_rise = λ i h. rw p₁ at (A.codes_rise i h);
          steps_in = λ i h. rw p₄ at (T.steps_in i h);
          steps_rise = λ i h. rw p₄ at (T.steps_rise i h);
        }

-- and any bytes of which these facts hold are accepted
pub accepts : (s : List ℕ) (sh : Shape) → Accepted s sh → read_chart s ≡ Ok sh
unfolding read_chart
accepts s sh A =
    let h : length s ≡ 4 + sh.n + sh.m + 3 * sh.t = A.whole in
    let p₁ : 1 + sh.n + 1 ≡ 2 + sh.n = omega arith in
    let p₂ : 1 + sh.n + 1 + sh.m ≡ 2 + sh.n + sh.m = omega arith in
    let p₃ : 1 + sh.n + 1 + sh.m + 1 ≡ 3 + sh.n + sh.m = omega arith in
    let p₄ : 1 + sh.n + 1 + sh.m + 2 ≡ 4 + sh.n + sh.m = omega arith in
    let T : Transitions s sh.n sh.m (1 + sh.n + 1 + sh.m) sh.t =
    record {
      few = A.transitions_few;
      whole = omega arith;
      count = rw (p₃, p₂) A.transitions_at;
      steps_in = λ i l. rw p₄ (A.steps_in i l);
      steps_rise = λ i l. rw p₄ (A.steps_rise i l);
    } in
    let C : Actions s sh.n sh.m (1 + sh.n) sh.t =
    record { few = A.actions_few; count = A.actions_at; codes_rise = λ i l. rw p₁ (A.codes_rise i l); transitions = T } in
    rw (
      lt-leb (length s) 0 (omega arith),
      A.states_at,
      le-ltb sh.n 1 A.states_some,
      le-ltb 64 sh.n A.states_few,
      lt-leb (length s) sh.n (omega arith),
    ) (are_actions s sh.n sh.m (1 + sh.n) sh.t C)

-- no accepted chart is longer than the longest
pub accepted_short : (s : List ℕ) (sh : Shape) → read_chart s ≡ Ok sh → length s ≤ longest_chart
accepted_short s sh e = let A = accepted s sh e in omega (arith, A.whole, A.states_few, A.actions_few, A.transitions_few)

source_rises : (a b : Step) → Earlier a b → a.source ≤ b.source
source_rises a b (inl h) = omega arith
source_rises a b (inr (e, f)) = omega arith

-- sources rise with the number of a triple
pub sources_rise : (s : List ℕ) (sh : Shape) → Accepted s sh → (i j : ℕ) → i ≤ j → j < sh.t
    → get_or s (4 + sh.n + sh.m + 3 * i) 0 ≤ get_or s (4 + sh.n + sh.m + 3 * j) 0
sources_rise s sh A i j h =
    le_ind (λ k. k < sh.t → get_or s (4 + sh.n + sh.m + 3 * i) 0 ≤ get_or s (4 + sh.n + sh.m + 3 * k) 0) (λ l. omega arith) next j h
  where
    next : (k : ℕ) → i ≤ k → (k < sh.t → get_or s (4 + sh.n + sh.m + 3 * i) 0 ≤ get_or s (4 + sh.n + sh.m + 3 * k) 0)
        → suc k < sh.t → get_or s (4 + sh.n + sh.m + 3 * i) 0 ≤ get_or s (4 + sh.n + sh.m + 3 * suc k) 0
    next k h below l =
        let e : k + 1 ≡ suc k = omega arith in
        omega (arith, below (omega arith), source_rises _ _ (rw e at (A.steps_rise k (omega arith))))

-- every step leads from a state to a state
pub each_step : (s : List ℕ) (sh : Shape) → read_chart s ≡ Ok sh → (u : Step) → Mem u (chart_in s sh).steps → StepIn sh.n sh.m u
each_step s sh e u i = let q = step_member s (4 + sh.n + sh.m) sh.t i in rw q.2 ((accepted s sh e).steps_in q.0 q.1)

-- ---- an answer is one of the two, and of one shape

pub never_both : {X : Type 0} {x : Result Shape Refusal} {sh : Shape} {r : Refusal} → x ≡ Ok sh → x ≡ Err r → X
never_both e h = let z : ◌≡◌ {A = ℕ} 0 1 = cc in absurd (omega arith)

pub same_shape : {x : Result Shape Refusal} {a b : Shape} → x ≡ Ok a → x ≡ Ok b → a ≡ b
same_shape e h = cc
