-- That the triples of a state's range lead so is what the chart's steps say of a line's move and of the pairs that it relies on.
use Prim.Native.Nat.{ℕ, ◌+◌, ◌*◌, ◌<◌}
use mathlib.Core.Path.{◌≡◌, refl, ap, sym, subst⁻¹, ◌∙◌}
use mathlib.Core.Bool.{Bool, true, false, not, So}
use mathlib.Core.List.{List, Memᴰ as Mem}
use native.Mathlib.Omega.{arith}
use lib.Dec.{eqb}
use lib.ListN.{get_or}
use borrow.Author.Tests.{eq-eqb, eqb-true}
use Rattle.settle.proofs.Test.{never}
use Rattle.words.specs.Words.{member}
use Rattle.chart.specs.Chart.{Step}
use Rattle.chart.specs.Reading.{step_at, steps_at}
use Rattle.chart.proofs.Steps.{step_member, member_step}
use Rattle.ranges.specs.Sources.{target_at, Sorted, Leads}
use Rattle.ranges.proofs.Ranges.{range_end, source_of, range_of}
use Rattle.reason.specs.Line.{Line}
use Rattle.reason.proofs.Relies.{relies_0, relies_1}
use Rattle.check_reasons.specs.Judging.{Whether, SomeLeads, EachLeads, Rests}

-- an answer for one thing is an answer for another that is so where it is
pub whether_also : {A B : Type 0} (b : Bool) → (A → B) → (B → A) → Whether A b → Whether B b
whether_also true f g w = f w
whether_also false f g w = λ x. w (g x)

-- what a test of an answer leaves
pub whether_so : {A : Type 0} (b : Bool) → b ≡ true → Whether A b → A
whether_so true e w = w
whether_so false e w = never e

pub whether_not : {A : Type 0} (b : Bool) → b ≡ false → Whether A b → A → ⊥
whether_not true e w = never (sym e)
whether_not false e w = w

-- some step leads to the target where not each leads elsewhere
pub some_by : (bytes : List ℕ) (at : ℕ) (first : List ℕ) (s action target : ℕ) (b : Bool) → Leads bytes at first s action (λ u. not (eqb u target)) b
    → Whether (SomeLeads bytes at (get_or first s 0) (get_or first (s + 1) 0) action target) (not b)
some_by bytes at first s action target true f = λ m. never (sym (ap not (eq-eqb _ target m.4)) ∙ f m.0 m.1 m.2 m.3)
some_by bytes at first s action target false f = (f.0, f.1, f.2, f.3, is_target (eqb (target_at bytes at f.0) target) refl f.4)
  where
    is_target : (b : Bool) → eqb (target_at bytes at f.0) target ≡ b → (So (not b) → ⊥) → target_at bytes at f.0 ≡ target
    is_target true e g = eqb-true _ target e
    is_target false e g = absurd (g refl)

module _ (bytes : List ℕ) (at n : ℕ) (first : List ℕ) (w : Sorted bytes at n first) where
  abbrev t : ℕ
  t = get_or first n 0

  abbrev steps : List Step
  steps = steps_at bytes at t

  -- ---- the triples of the state s

  module _ (s : ℕ) (s_in : s < n) (action : ℕ) where
    abbrev low : ℕ
    low = get_or first s 0

    abbrev high : ℕ
    high = get_or first (s + 1) 0

    some_move : (target : ℕ) → SomeLeads bytes at low high action target → Mem (record { source = s; action = action; target = target }) steps
    some_move target (i, l, h, d, e) = rw (← source_of bytes at n first w s i s_in l h, ← d, ← e) (member_step bytes at t i (omega (arith, (range_end bytes at n first w s s_in).0)))

    move_some : (target : ℕ) → Mem (record { source = s; action = action; target = target }) steps → SomeLeads bytes at low high action target
    move_some target m =
        let i = step_member bytes at t m in
        let r = range_of bytes at n first w s i.0 s_in i.1 (sym (ap (λ (u : Step). u.source) i.2)) in
        (i.0, r.0, r.1, sym (ap (λ (u : Step). u.action) i.2), sym (ap (λ (u : Step). u.target) i.2))

    module _ (passes : ℕ → Bool) where
      abbrev EachStep : Type 0
      EachStep = (u : Step) → Mem u steps → u.source ≡ s → u.action ≡ action → So (passes u.target)

      each_step : EachLeads bytes at low high action passes → EachStep
      each_step f u m d e =
          let i = step_member bytes at t m in
          let r = range_of bytes at n first w s i.0 s_in i.1 (sym (ap (λ (v : Step). v.source) i.2) ∙ d) in
          subst⁻¹ (λ (v : Step). So (passes v.target)) i.2 (f i.0 r.0 r.1 (sym (ap (λ (v : Step). v.action) i.2) ∙ e))

      step_each : EachStep → EachLeads bytes at low high action passes
      step_each f i l h d = f (step_at bytes (at + 3 * i)) (member_step bytes at t i (omega (arith, (range_end bytes at n first w s s_in).0))) (source_of bytes at n first w s i s_in l h) d

  -- ---- the two sides of the pair (p, q)

  module _ (rows : List ℕ) (p q : ℕ) (p_in : p < n) (q_in : q < n) (action target : ℕ) where
    abbrev line : ℕ → Line
    line side = record { p = p; q = q; side = side; action = action; target = target }

    abbrev Some : ℕ → Type 0
    Some s = SomeLeads bytes at (get_or first s 0) (get_or first (s + 1) 0) action target

    abbrev Each : ℕ → (ℕ → Bool) → Type 0
    Each s = EachLeads bytes at (get_or first s 0) (get_or first (s + 1) 0) action

    -- the target with u is in the words; u with the target is
    abbrev after : ℕ → Bool
    after u = member (get_or rows target 0) u

    abbrev before : ℕ → Bool
    before u = member (get_or rows u 0) target

    pub forth_rests : (b : Bool) → Whether (Some p × Each q after) b → Whether (Rests steps rows (line 0)) b
    forth_rests b = whether_also b
        (λ g. (some_move p p_in action target g.0, λ x m. (let u = (relies_0 steps (line 0) refl x).0 m in subst⁻¹ (λ (y : ℕ × ℕ). So (member (get_or rows y.0 0) y.1)) u.4 (each_step q q_in action after g.1 u.0 u.1 u.2 u.3))))
        (λ r. (move_some p p_in action target r.0, step_each q q_in action after (λ u m d e. r.1 (target, u.target) ((relies_0 steps (line 0) refl _).1 (u, m, d, e, refl)))))

    pub back_rests : (b : Bool) → Whether (Some q × Each p before) b → Whether (Rests steps rows (line 1)) b
    back_rests b = whether_also b
        (λ g. (some_move q q_in action target g.0, λ x m. (let u = (relies_1 steps (line 1) refl x).0 m in subst⁻¹ (λ (y : ℕ × ℕ). So (member (get_or rows y.0 0) y.1)) u.4 (each_step p p_in action before g.1 u.0 u.1 u.2 u.3))))
        (λ r. (move_some q q_in action target r.0, step_each p p_in action before (λ u m d e. r.1 (u.target, target) ((relies_1 steps (line 1) refl _).1 (u, m, d, e, refl)))))
