-- Charts that rest: what the house form of name 3 said, and where `eventually` differs from it. Assumes nothing.
use Prim.Native.Nat.{ℕ, zero, suc, ◌<◌, ◌≤◌}
use mathlib.Core.Path.{◌≡◌, refl, sym, subst, fun_ext, ◌∙◌}
use mathlib.Core.Bool.{Bool, true, false, So}
use mathlib.Core.List.{List, Memᴰ as Mem}
use mathlib.Core.Logic.{◌⊎◌, inl, inr, ◌↔◌, ⊎_elim}
use native.Mathlib.Omega.{arith}
use native.Mathlib.Decide.{dec_le, le_ind}
use Rattle.settle.specs.Test.{both, either}
use Rattle.settle.specs.Finite.{below}
use Rattle.settle.specs.Chain.{LeastSolution}
use Rattle.settle.proofs.Test.{never, both_i, either_l, either_r, either_e}
use Rattle.chart.specs.Chart.{Step, Chart, states, actions}
use Rattle.chart.specs.Layout.{StepIn}
use Rattle.sheet.specs.Formula.{Formula, variable_free}
use Rattle.sheet.specs.Meaning.{holds}
use Rattle.sheet.specs.Solution.{applied, Satisfies}
use Rattle.short_form.specs.ShortForm.{eventually, kind_written}
use Rattle.short_form.specs.Reachable.{Stuck, Goes, Run}
use Rattle.short_form.specs.Rest.{house_form, or_rest, NeverRests, RestsBefore}
use Rattle.short_form.proofs.Meaning.{diamond_i, box_i, box_e, box_n, F, missed, eventually_means}

-- box X is: no step at all, or some step and box X
box_parts : (f b none some : Bool) → (So none → So b) → ((So none → ⊥) → So some) → either f b ≡ either (either f none) (both some b)
unfolding both either
box_parts true b none some p q = refl
box_parts false b true some p q = p refl
box_parts false b false some p q = rw (q never)

-- ---- runs

-- a run that is stuck stays
stuck_stays : (steps : List Step) (at : ℕ → ℕ) → ((k : ℕ) → Goes steps (at k) (at (suc k))) → (last : ℕ) → Stuck steps (at last) → (k : ℕ) → last ≤ k → at k ≡ at last
stuck_stays steps at goes last stuck k h = le_ind (λ j. at j ≡ at last) refl further k h
  where
    further : (j : ℕ) → last ≤ j → at j ≡ at last → at (suc j) ≡ at last
    further j h e = elim (goes j) [ inl m ↦ absurd (stuck m.0 m.1 (m.2 ∙ e)) | inr p ↦ p.1 ∙ e ]

-- a run that rests before F never comes to F
never_comes : (steps : List Step) (F : ℕ → Type 0) (s : ℕ) (r : RestsBefore steps F s) (k : ℕ) → F (r.at k) → ⊥
never_comes steps F s r k t = elim (dec_le k r.last) [ yes h ↦ r.without k h t | no h ↦ r.without r.last (omega arith) (subst F (stuck_stays steps r.at r.run.goes r.last r.rests k (omega (arith, h))) t) ]

module _ (c : Chart) (steps_in : (t : Step) → Mem t c.steps → StepIn (states c) (actions c) t) where
  -- a run goes to states of the chart
  run_inside : {s : ℕ} {at : ℕ → ℕ} → s < states c → Run c.steps s at → (k : ℕ) → at k < states c
  run_inside h run zero = rw run.starts h
  run_inside h run (suc k) = elim (run.goes k) [ inl m ↦ subst (λ u. u < states c) m.3 (steps_in _ m.1).target_in | inr p ↦ rw p.1 (run_inside h run k) ]

  module _ (f : Formula) (free : So (variable_free f)) where
    -- F holds at a state
    abbrev Has : ℕ → Type 0
    Has = F c steps_in f free

    -- before T-05, and now
    abbrev Before : ℕ → Type 0
    Before = Satisfies c 1 (house_form f)

    abbrev Now : ℕ → Type 0
    Now = Satisfies c (kind_written 3) (eventually f)

    rest_free : So (variable_free (or_rest f))
    unfolding variable_free
    rest_free = both_i free refl

    one_application : (T : ℕ → Bool) (s : ℕ) → applied c (house_form f) T s ≡ applied c (eventually (or_rest f)) T s
    unfolding holds
    one_application T s = box_parts _ _ _ _ (λ none. box_i c steps_in _ s (λ t i e. never (box_e c steps_in _ s none t i e))) (λ n. let d = box_n c steps_in _ s n in diamond_i c steps_in _ s d.0 d.1 d.2 refl)

    -- the house form of F is `eventually` of 'F or at rest'
    pub house_form_is : (s : ℕ) → Before s ↔ Satisfies c (kind_written 3) (eventually (or_rest f)) s
    house_form_is s =
        let same : applied c (house_form f) ≡ applied c (eventually (or_rest f)) = fun_ext (λ T. fun_ext (one_application T)) in
        (subst (λ (g : (ℕ → Bool) → ℕ → Bool). LeastSolution (below (states c)) g s) same, subst (λ (g : (ℕ → Bool) → ℕ → Bool). LeastSolution (below (states c)) g s) (sym same))

    -- so it says: every run comes to F or is stuck
    pub house_form_means : (s : ℕ) → s < states c → Before s ↔ ((at : ℕ → ℕ) → Run c.steps s at → (k : ℕ) × (Has (at k) ⊎ Stuck c.steps (at k)))
    unfolding holds
    house_form_means s h =
        let m = eventually_means c steps_in (or_rest f) rest_free s h in (
          λ r at run. let x = m.0 ((house_form_is s).0 r) at run in (x.0, elim (either_e _ _ x.1) [ inl p ↦ inl p | inr none ↦ inr (λ t i e. never (box_e c steps_in _ _ none t i e)) ]),
          λ all. (house_form_is s).1 (m.1 (λ at run. let x = all at run in (x.0, ⊎_elim (λ p. either_l _ p) (λ stuck. either_r _ (box_i c steps_in _ _ (λ t i e. absurd (stuck t i e)))) x.1))),
        )

    -- a run that stops at a resting state without F does not come to F
    pub rests_before_fails : (s : ℕ) → s < states c → RestsBefore c.steps Has s → Now s → ⊥
    rests_before_fails s h r now = let x = (eventually_means c steps_in f free s h).0 now r.at r.run in never_comes c.steps Has s r x.0 x.1

    -- what satisfies the form now satisfied it before
    pub satisfied_before : (s : ℕ) → s < states c → Now s → Before s
    satisfied_before s h now = (house_form_means s h).1 (λ at run. let x = (eventually_means c steps_in f free s h).0 now at run in (x.0, inl x.1))

    -- of the states that satisfied it before, those no longer do of which a run rests before F
    pub differ_exactly : (s : ℕ) → s < states c → (Before s × (Now s → ⊥)) ↔ (Before s × RestsBefore c.steps Has s)
    differ_exactly s h = (
      λ p.
          let w = missed c steps_in f free s h p.1 in
          let x = (house_form_means s h).0 p.0 w.0 w.1 in
          (p.0, record { at = w.0; run = w.1; last = x.0; rests = ⊎_elim (λ t. absurd (w.2 x.0 t)) (λ stuck. stuck) x.1; without = λ k j. w.2 k }),
      λ p. (p.0, rests_before_fails s h p.1),
    )

    -- so the two differ on a chart exactly if a run of it rests before F: they do where it rests
    pub differ_somewhere : ((s : ℕ) × (s < states c) × (Before s × (Now s → ⊥))) ↔ ((s : ℕ) × (s < states c) × RestsBefore c.steps Has s)
    differ_somewhere = (λ p. (p.0, p.1, ((differ_exactly p.0 p.1).0 p.2).1), λ p. let r = p.2 in at_rest (r.at r.last) (run_inside p.1 r.run r.last) r.rests (r.without r.last (omega arith)))
      where
        at_rest : (u : ℕ) → u < states c → Stuck c.steps u → (Has u → ⊥) → (s : ℕ) × (s < states c) × (Before s × (Now s → ⊥))
        at_rest u h stuck not = (
          u,
          h,
          ((house_form_means u h).1 (λ at run. (0, inr (subst (Stuck c.steps) (sym run.starts) stuck))), rests_before_fails u h (record { at = λ k. u; run = record { starts = refl; goes = λ k. inr (stuck, refl) }; last = 0; rests = stuck; without = λ k j. not })),
        )

    -- on a chart without resting states they agree
    pub agree_without_rest : NeverRests c → (s : ℕ) → s < states c → Before s ↔ Now s
    agree_without_rest goes_on s h = (
      λ before. (eventually_means c steps_in f free s h).1 (λ at run. let x = (house_form_means s h).0 before at run in (x.0, ⊎_elim (λ t. t) (λ stuck. absurd (goes_on _ (run_inside h run x.0) stuck)) x.1)),
      satisfied_before s h,
    )
