-- Sheets that were stored before T-06, when unsaid was read as greatest: which of them other states satisfy since then, and which states. Assumes
-- nothing.
use Prim.Native.Nat.{ℕ, ◌<◌}
use mathlib.Core.Path.{◌≡◌, sym, subst}
use mathlib.Core.Bool.{So}
use mathlib.Core.Logic.{◌↔◌}
use mathlib.Core.List.{List}
use native.Mathlib.Omega.{arith}
use native.Mathlib.Decide.{dec_lt}
use Rattle.chart.specs.Chart.{Chart, states}
use Rattle.chart.specs.Reading.{chart_in, read_chart}
use Rattle.chart.specs.declared.Shape.{Shape}
use Rattle.sheet.specs.Formula.{Formula, variable_free}
use Rattle.sheet.specs.Reading.{sheet, read_sheet}
use Rattle.sheet.specs.Solution.{Satisfies}
use Rattle.sheet.specs.Before.{Satisfied}
use Rattle.sheet.proofs.Accepted.{layout_read}
use Rattle.sheet.proofs.Before.{same_asked, said_as_before}
use Rattle.sheet.proofs.Solution.{read_targets, least_inside, greatest_inside}
use Rattle.words.specs.Words.{member}
use Rattle.property.proofs.Promise.{same_word}
use Rattle.both_solutions.specs.Promise.{BothSolved, BothPromise}
use Rattle.both_solutions.specs.declared.Solutions.{Solutions}
use Rattle.both_solutions.proofs.Halves.{solved, least_inside_greatest}
use Rattle.std.specs.Prelude.{Ok}

module _ (chart bytes : List ℕ) (sh : Shape) (kind nodes : ℕ) (f : Formula) (e : read_chart chart ≡ Ok sh) (d : read_sheet bytes sh.m ≡ sheet kind nodes f)
    (a : Solutions) (P : BothPromise chart bytes (Ok a)) where
  abbrev c : Chart
  c = chart_in chart sh

  S : BothSolved c f a
  S = solved chart bytes sh kind nodes f e d a P

  -- a kind that is said asks for what it asked for
  said : (kind ≡ 0 → ⊥) → (s : ℕ) → Satisfied c kind f s ↔ Satisfies c kind f s
  said some s = same_asked c kind kind f s (said_as_before kind (omega (arith, some)) (layout_read bytes sh.m kind nodes f d).1.kind_known)

  -- unsaid asked for the greatest solution, and asks for the least
  unsaid : kind ≡ 0 → (s : ℕ) → s < states c → (Satisfied c kind f s ↔ So (member a.greatest.word s)) × (Satisfies c kind f s ↔ So (member a.least.word s))
  unsaid z s h =
      let g = S.greatest_is.bit_exactly s h in
      let l = S.least_is.bit_exactly s h in
      rw z ((g.1, g.0), (l.1, l.0))

  -- the states are what they were exactly if the kind is said or the two words are equal
  pub stored_states_kept : ((s : ℕ) → s < states c → Satisfied c kind f s ↔ Satisfies c kind f s) ↔ (kind ≡ 0 → a.least.word ≡ a.greatest.word)
  stored_states_kept = (
    λ kept z. same_word c 1 2 f a.least a.greatest S.least_is S.greatest_is (λ s h. (let k = rw z at (kept s h) in (k.1, k.0))),
    λ equal s h. elim (dec_lt 0 kind) [
      | yes some ↦ said (λ z. omega arith) s
      | no none ↦ (
          let z : kind ≡ 0 = omega arith in
          let u = unsaid z s h in
          (λ x. u.1.1 (subst (λ (w : ℕ). So (member w s)) (sym (equal z)) (u.0.0 x)), λ x. u.0.1 (subst (λ (w : ℕ). So (member w s)) (equal z) (u.1.0 x))))
    ],
  )

  -- where F has no variable they are
  pub free_kept : So (variable_free f) → a.least.word ≡ a.greatest.word
  free_kept free =
      let below = read_targets chart sh e in
      same_word c 1 2 f a.least a.greatest S.least_is S.greatest_is (λ s h. (least_inside c below f s h, greatest_inside c below f free s h))

  -- of a sheet of kind 0, the states that are no longer in the answer are those of the greatest solution that the least lacks
  pub lost_exactly : kind ≡ 0 → (s : ℕ) → s < states c
      → (Satisfied c kind f s × (Satisfies c kind f s → ⊥)) ↔ (So (member a.greatest.word s) × (So (member a.least.word s) → ⊥))
  lost_exactly z s h = let u = unsaid z s h in (λ p. (u.0.0 p.0, λ t. p.1 (u.1.1 t)), λ p. (u.0.1 p.0, λ t. p.1 (u.1.0 t)))

  -- and none came to it
  pub none_gained : kind ≡ 0 → (s : ℕ) → s < states c → Satisfies c kind f s → Satisfied c kind f s
  none_gained z s h t = let u = unsaid z s h in u.0.1 (least_inside_greatest chart bytes sh kind nodes f e d a P s h (u.1.0 t))
