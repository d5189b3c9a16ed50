-- The code that a call returns is 0 exactly if the question was answered, and else its parts are those of the refusal. Assumes nothing.
use Prim.Native.Nat.{ℕ}
use mathlib.Core.Path.{◌≡◌, refl, sym, subst, subst⁻¹, ◌∙◌}
use mathlib.Core.Logic.{◌⊎◌, inl, inr, ⊎_elim}
use mathlib.Core.List.{List}
use native.Mathlib.Omega.{arith}
use Rattle.refusal.specs.declared.Refusal.{Refusal}
use Rattle.relation.specs.declared.Matrix.{Matrix}
use Rattle.marks.specs.Promise.{MarksPromise}
use Rattle.marks.proofs.Promise.{marks_determined}
use Rattle.simulation.specs.Promise.{SimulationPromise}
use Rattle.simulation.proofs.Promise.{simulation_determined}
use Rattle.equal.specs.Promise.{RowsPromise, PairsPromise}
use Rattle.equal.proofs.Promise.{rows_determined, pairs_determined}
use Rattle.property.specs.Promise.{PropertyPromise}
use Rattle.solve.specs.declared.Solved.{Solved}
use Rattle.property.proofs.Promise.{property_determined}
use Rattle.both_solutions.specs.Promise.{BothPromise}
use Rattle.both_solutions.specs.declared.Solutions.{Solutions}
use Rattle.both_solutions.proofs.Promise.{both_determined}
use Rattle.lent.proofs.Lent.{not_written}
use Rattle.short_form.specs.Promise.{ShortFormPromise}
use Rattle.short_form.proofs.Promise.{short_form_determined}
use Rattle.reasons.specs.Promise.{ReasonsPromise}
use Rattle.reasons.proofs.Promise.{reasons_determined}
use Rattle.check_reasons.specs.Promise.{CheckPromise}
use Rattle.check_reasons.proofs.Promise.{check_determined}
use Rattle.compare.specs.Promise.{ComparePromise}
use Rattle.compare.proofs.Determined.{not_compared, compare_determined}
use Rattle.calls.specs.Packing.{packed, Parts}
use Rattle.calls.specs.Shown.{Lent, matrix_code, MarksShown, SimulationShown, equal_code, EqualRowsShown, EqualPairsShown, property_code, PropertyShown, both_code, BothShown, written_code, ShortFormShown, ReasonsShown, check_code, CheckShown, compare_code, CompareShown}
use Rattle.calls.specs.Told.{Told}
use Rattle.calls.proofs.Packing.{Packable, packed_some, packing}
use Rattle.calls.proofs.Packable.{matrix_packable, rows_packable, pairs_packable, property_packable, both_packable, short_form_packable, reasons_packable, check_packable, compare_packable}
use Rattle.std.specs.Prelude.{Result, Ok, Err}
use Rattle.compare.specs.declared.Comparison.{Comparison}

-- ---- what all share

-- an answer and its code: given, and 0; or refused, and the refusal packed
abbrev Coded : {A G : Type 0} → (G → A) → (Refusal → A) → A → ℕ → Type 0
Coded {A} {G} given refused a code = ((g : G) × (a ≡ given g) × (code ≡ 0)) ⊎ ((r : Refusal) × (a ≡ refused r) × (code ≡ packed r))

-- where the promise leaves no choice and every refusal that it allows can be packed
told : {A G : Type 0} {given : G → A} {refused : Refusal → A} {Promise : A → Type 0} {code : ℕ}
    → ((a b : A) → Promise a → Promise b → a ≡ b) → ((r : Refusal) → Promise (refused r) → Packable r) → ((g : G) (r : Refusal) → given g ≡ refused r → ⊥)
    → (a : A) → Promise a → Coded given refused a code → Told given refused Promise code
told {A} {G} {given} {refused} {Promise} {code} determined packable apart a p = ⊎_elim
    (λ x. record { zero_exactly = (λ z. (x.0, subst Promise x.1 p), λ y. x.2); else_parts = λ some. absurd (some x.2) })
    (λ x. let q : Promise (refused x.0) = subst Promise x.1 p in let fits = packable x.0 q in record {
      zero_exactly = (λ z. absurd (packed_some x.0 fits (sym x.2 ∙ z)), λ y. absurd (apart y.0 x.0 (determined _ _ y.1 q)));
      else_parts = λ some. (x.0, q, subst⁻¹ (λ (c : ℕ). Parts c x.0) x.2 (packing x.0 fits));
    })

-- ---- marks and simulation

given_or_refused : {code : ℕ} (a : Result Matrix Refusal) → code ≡ matrix_code a → Coded Ok Err a code
given_or_refused (Ok g) e = inl (g, refl, e)
given_or_refused (Err r) e = inr (r, refl, e)

not_given : (g : Matrix) (r : Refusal) → Ok g ≡ Err r → ⊥
not_given g r e = let z : ◌≡◌ {A = ℕ} 0 1 = cc in omega arith

pub marks_told : (chart old new : List ℕ) (states rounds : Lent) (code : ℕ) → MarksShown chart old new states rounds code
    → Told Ok Err (MarksPromise chart old new) code
marks_told chart old new states rounds code x =
    told (λ s t p q. (marks_determined chart old new new s t p q).0) (matrix_packable chart old new) not_given
    x.answer x.promised (given_or_refused x.answer x.code_is)

pub simulation_told : (chart old new : List ℕ) (states rounds : Lent) (code : ℕ) → SimulationShown chart old new states rounds code
    → Told Ok Err (SimulationPromise chart old new) code
simulation_told chart old new states rounds code x =
    told (λ s t p q. (simulation_determined chart old new new s t p q).0) (matrix_packable chart old new) not_given
    x.answer x.promised (given_or_refused x.answer x.code_is)

-- ---- equal rows and equal pairs

counted_or_refused : {code : ℕ} (a : Result ℕ Refusal) → code ≡ equal_code a → Coded Ok Err a code
counted_or_refused (Ok count) e = inl (count, refl, e)
counted_or_refused (Err r) e = inr (r, refl, e)

not_counted : (count : ℕ) (r : Refusal) → Ok count ≡ Err r → ⊥
not_counted count r e = let z : ◌≡◌ {A = ℕ} 0 1 = cc in omega arith

pub equal_rows_told : (chart old new : List ℕ) (states : Lent) (code : ℕ) → EqualRowsShown chart old new states code
    → Told Ok Err (RowsPromise chart old new) code
equal_rows_told chart old new states code x =
    told (λ s t p q. (rows_determined chart old new new s t p q).0) (rows_packable chart old new) not_counted
    x.answer x.promised (counted_or_refused x.answer x.code_is)

pub equal_pairs_told : (chart : List ℕ) (pairs : Lent) (code : ℕ) → EqualPairsShown chart pairs code
    → Told Ok Err (PairsPromise chart) code
equal_pairs_told chart pairs code x =
    told (pairs_determined chart) (pairs_packable chart) not_counted
    x.answer x.promised (counted_or_refused x.answer x.code_is)

-- ---- property

satisfied_or_refused : {code : ℕ} (a : Result Solved Refusal) → code ≡ property_code a → Coded Ok Err a code
satisfied_or_refused (Ok solved) e = inl (solved, refl, e)
satisfied_or_refused (Err r) e = inr (r, refl, e)

not_satisfied : (solved : Solved) (r : Refusal) → Ok solved ≡ Err r → ⊥
not_satisfied solved r e = let z : ◌≡◌ {A = ℕ} 0 1 = cc in omega arith

pub property_told : (chart sheet : List ℕ) (word count rounds : Lent) (code : ℕ) → PropertyShown chart sheet word count rounds code
    → Told Ok Err (PropertyPromise chart sheet) code
property_told chart sheet word count rounds code x =
    told (property_determined chart sheet) (property_packable chart sheet) not_satisfied
    x.answer x.promised (satisfied_or_refused x.answer x.code_is)

-- ---- both solutions

both_or_refused : {code : ℕ} (a : Result Solutions Refusal) → code ≡ both_code a → Coded Ok Err a code
both_or_refused (Ok solutions) e = inl (solutions, refl, e)
both_or_refused (Err r) e = inr (r, refl, e)

not_both : (solutions : Solutions) (r : Refusal) → Ok solutions ≡ Err r → ⊥
not_both solutions r e = let z : ◌≡◌ {A = ℕ} 0 1 = cc in omega arith

pub both_told : (chart sheet least new_least greatest new_greatest : List ℕ) (code : ℕ) → BothShown chart sheet least new_least greatest new_greatest code
    → Told Ok Err (BothPromise chart sheet) code
both_told chart sheet least new_least greatest new_greatest code x =
    told (both_determined chart sheet) (both_packable chart sheet) not_both
    x.answer x.promised (both_or_refused x.answer x.code_is)

-- ---- short form

written_or_refused : {code : ℕ} (a : Result ℕ Refusal) → code ≡ written_code a → Coded Ok Err a code
written_or_refused (Ok length) e = inl (length, refl, e)
written_or_refused (Err r) e = inr (r, refl, e)

pub short_form_told : (chart sheet : List ℕ) (name : ℕ) (old new : List ℕ) (written : Lent) (code : ℕ) → ShortFormShown chart sheet name old new written code
    → Told Ok Err (ShortFormPromise chart sheet name old new) code
short_form_told chart sheet name old new written code x =
    told (λ s t p q. (short_form_determined chart sheet name old p q).0) (short_form_packable chart sheet name old new) (λ length r e. not_written (sym e))
    x.answer x.promised (written_or_refused x.answer x.code_is)

-- ---- reasons, and the check of a list

pub reasons_told : (chart old new : List ℕ) (written : Lent) (code : ℕ) → ReasonsShown chart old new written code
    → Told Ok Err (ReasonsPromise chart old new) code
reasons_told chart old new written code x =
    told (λ s t p q. (reasons_determined chart old new new s t p q).0) (reasons_packable chart old new) (λ length r e. not_written (sym e))
    x.answer x.promised (written_or_refused x.answer x.code_is)

accepted_or_refused : {code : ℕ} (a : Result ℕ Refusal) → code ≡ check_code a → Coded Ok Err a code
accepted_or_refused (Ok lines) e = inl (lines, refl, e)
accepted_or_refused (Err r) e = inr (r, refl, e)

not_accepted : (lines : ℕ) (r : Refusal) → Ok lines ≡ Err r → ⊥
not_accepted lines r e = let z : ◌≡◌ {A = ℕ} 0 1 = cc in omega arith

pub check_told : (chart list : List ℕ) (lines : Lent) (code : ℕ) → CheckShown chart list lines code
    → Told Ok Err (CheckPromise chart list) code
check_told chart list lines code x =
    told (check_determined chart list) (check_packable chart list) not_accepted
    x.answer x.promised (accepted_or_refused x.answer x.code_is)

-- ---- compare

compared_or_refused : {code : ℕ} (a : Result Comparison Refusal) → code ≡ compare_code a → Coded Ok Err a code
compared_or_refused (Ok given) e = inl (given, refl, e)
compared_or_refused (Err r) e = inr (r, refl, e)

pub compare_told : (first second old new : List ℕ) (written rounds : Lent) (code : ℕ) → CompareShown first second old new written rounds code
    → Told Ok Err (ComparePromise first second old new) code
compare_told first second old new written rounds code x =
    told (λ s t p q. (compare_determined first second old new new s t p q).0) (compare_packable first second old new) (λ given r e. not_compared (sym e))
    x.answer x.promised (compared_or_refused x.answer x.code_is)
