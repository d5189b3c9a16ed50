-- What the promise says in each case, and that it determines the answer and every byte.
use Prim.Native.Nat.{ℕ, ◌+◌, ◌<◌, ◌≤◌}
use mathlib.Core.Path.{◌≡◌, refl}
use mathlib.Core.Bool.{Bool, true, false}
use mathlib.Core.List.{List}
use borrow.Author.Tests.{lt-ltb, le-ltb, ltb-false, ne_eqb}
use native.Mathlib.Omega.{arith}
use native.Mathlib.Decide.{ℕ_discrete}
use lib.Dec.{ltb}
use Rattle.settle.specs.Test.{pick}
use Rattle.refusal.specs.Refusal.{sheet_refusal, lent_refusal}
use Rattle.sheet.specs.Formula.{Formula, variable_free, nodes}
use Rattle.lent.proofs.Lent.{lent_determined}
use Rattle.short_form.specs.ShortForm.{short_form, kind_written}
use Rattle.short_form.specs.Promise.{before_variable, Form, form, wrong, form_of, ShortFormPromise}
use Rattle.std.specs.Prelude.{Result, Ok, Err, Option, Some, None}
use Rattle.short_form.specs.declared.Name.{Name}
use Rattle.short_form.specs.declared.Name.TheVariants.{Always, Possible, SafePath, Eventually}
use Rattle.short_form.specs.Pieces.{number_of, name_read}
use Rattle.refusal.specs.declared.Refusal.{Refusal}

-- ---- what was found of the formula and of the name

pub has_variable : (b : Bool) (place found : ℕ) → Some found ≡ pick b None (Some place) → (b ≡ false) × (found ≡ place)
has_variable true place found e = let z : ◌≡◌ {A = ℕ} 0 1 = cc in absurd (omega arith)
has_variable false place found e = (refl, cc)

pub has_none : (b : Bool) (place : ℕ) (found : Option ℕ) → found ≡ pick b None (Some place) → ((x : ℕ) → found ≡ Some x → ⊥) → b ≡ true
has_none true place found e none = refl
has_none false place found e none = absurd (none place e)

pub named : (number : ℕ) (name : Name) → Ok name ≡ name_read number → number ≡ number_of name
named number name = go (ℕ_discrete number 0) (ℕ_discrete number 1) (ℕ_discrete number 2) (ℕ_discrete number 3)
  where
    go : Dec (number ≡ 0) → Dec (number ≡ 1) → Dec (number ≡ 2) → Dec (number ≡ 3) → Ok name ≡ name_read number → number ≡ number_of name
    go (yes z) o t h e = let same : name ≡ Always = (let f : ◌≡◌ {A = Result Name Refusal} (Ok name) (Ok Always) = rw z at e in cc) in rw same z
    go (no z) (yes o) t h e = let same : name ≡ Possible = (let f : ◌≡◌ {A = Result Name Refusal} (Ok name) (Ok Possible) = rw o at e in cc) in rw same o
    go (no z) (no o) (yes t) h e = let same : name ≡ SafePath = (let f : ◌≡◌ {A = Result Name Refusal} (Ok name) (Ok SafePath) = rw t at e in cc) in rw same t
    go (no z) (no o) (no t) (yes h) e = let same : name ≡ Eventually = (let f : ◌≡◌ {A = Result Name Refusal} (Ok name) (Ok Eventually) = rw h at e in cc) in rw same h
    go (no z) (no o) (no t) (no h) e =
        let f : ◌≡◌ {A = Result Name Refusal} (Ok name) (Err (lent_refusal 17)) = rw (ne_eqb _ _ z, ne_eqb _ _ o, ne_eqb _ _ t, ne_eqb _ _ h) at e in
        let w : ◌≡◌ {A = ℕ} 0 1 = cc in absurd (omega arith)

pub name_few : (name : Name) → number_of name ≤ 3
name_few Always = omega arith
name_few Possible = omega arith
name_few SafePath = omega arith
name_few Eventually = omega arith

pub unnamed : (number : ℕ) (r : Refusal) → Err r ≡ name_read number → (3 < number) × (r ≡ lent_refusal 17)
unnamed number r = go (ℕ_discrete number 0) (ℕ_discrete number 1) (ℕ_discrete number 2) (ℕ_discrete number 3)
  where
    go : Dec (number ≡ 0) → Dec (number ≡ 1) → Dec (number ≡ 2) → Dec (number ≡ 3) → Err r ≡ name_read number → (3 < number) × (r ≡ lent_refusal 17)
    go (yes z) o t h e = let f : ◌≡◌ {A = Result Name Refusal} (Err r) (Ok Always) = rw z at e in let w : ◌≡◌ {A = ℕ} 0 1 = cc in absurd (omega arith)
    go (no z) (yes o) t h e = let f : ◌≡◌ {A = Result Name Refusal} (Err r) (Ok Possible) = rw o at e in let w : ◌≡◌ {A = ℕ} 0 1 = cc in absurd (omega arith)
    go (no z) (no o) (yes t) h e = let f : ◌≡◌ {A = Result Name Refusal} (Err r) (Ok SafePath) = rw t at e in let w : ◌≡◌ {A = ℕ} 0 1 = cc in absurd (omega arith)
    go (no z) (no o) (no t) (yes h) e = let f : ◌≡◌ {A = Result Name Refusal} (Err r) (Ok Eventually) = rw h at e in let w : ◌≡◌ {A = ℕ} 0 1 = cc in absurd (omega arith)
    go (no z) (no o) (no t) (no h) e =
        let f : ◌≡◌ {A = Result Name Refusal} (Err r) (Err (lent_refusal 17)) = rw (ne_eqb _ _ z, ne_eqb _ _ o, ne_eqb _ _ t, ne_eqb _ _ h) at e in
        (omega arith, cc)

-- ---- the cases of `form_of`

module _ (name : ℕ) (f : Formula) where
  pub form_variable : variable_free f ≡ false → form_of name f ≡ wrong (sheet_refusal 16 (3 + before_variable f))
  unfolding form_of
  form_variable e = rw e

  module _ (free : variable_free f ≡ true) where
    pub form_unnamed : 3 < name → form_of name f ≡ wrong (lent_refusal 17)
    unfolding form_of
    form_unnamed h = rw (free, lt-ltb _ _ h)

    pub form_large : name ≤ 3 → 200 < nodes (short_form name f) → form_of name f ≡ wrong (sheet_refusal 10 2)
    unfolding form_of
    form_large h k = rw (free, le-ltb _ _ h, lt-ltb _ _ k)

    pub form_made : name ≤ 3 → nodes (short_form name f) ≤ 200 → form_of name f ≡ form (kind_written name) (short_form name f)
    unfolding form_of
    form_made h k = rw (free, le-ltb _ _ h, le-ltb _ _ k)

  -- what holds in each case holds of the form
  pub form_cases : (P : Form → Type 0) → P (wrong (sheet_refusal 16 (3 + before_variable f))) → P (wrong (lent_refusal 17)) → P (wrong (sheet_refusal 10 2))
      → (variable_free f ≡ true → nodes (short_form name f) ≤ 200 → P (form (kind_written name) (short_form name f))) → P (form_of name f)
  unfolding form_of
  form_cases P bound unnamed large made = go (variable_free f) (ltb 3 name) (ltb 200 (nodes (short_form name f))) refl refl
    where
      go : (x y z : Bool) → variable_free f ≡ x → ltb 200 (nodes (short_form name f)) ≡ z
          → P (pick x (pick y (wrong (lent_refusal 17)) (pick z (wrong (sheet_refusal 10 2)) (form (kind_written name) (short_form name f)))) (wrong (sheet_refusal 16 (3 + before_variable f))))
      go false y z v e = bound
      go true true z v e = unnamed
      go true false true v e = large
      go true false false v e = made v (ltb-false _ _ e)

-- ---- determined

pub short_form_determined : (chart sheet : List ℕ) (name : ℕ) (old : List ℕ) {new new' : List ℕ} {answer answer' : Result ℕ Refusal}
    → ShortFormPromise chart sheet name old new answer → ShortFormPromise chart sheet name old new' answer' → (answer ≡ answer') × (new ≡ new')
short_form_determined chart sheet name old p q = lent_determined _ old p q
