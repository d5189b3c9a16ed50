-- Where a formula's first variable stands, found byte by byte: an action byte is no node.
use Prim.Native.Nat.{ℕ, suc, ◌+◌, ◌<◌, ◌≤◌}
use mathlib.Core.Path.{◌≡◌, refl, ap, ◌∙◌}
use mathlib.Core.Bool.{Bool, true, false}
use mathlib.Core.List.{List, [], ◌∷◌, ◌++◌, append_assoc, append-nil}
use native.Mathlib.Omega.{arith}
use native.Mathlib.Numerals.{add-one}
use lib.Dec.{eqb, ltb}
use lib.ListN.{length, get_or, drop, length-append, drop_of_length-le}
use lib.Seq.{drop-cons}
use Rattle.settle.specs.Test.{pick, both}
use Rattle.sheet.specs.Formula.{Formula, variable, top, bottom, and, or, diamond, box, variable_free}
use Rattle.sheet.specs.Layout.{formula_bytes, encode}
use Rattle.short_form.specs.Promise.{before_variable}
use Rattle.std.specs.Prelude.{Option, Some, None}

-- the bytes before the first variable's node, where `action` says that the first byte is an action byte
unfoldable pub scan : Bool → List ℕ → ℕ
scan action [] = 0
scan action (b ∷ rest) = pick (pick action false (eqb b 0)) 0 (1 + scan (pick action false (ltb 4 b)) rest)

scan_none : (action : Bool) (s : List ℕ) (at : ℕ) → length s ≤ at → scan action (drop at s) ≡ 0
unfolding scan
scan_none action s at h = rw (drop_of_length-le s h)

pub scan_here : (action : Bool) (s : List ℕ) (at : ℕ) → at < length s → action ≡ false → get_or s at 0 ≡ 0 → scan action (drop at s) ≡ 0
unfolding scan
scan_here action s at h e f = rw (drop-cons s at 0 h, e, f)

pub scan_next : (action : Bool) (s : List ℕ) (at : ℕ) → at < length s → pick action false (eqb (get_or s at 0) 0) ≡ false
    → scan action (drop at s) ≡ 1 + scan (pick action false (ltb 4 (get_or s at 0))) (drop (at + 1) s)
unfolding scan
scan_next action s at h e = rw (drop-cons s at 0 h, e, add-one)

-- two operands: the second counts only where the first has no variable
two_scanned : (p q : Bool) (x y rest : ℕ)
    → 1 + pick p (x + pick q (y + rest) y) x ≡ pick (both p q) (1 + pick p (x + y) x + rest) (1 + pick p (x + y) x)
unfolding both
two_scanned true true x y rest = omega arith
two_scanned true false x y rest = refl
two_scanned false q x y rest = refl

one_scanned : (p : Bool) (x rest : ℕ) → 1 + (1 + pick p (x + rest) x) ≡ pick p (2 + x + rest) (2 + x)
one_scanned true x rest = omega arith
one_scanned false x rest = omega arith

-- the second operand, after the first
regroup : (f g : Formula) (rest : List ℕ) → 1 + scan false ((formula_bytes f ++ formula_bytes g) ++ rest) ≡ 1 + scan false (formula_bytes f ++ (formula_bytes g ++ rest))
regroup f g rest = ap (λ (l : List ℕ). 1 + scan false l) (append_assoc (formula_bytes f) (formula_bytes g) rest)

scan_formula : (f : Formula) (rest : List ℕ) → scan false (formula_bytes f ++ rest) ≡ pick (variable_free f) (before_variable f + scan false rest) (before_variable f)
unfolding scan formula_bytes variable_free before_variable
scan_formula variable rest = refl
scan_formula top rest = refl
scan_formula bottom rest = refl
scan_formula (and f g) rest =
    regroup f g rest ∙ rw (scan_formula f (formula_bytes g ++ rest), scan_formula g rest) (two_scanned (variable_free f) (variable_free g) (before_variable f) (before_variable g) (scan false rest))
scan_formula (or f g) rest =
    regroup f g rest ∙ rw (scan_formula f (formula_bytes g ++ rest), scan_formula g rest) (two_scanned (variable_free f) (variable_free g) (before_variable f) (before_variable g) (scan false rest))
scan_formula (diamond l f) rest = ap (λ (k : ℕ). 1 + (1 + k)) (scan_formula f rest) ∙ one_scanned (variable_free f) (before_variable f) (scan false rest)
scan_formula (box l f) rest = ap (λ (k : ℕ). 1 + (1 + k)) (scan_formula f rest) ∙ one_scanned (variable_free f) (before_variable f) (scan false rest)

-- the sheet's formula stands at byte 3
pub scan_sheet : (s : List ℕ) (kind : ℕ) (f : Formula) → s ≡ encode kind f → scan false (drop 3 s) ≡ before_variable f
unfolding encode scan
scan_sheet s kind f e =
    let q : scan false (formula_bytes f ++ []) ≡ before_variable f = scan_formula f [] ∙ same (variable_free f) in
    rw e (rw append-nil at q)
  where
    same : (p : Bool) → pick p (before_variable f + 0) (before_variable f) ≡ before_variable f
    same true = omega arith
    same false = refl

-- it lies within the formula's bytes exactly where there is a variable
unfoldable Within : Bool → ℕ → ℕ → Type 0
Within true before all = before ≡ all
Within false before all = before < all

two_within : (p q : Bool) (x y a b all : ℕ) → all ≡ a + b → Within p x a → Within q y b → Within (both p q) (1 + pick p (x + y) x) (suc all)
unfolding both Within
two_within true true x y a b all e h k = omega arith
two_within true false x y a b all e h k = omega arith
two_within false true x y a b all e h k = omega arith
two_within false false x y a b all e h k = omega arith

one_within : (p : Bool) (x a : ℕ) → Within p x a → Within p (2 + x) (suc (suc a))
unfolding Within
one_within true x a h = omega arith
one_within false x a h = omega arith

within : (f : Formula) → Within (variable_free f) (before_variable f) (length (formula_bytes f))
unfolding variable_free before_variable formula_bytes Within
within variable = omega arith
within top = refl
within bottom = refl
within (and f g) = two_within (variable_free f) (variable_free g) _ _ _ _ _ (length-append (formula_bytes f) (formula_bytes g)) (within f) (within g)
within (or f g) = two_within (variable_free f) (variable_free g) _ _ _ _ _ (length-append (formula_bytes f) (formula_bytes g)) (within f) (within g)
within (diamond l f) = one_within (variable_free f) _ _ (within f)
within (box l f) = one_within (variable_free f) _ _ (within f)

pub before_within : (f : Formula) → before_variable f ≤ length (formula_bytes f)
unfolding Within
before_within f = go (variable_free f) (within f)
  where
    go : (p : Bool) → Within p (before_variable f) (length (formula_bytes f)) → before_variable f ≤ length (formula_bytes f)
    go true w = omega arith
    go false w = omega arith

no_variable : (f : Formula) → length (formula_bytes f) ≤ before_variable f → variable_free f ≡ true
unfolding Within
no_variable f h = go (variable_free f) (within f)
  where
    go : (p : Bool) → Within p (before_variable f) (length (formula_bytes f)) → p ≡ true
    go true w = refl
    go false w = absurd (omega arith)

has_variable : (f : Formula) → before_variable f < length (formula_bytes f) → variable_free f ≡ false
unfolding Within
has_variable f h = go (variable_free f) (within f)
  where
    go : (p : Bool) → Within p (before_variable f) (length (formula_bytes f)) → p ≡ false
    go true w = absurd (omega arith)
    go false w = refl

pub sheet_length : (s : List ℕ) (kind : ℕ) (f : Formula) → s ≡ encode kind f → length s ≡ 3 + length (formula_bytes f)
unfolding encode
sheet_length s kind f e = rw e (omega arith)

-- the same of the place in a sheet
module _ (s : List ℕ) (kind : ℕ) (f : Formula) (e : s ≡ encode kind f) (place : ℕ) (found : place ≡ 3 + before_variable f) where
  pub sheet_free : length s ≤ place → variable_free f ≡ true
  sheet_free h = no_variable f (omega (arith, sheet_length s kind f e))

  pub sheet_bound : place < length s → variable_free f ≡ false
  sheet_bound h = has_variable f (omega (arith, sheet_length s kind f e))

-- what is found, where the bytes before a place were passed
pub variable_found : (s : List ℕ) (kind : ℕ) (f : Formula) (action : Bool) (at : ℕ) → s ≡ encode kind f → at + scan action (drop at s) ≡ 3 + scan false (drop 3 s) → at < length s
    → scan action (drop at s) ≡ 0 → Some at ≡ pick (variable_free f) None (Some (3 + before_variable f))
variable_found s kind f action at e passed h here =
    let place : at ≡ 3 + before_variable f = omega (arith, scan_sheet s kind f e) in
    rw (sheet_bound s kind f e at place h, place)

pub variable_missed : (s : List ℕ) (kind : ℕ) (f : Formula) (action : Bool) (at : ℕ) → s ≡ encode kind f → at + scan action (drop at s) ≡ 3 + scan false (drop 3 s) → length s ≤ at
    → ◌≡◌ {A = Option ℕ} None (pick (variable_free f) None (Some (3 + before_variable f)))
variable_missed s kind f action at e passed h =
    let place : at ≡ 3 + before_variable f = omega (arith, scan_sheet s kind f e, scan_none action s at h) in
    rw (sheet_free s kind f e at place h)
