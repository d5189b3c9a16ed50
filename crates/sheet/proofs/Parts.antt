-- What reading a formula answers: the parts of what is parsed come back out of it.
use mathlib.Core.Path.{◌≡◌, ap}
use Prim.Native.Nat.{ℕ}
use Rattle.std.specs.Prelude.{Ok, Err}
use Rattle.refusal.specs.Refusal.{sheet_refusal}
use Rattle.refusal.specs.declared.Refusal.{Refusal}
use Rattle.sheet.specs.Formula.{Formula}
use Rattle.sheet.specs.Reading.{parsed, wrong, formula_read}
use Rattle.sheet.specs.declared.Unread.{Unread}

-- the place after it, and the nodes still unread
unread_is : (f : Formula) (at left : ℕ) (u : Unread) → formula_read (parsed f at left) ≡ Ok u → u ≡ record { at = at; left = left }
unread_is f at left u e = cc

pub place_back : (f : Formula) (at left : ℕ) (u : Unread) → formula_read (parsed f at left) ≡ Ok u → u.at ≡ at
place_back f at left u e = ap (λ (x : Unread). x.at) (unread_is f at left u e)

pub left_back : (f : Formula) (at left : ℕ) (u : Unread) → formula_read (parsed f at left) ≡ Ok u → u.left ≡ left
left_back f at left u e = ap (λ (x : Unread). x.left) (unread_is f at left u e)

-- of a fault its number and its place
fault_is : (number place : ℕ) (r : Refusal) → formula_read (wrong (sheet_refusal number place)) ≡ Err r → r ≡ sheet_refusal number place
fault_is number place r e = cc

pub number_back : (number place : ℕ) (r : Refusal) → formula_read (wrong (sheet_refusal number place)) ≡ Err r → r.number ≡ number
number_back number place r e = ap (λ (x : Refusal). x.number) (fault_is number place r e)

pub fault_back : (number place : ℕ) (r : Refusal) → formula_read (wrong (sheet_refusal number place)) ≡ Err r → r.place ≡ place
fault_back number place r e = ap (λ (x : Refusal). x.place) (fault_is number place r e)
