-- What the promise of bytes in a lent buffer says in each case, what a function owes for it, and that it determines the answer and every byte.
use Prim.Native.Nat.{ℕ, ◌<◌, ◌≤◌}
use mathlib.Core.Path.{◌≡◌, refl, ap, sym, ◌∙◌}
use mathlib.Core.Bool.{Bool, true, false}
use mathlib.Core.Logic.{◌⊎◌, inl, inr, ◌↔◌}
use mathlib.Core.List.{List, ◌++◌}
use native.Mathlib.Nat.{zero-add}
use native.Mathlib.Omega.{arith}
use borrow.Author.Tests.{lt-ltb, le-ltb, ltb-true, ltb-false}
use lib.Dec.{ltb}
use lib.ListN.{length, take, drop, length-append, length-drop}
use lib.Seq.{take_at, drop_at}
use Rattle.settle.specs.Test.{pick}
use Rattle.refusal.specs.Refusal.{lent_refusal}
use Rattle.refusal.specs.declared.Refusal.{Refusal}
use Rattle.text.specs.Text.{placed}
use Rattle.lent.specs.Lent.{Outcome, writes, refuses, LentPromise}
use Rattle.std.specs.Prelude.{Result, Ok, Err}

-- a refusal is no bytes, and nothing written
pub not_written : {A : Type 0} {r : Refusal} {size : ℕ} → Err r ≡ Ok size → A
not_written e = let z : ◌≡◌ {A = ℕ} 0 1 = cc in absurd (omega arith)

pub no_bytes : {A : Type 0} {r : Refusal} {bytes : List ℕ} → refuses r ≡ writes bytes → A
no_bytes e = let z : ◌≡◌ {A = ℕ} 0 1 = cc in absurd (omega arith)

-- ---- what a function owes in each case

module _ {w : Outcome} (old : List ℕ) where
  pub promise_refused : {r said : Refusal} → w ≡ refuses r → said ≡ r → LentPromise w old old (Err said)
  promise_refused e a = record { answered = rw (e, a); bytes = rw e }

  module _ {bytes : List ℕ} (e : w ≡ writes bytes) where
    pub promise_short : {said : Refusal} → length old < length bytes → said ≡ lent_refusal 14 → LentPromise w old old (Err said)
    promise_short h a = record { answered = rw (e, lt-ltb _ _ h, a); bytes = rw (e, lt-ltb _ _ h) }

    pub promise_written : {size : ℕ} {new : List ℕ} → length bytes ≤ length old → size ≡ length bytes → new ≡ placed old 0 bytes → LentPromise w old new (Ok size)
    unfolding placed
    promise_written h a b = record { answered = rw (e, le-ltb _ _ h, a); bytes = rw (e, le-ltb _ _ h) (rw zero-add at b) }

-- ---- what the promise says

-- any two answers, and any two buffers, that the promise allows agree
pub lent_determined : (w : Outcome) (old : List ℕ) {new new' : List ℕ} {answer answer' : Result ℕ Refusal}
    → LentPromise w old new answer → LentPromise w old new' answer' → (answer ≡ answer') × (new ≡ new')
lent_determined w old p q = (p.answered ∙ sym q.answered, p.bytes ∙ sym q.bytes)

-- where there are bytes to be written, the buffer is too short for them or has room
abbrev TooShort : List ℕ → List ℕ → List ℕ → Result ℕ Refusal → Type 0
TooShort bytes old new answer = (length old < length bytes) × (answer ≡ Err (lent_refusal 14)) × (new ≡ old)

abbrev HasRoom : List ℕ → List ℕ → List ℕ → Result ℕ Refusal → Type 0
HasRoom bytes old new answer = (length bytes ≤ length old) × (answer ≡ Ok (length bytes)) × (new ≡ bytes ++ drop (length bytes) old)

cases : (bytes old : List ℕ) {new : List ℕ} {answer : Result ℕ Refusal} → LentPromise (writes bytes) old new answer → TooShort bytes old new answer ⊎ HasRoom bytes old new answer
cases bytes old {new} {answer} p = go (ltb (length old) (length bytes)) refl p.answered p.bytes
  where
    go : (short : Bool) → ltb (length old) (length bytes) ≡ short → answer ≡ pick short (Err (lent_refusal 14)) (Ok (length bytes))
        → new ≡ pick short old (bytes ++ drop (length bytes) old) → TooShort bytes old new answer ⊎ HasRoom bytes old new answer
    go true e a b = inl (ltb-true _ _ e, a, b)
    go false e a b = inr (ltb-false _ _ e, a, b)

-- 14 is given exactly when the buffer is shorter than the length
pub short_exactly : (bytes old new : List ℕ) (answer : Result ℕ Refusal) → LentPromise (writes bytes) old new answer
    → (answer ≡ Err (lent_refusal 14)) ↔ (length old < length bytes)
short_exactly bytes old new answer p = elim (cases bytes old p) [ inl s ↦ (λ e. s.0, λ h. s.1) | inr f ↦ (λ e. not_written (sym e ∙ f.1), λ h. absurd (omega (arith, f.0))) ]

-- a refusal is the question's own, or 14
pub refused_by : (w : Outcome) (old new : List ℕ) (r : Refusal) → LentPromise w old new (Err r) → (w ≡ refuses r) ⊎ (r ≡ lent_refusal 14)
refused_by (refuses s) old new r p = let a = p.answered in let e : s ≡ r = cc in inl (ap refuses e)
refused_by (writes bytes) old new r p = elim (cases bytes old p) [ inl s ↦ let a = s.1 in let e : r ≡ lent_refusal 14 = cc in inr e | inr f ↦ not_written f.1 ]

-- a refused call writes nothing
pub refused_leaves : (w : Outcome) (old new : List ℕ) (r : Refusal) → LentPromise w old new (Err r) → new ≡ old
refused_leaves (refuses s) old new r p = p.bytes
refused_leaves (writes bytes) old new r p = elim (cases bytes old p) [ inl s ↦ s.2 | inr f ↦ not_written f.1 ]

pub length_stays : (w : Outcome) (old new : List ℕ) (answer : Result ℕ Refusal) → LentPromise w old new answer → length new ≡ length old
length_stays (refuses r) old new answer p = ap length p.bytes
length_stays (writes bytes) old new answer p = elim (cases bytes old p) [ inl s ↦ ap length s.2 | inr f ↦ omega (arith, f.0, ap length f.2, length-append bytes (drop (length bytes) old), length-drop (length bytes) old) ]

-- what is written fills the start, its length stands in the answer, and later bytes stay
pub record Filled (w : Outcome) (old new : List ℕ) (size : ℕ) : Type 0 where
  pub bytes : List ℕ
  pub is : w ≡ writes bytes
  pub size_is : size ≡ length bytes
  pub start_is : take size new ≡ bytes
  pub later_stay : drop size new ≡ drop size old

pub written_fills : (w : Outcome) (old new : List ℕ) (size : ℕ) → LentPromise w old new (Ok size) → Filled w old new size
written_fills (refuses r) old new size p = not_written (sym p.answered)
written_fills (writes bytes) old new size p = elim (cases bytes old p) [ inl s ↦ not_written (sym s.1) | inr f ↦ filled f.1 f.2 ]
  where
    filled : ◌≡◌ {A = Result ℕ Refusal} (Ok size) (Ok (length bytes)) → new ≡ bytes ++ drop (length bytes) old → Filled (writes bytes) old new size
    filled a b =
        let e : size ≡ length bytes = cc in
        record {
          bytes = bytes;
          is = refl;
          size_is = e;
          start_is = rw b (take_at bytes _ size (sym e));
          later_stay = rw b (drop_at bytes _ size (sym e) ∙ ap (λ (n : ℕ). drop n old) (sym e));
        }
