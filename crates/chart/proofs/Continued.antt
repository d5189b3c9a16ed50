-- Bytes, and the same bytes with more after them, judged side by side: R is what is claimed of the two answers. Assumes nothing.
use Prim.Native.Nat.{ℕ, ◌<◌, ◌≤◌}
use mathlib.Core.Path.{◌≡◌, refl}
use mathlib.Core.Bool.{Bool, true, false}
use mathlib.Core.List.{List, ◌++◌}
use native.Mathlib.Omega.{arith}
use lib.ListN.{length, length-append}
use lib.Dec.{ltb, leb}
use borrow.Author.Tests.{leb-false, ltb-true, ltb-false, lt-leb}
use Rattle.settle.specs.Test.{pick}

module _ {A : Type 0} (R : A → A → Type 0) where
  -- the same test on both sides
  pub same_test : (x : Bool) {a a' k k' : A} → R a a' → R k k' → R (pick x a k) (pick x a' k')
  same_test true f g = f
  same_test false f g = g

  module _ (s more : List ℕ) (p : ℕ) where
    -- a needed byte is absent, and may be among those that follow; or it is there on both sides
    pub needed_byte : {gone k k' : A} (gone' : A) → ((whole : A) → R gone whole) → (p < length s → R k k')
        → R (pick (leb (length s) p) gone k) (pick (leb (length (s ++ more)) p) gone' k')
    needed_byte {gone} {k} {k'} gone' f g = go (leb (length s) p) refl
      where
        go : (x : Bool) → leb (length s) p ≡ x → R (pick x gone k) (pick (leb (length (s ++ more)) p) gone' k')
        go true e = f _
        go false e =
            let h : p < length s = leb-false (length s) p e in
            rw (lt-leb (length (s ++ more)) p (omega (arith, length-append s more))) (g h)

    -- bytes are left over on both sides, or on neither, or only among those that follow
    pub left_over : {over whole : A} → p ≤ length s → R over over → R whole whole → (p ≡ length s → R whole over)
        → R (pick (ltb p (length s)) over whole) (pick (ltb p (length (s ++ more))) over whole)
    left_over {over} {whole} h f g k = go (ltb p (length s)) refl (ltb p (length (s ++ more))) refl
      where
        go : (x : Bool) → ltb p (length s) ≡ x → (y : Bool) → ltb p (length (s ++ more)) ≡ y → R (pick x over whole) (pick y over whole)
        go true e true d = f
        go true e false d = absurd (omega (arith, ltb-true p (length s) e, ltb-false p (length (s ++ more)) d, length-append s more))
        go false e true d = k (omega (arith, ltb-false p (length s) e))
        go false e false d = g
