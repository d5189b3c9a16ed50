-- Any two arrays that the promise of `sources` allows for the same input agree. Assumes nothing.
use Prim.Native.Nat.{ℕ, ◌≤◌}
use mathlib.Core.Path.{◌≡◌, sym, ◌∙◌}
use mathlib.Core.List.{List}
use native.Mathlib.Omega.{arith}
use native.Mathlib.Decide.{dec_le}
use lib.ListN.{length, get_or}
use lib.Seq.{ext_get_or}
use Rattle.ranges.specs.Sources.{Sources, Sorted}

-- no entry is above the other's: the triple there would have a source both below s and not
entry_le : (bytes : List ℕ) (at t n : ℕ) (a b : List ℕ) → Sources bytes at t n a → Sources bytes at t n b → (s : ℕ) → s ≤ n → get_or a s 0 ≤ get_or b s 0
entry_le bytes at t n a b v w s h = elim (dec_le (get_or a s 0) (get_or b s 0)) [ yes l ↦ l | no f ↦ absurd (omega (arith, v.within s h, v.before s (get_or b s 0) h (omega arith), w.after s (get_or b s 0) h (omega (arith, v.within s h)) (omega arith))) ]

-- two arrays of as many entries, as [usize; 65] has
pub sources_determined : (bytes : List ℕ) (at t n : ℕ) (a b : List ℕ) → length a ≡ length b → Sorted bytes at n a → get_or a n 0 ≡ t → Sorted bytes at n b → get_or b n 0 ≡ t → a ≡ b
sources_determined bytes at t n a b same p d q e = ext_get_or 0 a b same (λ s i. elim (dec_le s n) [ yes l ↦ omega (arith, entry_le bytes at t n a b v w s l, entry_le bytes at t n b a w v s l) | no f ↦ v.beyond s (omega arith) ∙ sym (w.beyond s (omega arith)) ])
  where
    v : Sources bytes at t n a
    v = rw d at p.sources

    w : Sources bytes at t n b
    w = rw e at q.sources
