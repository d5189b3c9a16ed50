-- The sources of sorted triples, counted one state further at a time.
use Prim.Native.Nat.{ℕ, zero, suc, ◌+◌, ◌≤◌, ◌<◌}
use mathlib.Core.Path.{◌≡◌, refl, ◌∙◌}
use mathlib.Core.List.{List}
use native.Mathlib.Omega.{arith}
use native.Mathlib.Decide.{dec_le, ℕ_discrete}
use lib.ListN.{length, get_or, set, replicate}
use lib.Seq.{get_or-set_same, get_or-set_other}
use Rattle.ranges.specs.Sources.{source_at, Stands, Past, Sources, Sorted}

module _ (bytes : List ℕ) (at t : ℕ) where
  pub sources_none : (entries : ℕ) → Sources bytes at t 0 (replicate entries 0)
  sources_none entries =
      record {
        within = λ s l. omega (arith, zeros entries s);
        before = λ s i l h. absurd (omega (arith, zeros entries s));
        after = λ s i l h k. omega arith;
        beyond = λ s h. zeros entries s;
      }
    where
      zeros : (k s : ℕ) → ◌≡◌ {A = ℕ} (get_or (replicate k 0) s 0) 0
      zeros zero s = refl
      zeros (suc k) zero = refl
      zeros (suc k) (suc s) = zeros k s

  module _ (s r : ℕ) (first : List ℕ) (w : Sources bytes at t s first) (p : Past bytes at t (get_or first s 0) (s + 1) r) (room : s + 1 < length first) where
    same : (k : ℕ) → k ≡ s + 1 → get_or (set first (s + 1) r) k 0 ≡ r
    same k e = rw e (get_or-set_same first (s + 1) r 0 room)

    other : (k : ℕ) → (k ≡ s + 1 → ⊥) → get_or (set first (s + 1) r) k 0 ≡ get_or first k 0
    other k f = get_or-set_other first (s + 1) k r 0 f

    pub sources_more : ((i j : ℕ) → i ≤ j → j < t → source_at bytes at i ≤ source_at bytes at j) → Sources bytes at t (s + 1) (set first (s + 1) r)
    sources_more rise =
        record {
          within = λ k l. elim (ℕ_discrete k (s + 1)) [ yes e ↦ omega (arith, same k e, p.within) | no f ↦ omega (arith, other k f, w.within k (omega arith)) ];
          before = λ k i l h. elim (ℕ_discrete k (s + 1)) [ yes e ↦ passed k i e (omega (arith, same k e)) | no f ↦ w.before k i (omega arith) (omega (arith, other k f)) ];
          after = λ k i l b h. elim (ℕ_discrete k (s + 1)) [ yes e ↦ omega (arith, p.stopped (omega (arith, same k e)), rise r i (omega (arith, same k e)) b) | no f ↦ w.after k i (omega arith) b (omega (arith, other k f)) ];
          beyond = λ k h. other k (λ e. omega arith) ∙ w.beyond k (omega arith);
        }
      where
        passed : (k i : ℕ) → k ≡ s + 1 → i < r → source_at bytes at i < k
        passed k i e h = elim (dec_le (get_or first s 0) i) [ yes l ↦ omega (arith, p.passed i l h) | no f ↦ omega (arith, w.before s i (omega arith) (omega arith)) ]

-- all t triples are before the entry n
pub sources_all : (bytes : List ℕ) (at t n : ℕ) (first : List ℕ) → Stands bytes at t n → Sources bytes at t n first → get_or first n 0 ≡ t
sources_all bytes at t n first st w =
    elim (dec_le t (get_or first n 0)) [ yes l ↦ omega (arith, w.within n (omega arith)) | no f ↦ absurd (omega (arith, w.after n (get_or first n 0) (omega arith) (omega arith) (omega arith), st.sources_in (get_or first n 0) (omega arith))) ]

pub sorted_by : (bytes : List ℕ) (at t n : ℕ) (first : List ℕ) → Stands bytes at t n → Sources bytes at t n first → Sorted bytes at n first
sorted_by bytes at t n first st w = let e = sources_all bytes at t n first st w in record { triples = rw e st; sources = rw e w }
