-- A chart is accepted exactly if the bytes are its encoding and it is well formed.
use Prim.Native.Nat.{ℕ, zero, suc, ◌+◌, ◌*◌, ◌%◌, ◌/◌, ◌<◌, ◌≤◌}
use mathlib.Core.Path.{◌≡◌, refl, ap, sym, subst⁻¹, ◌∙◌}
use mathlib.Core.List.Memᴰ
use mathlib.Core.List.{List, [], ◌∷◌, ◌++◌, append-nil, Memᴰ as Mem}
use mathlib.Core.Logic.{◌⊎◌, inl, inr, ◌↔◌}
use native.Mathlib.Omega.{arith}
use lib.ListN.{length, get_or, drop, length-append, drop_of_length-le}
use Rattle.chart.specs.Chart.{Step, Chart, states, actions, transitions}
use Rattle.chart.specs.Layout.{step_bytes, encode, Earlier, Rising, Bytes, WellFormed}
use Rattle.chart.specs.Reading.{bytes_at, step_at, steps_at, chart_in, read_chart, shape_of, Reads, AcceptedExactly}
use Rattle.chart.specs.declared.Shape.{Shape}
use Rattle.chart.proofs.Steps.{byte_then, first_byte, bytes_at_length, bytes_at_get_or, byte_member, steps_at_length, steps_at_get_or, step_member, member_step}
use Rattle.chart.proofs.Accepted.{Accepted, accepted, accepts, same_shape}
use Rattle.std.specs.Prelude.{Result, Ok}
use Rattle.refusal.specs.declared.Refusal.{Refusal}

-- ---- rising, by numbers

rising_at : {A : Type 0} (R : A → A → Type 0) (d : A) (l : List A) → Rising R l → (i : ℕ) → i + 1 < length l → R (get_or l i d) (get_or l (i + 1) d)
unfolding Rising
rising_at R d [] r i h = absurd (omega arith)
rising_at R d (x ∷ []) r i h = absurd (omega arith)
rising_at R d (x ∷ (y ∷ l)) r zero h = r.0
rising_at R d (x ∷ (y ∷ l)) r (suc i) h =
    let e : suc i + 1 ≡ suc (i + 1) = omega arith in
    rw e (rising_at R d (y ∷ l) r.1 i (omega arith))

at_rising : {A : Type 0} (R : A → A → Type 0) (d : A) (l : List A) → ((i : ℕ) → i + 1 < length l → R (get_or l i d) (get_or l (i + 1) d)) → Rising R l
unfolding Rising
at_rising R d [] f = tt
at_rising R d (x ∷ []) f = tt
at_rising R d (x ∷ (y ∷ l)) f =
    (f 0 (omega arith), at_rising R d (y ∷ l) (λ i h. (let e : suc i + 1 ≡ suc (i + 1) = omega arith in rw e at (f (suc i) (omega arith)))))

-- ---- bytes that stand in a row

bytes_there : (s : List ℕ) (p : ℕ) (xs rest : List ℕ) → drop p s ≡ xs ++ rest
    → (bytes_at s p (length xs) ≡ xs) × (drop (p + length xs) s ≡ rest)
unfolding bytes_at
bytes_there s p [] rest e = let q : p + 0 ≡ p = omega arith in (refl, rw q e)
bytes_there s p (x ∷ xs) rest e =
    let a = first_byte s p e in
    let b = bytes_there s (p + 1) xs rest a.2 in
    let q : p + suc (length xs) ≡ p + 1 + length xs = omega arith in
    (rw (a.1, b.0), rw q b.1)

steps_there : (s : List ℕ) (p : ℕ) (us : List Step) (rest : List ℕ) → drop p s ≡ step_bytes us ++ rest
    → (steps_at s p (length us) ≡ us) × (drop (p + 3 * length us) s ≡ rest)
unfolding steps_at step_bytes
steps_there s p [] rest e = let q : p + 3 * 0 ≡ p = omega arith in (refl, rw q e)
steps_there s p (u ∷ us) rest e =
    let a = first_byte s p e in
    let b = first_byte s (p + 1) a.2 in
    let i : p + 1 + 1 ≡ p + 2 = omega arith in
    let c = first_byte s (p + 2) (rw i at b.2) in
    let j : p + 2 + 1 ≡ p + 3 = omega arith in
    let d = steps_there s (p + 3) us rest (rw j at c.2) in
    let q : p + 3 * suc (length us) ≡ p + 3 + 3 * length us = omega arith in
    (rw (a.1, b.1, c.1, d.0), rw q d.1)

drop_bytes : (s : List ℕ) (p k : ℕ) → p + k ≤ length s → drop p s ≡ bytes_at s p k ++ drop (p + k) s
unfolding bytes_at
drop_bytes s p zero h = let q : p + 0 ≡ p = omega arith in rw q
drop_bytes s p (suc k) h =
    let q : p + suc k ≡ p + 1 + k = omega arith in
    rw q (byte_then s p (omega arith) ∙ ap (λ (l : List ℕ). get_or s p 0 ∷ l) (drop_bytes s (p + 1) k (omega arith)))

drop_steps : (s : List ℕ) (p k : ℕ) → p + 3 * k ≤ length s → drop p s ≡ step_bytes (steps_at s p k) ++ drop (p + 3 * k) s
unfolding steps_at step_bytes
drop_steps s p zero h = let q : p + 3 * 0 ≡ p = omega arith in rw q
drop_steps s p (suc k) h =
    let q : p + 3 * suc k ≡ p + 3 + 3 * k = omega arith in
    let i : p + 1 + 1 ≡ p + 2 = omega arith in
    let j : p + 2 + 1 ≡ p + 3 = omega arith in
    let a = byte_then s p (omega arith) in
    let b = rw i at (byte_then s (p + 1) (omega arith)) in
    let c = rw j at (byte_then s (p + 2) (omega arith)) in
    let d = drop_steps s (p + 3) k (omega arith) in
    rw q (cc)

-- ---- from the encoding to the bytes

-- the bytes of c stand in s
record Written (s : List ℕ) (c : Chart) : Type 0 where
  whole : length s ≡ 4 + states c + actions c + 3 * transitions c
  states_at : get_or s 0 0 ≡ states c
  modes_at : bytes_at s 1 (states c) ≡ c.modes
  actions_at : get_or s (1 + states c) 0 ≡ actions c
  codes_at : bytes_at s (2 + states c) (actions c) ≡ c.codes
  low_at : get_or s (2 + states c + actions c) 0 ≡ transitions c % 256
  high_at : get_or s (3 + states c + actions c) 0 ≡ transitions c / 256
  steps_at_lem : steps_at s (4 + states c + actions c) (transitions c) ≡ c.steps

pub step_bytes_length : (us : List Step) → length (step_bytes us) ≡ 3 * length us
unfolding step_bytes
step_bytes_length [] = refl
step_bytes_length (u ∷ us) = omega (arith, step_bytes_length us)

written : (s : List ℕ) (c : Chart) → s ≡ encode c → Written s c
unfolding encode
written s c e =
    let n : ℕ = states c in
    let m : ℕ = actions c in
    let t : ℕ = transitions c in
    let tail : List ℕ = t % 256 ∷ t / 256 ∷ step_bytes c.steps in
    let a = first_byte s 0 e in
    let b = bytes_there s 1 c.modes (m ∷ c.codes ++ tail) a.2 in
    let d = first_byte s (1 + n) b.1 in
    let i : 1 + n + 1 ≡ 2 + n = omega arith in
    let f = bytes_there s (2 + n) c.codes tail (rw i at d.2) in
    let g = first_byte s (2 + n + m) f.1 in
    let j : 2 + n + m + 1 ≡ 3 + n + m = omega arith in
    let h = first_byte s (3 + n + m) (rw j at g.2) in
    let k : 3 + n + m + 1 ≡ 4 + n + m = omega arith in
    let l = steps_there s (4 + n + m) c.steps [] (rw k at h.2 ∙ sym (append-nil _)) in
    let whole : length s ≡ 4 + n + m + 3 * t = ap length e ∙ simp (length-append, step_bytes_length) (omega arith) in
    record {
      whole = whole;
      states_at = a.1;
      modes_at = b.0;
      actions_at = d.1;
      codes_at = f.0;
      low_at = g.1;
      high_at = h.1;
      steps_at_lem = l.0;
    }

written_chart : (s : List ℕ) (c : Chart) → Written s c → chart_in s (shape_of c) ≡ c
written_chart s c W = λ i. record { modes = W.modes_at i; codes = W.codes_at i; steps = W.steps_at_lem i }

-- written and well formed, it is accepted
written_accepted : (s : List ℕ) (c : Chart) → WellFormed c → Written s c → Accepted s (shape_of c)
written_accepted s c F W =
    record {
      states_some = F.states_some;
      states_few = F.states_few;
      actions_few = F.actions_few;
      transitions_few = F.transitions_few;
      whole = W.whole;
      states_at = W.states_at;
      actions_at = W.actions_at;
      transitions_at = omega (arith, W.low_at, W.high_at);
      codes_rise = λ i h.
          (let l : i + 1 < length (bytes_at s (2 + states c) (actions c)) = omega (arith, bytes_at_length s (2 + states c) (actions c)) in
          let r = rising_at ◌<◌ 0 (bytes_at s (2 + states c) (actions c)) (rw W.codes_at F.codes_rise) i l in
          rw (bytes_at_get_or s (2 + states c) (actions c) i (omega arith), bytes_at_get_or s (2 + states c) (actions c) (i + 1) h) at r);
      steps_in = λ i h. F.steps_in _ (rw W.steps_at_lem at (member_step s (4 + states c + actions c) (transitions c) i h));
      steps_rise = λ i h.
          (let u : Step = step_at s 0 in
          let l : i + 1 < length (steps_at s (4 + states c + actions c) (transitions c)) = omega (arith, steps_at_length s (4 + states c + actions c) (transitions c)) in
          let r = rising_at Earlier u (steps_at s (4 + states c + actions c) (transitions c)) (rw W.steps_at_lem F.steps_rise) i l in
          rw (steps_at_get_or s (4 + states c + actions c) (transitions c) i u (omega arith), steps_at_get_or s (4 + states c + actions c) (transitions c) (i + 1) u h) at r);
    }

-- a chart's own layout is read as that chart
pub encoded_reads : (s : List ℕ) (c : Chart) → s ≡ encode c → WellFormed c → Reads s c
encoded_reads s c e F =
    let W = written s c e in
    (accepts s (shape_of c) (written_accepted s c F W), written_chart s c W)

-- ---- from the bytes to the encoding

byte_small : (s : List ℕ) → Bytes s → (p : ℕ) → get_or s p 0 < 256
byte_small [] B p = omega arith
byte_small (x ∷ s) B zero = B x (Mem.head refl)
byte_small (x ∷ s) B (suc p) = byte_small s (λ y m. B y (Mem.tail m)) p

bytes_small : (s : List ℕ) → Bytes s → (p k : ℕ) → Bytes (bytes_at s p k)
bytes_small s B p k x m =
    let b = byte_member s p k m in
    omega (arith, b.2, byte_small s B (p + b.0))

accepted_encoded : (s : List ℕ) (sh : Shape) → Bytes s → Accepted s sh → s ≡ encode (chart_in s sh)
unfolding encode
accepted_encoded s sh B A =
    let n : ℕ = sh.n in
    let m : ℕ = sh.m in
    let t : ℕ = sh.t in
    let w : length s ≡ 4 + n + m + 3 * t = A.whole in
    let c : get_or s (2 + n + m) 0 + 256 * get_or s (3 + n + m) 0 ≡ t = A.transitions_at in
    let low : t % 256 ≡ get_or s (2 + n + m) 0 = omega (arith, byte_small s B (2 + n + m)) in
    let high : t / 256 ≡ get_or s (3 + n + m) 0 = omega (arith, byte_small s B (2 + n + m)) in
    let i : 1 + n + 1 ≡ 2 + n = omega arith in
    let j : 2 + n + m + 1 ≡ 3 + n + m = omega arith in
    let k : 3 + n + m + 1 ≡ 4 + n + m = omega arith in
    let e₁ = rw A.states_at at (byte_then s 0 (omega arith)) in
    let e₂ = drop_bytes s 1 n (omega arith) in
    let e₃ = rw (i, A.actions_at) at (byte_then s (1 + n) (omega arith)) in
    let e₄ = drop_bytes s (2 + n) m (omega arith) in
    let e₅ = rw j at (byte_then s (2 + n + m) (omega arith)) in
    let e₆ = rw k at (byte_then s (3 + n + m) (omega arith)) in
    let e₇ = drop_steps s (4 + n + m) t (omega arith) in
    let e₈ = drop_of_length-le s {i = 4 + n + m + 3 * t} (omega arith) in
    rw (bytes_at_length s 1 n, bytes_at_length s (2 + n) m, steps_at_length s (4 + n + m) t, low, high) (cc (append-nil (step_bytes (steps_at s (4 + n + m) t))))

in_shape : (s : List ℕ) (sh : Shape) → shape_of (chart_in s sh) ≡ sh
in_shape s sh =
    λ i. record {
      n = bytes_at_length s 1 sh.n i;
      m = bytes_at_length s (2 + sh.n) sh.m i;
      t = steps_at_length s (4 + sh.n + sh.m) sh.t i;
    }

accepted_formed : (s : List ℕ) (sh : Shape) → Bytes s → Accepted s sh → WellFormed (chart_in s sh)
accepted_formed s sh B A =
    let n : ℕ = sh.n in
    let m : ℕ = sh.m in
    let t : ℕ = sh.t in
    let a : length (bytes_at s 1 n) ≡ n = bytes_at_length s 1 n in
    let b : length (bytes_at s (2 + n) m) ≡ m = bytes_at_length s (2 + n) m in
    let c : length (steps_at s (4 + n + m) t) ≡ t = steps_at_length s (4 + n + m) t in
    record {
      states_some = omega (arith, A.states_some);
      states_few = omega (arith, A.states_few);
      modes_bytes = bytes_small s B 1 n;
      actions_few = omega (arith, A.actions_few);
      codes_bytes = bytes_small s B (2 + n) m;
      codes_rise = at_rising ◌<◌ 0 (bytes_at s (2 + n) m) (λ i h.
          rw (bytes_at_get_or s (2 + n) m i (omega arith), bytes_at_get_or s (2 + n) m (i + 1) (omega arith)) (A.codes_rise i (omega arith)));
      transitions_few = omega (arith, A.transitions_few);
      steps_in = λ u h. (let k = step_member s (4 + n + m) t h in rw (a, b, k.2) (A.steps_in k.0 k.1));
      steps_rise = at_rising Earlier (step_at s 0) (steps_at s (4 + n + m) t) (λ i h.
          rw (steps_at_get_or s (4 + n + m) t i (step_at s 0) (omega arith), steps_at_get_or s (4 + n + m) t (i + 1) (step_at s 0) (omega arith))
          (A.steps_rise i (omega arith)));
    }

-- ---- accepted exactly

pub read_well_formed : (s : List ℕ) (sh : Shape) → Bytes s → read_chart s ≡ Ok sh
    → WellFormed (chart_in s sh) × (s ≡ encode (chart_in s sh)) × (shape_of (chart_in s sh) ≡ sh)
read_well_formed s sh B e =
    let A = accepted s sh e in
    (accepted_formed s sh B A, accepted_encoded s sh B A, in_shape s sh)

pub accepted_exactly : (s : List ℕ) → Bytes s → (c : Chart) → Reads s c ↔ ((s ≡ encode c) × WellFormed c)
accepted_exactly s B c = (
  λ r. (let f = read_well_formed s (shape_of c) B r.0 in
      (rw r.1 at f.1, rw r.1 at f.0)),
  λ f. encoded_reads s c f.0 f.1,
)

pub known_bytes : (s : List ℕ) → ((i : ℕ) → get_or s i 0 < 256) → Bytes s
known_bytes [] h x m = absurd (Memᴰ.not-nil m)
known_bytes (y ∷ s) h x m = go (Memᴰ.cases_cons m) (known_bytes s (λ i. h (suc i)) x)
  where
    go : (x ≡ y) ⊎ Mem x s → (Mem x s → x < 256) → x < 256
    go (inl e) rest = omega (arith, h 0)
    go (inr m) rest = rest m

-- what the reader promises of its bytes, which are bytes
pub read_exactly : (s : List ℕ) → ((i : ℕ) → get_or s i 0 < 256) → {answer : Result Shape Refusal} → answer ≡ read_chart s → (answer ≡ read_chart s) × AcceptedExactly s answer
read_exactly s known e = (e, subst⁻¹ (AcceptedExactly s) e (accepted_exactly s (known_bytes s known)))

-- no two charts have the same bytes
pub same_bytes : (c d : Chart) → encode c ≡ encode d → WellFormed c → WellFormed d → c ≡ d
same_bytes c d e F G =
    let r = encoded_reads (encode c) c refl F in
    let q = encoded_reads (encode c) d e G in
    let z : shape_of c ≡ shape_of d = same_shape r.0 q.0 in
    sym r.1 ∙ ap (chart_in (encode c)) z ∙ q.1
