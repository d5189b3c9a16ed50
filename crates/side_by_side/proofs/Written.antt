-- The parts of the chart that is written: what stands before the triples, and the triples one by one. Assumes nothing.
use Prim.Native.Nat.{ℕ, ◌+◌, ◌-◌, ◌*◌, ◌%◌, ◌/◌, ◌<◌, ◌≤◌}
use mathlib.Core.Path.{◌≡◌, refl, ap}
use mathlib.Core.List.{List, [], ◌∷◌, ◌++◌, append_assoc, map, map-append}
use native.Mathlib.Omega.{arith}
use lib.ListN.{length, get_or, take, drop, length-append, length-map}
use Rattle.text.specs.Text.{HasRoom, Added, Puts}
use Rattle.text.specs.declared.Page.{Page}
use Rattle.text.proofs.Pieces.{puts_added, added_none, room_first, puts_next}
use Rattle.chart.specs.Chart.{Step}
use Rattle.chart.specs.Layout.{step_bytes, StepIn}
use Rattle.chart.specs.Reading.{bytes_at, step_at, steps_at}
use Rattle.chart.specs.declared.Shape.{Shape}
use Rattle.chart.specs.declared.AcceptedChart.{AcceptedChart}
use Rattle.chart.proofs.Accepted.{Accepted, accepted}
use Rattle.chart.proofs.Steps.{bytes_at_length, bytes_at_get_or, steps_at_length, steps_at_snoc}
use Rattle.chart.proofs.Exactly.{step_bytes_length}
use Rattle.side_by_side.specs.Written.{head, tabled, tabled_steps}
use Rattle.side_by_side.proofs.Bytes.{part_bytes}

-- ---- before the triples

pub modes_part : (s : List ℕ) (n : ℕ) → n < length s → take (1 + n - 1) (drop 1 s) ≡ bytes_at s 1 n
modes_part s n h = let e : 1 + n - 1 ≡ n = omega arith in rw e (part_bytes s 1 n (omega arith))

-- n and k are how many states the two charts have
pub head_written : (first second codes : List ℕ) (n k t : ℕ) (p₀ p₁ p₂ p₃ p₄ p₅ p₆ : Page)
    → n < length first → k < length second → HasRoom p₀ (head (bytes_at first 1 n) (bytes_at second 1 k) codes t)
    → Puts p₀ ((n + k) ∷ []) p₁
    → Puts p₁ (take (1 + n - 1) (drop 1 first)) p₂
    → Puts p₂ (take (1 + k - 1) (drop 1 second)) p₃
    → Puts p₃ (length codes ∷ []) p₄
    → Puts p₄ codes p₅
    → Puts p₅ (t % 256 ∷ t / 256 ∷ []) p₆
    → Added p₀ (head (bytes_at first 1 n) (bytes_at second 1 k) codes t) p₆
unfolding head
head_written first second codes n k t p₀ p₁ p₂ p₃ p₄ p₅ p₆ f s room q₁ q₂ q₃ q₄ q₅ q₆ =
    let m : length (bytes_at first 1 n) ≡ n = bytes_at_length first 1 n in
    let o : length (bytes_at second 1 k) ≡ k = bytes_at_length second 1 k in
    let u : List ℕ = (n + k) ∷ [] in
    let v : List ℕ = bytes_at first 1 n in
    let w : List ℕ = bytes_at second 1 k in
    let x : List ℕ = length codes ∷ [] in
    let z : List ℕ = t % 256 ∷ t / 256 ∷ [] in
    let r₂ : Puts p₁ v p₂ = rw (modes_part first n f) at q₂ in
    let r₃ : Puts p₂ w p₃ = rw (modes_part second k s) at q₃ in
    let same : head v w codes t ≡ u ++ v ++ w ++ x ++ codes ++ z = rw (m, o) (simp append_assoc) in
    let all : HasRoom p₀ (u ++ v ++ w ++ x ++ codes ++ z) = omega (arith, ap length same) in
    let room₅ = room_first p₀ (u ++ v ++ w ++ x ++ codes) z all in
    let room₄ = room_first p₀ (u ++ v ++ w ++ x) codes room₅ in
    let room₃ = room_first p₀ (u ++ v ++ w) x room₄ in
    let room₂ = room_first p₀ (u ++ v) w room₃ in
    let room₁ = room_first p₀ u v room₂ in
    let a₁ = puts_added p₀ u p₁ room₁ q₁ in
    let a₂ = puts_next p₀ u v p₁ p₂ room₂ a₁ r₂ in
    let a₃ = puts_next p₀ (u ++ v) w p₂ p₃ room₃ a₂ r₃ in
    let a₄ = puts_next p₀ (u ++ v ++ w) x p₃ p₄ room₄ a₃ q₄ in
    let a₅ = puts_next p₀ (u ++ v ++ w ++ x) codes p₄ p₅ room₅ a₄ q₅ in
    rw same (puts_next p₀ (u ++ v ++ w ++ x ++ codes) z p₅ p₆ all a₅ q₆)

-- what is known of an accepted chart, and of each of its triples
pub known : (chart : AcceptedChart) → Accepted chart.bytes.now chart.shape
known chart = accepted chart.bytes.now chart.shape chart.read

pub step_known : (chart : AcceptedChart) (i : ℕ) → i < chart.shape.t
    → StepIn chart.shape.n chart.shape.m (step_at chart.bytes.now (4 + chart.shape.n + chart.shape.m + 3 * i)) × Accepted chart.bytes.now chart.shape
step_known chart i h = ((known chart).steps_in i h, known chart)

-- ---- the triples

pub step_bytes_append : (us vs : List Step) → step_bytes (us ++ vs) ≡ step_bytes us ++ step_bytes vs
unfolding step_bytes
step_bytes_append [] vs = refl
step_bytes_append (u ∷ us) vs = ap (λ (l : List ℕ). u.source ∷ u.action ∷ u.target ∷ l) (step_bytes_append us vs)

module _ (bytes : List ℕ) (sh : Shape) (places : List ℕ) (shift : ℕ) where
  -- the first i triples, as they are written
  abbrev pub front : ℕ → List ℕ
  front i = step_bytes (map (tabled bytes sh places shift) (steps_at bytes (4 + sh.n + sh.m) i))

  front_length : (i : ℕ) → length (front i) ≡ 3 * i
  front_length i = simp (step_bytes_length, length-map, steps_at_length)

  front_more : (i : ℕ) → StepIn sh.n sh.m (step_at bytes (4 + sh.n + sh.m + 3 * i))
      → front (i + 1) ≡ front i ++ ((shift + get_or bytes (4 + sh.n + sh.m + 3 * i) 0) ∷ get_or places (get_or bytes (2 + sh.n + get_or bytes (4 + sh.n + sh.m + 3 * i + 1) 0) 0) 0 ∷ (shift + get_or bytes (4 + sh.n + sh.m + 3 * i + 2) 0) ∷ [])
  unfolding step_bytes
  front_more i there =
      let code = bytes_at_get_or bytes (2 + sh.n) sh.m (get_or bytes (4 + sh.n + sh.m + 3 * i + 1) 0) there.action_in in
      rw (steps_at_snoc, map-append, step_bytes_append, code)

  pub front_none : (old : Page) → Added old (front 0) old
  unfolding step_bytes steps_at
  front_none old = added_none old

  -- one triple more
  pub front_added : (old new after : Page) (i x y z : ℕ) → StepIn sh.n sh.m (step_at bytes (4 + sh.n + sh.m + 3 * i)) → old.at + 3 * (i + 1) ≤ length old.bytes.now
      → x ≡ shift + get_or bytes (4 + sh.n + sh.m + 3 * i) 0
      → y ≡ get_or places (get_or bytes (2 + sh.n + get_or bytes (4 + sh.n + sh.m + 3 * i + 1) 0) 0) 0
      → z ≡ shift + get_or bytes (4 + sh.n + sh.m + 3 * i + 2) 0
      → Added old (front i) new → Puts new (x ∷ y ∷ z ∷ []) after → Added old (front (i + 1)) after
  front_added old new after i x y z there room ex ey ez e p =
      let room_all : HasRoom old (front i ++ (x ∷ y ∷ z ∷ [])) = simp (length-append, front_length) (omega arith) in
      rw (front_more i there, ← ex, ← ey, ← ez) (puts_next old (front i) (x ∷ y ∷ z ∷ []) new after room_all e p)

  pub front_all : (old new : Page) (i : ℕ) → i ≡ sh.t → Added old (front i) new → Added old (step_bytes (tabled_steps bytes sh places shift)) new
  front_all old new i e p = rw e at p
