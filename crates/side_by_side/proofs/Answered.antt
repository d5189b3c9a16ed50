-- What is written is the layout of the two charts side by side, and what is answered is what is promised. Assumes nothing.
use Prim.Native.Nat.{ℕ, ◌+◌, ◌-◌, ◌*◌, ◌%◌, ◌/◌, ◌<◌, ◌≤◌}
use mathlib.Core.Path.{◌≡◌, refl, sym, ap, subst⁻¹, ◌∙◌}
use mathlib.Core.List.Memᴰ.{head as here}
use mathlib.Core.List.Memᴰ.{tail as there}
use mathlib.Core.List.{List, [], ◌∷◌, ◌++◌, append_assoc, map, Memᴰ as Mem}
use native.Mathlib.Omega.{arith}
use mathlib.Core.Bool.{Bool, false}
use lib.ListN.{length, get_or, take, drop, replicate, length-append, length-map, get_or-replicate}
use borrow.Author.Tests.{lt-ltb, le-ltb}
use Rattle.refusal.specs.Refusal.{lent_refusal}
use Rattle.refusal.specs.declared.Refusal.{Refusal}
use Rattle.chart.specs.Chart.{Step, Chart, states, transitions}
use Rattle.chart.specs.Layout.{step_bytes, encode, WellFormed}
use Rattle.chart.specs.Reading.{bytes_at, chart_in}
use Rattle.chart.specs.declared.AcceptedChart.{AcceptedChart}
use Rattle.side_by_side.specs.Table.{Flagged, Numbered}
use Rattle.side_by_side.proofs.Bytes.{part_bytes}
use Rattle.chart.specs.declared.Shape.{Shape}
use Rattle.chart.proofs.Steps.{bytes_at_length, steps_at_length}
use Rattle.chart.proofs.Exactly.{step_bytes_length}
use Rattle.text.specs.Text.{placed, HasRoom, Added}
use Rattle.text.specs.declared.Page.{Page}
use Rattle.text.proofs.Pieces.{room_first, added_then}
use Rattle.beside.specs.Beside.{joint_codes, index_of, moved, moved_steps, beside, judge_together}
use Rattle.beside.specs.Partner.{code_of}
use Rattle.beside.specs.Reading.{where_together}
use Rattle.beside.proofs.Moved.{code_among}
use Rattle.beside.proofs.Steps.{first_joint, second_joint}
use Rattle.beside.proofs.Formed.{states_together, transitions_together, fine_exactly}
use Rattle.side_by_side.specs.Promise.{Promise}
use Rattle.side_by_side.specs.Written.{head, tabled, tabled_steps}
use Rattle.side_by_side.proofs.Table.{Joint, joint_numbered}
use Rattle.side_by_side.proofs.Written.{known, step_bytes_append}
use Rattle.std.specs.Prelude.{Ok, Err}
use Rattle.chart.specs.Reading.{Judged}
use Rattle.chart.specs.Reading.{faultless}

-- ---- the layout, part by part

-- what stands before the triples, and then the triples
head_then : (first second codes : List ℕ) (t : ℕ) (rest : List ℕ)
    → head first second codes t ++ rest ≡ (length first + length second) ∷ (first ++ second) ++ (length codes ∷ codes ++ (t % 256 ∷ t / 256 ∷ rest))
unfolding head
head_then first second codes t rest =
    append_assoc ((length first + length second) ∷ (first ++ second)) (length codes ∷ codes ++ (t % 256 ∷ t / 256 ∷ [])) rest
    ∙ ap (λ (l : List ℕ). (length first + length second) ∷ (first ++ second) ++ l) (append_assoc (length codes ∷ codes) (t % 256 ∷ t / 256 ∷ []) rest)

layout_parts : (c d : Chart) → encode (beside c d) ≡ head c.modes d.modes (joint_codes c d) (transitions c + transitions d)
    ++ (step_bytes (moved_steps c (joint_codes c d) 0) ++ step_bytes (moved_steps d (joint_codes c d) (states c)))
unfolding encode beside
layout_parts c d = rw (states_together c d, transitions_together c d, step_bytes_append) (sym (head_then c.modes d.modes (joint_codes c d) (transitions c + transitions d) _))

head_length : (first second codes : List ℕ) (t : ℕ) → length (head first second codes t) ≡ 4 + length first + length second + length codes
unfolding head
head_length first second codes t = simp length-append (omega arith)

-- ---- the steps, by the places

map_same : {A B : Type 0} (f g : A → B) (l : List A) → ((x : A) → Mem x l → f x ≡ g x) → map f l ≡ map g l
map_same f g [] e = refl
map_same f g (x ∷ l) e = rw (e x (here refl), map_same f g l (λ y m. e y (there m)))

tabled_moved : (bytes : List ℕ) (sh : Shape) (places codes : List ℕ) (shift : ℕ)
    → ((u : Step) → Mem u (chart_in bytes sh).steps → get_or places (code_of (chart_in bytes sh) u) 0 ≡ index_of (code_of (chart_in bytes sh) u) codes)
    → tabled_steps bytes sh places shift ≡ moved_steps (chart_in bytes sh) codes shift
tabled_moved bytes sh places codes shift e =
    map_same (tabled bytes sh places shift) (moved (chart_in bytes sh) codes shift) (chart_in bytes sh).steps (λ u m. rw (e u m))

-- how long the triples of a chart are
pub steps_length : (chart : AcceptedChart) (places : List ℕ) (shift : ℕ) → length (step_bytes (tabled_steps chart.bytes.now chart.shape places shift)) ≡ 3 * chart.shape.t
steps_length chart places shift = rw (step_bytes_length, length-map, steps_at_length)

-- ---- what is promised

module _ (c d : Chart) {old : List ℕ} {given r : Refusal} where
  pub joining_refused : judge_together c d ≡ Err r → given ≡ r → Promise (where_together (judge_together c d) c d) old old (Err given)
  joining_refused e f = subst⁻¹ (λ (j : Judged). Promise (where_together j c d) old old (Err given)) e (record { answered = ap Err f; bytes = refl })

codes_part : (s : List ℕ) (sh : Shape) → 2 + sh.n + sh.m ≤ length s → take (2 + sh.n + sh.m - (2 + sh.n)) (drop (2 + sh.n) s) ≡ bytes_at s (2 + sh.n) sh.m
codes_part s sh h = let e : 2 + sh.n + sh.m - (2 + sh.n) ≡ sh.m = omega arith in rw e (part_bytes s (2 + sh.n) sh.m h)

module _ (first second : AcceptedChart) where
  -- the two charts
  abbrev pub one : Chart
  one = chart_in first.bytes.now first.shape

  abbrev pub other : Chart
  other = chart_in second.bytes.now second.shape

  states_are : states one + states other ≡ first.shape.n + second.shape.n
  states_are = rw (bytes_at_length first.bytes.now 1 first.shape.n, bytes_at_length second.bytes.now 1 second.shape.n)

  transitions_are : transitions one + transitions other ≡ first.shape.t + second.shape.t
  transitions_are = rw (steps_at_length first.bytes.now (4 + first.shape.n + first.shape.m) first.shape.t, steps_at_length second.bytes.now (4 + second.shape.n + second.shape.m) second.shape.t)

  -- what the tables say of the two charts' codes
  pub joint : {once both : List Bool} {places codes : List ℕ}
      → Flagged (take (2 + first.shape.n + first.shape.m - (2 + first.shape.n)) (drop (2 + first.shape.n) first.bytes.now)) (replicate 256 false) once
      → Flagged (take (2 + second.shape.n + second.shape.m - (2 + second.shape.n)) (drop (2 + second.shape.n) second.bytes.now)) once both
      → Numbered both places codes → Joint one other places codes
  joint F G N =
      let f = codes_part first.bytes.now first.shape (omega (arith, (known first).whole)) in
      let g = codes_part second.bytes.now second.shape (omega (arith, (known second).whole)) in
      joint_numbered one other (λ x h. get_or-replicate 256 x false false h) (rw f at F) (rw g at G) N

  -- the room for what stands before the triples, and how long it is
  pub head_is : (codes : List ℕ) (t : ℕ) → length (head one.modes other.modes codes t) ≡ 4 + first.shape.n + second.shape.n + length codes
  head_is codes t = omega (arith, head_length one.modes other.modes codes t, states_are)

  pub refused_18 : 64 < first.shape.n + second.shape.n → judge_together one other ≡ Err (lent_refusal 18)
  refused_18 h = rw (lt-ltb 64 (states one + states other) (omega (arith, states_are)))

  pub refused_19 : first.shape.n + second.shape.n ≤ 64 → 32 < length (joint_codes one other) → judge_together one other ≡ Err (lent_refusal 19)
  refused_19 h k = rw (le-ltb 64 (states one + states other) (omega (arith, states_are)), lt-ltb _ _ k)

  pub refused_20 : first.shape.n + second.shape.n ≤ 64 → length (joint_codes one other) ≤ 32 → 1024 < first.shape.t + second.shape.t → judge_together one other ≡ Err (lent_refusal 20)
  refused_20 h k l = rw (le-ltb 64 (states one + states other) (omega (arith, states_are)), le-ltb _ _ k, lt-ltb 1024 (transitions one + transitions other) (omega (arith, transitions_are)))

  module _ (formed_first : WellFormed one) (formed_second : WellFormed other) {old p₁ p₂ p₃ : Page} {places codes : List ℕ}
      (J : Joint one other places codes) (h : first.shape.n + second.shape.n ≤ 64) (k : length codes ≤ 32) (l : first.shape.t + second.shape.t ≤ 1024) (room : length old.bytes.now ≡ 3172) (start : old.at ≡ 0)
      (H : Added old (head one.modes other.modes codes (first.shape.t + second.shape.t)) p₁)
      (S : Added p₁ (step_bytes (tabled_steps first.bytes.now first.shape places 0)) p₂) (T : Added p₂ (step_bytes (tabled_steps second.bytes.now second.shape places first.shape.n)) p₃) where
    layout_added : Added old (encode (beside one other)) p₃
    layout_added =
        let m : length one.modes ≡ first.shape.n = bytes_at_length first.bytes.now 1 first.shape.n in
        let s : tabled_steps first.bytes.now first.shape places 0 ≡ moved_steps one (joint_codes one other) 0 = tabled_moved first.bytes.now first.shape places (joint_codes one other) 0 (λ u i. J.places_are _ (code_among one formed_first (joint_codes one other) (first_joint one other formed_first formed_second) u i)) in
        let t : tabled_steps second.bytes.now second.shape places first.shape.n ≡ moved_steps other (joint_codes one other) (states one) = rw m (tabled_moved second.bytes.now second.shape places (joint_codes one other) first.shape.n (λ u i. J.places_are _ (code_among other formed_second (joint_codes one other) (second_joint one other formed_first formed_second) u i))) in
        let x : List ℕ = head one.modes other.modes (joint_codes one other) (first.shape.t + second.shape.t) in
        let y : List ℕ = step_bytes (moved_steps one (joint_codes one other) 0) in
        let z : List ℕ = step_bytes (moved_steps other (joint_codes one other) (states one)) in
        let q₁ : Added old x p₁ = rw J.codes_are at H in
        let q₂ : Added p₁ y p₂ = rw s at S in
        let q₃ : Added p₂ z p₃ = rw t at T in
        let lx : length x ≡ 4 + first.shape.n + second.shape.n + length codes = rw (← J.codes_are) (head_is codes (first.shape.t + second.shape.t)) in
        let ly : length y ≡ 3 * first.shape.t = rw (step_bytes_length, length-map, steps_at_length) in
        let lz : length z ≡ 3 * second.shape.t = rw (step_bytes_length, length-map, steps_at_length) in
        let all : HasRoom old (x ++ y ++ z) = omega (arith, length-append x y, length-append (x ++ y) z) in
        let parts : encode (beside one other) ≡ x ++ y ++ z = layout_parts one other ∙ rw transitions_are (sym (append_assoc x y z)) in
        rw parts (added_then old (x ++ y) z p₂ p₃ all (added_then old x y p₁ p₂ (room_first old (x ++ y) z all) q₁ q₂) q₃)

    pub joined : Promise (where_together (judge_together one other) one other) old.bytes.now p₃.bytes.now (Ok (record { length = p₃.at; first = first.shape.n; second = second.shape.n }))
    joined =
        let p = layout_added in
        let place : p₃.at ≡ length (encode (beside one other)) = omega (arith, p.place, start) in
        let bytes : p₃.bytes.now ≡ placed old.bytes.now 0 (encode (beside one other)) = rw start at p.bytes in
        let m : length one.modes ≡ first.shape.n = bytes_at_length first.bytes.now 1 first.shape.n in
        let o : length other.modes ≡ second.shape.n = bytes_at_length second.bytes.now 1 second.shape.n in
        let fine : judge_together one other ≡ faultless = (fine_exactly one other).1 (omega (arith, states_are), omega (arith, ap length J.codes_are), omega (arith, transitions_are)) in
        subst⁻¹ (λ (j : Judged). Promise (where_together j one other) old.bytes.now p₃.bytes.now (Ok (record { length = p₃.at; first = first.shape.n; second = second.shape.n }))) fine (record { answered = rw (place, m, o); bytes = bytes })
