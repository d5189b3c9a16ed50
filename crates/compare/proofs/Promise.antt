-- What compare owes in each case. Assumes nothing.
use Prim.Native.Nat.{ℕ, ◌+◌, ◌*◌, ◌≤◌}
use mathlib.Core.Path.{◌≡◌, refl, ap, subst, subst⁻¹, ◌∙◌}
use mathlib.Core.List.{List}
use native.Mathlib.Omega.{arith}
use lib.ListN.{length, take}
use Rattle.refusal.specs.declared.Refusal.{Refusal}
use Rattle.chart.specs.Chart.{Chart, states, actions}
use Rattle.chart.specs.Layout.{encode, Bytes, WellFormed}
use Rattle.chart.specs.Reading.{shape_of}
use Rattle.chart.proofs.Accepted.{accepted_short}
use Rattle.chart.proofs.Exactly.{encoded_reads}
use Rattle.relation.specs.declared.Matrix.{Matrix}
use Rattle.relation.proofs.Cells.{cells_few}
use Rattle.marks.specs.Promise.{MarksOf, MarksPromise}
use Rattle.marks.proofs.Promise.{always_answered}
use Rattle.lent.specs.Lent.{writes, LentPromise}
use Rattle.beside.specs.Beside.{beside}
use Rattle.beside.specs.Reading.{TwoRead, two, refused, read_two}
use Rattle.beside.proofs.Formed.{states_together}
use Rattle.beside.proofs.Reading.{two_read, first_formed, second_formed, together_formed}
use Rattle.side_by_side.specs.Promise as Join
use Rattle.side_by_side.specs.Promise.{JoinPromise}
use Rattle.side_by_side.specs.declared.Joined.{Joined}
use Rattle.compare.specs.Found.{found}
use Rattle.compare.specs.Promise.{with_rounds, Compares, Answers, ComparePromise}
use Rattle.text.proofs.Pieces.{placed_stands}
use Rattle.compare.proofs.Compared.{compared}
use Rattle.std.specs.Prelude.{Result, Ok, Err}
use Rattle.compare.specs.declared.Comparison as Struct

-- ---- the marks of the two charts, whose layout side by side stands in these bytes

module _ (c d : Chart) (formed : WellFormed (beside c d)) (chart : List ℕ) (stands : chart ≡ encode (beside c d)) (old new : List ℕ) (room : 4096 ≡ length old) where
  has_room : states (beside c d) * states (beside c d) ≤ length old
  has_room = omega (arith, cells_few (states (beside c d)) formed.states_few)

  pub not_refused : {r : Refusal} → MarksPromise chart old new (Err r) → ⊥
  not_refused {r} p = always_answered chart (shape_of (beside c d)) (encoded_reads chart (beside c d) stands formed).0 old new _ has_room p r refl

  marked : {given : Matrix} → MarksPromise chart old new (Ok given) → MarksOf (states c + states d) (actions (beside c d)) (beside c d).steps new given
  marked {given} p =
      let r = encoded_reads chart (beside c d) stands formed in
      rw (← states_together c d) (subst (λ (b : Chart). MarksOf (states (beside c d)) (actions (beside c d)) b.steps new given) r.1 (p.then_answered (shape_of (beside c d)) r.0 has_room))

  pub compares : {given : Matrix} → WellFormed c → WellFormed d → {first second : ℕ} → first ≡ states c → second ≡ states d → MarksPromise chart old new (Ok given)
      → {before after : List ℕ} {written : Result ℕ Refusal} {answer : Result Struct.Comparison Refusal} → LentPromise (writes (found new first second)) before after written → answer ≡ with_rounds given.rounds written
      → Compares c d before after answer
  compares formed_first formed_second e f p l a =
      let x = rw (e, f) at l in
      record { mark = _; first = _; second = _; rounds = _; comparison = compared c d formed_first formed_second (marked p); answered = a ∙ ap (with_rounds _) x.answered; bytes = x.bytes }

-- ---- the two charts that were joined

-- the charts were read, and their layout side by side stands at the start of what was lent for it
pub record Stands (first second new : List ℕ) (joined : Joined) : Type 0 where
  pub c : Chart
  pub d : Chart
  pub read : read_two first second ≡ two c d
  pub formed_first : WellFormed c
  pub formed_second : WellFormed d
  pub formed : WellFormed (beside c d)
  pub first_is : joined.first ≡ states c
  pub second_is : joined.second ≡ states d
  pub inside : joined.length ≤ length new
  pub layout : take joined.length new ≡ encode (beside c d)

module _ (first second old new : List ℕ) where
  pub stands_joined : Bytes first → Bytes second → 3172 ≡ length old → {joined : Joined} → JoinPromise first second old new (Ok joined) → Stands first second new joined
  stands_joined first_bytes second_bytes room {joined} = by_read (read_two first second) refl
    where
      by_read : (t : TwoRead) → read_two first second ≡ t → Join.Promise t old new (Ok joined) → Stands first second new joined
      by_read (refused r) e p = let a = p.answered in let z : ◌≡◌ {A = ℕ} 0 1 = cc in absurd (omega arith)
      by_read (two c d) e p =
          let both = two_read first second c d e in
          let formed = together_formed both first_bytes second_bytes in
          let layout : List ℕ = encode (beside c d) in
          let a = p.answered in
          let j : joined ≡ record { length = length layout; first = states c; second = states d } = cc in
          let short = accepted_short layout (shape_of (beside c d)) (encoded_reads layout (beside c d) refl formed).0 in
          let t = placed_stands layout old new joined.length (omega arith) (ap (λ (x : Joined). x.length) j) p.bytes in
          record {
            c = c;
            d = d;
            read = e;
            formed_first = first_formed both first_bytes second_bytes;
            formed_second = second_formed both first_bytes second_bytes;
            formed = formed;
            first_is = ap (λ (x : Joined). x.first) j;
            second_is = ap (λ (x : Joined). x.second) j;
            inside = t.1;
            layout = t.0;
          }

  -- a refusal of theirs is handed on
  pub refused_joined : (buffer : List ℕ) {r : Refusal} → JoinPromise first second old new (Err r) → ComparePromise first second buffer buffer (Err r)
  refused_joined buffer {r} = by_read (read_two first second)
    where
      by_read : (t : TwoRead) → Join.Promise t old new (Err r) → Answers t buffer buffer (Err r)
      by_read (two c d) p = let a = p.answered in let z : ◌≡◌ {A = ℕ} 0 1 = cc in absurd (omega arith)
      by_read (refused s) p = let a = p.answered in let e : r ≡ s = cc in (ap Err e, refl)

pub promised : (first second old new : List ℕ) (answer : Result Struct.Comparison Refusal) {c d : Chart} → read_two first second ≡ two c d → Compares c d old new answer → ComparePromise first second old new answer
promised first second old new answer e p = subst⁻¹ (λ (t : TwoRead). Answers t old new answer) e p
