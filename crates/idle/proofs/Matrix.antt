-- No idle build meets the promise of a matrix, where the rounds strike the pair (0, 1) of chart E, and not in the first. The other chart is E
-- without its triples, at rest, of which no round strikes a pair. Assumes nothing.
use Prim.Native.Nat.{ℕ, ◌*◌, ◌≤◌}
use mathlib.Core.Path.{◌≡◌, refl, sym, ap, subst, ◌∙◌}
use mathlib.Core.Bool.{true}
use mathlib.Core.List.{List, [], ◌∷◌}
use native.Mathlib.Omega.{arith}
use lib.ListN.{length}
use Rattle.settle.specs.Test.{pick, both, all_of}
use Rattle.chart.specs.Chart.{Step}
use Rattle.chart.specs.Layout.{Bytes}
use Rattle.chart.specs.Reading.{read_chart, read_actions, read_transitions, judge_codes, judge_triples, steps_at, chart_in}
use Rattle.chart.specs.declared.Shape.{Shape}
use Rattle.starred.specs.Boards.{chart_e}
use Rattle.starred.proofs.Boards.{shape_e, read_e}
use Rattle.relation.specs.Promise.{byte_at, Saying, Relations, MatrixPromise, AlwaysAnswered}
use Rattle.relation.specs.declared.Matrix.{Matrix}
use Rattle.idle.specs.Slice.{Slice}
use Rattle.idle.specs.Matrix.{Build, Meets, RefusesEverything, SameAlways, LeavesUnwritten, CopiesFirstRound, InventsRounds, NotIdle}
use Rattle.idle.proofs.Slice.{are_bytes, e, lent}
use Rattle.std.specs.Prelude.{Result, Ok, Err}
use Rattle.refusal.specs.declared.Refusal.{Refusal}

-- ---- the charts

pub chart_at_rest : List ℕ
chart_at_rest = 6 ∷ 1 ∷ 2 ∷ 3 ∷ 4 ∷ 5 ∷ 6 ∷ 3 ∷ 10 ∷ 20 ∷ 30 ∷ 0 ∷ 0 ∷ []

pub bytes_at_rest : Bytes chart_at_rest
unfolding chart_at_rest all_of both
bytes_at_rest = are_bytes chart_at_rest refl

abbrev pub resting_bytes : Slice
resting_bytes = (chart_at_rest, bytes_at_rest)

abbrev pub shape_at_rest : Shape
shape_at_rest = record { n = 6; m = 3; t = 0 }

pub read_at_rest : read_chart chart_at_rest ≡ Ok shape_at_rest
unfolding chart_at_rest read_chart read_actions read_transitions judge_codes judge_triples
read_at_rest = refl

abbrev pub steps_e : List Step
steps_e = (chart_in chart_e shape_e).steps

-- ---- what an accepted chart is answered

answered : {Says : Saying} {R : Relations} → AlwaysAnswered Says R → (chart : List ℕ) (sh : Shape) → read_chart chart ≡ Ok sh
    → (old new : List ℕ) (answer : Result Matrix Refusal) → sh.n * sh.n ≤ length old → MatrixPromise Says R chart old new answer
    → (given : Matrix) × (answer ≡ Ok given) × Says sh.n sh.m (chart_in chart sh).steps new given
answered always chart sh read old new (Ok given) room w = (given, refl, w.then_answered sh read room)
answered always chart sh read old new (Err r) room w = absurd (always chart sh read old new (Err r) room w r refl)

-- ---- the law

-- what a matrix of six states says of the pair (0, 1), and its rounds
pub record Shows (given : Matrix) (bytes : List ℕ) (byte rounds : ℕ) : Type 0 where
  pub six : given.states ≡ 6
  pub byte_is : byte_at 6 bytes 0 1 ≡ byte
  pub rounds_are : given.rounds ≡ rounds

module _ {Says : Saying} {R : Relations} (inside byte : ℕ) (always : AlwaysAnswered Says R)
    (struck : (bytes : List ℕ) (given : Matrix) → Says 6 3 steps_e bytes given → Shows given bytes byte 2)
    (kept : (bytes : List ℕ) (given : Matrix) → Says 6 3 [] bytes given → Shows given bytes inside 0)
    (first : R steps_e 1 (0, 1) ≡ true)
    (apart : inside ≡ byte → ⊥) (small : byte ≤ 2)
    (b : Build) (meets : Meets (MatrixPromise Says R) b) where
  on_e : (given : Matrix) × ((b e lent).0 ≡ Ok given) × Shows given (b e lent).1 byte 2
  on_e = let a = answered always chart_e shape_e read_e lent.0 (b e lent).1 (b e lent).0 (omega arith) (meets e lent) in (a.0, a.1, struck _ _ a.2)

  at_rest : (given : Matrix) × ((b resting_bytes lent).0 ≡ Ok given) × Shows given (b resting_bytes lent).1 inside 0
  unfolding steps_at
  at_rest =
      let a = answered always chart_at_rest shape_at_rest read_at_rest lent.0 (b resting_bytes lent).1 (b resting_bytes lent).0 (omega arith) (meets resting_bytes lent) in
      (a.0, a.1, kept _ _ a.2)

  refusing : RefusesEverything b → ⊥
  refusing f = let r = f e lent in always chart_e shape_e read_e lent.0 (b e lent).1 (b e lent).0 (omega arith) (meets e lent) r.0 r.1

  cell_of : (f : SameAlways b) (chart : Slice) (given : Matrix) → (b chart lent).0 ≡ Ok given → given.states ≡ 6 → byte_at 6 (b chart lent).1 0 1 ≡ f.0 6 0 1
  cell_of (cell, f) chart given i six = subst (λ (n : ℕ). byte_at n (b chart lent).1 0 1 ≡ cell n 0 1) six (f chart lent given i 0 1 (omega (arith, six)) (omega (arith, six)))

  same : SameAlways b → ⊥
  same f =
      let (g, i, s) = on_e in
      let (h, j, u) = at_rest in
      apart (sym u.byte_is ∙ cell_of f resting_bytes h j u.six ∙ sym (cell_of f e g i s.six) ∙ s.byte_is)

  unwritten : LeavesUnwritten b → ⊥
  unwritten f = let s = on_e.2 in let z : byte_at 6 (b e lent).1 0 1 ≡ 255 = ap (λ (x : List ℕ). byte_at 6 x 0 1) (f e lent) in omega (arith, s.byte_is)

  copies : (outside : ℕ) → CopiesFirstRound R inside outside b → ⊥
  copies outside f =
      let (g, i, s) = on_e in
      apart (sym (f e lent shape_e g read_e i 0 1 (omega arith) (omega arith) ∙ ap (λ x. pick x inside outside) first) ∙ s.byte_is)

  invented : InventsRounds b → ⊥
  invented (rounds, f) =
      let (g, i, s) = on_e in
      let (h, j, u) = at_rest in
      let z : rounds g.states ≡ rounds h.states = ap rounds (s.six ∙ sym u.six) in
      omega (arith, f e lent g i, f resting_bytes lent h j, s.rounds_are, u.rounds_are)

  pub not_idle : (outside : ℕ) → NotIdle R inside outside b
  not_idle outside =
      record {
        not_refusing = refusing;
        not_same = same;
        not_unwritten = unwritten;
        not_first_round = copies outside;
        not_invented = invented;
      }
