-- Any two results that a promise of the rounds of marks allows for the same input agree. Assumes nothing.
use Prim.Native.Nat.{ℕ, ◌*◌, ◌^◌, ◌<◌}
use mathlib.Core.Path.{◌≡◌, sym, ◌∙◌}
use mathlib.Core.Bool.{Bool}
use mathlib.Core.List.{List}
use native.Mathlib.Omega.{arith}
use native.Mathlib.Decide.{dec_le}
use lib.Seq.{ext_get_or}
use Rattle.chart.specs.Chart.{Step}
use Rattle.words.specs.Words.{member}
use Rattle.words.proofs.Words.{same_members}
use Rattle.nearness.proofs.Mark.{mark_unique}
use Rattle.classes.specs.Marking.{Cleared, PutMarks, Worked}

pub clear_determined : (cells : ℕ) (old a b : List ℕ) → Cleared cells old a → Cleared cells old b → a ≡ b
clear_determined cells old a b s t =
    ext_get_or 0 a b (s.same_length ∙ sym t.same_length) (λ y i. elim (dec_le cells y) [ yes h ↦ s.after y h ∙ sym (t.after y h) | no f ↦ s.zeros y (omega arith) ∙ sym (t.zeros y (omega arith)) ])

-- of `put_marks` the cells, and each of its two words
pub put_marks_determined : (n : ℕ) (near next : List ℕ) (mark : ℕ) (old a b : List ℕ) → PutMarks n near next mark old a → PutMarks n near next mark old b → a ≡ b
put_marks_determined n near next mark old a b s t =
    ext_get_or 0 a b (s.same_length ∙ sym t.same_length) (λ y i. elim (dec_le (n * n) y) [ yes h ↦ s.after y h ∙ sym (t.after y h) | no f ↦ s.cells y (omega arith) ∙ sym (t.cells y (omega arith)) ])

pub left_determined : (is : ℕ → Bool) (v w : ℕ) → v < 2 ^ 64 → w < 2 ^ 64 → ((p : ℕ) → member v p ≡ is p) → ((p : ℕ) → member w p ≡ is p) → v ≡ w
left_determined is v w h k s t = same_members 64 v w h k (λ p l. s p ∙ sym (t p))

-- of `work_out` the cells
pub worked_determined : (steps : List Step) (n rounds : ℕ) (old a b : List ℕ) → Worked steps n old a rounds → Worked steps n old b rounds → a ≡ b
worked_determined steps n rounds old a b s t =
    ext_get_or 0 a b (s.same_length ∙ sym t.same_length) (λ y i. elim (dec_le (n * n) y) [ yes h ↦ s.after y h ∙ sym (t.after y h) | no f ↦ mark_unique steps _ _ _ _ (s.cells y (omega arith)) (t.cells y (omega arith)) ])
