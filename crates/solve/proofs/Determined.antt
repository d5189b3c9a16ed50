-- What the rounds say of themselves leaves one answer. Assumes nothing.
use Prim.Native.Nat.{ℕ}
use mathlib.Core.Path.{◌≡◌, ap, sym, ◌∙◌}
use mathlib.Core.Bool.{Bool}
use Rattle.settle.specs.Test.{count}
use Rattle.settle.specs.Finite.{below}
use Rattle.settle.specs.Chain.{chain}
use Rattle.settle.proofs.Chain.{rounds_unique}
use Rattle.words.specs.Words.{word_of}
use Rattle.solve.specs.Solving.{Reached, Solves}
use Rattle.solve.specs.declared.Solved.{Solved}
use Rattle.std.specs.Prelude.{Result, Ok, Err}
use Rattle.refusal.specs.declared.Refusal.{Refusal}

pub same_solved : {w v c d j k : ℕ} → w ≡ v → c ≡ d → j ≡ k → ◌≡◌ {A = Solved} (record { word = w; count = c; rounds = j }) (record { word = v; count = d; rounds = k })
same_solved p q r = cc

module _ (n : ℕ) (F : (ℕ → Bool) → ℕ → Bool) (S : ℕ → Bool) where
  reached_unique : (a b : Solved) → Reached n F S a → Reached n F S b → a ≡ b
  reached_unique a b A B =
      let k = rounds_unique (below n) (chain F S) a.rounds b.rounds A.rounds_are B.rounds_are in
      same_solved
      (A.word_is ∙ ap (λ (j : ℕ). word_of n (chain F S j)) k ∙ sym B.word_is)
      (A.count_is ∙ ap (λ (j : ℕ). count (chain F S j) (below n)) k ∙ sym B.count_is)
      k

  pub solves_determined : (x y : Result Solved Refusal) → Solves n F S x → Solves n F S y → x ≡ y
  solves_determined (Ok a) (Ok b) X Y = ap Ok (reached_unique a b X Y)
  solves_determined (Ok a) (Err r) X Y = absurd (Y.1 a.rounds X.rounds_few X.rounds_are.0)
  solves_determined (Err r) (Ok b) X Y = absurd (X.1 b.rounds Y.rounds_few Y.rounds_are.0)
  solves_determined (Err r) (Err q) X Y = ap Err (X.0 ∙ sym Y.0)
