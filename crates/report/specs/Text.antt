-- The text that the program prints (document 01, 'The program opens model.bin'), for a chart's states, rounds and marks, and for a refusal.
use Rattle.std.specs.Prelude.{ℕ, zero, suc, ◌+◌, ◌-◌, List, [], ◌∷◌, ◌++◌, eqb}
use Rattle.settle.specs.Test.{pick}
use Rattle.refusal.specs.Refusal.{input_number}
use Rattle.refusal.specs.declared.Refusal.{Refusal}
use Rattle.text.specs.Text.{line}

-- "states ", "rounds ", "refused "
abbrev pub states_word : List ℕ
states_word = 115 ∷ 116 ∷ 97 ∷ 116 ∷ 101 ∷ 115 ∷ 32 ∷ []

abbrev pub rounds_word : List ℕ
rounds_word = 114 ∷ 111 ∷ 117 ∷ 110 ∷ 100 ∷ 115 ∷ 32 ∷ []

abbrev pub refused_word : List ℕ
refused_word = 114 ∷ 101 ∷ 102 ∷ 117 ∷ 115 ∷ 101 ∷ 100 ∷ 32 ∷ []

-- input, number, place, byte
unfoldable pub refused_text : Refusal → List ℕ
refused_text r = refused_word ++ line (input_number r.input ∷ r.number ∷ r.place ∷ r.byte ∷ [])

-- a pair and its mark, where that is not 0
unfoldable pub pair_text : ℕ → ℕ → ℕ → List ℕ
pair_text p q mark = pick (eqb mark 0) [] (line (p ∷ q ∷ mark ∷ []))

-- p with each of p + 1, .., p + k
unfoldable pub row_text : (ℕ → ℕ → ℕ) → ℕ → ℕ → List ℕ
row_text mark p zero = []
row_text mark p (suc k) = row_text mark p k ++ pair_text p (p + 1 + k) (mark p (p + 1 + k))

-- each of the first k of n states with each state above it
unfoldable pub rows_text : (ℕ → ℕ → ℕ) → ℕ → ℕ → List ℕ
rows_text mark n zero = []
rows_text mark n (suc k) = rows_text mark n k ++ row_text mark k (n - 1 - k)

-- the states, the rounds, and the pairs p below q with a nonzero mark in rising order
unfoldable pub chart_text : ℕ → ℕ → (ℕ → ℕ → ℕ) → List ℕ
chart_text n rounds mark = states_word ++ line (n ∷ []) ++ (rounds_word ++ line (rounds ∷ [])) ++ rows_text mark n n
