-- What is said of the triples of a chart with their marks.
use Rattle.std.specs.Prelude.{ℕ, Option, List}
use Rattle.ranges.specs.Triples.{steps_of}
use Rattle.ranges.specs.declared.Triples.{Triples}
use Rattle.choice.specs.Choice.{mark_in, LinePut}
use Rattle.choice.specs.Search.{MoveFound, ChosenMove}
use Rattle.choice.specs.declared.Marked.{Marked}

-- the first step of s whose move has all its pairs smaller, where o answers, or that none has
abbrev pub Found : Triples → ℕ → ℕ → (ℕ → ℕ → ℕ) → ℕ → Option ℕ → Type 0
Found t = MoveFound t.bytes.now t.at t.first

-- the marks of the pairs
abbrev pub marks_of : Marked → ℕ × ℕ → ℕ
marks_of m = mark_in m.triples.now.shape.n m.matrix.now

-- a side and a triple: the move of that side by that triple gives the chosen line of the pair (p, q)
abbrev pub MoveChosen : Marked → ℕ → ℕ → ℕ × ℕ → Type 0
MoveChosen m = ChosenMove m.triples.now.bytes.now m.triples.now.at m.triples.now.shape.n m.triples.now.first m.matrix.now

-- the line at the place is the chosen one of the pair (p, q); all other bytes stay, and the length
abbrev pub Put : Marked → ℕ → ℕ → List ℕ → ℕ → List ℕ → Type 0
Put m = LinePut m.triples.now.shape.n (steps_of m.triples.now) (marks_of m)
