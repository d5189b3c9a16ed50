-- What is asked of a line, over the triples of a chart.
use Rattle.std.specs.Prelude.{ℕ, ◌+◌, Bool, get_or}
use Rattle.ranges.specs.declared.Triples.{Triples}
use Rattle.reason.specs.Line.{Line}
use Rattle.check_reasons.specs.Judging.{SomeLeads, EachLeads}
use Rattle.check_reasons.specs.declared.Line.{Line as Bytes}

-- the line that five bytes are
abbrev pub line_of : Bytes → Line
line_of l = record { p = l.p; q = l.q; side = l.side; action = l.action; target = l.target }

-- some step of s bears the action and leads to the target
abbrev pub Moves : Triples → ℕ → ℕ → ℕ → Type 0
Moves t s = SomeLeads t.bytes.now t.at (get_or t.first s 0) (get_or t.first (s + 1) 0)

-- s moves so, and each step of o by the action leads to a state that is listed
abbrev pub RestsSo : Triples → ℕ → ℕ → ℕ → ℕ → (ℕ → Bool) → Type 0
RestsSo t s o action target is_listed = Moves t s action target × EachLeads t.bytes.now t.at (get_or t.first o 0) (get_or t.first (o + 1) 0) action is_listed
