-- What a board says of a reader's answer: refused with this input, number, place and byte, or accepted with these counts.
use Rattle.std.specs.Prelude.{ℕ, Bool, false, eqb}
use Rattle.settle.specs.Test.{pick}
use Rattle.refusal.specs.Refusal.{input_number}
use Rattle.refusal.specs.declared.Refusal.{Refusal}
use Rattle.std.specs.Prelude.{Result, Ok, Err}
use Rattle.chart.specs.declared.Shape.{Shape}
use Rattle.sheet.specs.Kinds.{kind_number}
use Rattle.sheet.specs.declared.Outline.{Outline}

abbrev pub refused_as : ℕ → ℕ → ℕ → ℕ → Refusal → Bool
refused_as input number place byte r =
    pick (eqb (input_number r.input) input) (pick (eqb r.number number) (pick (eqb r.place place) (eqb r.byte byte) false) false) false

abbrev pub chart_accepted : ℕ → ℕ → ℕ → Result Shape Refusal → Bool
chart_accepted n m t (Ok sh) = pick (eqb sh.n n) (pick (eqb sh.m m) (eqb sh.t t) false) false
chart_accepted n m t (Err r) = false

abbrev pub chart_refused : ℕ → ℕ → ℕ → Result Shape Refusal → Bool
chart_refused number place byte (Ok sh) = false
chart_refused number place byte (Err r) = refused_as 0 number place byte r

abbrev pub sheet_refused : ℕ → ℕ → Result Outline Refusal → Bool
sheet_refused number place (Ok o) = false
sheet_refused number place (Err r) = refused_as 1 number place 0 r

abbrev pub sheet_accepted : ℕ → ℕ → Result Outline Refusal → Bool
sheet_accepted kind nodes (Ok o) = pick (eqb (kind_number o.kind) kind) (eqb o.nodes nodes) false
sheet_accepted kind nodes (Err r) = false
