-- Document 01's four short forms, name 3 as document 02 has it (T-05), and the kinds too (T-06): the kind and the formula of the sheet that is
-- written, for F without variable and a name.
use Rattle.std.specs.Prelude.{ℕ, eqb}
use Rattle.settle.specs.Test.{pick}
use Rattle.sheet.specs.Formula.{every, Formula, variable, top, bottom, and, or, diamond, box}

-- all four are those of 001
abbrev pub always : Formula → Formula
always f = and f (box every variable)

abbrev pub possible : Formula → Formula
possible f = or f (diamond every variable)

abbrev pub safe_path : Formula → Formula
safe_path f = and f (or (box every bottom) (diamond every variable))

abbrev pub eventually : Formula → Formula
eventually f = or f (and (diamond every top) (box every variable))

-- what the table has for a name, of one entry each: 0 always, 1 possible, 2 safe path, 3 eventually
abbrev pub by_name : {A : Type 0} → ℕ → A → A → A → A → A
by_name name a b c d = pick (eqb name 0) a (pick (eqb name 1) b (pick (eqb name 2) c d))

abbrev pub short_form : ℕ → Formula → Formula
short_form name f = by_name name (always f) (possible f) (safe_path f) (eventually f)

abbrev pub kind_written : ℕ → ℕ
kind_written name = by_name name 2 1 2 1
