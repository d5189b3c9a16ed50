-- What `short_form` answers for a chart's bytes, a sheet's bytes, a name and a lent buffer: document 01's table and its order of refusals.
use Rattle.std.specs.Prelude.{ℕ, ◌+◌, List, ltb}
use Rattle.settle.specs.Test.{pick}
use Rattle.refusal.specs.Refusal.{sheet_refusal, lent_refusal}
use Rattle.refusal.specs.declared.Refusal.{Refusal}
use Rattle.chart.specs.Reading.{read_chart}
use Rattle.sheet.specs.Formula.{Formula, variable, top, bottom, and, or, diamond, box, variable_free, nodes}
use Rattle.sheet.specs.Layout.{encode}
use Rattle.sheet.specs.Reading.{Sheet, sheet, refused, read_sheet}
use Rattle.lent.specs.Lent.{Outcome, writes, refuses, LentPromise}
use Rattle.short_form.specs.ShortForm.{short_form, kind_written}
use Rattle.std.specs.Prelude.{Result, Ok, Err}
use Rattle.chart.specs.declared.Shape.{Shape}

-- the formula's bytes before its first variable; all of them where it has none
unfoldable pub before_variable : Formula → ℕ
before_variable variable = 0
before_variable top = 1
before_variable bottom = 1
before_variable (and f g) = 1 + pick (variable_free f) (before_variable f + before_variable g) (before_variable f)
before_variable (or f g) = 1 + pick (variable_free f) (before_variable f + before_variable g) (before_variable f)
before_variable (diamond l f) = 2 + before_variable f
before_variable (box l f) = 2 + before_variable f

-- the kind and the formula to be written, or the refusal
pub data Form : Type 0 where
  form : ℕ → Formula → Form
  wrong : Refusal → Form

-- 16: F has a variable; place: the first, in the sheet, whose formula stands at byte 3. 17: the name is above 3. 10: the result has more than
-- 200 nodes
unfoldable pub form_of : ℕ → Formula → Form
form_of name f =
    pick (variable_free f)
    (pick (ltb 3 name) (wrong (lent_refusal 17)) (
    pick (ltb 200 (nodes (short_form name f))) (wrong (sheet_refusal 10 2)) (
    form (kind_written name) (short_form name f))))
    (wrong (sheet_refusal 16 (3 + before_variable f)))

-- F is the sheet's formula, whose own kind is ignored
abbrev pub form_of_sheet : ℕ → Sheet → Form
form_of_sheet name (sheet kind count f) = form_of name f
form_of_sheet name (refused r) = wrong r

abbrev pub form_of_chart : List ℕ → ℕ → Result Shape Refusal → Form
form_of_chart s name (Ok shape) = form_of_sheet name (read_sheet s shape.m)
form_of_chart s name (Err r) = wrong r

-- what goes to the lent buffer: the sheet, or the refusal
abbrev pub outcome_of : Form → Outcome
outcome_of (form kind f) = writes (encode kind f)
outcome_of (wrong r) = refuses r

-- old is the lent buffer before the call, new after
abbrev pub ShortFormPromise : List ℕ → List ℕ → ℕ → List ℕ → List ℕ → Result ℕ Refusal → Type 0
ShortFormPromise chart s name old new answer = LentPromise (outcome_of (form_of_chart s name (read_chart chart))) old new answer
