use Rattle.std.proofs.Common.{rules, ◌≡◌, take}
use mathlib.Core.Path.{refl, ap, ◌∙◌}
use Rattle.sheet.specs.Reading.{formula_read}
use Rattle.sheet.proofs.Reading.{copied, copy_parse}
use Rattle.sheet.proofs.formula_after.Goals as goal

pub returns : goal.returns
returns c =
    let a = c.args in
    let part = c.copy_from_slice.ensures in
    let e : c.copy_from_slice.new.self ≡ take c.min-end.result a.bytes.now = search rules in
    let whole = copied a.bytes.now _ c.min-end.result refl c.min-end.ensures in
    c.read.ensures ∙ (rw e at c.read_formula-ended.ensures) ∙ ap formula_read (copy_parse a.bytes.now _ a.m a.nodes c.requires whole.1)
