-- A sheet's kind, and the byte that stands for it.
use Rattle.std.specs.Prelude.{ℕ, Result, Ok, Err, eqb, ltb}
use Rattle.settle.specs.Test.{pick}
use Rattle.refusal.specs.Refusal.{sheet_refusal}
use Rattle.refusal.specs.declared.Refusal.{Refusal}
use Rattle.sheet.specs.declared.Kind.{Kind}

abbrev pub kind_number : Kind → ℕ
kind_number Kind.Unsaid = 0
kind_number Kind.Least = 1
kind_number Kind.Greatest = 2

abbrev pub kind_of : ℕ → Kind
kind_of byte = pick (eqb byte 0) Kind.Unsaid (pick (eqb byte 1) Kind.Least Kind.Greatest)

-- 9: it is above 2; place: 1
abbrev pub kind_read : ℕ → Result Kind Refusal
kind_read byte = pick (ltb 2 byte) (Err (sheet_refusal 9 1)) (Ok (kind_of byte))
