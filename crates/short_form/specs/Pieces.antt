-- A short form's bytes in pieces, as they are written: the operator, the bytes of F, and those of the other operand. That these are the
-- table's formula is the law `form_bytes` of proofs/Pieces.antt.
use Rattle.std.specs.Prelude.{ℕ, List, [], ◌∷◌, Result, Ok, Err}
use Rattle.refusal.specs.Refusal.{lent_refusal}
use Rattle.refusal.specs.declared.Refusal.{Refusal}
use Rattle.settle.specs.Test.{pick}
use Rattle.std.specs.Prelude.{eqb}
use Rattle.short_form.specs.ShortForm.{by_name}
use Rattle.short_form.specs.declared.Name.{Name}
use Rattle.short_form.specs.declared.Name.TheVariants.{Always, Possible, SafePath, Eventually}

-- the number of a name, and the name of a number; 17: it is above 3
abbrev pub number_of : Name → ℕ
number_of Always = 0
number_of Possible = 1
number_of SafePath = 2
number_of Eventually = 3

abbrev pub name_read : ℕ → Result Name Refusal
name_read number =
    pick (eqb number 0) (Ok Always) (pick (eqb number 1) (Ok Possible) (pick (eqb number 2) (Ok SafePath) (pick (eqb number 3) (Ok Eventually) (Err (lent_refusal 17)))))

abbrev pub operator_of : ℕ → ℕ
operator_of name = by_name name 3 4 3 4

abbrev pub operand_of : ℕ → List ℕ
operand_of name =
    by_name name
    (6 ∷ 255 ∷ 0 ∷ [])
    (5 ∷ 255 ∷ 0 ∷ [])
    (4 ∷ 6 ∷ 255 ∷ 2 ∷ 5 ∷ 255 ∷ 0 ∷ [])
    (3 ∷ 5 ∷ 255 ∷ 1 ∷ 6 ∷ 255 ∷ 0 ∷ [])

-- how many nodes the form has beyond those of F
abbrev pub more_nodes : ℕ → ℕ
more_nodes name = by_name name 3 3 6 6
