-- The pieces of a short form are the table's formula and sheet.
use Prim.Native.Nat.{ℕ, ◌+◌, ◌-◌, ◌≤◌}
use lib.Seq.{take_all}
use Rattle.text.specs.Text.{placed, HasRoom, Added, Puts}
use Rattle.text.specs.declared.Page.{Page}
use Rattle.text.proofs.Pieces.{puts_added, room_first, puts_next}
use mathlib.Core.Path.{◌≡◌, refl, ap}
use mathlib.Core.Bool.{Bool, true, false}
use mathlib.Core.List.{List, [], ◌∷◌, ◌++◌}
use native.Mathlib.Omega.{arith}
use lib.Dec.{eqb}
use lib.ListN.{length, take, drop, length-append, length-drop}
use Rattle.settle.specs.Test.{pick}
use Rattle.sheet.specs.Formula.{Formula, nodes}
use Rattle.sheet.specs.Layout.{label_byte, formula_bytes, encode}
use Rattle.short_form.specs.ShortForm.{always, possible, safe_path, eventually, by_name, short_form, kind_written}
use Rattle.short_form.proofs.Scan.{sheet_length}
use Rattle.short_form.specs.Pieces.{operator_of, operand_of, more_nodes}

-- what holds in each row of a table by name holds of its choice
module _ {A : Type 0} (P : A → Type 0) where
  pub in_each : (p q r : Bool) {w x y z : A} → P w → P x → P y → P z → P (pick p w (pick q x (pick r y z)))
  in_each true q r a b c d = a
  in_each false true r a b c d = b
  in_each false false true a b c d = c
  in_each false false false a b c d = d

-- and what is made of the choice is the choice of what is made of each row
of_each : {A B : Type 0} (g : A → B) (p q r : Bool) (w x y z : A) → g (pick p w (pick q x (pick r y z))) ≡ pick p (g w) (pick q (g x) (pick r (g y) (g z)))
of_each g true q r w x y z = refl
of_each g false true r w x y z = refl
of_each g false false true w x y z = refl
of_each g false false false w x y z = refl

form_bytes : (name : ℕ) (f : Formula) → formula_bytes (short_form name f) ≡ operator_of name ∷ (formula_bytes f ++ operand_of name)
unfolding formula_bytes label_byte
form_bytes name f = go (eqb name 0) (eqb name 1) (eqb name 2)
  where
    go : (p q r : Bool) → formula_bytes (pick p (always f) (pick q (possible f) (pick r (safe_path f) (eventually f))))
        ≡ pick p 3 (pick q 4 (pick r 3 4)) ∷ (formula_bytes f
        ++ pick p (6 ∷ 255 ∷ 0 ∷ []) (pick q (5 ∷ 255 ∷ 0 ∷ []) (pick r (4 ∷ 6 ∷ 255 ∷ 2 ∷ 5 ∷ 255 ∷ 0 ∷ []) (3 ∷ 5 ∷ 255 ∷ 1 ∷ 6 ∷ 255 ∷ 0 ∷ []))))
    go true q r = refl
    go false true r = refl
    go false false true = refl
    go false false false = refl

pub form_nodes : (name : ℕ) (f : Formula) → nodes (short_form name f) ≡ nodes f + more_nodes name
unfolding nodes
form_nodes name f = go (eqb name 0) (eqb name 1) (eqb name 2)
  where
    go : (p q r : Bool) → nodes (pick p (always f) (pick q (possible f) (pick r (safe_path f) (eventually f)))) ≡ nodes f + pick p 3 (pick q 3 (pick r 6 6))
    go true q r = omega arith
    go false true r = omega arith
    go false false true = omega arith
    go false false false = omega arith

pub operand_length : (name : ℕ) → length (operand_of name) ≡ by_name name 3 3 7 7
operand_length name = of_each length (eqb name 0) (eqb name 1) (eqb name 2) _ _ _ _

pub operand_short : (name : ℕ) → length (operand_of name) ≤ 7
operand_short name = in_each (λ (l : List ℕ). length l ≤ 7) (eqb name 0) (eqb name 1) (eqb name 2) (omega arith) (omega arith) (omega arith) (omega arith)

pub more_few : (name : ℕ) → more_nodes name ≤ 6
more_few name = in_each (λ k. k ≤ 6) (eqb name 0) (eqb name 1) (eqb name 2) (omega arith) (omega arith) (omega arith) (omega arith)

module _ (s : List ℕ) (kind : ℕ) (f : Formula) (e : s ≡ encode kind f) (name : ℕ) where
  pub form_length : length (encode (kind_written name) (short_form name f)) ≡ length s + 1 + length (operand_of name)
  unfolding encode
  form_length = omega (arith, sheet_length s kind f e, ap length (form_bytes name f), length-append (formula_bytes f) (operand_of name))

  pub form_encoded : (total : ℕ) → total ≡ nodes (short_form name f)
      → 1 ∷ kind_written name ∷ total ∷ operator_of name ∷ (drop 3 s ++ operand_of name) ≡ encode (kind_written name) (short_form name f)
  unfolding encode
  form_encoded total t = rw (t, e, form_bytes)

-- three texts, one after the other, from the start of a page
pieces_added : (start one two three : Page) (kind total operator : ℕ) (s operand : List ℕ) → start.at ≡ 0 → 3 ≤ length s → length s + 1 + length operand ≤ length start.bytes.now
    → Puts start (1 ∷ kind ∷ total ∷ operator ∷ []) one → Puts one (take (length s - 3) (drop 3 s)) two → Puts two operand three
    → Added start (1 ∷ kind ∷ total ∷ operator ∷ (drop 3 s ++ operand)) three
pieces_added start one two three kind total operator s operand begins long room p q r =
    let head : List ℕ = 1 ∷ kind ∷ total ∷ operator ∷ [] in
    let whole : take (length s - 3) (drop 3 s) ≡ drop 3 s = take_all (length s - 3) (drop 3 s) (omega (arith, length-drop 3 s)) in
    let rest : Puts one (drop 3 s) two = rw whole at q in
    let all : HasRoom start (head ++ drop 3 s ++ operand) = omega (arith, length-append (head ++ drop 3 s) operand, length-append head (drop 3 s), length-drop 3 s) in
    let first = room_first start (head ++ drop 3 s) operand all in
    puts_next start (head ++ drop 3 s) operand two three all (puts_next start head (drop 3 s) one two first (puts_added start head one (room_first start head (drop 3 s) first) p) rest) r

pub pieces_put : (start one two three : Page) (kind total operator : ℕ) (s operand : List ℕ) → start.at ≡ 0 → 3 ≤ length s → length s + 1 + length operand ≤ length start.bytes.now
    → Puts start (1 ∷ kind ∷ total ∷ operator ∷ []) one → Puts one (take (length s - 3) (drop 3 s)) two → Puts two operand three
    → (three.bytes.now ≡ placed start.bytes.now 0 (1 ∷ kind ∷ total ∷ operator ∷ (drop 3 s ++ operand))) × (three.at ≡ length s + 1 + length operand)
pieces_put start one two three kind total operator s operand begins long room p q r =
    let all = pieces_added start one two three kind total operator s operand begins long room p q r in
    (rw begins at all.bytes, omega (arith, all.place, length-append (drop 3 s) operand, length-drop 3 s))
