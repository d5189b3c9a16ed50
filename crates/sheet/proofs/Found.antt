-- What reading finds, case by case: what stands in the bytes where it succeeds, and how far on the fault lies where it does not.
use Prim.Native.Nat.{ℕ, zero, suc, ◌+◌, ◌-◌, ◌*◌, ◌<◌, ◌≤◌}
use mathlib.Core.Path.{◌≡◌, refl, sym, ap, ◌∙◌}
use mathlib.Core.Bool.{true, false}
use mathlib.Core.Logic.{◌⊎◌, inl, inr, ⊎_elim}
use mathlib.Core.List.{List, [], ◌∷◌, ◌++◌, append_assoc}
use native.Mathlib.Omega.{arith}
use borrow.Author.Tests.{leb-true, leb-false, ltb-true, ltb-false, eqb-true, eqb-false}
use lib.Dec.{leb, ltb, eqb}
use lib.ListN.{length, get_or, take, drop, length-append}
use lib.Seq.{take_at}
use Rattle.settle.proofs.Test.{by_test}
use Rattle.refusal.specs.Refusal.{sheet_refusal}
use Rattle.refusal.specs.declared.Refusal.{Refusal}
use Rattle.chart.proofs.Steps.{byte_then}
use Rattle.sheet.specs.Formula.{Formula, variable, top, bottom, and, or, diamond, box, nodes}
use Rattle.sheet.specs.Layout.{label_byte, formula_bytes, encode, LabelIn, LabelsIn, WellFormed}
use Rattle.sheet.specs.Reading.{Node, Leaf, Two, One, Bad, node_at, leaf_of, two_of, label_of, one_of, Parsed, parsed, wrong, on_parsed, operands, parse}
use Rattle.sheet.specs.Reading.{Sheet, sheet, refused, ending, read_nodes, read_sheet}
use Rattle.sheet.specs.Fault.{AtFault, absent, left_over, equations, kind as kind-above, count as count-out, node as node-above, label, nodes_remain, nodes_used_up}

-- a refusal of the sheet, at most so far on, and nearer where a byte is absent: its number is 1, or 8 to 13; and, where what is read lies inside the
-- sheet, what the number says is wrong there
pub record FaultBy (s : List ℕ) (m : ℕ) (Inside : Type 0) (far : ℕ) (r : Refusal) : Type 0 where
  pub of_sheet : r ≡ sheet_refusal r.number r.place
  pub number_known : (r.number ≡ 1) ⊎ ((8 ≤ r.number) × (r.number ≤ 13))
  pub place_small : r.place ≤ far
  pub absent_nearer : r.number ≡ 1 → r.place < far
  pub within : Inside → r.place ≤ length s
  pub here : (r.number ≡ 1 → ⊥) → (r.number ≡ 13 → ⊥) → r.place < length s
  pub at_fault : Inside → AtFault s m r.number r.place

module _ {s : List ℕ} {m : ℕ} {Inside : Type 0} {far : ℕ} where
  pub number_some : {r : Refusal} → FaultBy s m Inside far r → 1 ≤ r.number
  number_some f = ⊎_elim (λ e. omega arith) (λ h. omega arith) f.number_known

  pub number_few : {r : Refusal} → FaultBy s m Inside far r → r.number ≤ 13
  number_few f = ⊎_elim (λ e. omega arith) (λ h. omega arith) f.number_known

  broken_off : length s < far → FaultBy s m Inside far (sheet_refusal 1 (length s))
  broken_off h = record {
    of_sheet = refl;
    number_known = inl refl;
    place_small = omega arith;
    absent_nearer = λ _. h;
    within = λ _. omega arith;
    here = λ f g. absurd (f refl);
    at_fault = λ _. absent refl refl;
  }

  -- a byte that is there is at fault
  fault : (number place : ℕ) → 8 ≤ number → number ≤ 12 → place ≤ far → place < length s → (Inside → AtFault s m number place)
      → FaultBy s m Inside far (sheet_refusal number place)
  fault number place some few h here f = record {
    of_sheet = refl;
    number_known = inr (some, omega arith);
    place_small = h;
    absent_nearer = λ e. absurd (omega arith);
    within = λ _. omega arith;
    here = λ _ _. here;
    at_fault = f;
  }

  -- nodes and operands do not match
  unmatched : (place : ℕ) → place ≤ far → (Inside → place ≤ length s) → (Inside → AtFault s m 13 place) → FaultBy s m Inside far (sheet_refusal 13 place)
  unmatched place h inside f = record {
    of_sheet = refl;
    number_known = inr (omega arith, omega arith);
    place_small = h;
    absent_nearer = λ e. absurd (omega arith);
    within = inside;
    here = λ f g. absurd (g refl);
    at_fault = f;
  }

  -- what is read further on, inside the sheet where this is
  nearer : {r : Refusal} {Further : Type 0} {near : ℕ} → near ≤ far → (Inside → Further) → FaultBy s m Further near r → FaultBy s m Inside far r
  nearer h inside k = record {
    of_sheet = k.of_sheet;
    number_known = k.number_known;
    place_small = omega arith;
    absent_nearer = λ e. omega (arith, k.absent_nearer e);
    within = λ i. k.within (inside i);
    here = k.here;
    at_fault = λ i. k.at_fault (inside i);
  }

-- a place among the nodes
abbrev pub AmongNodes : List ℕ → ℕ → Type 0
AmongNodes s at = (3 ≤ at) × (at ≤ length s)

-- ---- a node

pub record LeafAt (s : List ℕ) (at node after : ℕ) : Type 0 where
  pub here : at < length s
  pub node_is : get_or s at 0 ≡ node
  pub known : node < 3
  pub next : after ≡ at + 1

pub record TwoAt (s : List ℕ) (at node after : ℕ) : Type 0 where
  pub here : at < length s
  pub node_is : get_or s at 0 ≡ node
  pub above : 3 ≤ node
  pub known : node < 5
  pub next : after ≡ at + 1

pub record OneAt (s : List ℕ) (m at node byte after : ℕ) : Type 0 where
  pub here : at + 1 < length s
  pub node_is : get_or s at 0 ≡ node
  pub above : 5 ≤ node
  pub known : node ≤ 6
  pub byte_is : get_or s (at + 1) 0 ≡ byte
  pub byte_known : (byte < m) ⊎ (byte ≡ 255)
  pub next : after ≡ at + 2

unfoldable pub NodeFound : List ℕ → ℕ → ℕ → Node → Type 0
NodeFound s m at (Leaf node after) = LeafAt s at node after
NodeFound s m at (Two node after) = TwoAt s at node after
NodeFound s m at (One node byte after) = OneAt s m at node byte after
NodeFound s m at (Bad r) = FaultBy s m (AmongNodes s at) (at + 2) r

pub node_found : (s : List ℕ) (m at : ℕ) → NodeFound s m at (node_at s m at)
unfolding node_at NodeFound
node_found s m at =
    let found : Node → Type 0 = NodeFound s m at in
    let node : ℕ = get_or s at 0 in
    let byte : ℕ = get_or s (at + 1) 0 in
    by_test found (leb (length s) at) (λ h. broken_off (omega (arith, leb-true (length s) at h))) (λ h₁.
    by_test found (ltb node 3) (λ h. record { here = leb-false _ _ h₁; node_is = refl; known = ltb-true _ _ h; next = refl }) (λ h₂.
    by_test found (ltb node 5) (λ h. record { here = leb-false _ _ h₁; node_is = refl; above = ltb-false _ _ h₂; known = ltb-true _ _ h; next = refl }) (λ h₃.
    by_test found (ltb 6 node) (λ h. fault 11 at (omega arith) (omega arith) (omega arith) (leb-false _ _ h₁) (λ i. node-above refl i.0 (ltb-true _ _ h))) (λ h₄.
    by_test found (leb (length s) (at + 1)) (λ h. broken_off (omega (arith, leb-true (length s) (at + 1) h))) (λ h₅.
    by_test found (ltb byte m) (λ h. one h₃ h₄ h₅ (inl (ltb-true _ _ h))) (λ h₆.
    by_test found (eqb byte 255) (λ h. one h₃ h₄ h₅ (inr (eqb-true _ _ h))) (λ h₇.
    fault 12 (at + 1) (omega arith) (omega arith) (omega arith) (leb-false _ _ h₅)
    (λ i. label refl at i.0 refl (ltb-false _ _ h₃) (ltb-false _ _ h₄) (ltb-false _ _ h₆) (eqb-false _ _ h₇)))))))))
  where
    one : ltb (get_or s at 0) 5 ≡ false → ltb 6 (get_or s at 0) ≡ false → leb (length s) (at + 1) ≡ false
        → (get_or s (at + 1) 0 < m) ⊎ (get_or s (at + 1) 0 ≡ 255) → OneAt s m at (get_or s at 0) (get_or s (at + 1) 0) (at + 2)
    one h₃ h₄ h₅ k = record {
      here = leb-false _ _ h₅;
      node_is = refl;
      above = ltb-false _ _ h₃;
      known = ltb-false _ _ h₄;
      byte_is = refl;
      byte_known = k;
      next = refl;
    }

-- ---- a formula

-- a formula stands in the bytes, from one place to another
pub record Stands (s : List ℕ) (at : ℕ) (f : Formula) (after : ℕ) : Type 0 where
  pub bytes : drop at s ≡ formula_bytes f ++ drop after s
  pub next : after ≡ at + length (formula_bytes f)
  pub inside : after ≤ length s

pub record FormulaAt (s : List ℕ) (m at left : ℕ) (f : Formula) (after rest : ℕ) : Type 0 where
  pub labels_in : LabelsIn m f
  pub counted : nodes f + rest ≡ left
  pub stands : Stands s at f after

-- at most two bytes a node
unfoldable pub ParseFound : List ℕ → ℕ → ℕ → ℕ → Parsed → Type 0
ParseFound s m at left (parsed f after rest) = FormulaAt s m at left f after rest
ParseFound s m at left (wrong r) = FaultBy s m (AmongNodes s at) (at + 2 * left) r

pub nodes_positive : (f : Formula) → 1 ≤ nodes f
unfolding nodes
nodes_positive variable = omega arith
nodes_positive top = omega arith
nodes_positive bottom = omega arith
nodes_positive (and f g) = omega arith
nodes_positive (or f g) = omega arith
nodes_positive (diamond l f) = omega arith
nodes_positive (box l f) = omega arith

-- two bytes a node, and one for a leaf
pub bytes_few : (f : Formula) → length (formula_bytes f) < 2 * nodes f
unfolding formula_bytes nodes
bytes_few variable = omega arith
bytes_few top = omega arith
bytes_few bottom = omega arith
bytes_few (and f g) = omega (arith, bytes_few f, bytes_few g, length-append (formula_bytes f) (formula_bytes g))
bytes_few (or f g) = omega (arith, bytes_few f, bytes_few g, length-append (formula_bytes f) (formula_bytes g))
bytes_few (diamond l f) = omega (arith, bytes_few f)
bytes_few (box l f) = omega (arith, bytes_few f)

-- the byte at a place, then what follows it
label_in : (m byte : ℕ) → (byte < m) ⊎ (byte ≡ 255) → LabelIn m (label_of byte)
unfolding LabelIn
label_in m byte k = by_test (LabelIn m) (eqb byte 255) (λ h. tt) (λ h. ⊎_elim (λ below. below) (λ e. absurd (eqb-false byte 255 h e)) k)

label_byte_lem : (byte : ℕ) → label_byte (label_of byte) ≡ byte
unfolding label_byte
label_byte_lem byte = by_test (λ l. label_byte l ≡ byte) (eqb byte 255) (λ h. sym (eqb-true byte 255 h)) (λ h. refl)

module _ (s : List ℕ) (m at left : ℕ) where
  leaf_found : (node after : ℕ) → 0 < left → LeafAt s at node after → FormulaAt s m at left (leaf_of node) after (left - 1)
  unfolding formula_bytes nodes LabelsIn
  leaf_found node after some k =
      by_test found (eqb node 0) (λ h. leaf variable (omega arith) tt (eqb-true _ _ h) refl) (λ h₁.
      by_test found (eqb node 1) (λ h. leaf top (omega arith) tt (eqb-true _ _ h) refl) (λ h₂.
      leaf bottom (omega arith) tt (omega (arith, eqb-false node 0 h₁, eqb-false node 1 h₂)) refl))
    where
      found : Formula → Type 0
      found f = FormulaAt s m at left f after (left - 1)

      leaf : (f : Formula) → nodes f ≡ 1 → LabelsIn m f → {n : ℕ} → node ≡ n → formula_bytes f ≡ n ∷ [] → found f
      leaf f e l u b = record {
        labels_in = l;
        counted = omega arith;
        stands = record { bytes = rw (b, k.next, byte_then s at k.here, k.node_is, u); next = rw (b, k.next); inside = omega arith };
      }

  one_found : {f : Formula} {node byte next after rest : ℕ} → 0 < left → OneAt s m at node byte next → FormulaAt s m next (left - 1) f after rest
      → FormulaAt s m at left (one_of node byte f) after rest
  unfolding formula_bytes nodes LabelsIn
  one_found {f} {node} {byte} {next} {after} {rest} some k F =
      by_test found (eqb node 5) (λ h. one 5 refl (label_in m byte k.byte_known, F.labels_in) (eqb-true _ _ h) (rw (label_byte_lem byte))) (λ h.
      one 6 refl (label_in m byte k.byte_known, F.labels_in) (omega (arith, eqb-false node 5 h)) (rw (label_byte_lem byte)))
    where
      found : Formula → Type 0
      found g = FormulaAt s m at left g after rest

      next_is : at + 1 + 1 ≡ next
      next_is = omega arith

      one : {g : Formula} (n : ℕ) → nodes g ≡ suc (nodes f) → LabelsIn m g → node ≡ n → formula_bytes g ≡ n ∷ byte ∷ formula_bytes f → found g
      one n e l u b = record {
        labels_in = l;
        counted = omega (arith, F.counted);
        stands = record {
          bytes = rw (
            b,
            byte_then s at (omega arith),
            byte_then s (at + 1) k.here,
            next_is,
            F.stands.bytes,
            k.node_is,
            u,
            k.byte_is,
          );
          next = rw b (omega (arith, F.stands.next));
          inside = F.stands.inside;
        };
      }

  two_found : {f g : Formula} {node next between some after rest : ℕ} → 0 < left → TwoAt s at node next
      → FormulaAt s m next (left - 1) f between some → FormulaAt s m between some g after rest → FormulaAt s m at left (two_of node f g) after rest
  unfolding formula_bytes nodes LabelsIn
  two_found {f} {g} {node} {next} {between} {some} {after} {rest} h k F G =
      by_test found (eqb node 3) (λ h. two 3 refl (F.labels_in, G.labels_in) (eqb-true _ _ h) refl) (λ h.
      two 4 refl (F.labels_in, G.labels_in) (omega (arith, eqb-false node 3 h)) refl)
    where
      found : Formula → Type 0
      found e = FormulaAt s m at left e after rest

      two : {e : Formula} (n : ℕ) → nodes e ≡ suc (nodes f + nodes g) → LabelsIn m e → node ≡ n
          → formula_bytes e ≡ n ∷ (formula_bytes f ++ formula_bytes g) → found e
      two n e l u b = record {
        labels_in = l;
        counted = omega (arith, F.counted, G.counted);
        stands = record {
          bytes = rw (
            b,
            append_assoc,
            byte_then s at k.here,
            ← k.next,
            F.stands.bytes,
            G.stands.bytes,
            k.node_is,
            u,
          );
          next = rw b (omega (arith, F.stands.next, G.stands.next, length-append (formula_bytes f) (formula_bytes g)));
          inside = G.stands.inside;
        };
      }

  operands_found : 0 < left → (read : ℕ → ℕ → Parsed) → ((from many : ℕ) → ParseFound s m from many (read from many))
      → (node : Node) → NodeFound s m at node → ParseFound s m at left (operands node (left - 1) read)
  unfolding NodeFound ParseFound
  operands_found h read all (Bad r) k = nearer (omega arith) (λ i. i) k
  operands_found h read all (Leaf node after) k = leaf_found node after h k
  operands_found h read all (One node byte next) k = one (read next (left - 1)) (all next (left - 1))
    where
      one : (p : Parsed) → ParseFound s m next (left - 1) p → ParseFound s m at left (on_parsed p (λ f after rest. parsed (one_of node byte f) after rest))
      one (parsed f after rest) F = one_found h k F
      one (wrong r) F = nearer (omega arith) (λ i. (omega (arith, i.0), omega (arith, k.here))) F
  operands_found h read all (Two node next) k = two (read next (left - 1)) (all next (left - 1))
    where
      last : {f : Formula} {between some : ℕ} → FormulaAt s m next (left - 1) f between some → (p : Parsed) → ParseFound s m between some p
          → ParseFound s m at left (on_parsed p (λ g after rest. parsed (two_of node f g) after rest))
      last F (parsed g after rest) G = two_found h k F G
      last {f} F (wrong r) G = nearer (omega (arith, F.counted, F.stands.next, bytes_few f)) (λ i. (omega (arith, i.0, F.stands.next), F.stands.inside)) G

      two : (p : Parsed) → ParseFound s m next (left - 1) p
          → ParseFound s m at left (on_parsed p (λ f between some. on_parsed (read between some) (λ g after rest. parsed (two_of node f g) after rest)))
      two (parsed f between some) F = last F (read between some) (all between some)
      two (wrong r) F = nearer (omega arith) (λ i. (omega (arith, i.0), omega (arith, k.here))) F

used_up : (s : List ℕ) (m at left : ℕ) → FaultBy s m (AmongNodes s at) (at + 2 * left) (sheet_refusal 13 at)
used_up s m at left = unmatched at (omega arith) (λ i. i.1) (λ i. nodes_used_up refl i.0 i.1)

parse_found : (fuel : ℕ) (s : List ℕ) (m at left : ℕ) → ParseFound s m at left (parse fuel s m at left)
unfolding parse ParseFound
parse_found zero s m at left = used_up s m at left
parse_found (suc deep) s m at left =
    by_test (ParseFound s m at left) (eqb left 0) (λ h. used_up s m at left) (λ h.
    operands_found s m at left (omega (arith, eqb-false left 0 h)) (λ after rest. parse deep s m after rest) (parse_found deep s m) (node_at s m at) (node_found s m at))

pub formula_found : (fuel : ℕ) (s : List ℕ) (m at left : ℕ) (f : Formula) (after rest : ℕ)
    → parse fuel s m at left ≡ parsed f after rest → FormulaAt s m at left f after rest
unfolding ParseFound
formula_found fuel s m at left f after rest e = rw e at (parse_found fuel s m at left)

pub fault_found : (fuel : ℕ) (s : List ℕ) (m at left : ℕ) (r : Refusal) → parse fuel s m at left ≡ wrong r → FaultBy s m (AmongNodes s at) (at + 2 * left) r
unfolding ParseFound
fault_found fuel s m at left r e = rw e at (parse_found fuel s m at left)

pub formula_fewer : (fuel : ℕ) (s : List ℕ) (m at left : ℕ) (f : Formula) (after rest : ℕ) → parse fuel s m at left ≡ parsed f after rest → rest < left
formula_fewer fuel s m at left f after rest e = omega (arith, (formula_found fuel s m at left f after rest e).counted, nodes_positive f)

-- ---- the whole sheet

pub record SheetAt (s : List ℕ) (m kind count : ℕ) (f : Formula) : Type 0 where
  pub begins : 2 < length s
  pub one_equation : get_or s 0 0 ≡ 1
  pub kind_is : get_or s 1 0 ≡ kind
  pub kind_known : kind ≤ 2
  pub count_is : get_or s 2 0 ≡ count
  pub count_few : count ≤ 200
  pub after : ℕ
  pub formula_is : parse count s m 3 count ≡ parsed f after 0
  pub ends : length s ≤ after

-- a sheet's bytes to the end of a formula
begins_with : (s : List ℕ) (f : Formula) (after : ℕ) → 2 < length s → get_or s 0 0 ≡ 1 → Stands s 3 f after → take after s ≡ 1 ∷ get_or s 1 0 ∷ get_or s 2 0 ∷ formula_bytes f
begins_with s f after begins one k =
    let first : s ≡ get_or s 0 0 ∷ drop 1 s = byte_then s 0 (omega arith) in
    let second : drop 1 s ≡ get_or s 1 0 ∷ drop 2 s = byte_then s 1 (omega arith) in
    let third : drop 2 s ≡ get_or s 2 0 ∷ drop 3 s = byte_then s 2 begins in
    let head : List ℕ = 1 ∷ get_or s 1 0 ∷ get_or s 2 0 ∷ formula_bytes f in
    let whole : s ≡ head ++ drop after s = cc k.bytes in
    ap (take after) whole ∙ take_at head (drop after s) after (omega (arith, k.next))

unfoldable pub SheetFound : List ℕ → ℕ → Sheet → Type 0
SheetFound s m (sheet kind count f) = SheetAt s m kind count f
SheetFound s m (refused r) = FaultBy s m (Unit {0}) 403 r

pub sheet_found : (s : List ℕ) (m : ℕ) → SheetFound s m (read_sheet s m)
unfolding read_sheet read_nodes SheetFound ParseFound encode
sheet_found s m =
    let found : Sheet → Type 0 = SheetFound s m in
    let count : ℕ = get_or s 2 0 in
    by_test found (leb (length s) 0) (λ h. broken_off (omega (arith, leb-true (length s) 0 h))) (λ h₀.
    by_test found (eqb (get_or s 0 0) 1) (λ h₁.
    by_test found (leb (length s) 1) (λ h. broken_off (omega (arith, leb-true (length s) 1 h))) (λ h₂.
    by_test found (ltb 2 (get_or s 1 0)) (λ h. fault 9 1 (omega arith) (omega arith) (omega arith) (leb-false _ _ h₂) (λ _. kind-above refl refl (ltb-true _ _ h))) (λ h₃.
    by_test found (leb (length s) 2) (λ h. broken_off (omega (arith, leb-true (length s) 2 h))) (λ h₄.
    by_test found (ltb count 1) (λ h. fault 10 2 (omega arith) (omega arith) (omega arith) (leb-false _ _ h₄) (λ _. count-out refl refl (inl (omega (arith, ltb-true count 1 h))))) (λ h₅.
    by_test found (ltb 200 count) (λ h. fault 10 2 (omega arith) (omega arith) (omega arith) (leb-false _ _ h₄) (λ _. count-out refl refl (inr (ltb-true 200 count h)))) (λ h₆.
    end h₁ h₃ h₄ h₆ (parse count s m 3 count) refl (parse_found count s m 3 count)))))))
    (λ h. fault 9 0 (omega arith) (omega arith) (omega arith) (leb-false _ _ h₀) (λ _. equations refl refl (eqb-false _ _ h))))
  where
    end : eqb (get_or s 0 0) 1 ≡ true → ltb 2 (get_or s 1 0) ≡ false → leb (length s) 2 ≡ false → ltb 200 (get_or s 2 0) ≡ false
        → (p : Parsed) → parse (get_or s 2 0) s m 3 (get_or s 2 0) ≡ p → ParseFound s m 3 (get_or s 2 0) p → SheetFound s m (ending s (get_or s 1 0) (get_or s 2 0) p)
    end h₁ h₃ h₄ h₆ (wrong r) e k = nearer (omega (arith, ltb-false 200 (get_or s 2 0) h₆)) (λ _. (omega arith, leb-false (length s) 2 h₄)) k
    end h₁ h₃ h₄ h₆ (parsed f after left) e k =
        let begins : take after s ≡ 1 ∷ get_or s 1 0 ∷ get_or s 2 0 ∷ formula_bytes f = begins_with s f after (leb-false _ _ h₄) (eqb-true _ _ h₁) k.stands in
        let few : after ≤ 403 = omega (arith, ltb-false 200 (get_or s 2 0) h₆, bytes_few f, k.stands.next, k.counted) in
        by_test (SheetFound s m) (ltb 0 left)
        (λ h. unmatched after few (λ _. k.stands.inside) (λ _. nodes_remain refl (get_or s 1 0) (get_or s 2 0) f (omega (arith, k.counted, ltb-true 0 left h)) begins))
        (λ h₇.
        let z : left ≡ 0 = omega (arith, ltb-false 0 left h₇) in
        let same : get_or s 2 0 ≡ nodes f = omega (arith, k.counted) in
        let form : WellFormed m (get_or s 1 0) f = record { kind_known = ltb-false _ _ h₃; nodes_few = omega (arith, ltb-false 200 (get_or s 2 0) h₆); labels_in = k.labels_in } in
        by_test (SheetFound s m) (ltb after (length s))
        (λ h. let here : after < length s = ltb-true _ _ h in fault 8 after (omega arith) (omega arith) few here (λ _. left_over refl here (get_or s 1 0) f form (rw same at begins)))
        (λ h₈. record {
          begins = leb-false _ _ h₄;
          one_equation = eqb-true _ _ h₁;
          kind_is = refl;
          kind_known = ltb-false _ _ h₃;
          count_is = refl;
          count_few = ltb-false _ _ h₆;
          after = after;
          formula_is = rw z at e;
          ends = ltb-false _ _ h₈;
        }))
