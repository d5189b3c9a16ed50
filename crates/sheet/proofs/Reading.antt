-- The reading of a sheet a step at a time, in the code's terms.
use Prim.Native.Nat.{ℕ, min, ◌+◌, ◌-◌, ◌*◌, ◌<◌, ◌≤◌}
use mathlib.Core.Path.{◌≡◌, refl, sym, ap}
use mathlib.Core.Bool.{Bool, true, false}
use mathlib.Core.Logic.{◌⊎◌, inl, inr}
use mathlib.Core.List.{List, [], ◌++◌, append-nil}
use native.Mathlib.Omega.{arith}
use borrow.Author.Tests.{le-leb, lt-leb, le-ltb, lt-ltb, ne_eqb}
use lib.Dec.{leb, ltb}
use lib.ListN.{length, get_or, take, drop, length-take, length-append, length-drop, drop_of_length-le}
use lib.Seq.{get_or-take, take_all, take-append_seam}
use native.Mathlib.Decide.{dec_le}
use Rattle.settle.specs.Test.{pick}
use Rattle.refusal.specs.Refusal.{sheet_refusal}
use Rattle.sheet.specs.Formula.{Formula}
use Rattle.sheet.specs.Reading.{Two, One, Bad, node_at, two_of, one_of, Parsed, parsed, wrong, on_parsed, parse}
use Rattle.sheet.specs.Reading.{sheet, refused, ending, read_nodes, formula_read, sheet_read}
use Rattle.sheet.proofs.Found.{bytes_few, formula_found, formula_fewer}
use Rattle.sheet.proofs.Parsing.{parse_none, parse_node}
use Rattle.sheet.proofs.Written.{leaf_at, two_at, one_at}
use Rattle.std.specs.Prelude.{Result, Ok, Err}
use Rattle.sheet.proofs.Beginning.{first_bytes_parse}
use Rattle.refusal.specs.declared.Refusal.{Refusal}
use Rattle.sheet.specs.Kinds.{kind_number}
use Rattle.sheet.specs.declared.Kind.{Kind}
use Rattle.sheet.proofs.KindBytes.{number_back}
use Rattle.sheet.specs.declared.Outline.{Outline}
use Rattle.sheet.specs.declared.Unread.{Unread}

-- ---- a node that is at fault

absent_at : (s : List ℕ) (m at : ℕ) → length s ≤ at → node_at s m at ≡ Bad (sheet_refusal 1 (length s))
unfolding node_at
absent_at s m at h = rw (le-leb _ _ h)

above_at : (s : List ℕ) (m at : ℕ) → at < length s → 6 < get_or s at 0 → node_at s m at ≡ Bad (sheet_refusal 11 at)
unfolding node_at
above_at s m at h k =
    let not_leaf : 3 ≤ get_or s at 0 = omega arith in
    let not_two : 5 ≤ get_or s at 0 = omega arith in
    rw (lt-leb _ _ h, le-ltb _ _ not_leaf, le-ltb _ _ not_two, lt-ltb _ _ k)

-- of a node 5 or 6 the action byte is absent, or no action's
module _ (s : List ℕ) (m at : ℕ) (here : at < length s) (above : 5 ≤ get_or s at 0) (known : get_or s at 0 ≤ 6) where
  action_absent_at : length s ≤ at + 1 → node_at s m at ≡ Bad (sheet_refusal 1 (length s))
  unfolding node_at
  action_absent_at h =
      let not_leaf : 3 ≤ get_or s at 0 = omega arith in
      rw (lt-leb _ _ here, le-ltb _ _ not_leaf, le-ltb _ _ above, le-ltb _ _ known, le-leb _ _ h)

  label_at : at + 1 < length s → ((get_or s (at + 1) 0 < m) ⊎ (get_or s (at + 1) 0 ≡ 255) → ⊥) → node_at s m at ≡ Bad (sheet_refusal 12 (at + 1))
  unfolding node_at
  label_at h none =
      let not_leaf : 3 ≤ get_or s at 0 = omega arith in
      let not_index : get_or s (at + 1) 0 < m → ⊥ = λ l. none (inl l) in
      let not_below : m ≤ get_or s (at + 1) 0 = omega arith in
      rw (
        lt-leb _ _ here,
        le-ltb _ _ not_leaf,
        le-ltb _ _ above,
        le-ltb _ _ known,
        lt-leb _ _ h,
        le-ltb _ _ not_below,
        ne_eqb _ _ (λ e. none (inr e)),
      )

-- ---- a formula, and what is unread after it

-- what is read of the formula at a place, of at most `left` nodes
abbrev pub read : List ℕ → ℕ → ℕ → ℕ → Result Unread Refusal
read s m at left = formula_read (parse left s m at left)

-- one that is read is a formula
pub read_parsed : (s : List ℕ) (m at left : ℕ) (u : Unread) → read s m at left ≡ Ok u → (f : Formula) × (parse left s m at left ≡ parsed f u.at u.left)
read_parsed s m at left u e = go (parse left s m at left) refl e
  where
    go : (p : Parsed) → parse left s m at left ≡ p → formula_read p ≡ Ok u → (f : Formula) × (parse left s m at left ≡ parsed f u.at u.left)
    go (parsed f after rest) q e =
        let same : ◌≡◌ {A = Unread} (record { at = after; left = rest }) u = cc in
        (f, rw (ap (λ (x : Unread). x.at) same, ap (λ (x : Unread). x.left) same) at q)
    go (wrong r) q e = let z : ◌≡◌ {A = ℕ} 0 1 = cc in absurd (omega arith)

-- it has at least one node
pub read_fewer : (s : List ℕ) (m at left : ℕ) (u : Unread) → read s m at left ≡ Ok u → u.left < left
read_fewer s m at left u e = let p = read_parsed s m at left u e in formula_fewer left s m at left p.0 u.at u.left p.1

-- at most two bytes a node
pub read_further : (s : List ℕ) (m at left : ℕ) (u : Unread) → read s m at left ≡ Ok u → u.at + 2 * u.left ≤ at + 2 * left
read_further s m at left u e =
    let p = read_parsed s m at left u e in
    let found = formula_found left s m at left p.0 u.at u.left p.1 in
    omega (arith, found.counted, found.stands.next, bytes_few p.0)

-- ---- a formula by its operands

-- where the last operand ends, the whole does
last_read : (p : Parsed) (g : Formula → Formula) → formula_read (on_parsed p (λ f after rest. parsed (g f) after rest)) ≡ formula_read p
last_read (parsed f after rest) g = refl
last_read (wrong r) g = refl

module _ (s : List ℕ) (m at left : ℕ) (some : left ≡ 0 → ⊥) where
  pub one_operand : {node byte next : ℕ} → node_at s m at ≡ One node byte next → read s m at left ≡ read s m next (left - 1)
  one_operand {node} {byte} {next} e = rw (parse_node s m at left some, e) (last_read (parse (left - 1) s m next (left - 1)) (one_of node byte))

  -- the first of two is at fault, or the second is read where it ended
  module _ {node next : ℕ} (two : node_at s m at ≡ Two node next) where
    pub first_operand : (r : Refusal) → read s m next (left - 1) ≡ Err r → read s m at left ≡ Err r
    first_operand r e = rw (parse_node s m at left some, two) (go (parse (left - 1) s m next (left - 1)) e)
      where
        go : (p : Parsed) → formula_read p ≡ Err r → formula_read (on_parsed p (λ f between rest. on_parsed (parse rest s m between rest) (λ g after none. parsed (two_of node f g) after none))) ≡ Err r
        go (parsed f between rest) e = let z : ◌≡◌ {A = ℕ} 0 1 = cc in absurd (omega arith)
        go (wrong q) e = e

    pub second_operand : (u : Unread) → read s m next (left - 1) ≡ Ok u → read s m at left ≡ read s m u.at u.left
    second_operand u e =
        let p = read_parsed s m next (left - 1) u e in
        rw (parse_node s m at left some, two, p.1) (last_read (parse u.left s m u.at u.left) (two_of node p.0))

-- ---- a formula in the first `len` bytes of a copy, by its first node

-- at a place in the copy, they have ended or go on as a sheet of so many does
module _ (b : List ℕ) (len k : ℕ) (whole : length b ≡ 512) (inside : k < 512) where
  ends_there : len ≤ k → length (take len b) ≡ len
  ends_there h = omega (arith, length-take len b)

  goes_on : k < len → k < length (take len b)
  goes_on h = omega (arith, length-take len b)

pub none_read : (s : List ℕ) (m at left : ℕ) → left ≡ 0 → read s m at left ≡ Err (sheet_refusal 13 at)
none_read s m at left e = rw (parse_none left s m at left e)

module _ (b : List ℕ) (len m at left : ℕ) (whole : length b ≡ 512) (room : at + 2 * left ≤ 510) (some : left ≡ 0 → ⊥) where
  pub absent_read : len ≤ at → read (take len b) m at left ≡ Err (sheet_refusal 1 len)
  absent_read h =
      let ends : length (take len b) ≡ len = ends_there b len at whole (omega arith) h in
      rw (parse_node (take len b) m at left some, absent_at (take len b) m at (omega arith), ends)

  module _ (here : at < len) where
    node_is : get_or (take len b) at 0 ≡ get_or b at 0
    node_is = get_or-take len b at 0 here

    there : at < length (take len b)
    there = goes_on b len at whole (omega arith) here

    pub leaf_read : get_or b at 0 < 3 → read (take len b) m at left ≡ Ok (record { at = at + 1; left = left - 1 })
    leaf_read k = rw (parse_node (take len b) m at left some, leaf_at (take len b) m at (get_or b at 0) there node_is k)

    pub first_read : 3 ≤ get_or b at 0 → get_or b at 0 < 5 → (r : Refusal) → read (take len b) m (at + 1) (left - 1) ≡ Err r
        → read (take len b) m at left ≡ Err r
    first_read k l r h = first_operand (take len b) m at left some (two_at (take len b) m at (get_or b at 0) there node_is k l) r h

    pub second_read : 3 ≤ get_or b at 0 → get_or b at 0 < 5 → (u : Unread) → read (take len b) m (at + 1) (left - 1) ≡ Ok u
        → read (take len b) m at left ≡ read (take len b) m u.at u.left
    second_read k l u h = second_operand (take len b) m at left some (two_at (take len b) m at (get_or b at 0) there node_is k l) u h

    pub above_read : 6 < get_or b at 0 → read (take len b) m at left ≡ Err (sheet_refusal 11 at)
    above_read k = rw (parse_node (take len b) m at left some, above_at (take len b) m at there (rw node_is k))

    module _ (above : 5 ≤ get_or b at 0) (known : get_or b at 0 ≤ 6) where
      pub action_absent_read : len ≤ at + 1 → read (take len b) m at left ≡ Err (sheet_refusal 1 len)
      action_absent_read h =
          let ends : length (take len b) ≡ len = ends_there b len (at + 1) whole (omega arith) h in
          rw (parse_node (take len b) m at left some, action_absent_at (take len b) m at there (rw node_is above) (rw node_is known) (omega arith), ends)

      module _ (next : at + 1 < len) where
        action_is : get_or (take len b) (at + 1) 0 ≡ get_or b (at + 1) 0
        action_is = get_or-take len b (at + 1) 0 next

        next_there : at + 1 < length (take len b)
        next_there = goes_on b len (at + 1) whole (omega arith) next

        pub one_read : (get_or b (at + 1) 0 < m) ⊎ (get_or b (at + 1) 0 ≡ 255) → read (take len b) m at left ≡ read (take len b) m (at + 2) (left - 1)
        one_read h = one_operand (take len b) m at left some (one_at (take len b) m at (get_or b at 0) (get_or b (at + 1) 0) next_there node_is above known action_is h)

        pub label_read : ((get_or b (at + 1) 0 < m) ⊎ (get_or b (at + 1) 0 ≡ 255) → ⊥) → read (take len b) m at left ≡ Err (sheet_refusal 12 (at + 1))
        label_read none =
            rw (parse_node (take len b) m at left some, label_at (take len b) m at there (rw node_is above) (rw node_is known) next_there (rw action_is none))

-- what the first node and those after it give, of so many nodes and so many bytes
pub ruleset formula_by_node = (none_read, absent_read, leaf_read, first_read, second_read, above_read, action_absent_read, one_read, label_read, read_fewer, read_further)

-- ---- the whole sheet

-- what the reader says after the formula
abbrev pub ending_read : List ℕ → Kind → ℕ → Result Unread Refusal → Result Outline Refusal
ending_read s kind count (Ok u) =
    pick (ltb 0 u.left) (Err (sheet_refusal 13 u.at)) (
    pick (ltb u.at (length s)) (Err (sheet_refusal 8 u.at)) (
    Ok (record { kind = kind; nodes = count })))
ending_read s kind count (Err r) = Err r

ending_read_lem : (s : List ℕ) (kind : Kind) (count : ℕ) (p : Parsed) → sheet_read (ending s (kind_number kind) count p) ≡ ending_read s kind count (formula_read p)
ending_read_lem s kind count (wrong r) = refl
ending_read_lem s kind count (parsed f at left) = go (ltb 0 left) (ltb at (length s))
  where
    go : (x y : Bool) → sheet_read (pick x (refused (sheet_refusal 13 at)) (pick y (refused (sheet_refusal 8 at)) (sheet (kind_number kind) count f)))
        ≡ pick x (Err (sheet_refusal 13 at)) (pick y (Err (sheet_refusal 8 at)) (Ok (record { kind = kind; nodes = count })))
    go true y = refl
    go false true = refl
    go false false = ap (λ (k : Kind). Ok (record { kind = k; nodes = count })) (number_back kind)

-- the nodes and what follows
pub nodes_read : (s : List ℕ) (m : ℕ) (kind : Kind) → sheet_read (read_nodes s m (kind_number kind))
    ≡ pick (leb (length s) 2) (Err (sheet_refusal 1 (length s))) (
    pick (ltb (get_or s 2 0) 1) (Err (sheet_refusal 10 2)) (
    pick (ltb 200 (get_or s 2 0)) (Err (sheet_refusal 10 2)) (
    ending_read s kind (get_or s 2 0) (read s m 3 (get_or s 2 0)))))
unfolding read_nodes
nodes_read s m kind = go (leb (length s) 2) (ltb (get_or s 2 0) 1) (ltb 200 (get_or s 2 0))
  where
    count : ℕ
    count = get_or s 2 0

    go : (x y z : Bool) → sheet_read (pick x (refused (sheet_refusal 1 (length s))) (pick y (refused (sheet_refusal 10 2)) (pick z (refused (sheet_refusal 10 2)) (ending s (kind_number kind) count (parse count s m 3 count)))))
        ≡ pick x (Err (sheet_refusal 1 (length s))) (pick y (Err (sheet_refusal 10 2)) (pick z (Err (sheet_refusal 10 2)) (ending_read s kind count (read s m 3 count))))
    go true y z = refl
    go false true z = refl
    go false false true = refl
    go false false false = ending_read_lem s kind count (parse count s m 3 count)

-- all of a short sheet, or 512 bytes of a longer one
pub copied : (s blank : List ℕ) (end : ℕ) → length blank ≡ 512 → end ≡ min (length s) 512
    → (length (take end s ++ drop end blank) ≡ 512) × (take (length s) (take end s ++ drop end blank) ≡ take 512 s)
copied s blank end whole e = (
  omega (arith, length-append (take end s) (drop end blank), length-take end s, length-drop end blank),
  elim (dec_le (length s) 512) [
    | yes short ↦
        let all : take end s ≡ s = take_all end s (omega arith) in
        rw (all, take-append_seam s (drop end blank)) (sym (take_all 512 s short))
    | no long ↦
        let some : end ≡ 512 = omega arith in
        let nothing : drop end blank ≡ [] = drop_of_length-le blank (omega arith) in
        rw (nothing, append-nil, some) (take_all (length s) (take 512 s) (omega (arith, length-take 512 s)))
  ],
)

-- the formula is read in a copy of so many bytes as it is in the sheet
pub copy_parse : (s b : List ℕ) (m left : ℕ) → left ≤ 200 → take (length s) b ≡ take 512 s → parse left (take (length s) b) m 3 left ≡ parse left s m 3 left
copy_parse s b m left few same = rw same (first_bytes_parse s m 3 left 512 (omega arith))
