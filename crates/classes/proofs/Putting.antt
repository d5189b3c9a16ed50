-- Marks put into the cells of a matrix: of those that fell from one row, and from all; and a matrix that is cleared for them.
use Prim.Native.Nat.{ℕ, ◌+◌, ◌-◌, ◌*◌, ◌/◌, ◌%◌, ◌^◌, ◌≤◌, ◌<◌}
use mathlib.Core.Path.{◌≡◌, refl, sym, ap, ap₂, ◌∙◌}
use mathlib.Core.Bool.{Bool, true, false, So}
use mathlib.Core.List.{List, ◌++◌}
use mathlib.Core.Logic.{inl, inr}
use native.Mathlib.Omega.{arith}
use native.Mathlib.Decide.{dec_le, ℕ_discrete}
use borrow.Author.Tests.{eq-eqb, ne_eqb, le-leb, lt-leb}
use native.Mathlib.Nat.{le-div_iff_mul-le}
use lib.Arith.{digits_div}
use lib.Bits.{and_le_l}
use lib.Count.{count_trailing_zeros}
use lib.Dec.{eqb, leb}
use lib.ListN.{length, get_or, set, take, drop, replicate}
use Rattle.std.proofs.lemmas.List.{length-append, length-drop, length-take-le, length-replicate, get_or_append_left, get_or-replicate, get_or-append_right, get_or-drop}
use lib.Seq.{get_or-set_same, get_or-set_other}
use Rattle.settle.specs.Test.{pick, both, either, neg}
use Rattle.settle.proofs.Test.{never, tested}
use Rattle.words.specs.Words.{member}
use Rattle.words.proofs.Words.{no_member, others_member, none_member}
use Rattle.words.specs.Members.{Lowest}
use Rattle.words.proofs.Bits.{and_member}
use Rattle.words.proofs.Lowest.{lowest_or_rest, lowest_out}
use Rattle.relation.specs.Rows.{in_rows, Within}
use Rattle.relation.proofs.Cells.{column_in, pair_cell, cell_in}
use Rattle.classes.specs.Marking.{Cleared, fallen, PutMark, is_new, shares_row, PutMarks}

-- ---- the first cells are made 0

pub cleared : (cells : ℕ) (old : List ℕ) {zeros : List ℕ} → cells ≤ length old → zeros ≡ replicate (length (take cells old)) 0 → Cleared cells old (zeros ++ drop cells old)
cleared cells old h e =
    let size : length (take cells old) ≡ cells = length-take-le cells old h in
    rw (e, size) (record {
      same_length = length-append first (drop cells old) ∙ rw (length-replicate {A = ℕ} cells 0) (omega (arith, length-drop cells old));
      zeros = λ y l. get_or_append_left first (drop cells old) 0 y (omega (arith, length-replicate {A = ℕ} cells 0)) ∙ get_or-replicate cells y 0 0 l;
      after = λ y l. get_or-append_right first (drop cells old) cells y 0 (length-replicate cells 0) l ∙ get_or-drop cells old (y - cells) 0 ∙ ap (λ (x : ℕ). get_or old x 0) (omega arith);
    })
  where
    first : List ℕ
    first = replicate cells 0

-- ---- those that fell from one row

-- what the cell holds once those that fell are marked
abbrev pub marked : ℕ → ℕ → ℕ → List ℕ → ℕ → ℕ
marked start fell mark cells y = pick (both (leb start y) (member fell (y - start))) mark (get_or cells y 0)

pub marked_done : (start mark : ℕ) (cells : List ℕ) {left : ℕ} → left ≡ 0 → (y : ℕ) → get_or cells y 0 ≡ marked start left mark cells y
unfolding both
marked_done start mark cells e y = rw (e, none_member (y - start)) (go (leb start y))
  where
    go : (b : Bool) → get_or cells y 0 ≡ pick (both b false) mark (get_or cells y 0)
    go true = refl
    go false = refl

-- with the lowest one's cell marked and it dropped, what is marked or still to come is the same
pub marked_walked : {w q rest : ℕ} (cells : List ℕ) (start mark y : ℕ) → Lowest w q rest → start + q < length cells
    → marked start rest mark (set cells (start + q) mark) y ≡ marked start w mark cells y
unfolding both either
marked_walked {w} {q} {rest} cells start mark y h room = elim (ℕ_discrete y (start + q)) [
  | yes e ↦ rw (e, get_or-set_same cells (start + q) mark 0 room, le-leb start (start + q) (omega arith), back, h.in_set) (same (member rest q))
  | no f ↦ ap₂ (λ (b : Bool) (x : ℕ). pick b mark x) (other f) (get_or-set_other cells (start + q) y mark 0 f)
]
  where
    back : start + q - start ≡ q
    back = omega arith

    same : (b : Bool) → pick b mark mark ≡ mark
    same true = refl
    same false = refl

    other : (y ≡ start + q → ⊥) → both (leb start y) (member rest (y - start)) ≡ both (leb start y) (member w (y - start))
    other f = elim (dec_le start y) [
      | yes l ↦ rw (lowest_or_rest h (y - start), ne_eqb q (y - start) (λ e. f (omega arith)))
      | no g ↦ rw (lt-leb start y (omega arith))
    ]

pub put_none : {start fell : ℕ} (mark : ℕ) (cells : List ℕ) → fell ≡ 0 → PutMark start fell mark cells cells
put_none {start} mark cells e = record { same_length = refl; cells = λ y. marked_done start mark cells e y }

-- the cells of those that fell are in the buffer
pub row_fits : (n p fell size : ℕ) → p < n → n * n ≤ size → fell < 2 ^ n → (q : ℕ) → So (member fell q) → p * n + q < size
row_fits n p fell size h room few q m = elim (dec_le n q) [ yes l ↦ never (sym (no_member n fell q few l) ∙ m) | no f ↦ omega (arith, cell_in n p q h (omega arith)) ]

-- ---- the classes that a round made

module _ (n was row p : ℕ) where
  pub new_none : fallen n was row ≡ 0 → 0 ≡ pick (is_new n was row p) (2 ^ p) 0
  unfolding is_new both neg
  new_none e = rw (eq-eqb _ _ e)

  pub new_lowest : (fallen n was row ≡ 0 → ⊥) → count_trailing_zeros 64 row ≡ p → 2 ^ p ≡ pick (is_new n was row p) (2 ^ p) 0
  unfolding is_new both neg
  new_lowest f e = rw (ne_eqb _ _ f, eq-eqb _ _ e)

  pub new_higher : (count_trailing_zeros 64 row ≡ p → ⊥) → 0 ≡ pick (is_new n was row p) (2 ^ p) 0
  unfolding is_new both neg
  new_higher f = rw (ne_eqb _ _ f) (go (eqb (fallen n was row) 0))
    where
      go : (b : Bool) → 0 ≡ pick (both (neg b) false) (2 ^ p) 0
      go true = refl
      go false = refl

-- a row from which nothing fell tells none
pub new_shared : (n : ℕ) (near next : List ℕ) (shared : ℕ) → ((p : ℕ) → (So (member shared p) → ⊥) → fallen n (get_or near p 0) (get_or next p 0) ≡ 0)
    → (s : ℕ) → either (member 0 s) (both (member shared s) (is_new n (get_or near s 0) (get_or next s 0) s)) ≡ is_new n (get_or near s 0) (get_or next s 0) s
unfolding is_new both either neg
new_shared n near next shared none s = rw (none_member s) (elim (tested (member shared s)) [ inl i ↦ rw i | inr f ↦ rw (eq-eqb _ _ (none s f)) (nothing (member shared s)) ])
  where
    nothing : (b : Bool) → both b false ≡ false
    nothing true = refl
    nothing false = refl

-- ---- the states that share their row

pub shares_not : (row p : ℕ) → row ≡ 2 ^ p → 0 ≡ pick (shares_row row p) (2 ^ p) 0
unfolding shares_row neg
shares_not row p e = rw (eq-eqb _ _ e)

pub shares_is : (row p : ℕ) → (row ≡ 2 ^ p → ⊥) → 2 ^ p ≡ pick (shares_row row p) (2 ^ p) 0
unfolding shares_row neg
shares_is row p f = rw (ne_eqb _ _ f)

pub shared_first : (next : List ℕ) (shared s : ℕ) → either (member 0 s) (both (member shared s) (shares_row (get_or next s 0) s)) ≡ both (member shared s) (shares_row (get_or next s 0) s)
unfolding either
shared_first next shared s = rw (none_member s)

-- ---- those that fell from all rows

-- the cells of one row, and of the others
module _ {n p fell mark : ℕ} {old new : List ℕ} (some : 0 < n) (few : fell < 2 ^ n) (put : PutMark (p * n) fell mark old new) where
  put_own : (y : ℕ) → y / n ≡ p → get_or new y 0 ≡ pick (member fell (y % n)) mark (get_or old y 0)
  unfolding both
  put_own y e =
      let cell : y / n * n + y % n ≡ y = pair_cell n y in
      let begins : p * n + y % n ≡ y = ap (λ (x : ℕ). x * n + y % n) (sym e) ∙ cell in
      let column : y - p * n ≡ y % n = omega arith in
      put.cells y ∙ rw (le-leb (p * n) y (omega arith), column)

  put_other : (y : ℕ) → (y / n ≡ p → ⊥) → get_or new y 0 ≡ get_or old y 0
  unfolding both
  put_other y f = put.cells y ∙ elim (dec_le (p * n) y) [
    | yes l ↦ rw (le-leb (p * n) y l, no_member n fell (y - p * n) few (elim (dec_le n (y - p * n)) [ yes g ↦ g | no g ↦ absurd (f (ap (λ (x : ℕ). x / n) (split l) ∙ digits_div p (omega arith))) ]))
    | no g ↦ rw (lt-leb (p * n) y (omega arith))
  ]
    where
      split : p * n ≤ y → y ≡ p * n + (y - p * n)
      split l = omega arith

module _ (n : ℕ) (near next : List ℕ) (mark : ℕ) where
  -- the pair of the cell fell
  abbrev pub fell_at : ℕ → Bool
  fell_at y = both (in_rows near (y / n) (y % n)) (neg (in_rows next (y / n) (y % n)))

  -- the rows still left will be marked, all others are as they end
  pub record Marking (left : ℕ) (old new : List ℕ) : Type 0 where
    pub same_length : length new ≡ length old
    pub cells : (y : ℕ) → y < n * n → pick (both (member left (y / n)) (fell_at y)) mark (get_or new y 0) ≡ pick (fell_at y) mark (get_or old y 0)
    pub after : (y : ℕ) → n * n ≤ y → get_or new y 0 ≡ get_or old y 0

  fell_in : (p q : ℕ) → q < n → get_or next p 0 < 2 ^ n → member (fallen n (get_or near p 0) (get_or next p 0)) q ≡ both (in_rows near p q) (neg (in_rows next p q))
  fell_in p q l less = and_member (get_or near p 0) (2 ^ n - 1 - get_or next p 0) q ∙ ap (both (in_rows near p q)) (others_member n (get_or next p 0) q less l)

  pub marking_first : (shared : ℕ) (old : List ℕ) → Within n next → ((p : ℕ) → (So (member shared p) → ⊥) → fallen n (get_or near p 0) (get_or next p 0) ≡ 0) → Marking shared old old
  unfolding both
  marking_first shared old w none =
      record {
        same_length = refl;
        cells = λ y h. ap (λ (b : Bool). pick b mark (get_or old y 0)) (only y h);
        after = λ y h. refl;
      }
    where
      nothing : (b : Bool) → both b false ≡ false
      nothing true = refl
      nothing false = refl

      only : (y : ℕ) → y < n * n → both (member shared (y / n)) (fell_at y) ≡ fell_at y
      only y h = elim (tested (member shared (y / n))) [
        | inl i ↦ rw i
        | inr f ↦ rw (← fell_in (y / n) (y % n) (column_in n y h) (w.no_bit_above (y / n)), none (y / n) f, none_member (y % n)) (nothing (member shared (y / n)))
      ]

  pub marking_walked : {w p rest : ℕ} {old mid new : List ℕ} → Within n near → Within n next → p < n → Lowest w p rest → Marking w old mid
      → PutMark (p * n) (fallen n (get_or near p 0) (get_or next p 0)) mark mid new → Marking rest old new
  unfolding both either
  marking_walked {w} {p} {rest} {old} {mid} {new} v u low-in h k put =
      record {
        same_length = put.same_length ∙ k.same_length;
        cells = λ y l. elim (ℕ_discrete (y / n) p) [
          | yes e ↦ rw (put_own states less put y e, own y l e, ap (member rest) e, lowest_out h) (sym (ap (λ (b : Bool). pick (both b (fell_at y)) mark (get_or mid y 0)) (ap (member w) e ∙ h.in_set)) ∙ k.cells y l)
          | no f ↦ ap₂ (λ (b : Bool) (x : ℕ). pick (both b (fell_at y)) mark x) (sym (lowest_or_rest h (y / n) ∙ ap (λ (b : Bool). either b (member rest (y / n))) (ne_eqb p (y / n) (λ e. f (sym e))))) (put_other states less put y f) ∙ k.cells y l
        ];
        after = λ y l. put_other states less put y (λ e. omega (arith, far y l)) ∙ k.after y l;
      }
    where
      states : 0 < n
      states = omega arith

      less : fallen n (get_or near p 0) (get_or next p 0) < 2 ^ n
      less = omega (arith, and_le_l (get_or near p 0) (2 ^ n - 1 - get_or next p 0), v.no_bit_above p)

      own : (y : ℕ) → y < n * n → y / n ≡ p → member (fallen n (get_or near p 0) (get_or next p 0)) (y % n) ≡ fell_at y
      own y l e = fell_in p (y % n) (column_in n y l) (u.no_bit_above p) ∙ rw e

      far : (y : ℕ) → n * n ≤ y → n ≤ y / n
      far y l = (le-div_iff_mul-le states).1 l

  pub marking_done : {left : ℕ} {old new : List ℕ} → left ≡ 0 → Marking left old new → PutMarks n near next mark old new
  unfolding both
  marking_done {left} {old} {new} e k =
      record {
        same_length = k.same_length;
        cells = λ y h. sym (ap (λ (b : Bool). pick (both b (fell_at y)) mark (get_or new y 0)) (ap (λ (x : ℕ). member x (y / n)) e ∙ none_member (y / n))) ∙ k.cells y h;
        after = k.after;
      }
