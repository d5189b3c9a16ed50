-- Rows: what they have, what they keep, a strike of some of them, and those of all pairs.
use Prim.Native.Nat.{ℕ, ◌+◌, ◌-◌, ◌^◌, ◌≤◌, ◌<◌}
use mathlib.Core.Path.{◌≡◌, refl, sym, ap, subst, ◌∙◌}
use mathlib.Core.Bool.{Bool, true, false, So}
use mathlib.Core.List.{List, ◌++◌}
use native.Mathlib.Omega.{arith}
use native.Mathlib.Decide.{dec_le, ℕ_discrete}
use borrow.Author.Tests.{ne_eqb}
use lib.Bits.{bit_and, and_le_l}
use lib.ListN.{length, get_or, set, replicate, take, drop}
use Rattle.std.proofs.lemmas.List.{length-take-le, length-replicate, get_or_append_left, get_or-replicate, get_or-append_right, get_or-drop}
use lib.Pow.{pow_pos}
use lib.Seq.{get_or-set_same, get_or-set_other}
use Rattle.settle.specs.Test.{both, either, implies}
use Rattle.settle.specs.Chain.{full}
use Rattle.settle.proofs.Test.{never}
use Rattle.words.specs.Words.{member}
use Rattle.words.proofs.Words.{no_member, all_word, word_member, none_member}
use Rattle.steps.proofs.Filling.{blank}
use Rattle.words.specs.Members.{Lowest}
use Rattle.words.proofs.Bits.{and_member}
use Rattle.words.proofs.Lowest.{lowest_or_rest, lowest_out}
use Rattle.nearness.specs.Relation.{Relation}
use Rattle.relation.specs.Rows.{in_rows, Within, Holds, Keeps, struck}

-- ---- what rows have

-- no pair but of states
pub within_states : {n : ℕ} {rows : List ℕ} → Within n rows → (p q : ℕ) → So (in_rows rows p q) → (p < n) × (q < n)
within_states {n} {rows} w p q i = (
  elim (dec_le n p) [ yes l ↦ never (sym (none_member q) ∙ subst (λ (x : ℕ). So (member x q)) (w.no_row_above p l) i) | no f ↦ omega arith ],
  elim (dec_le n q) [ yes l ↦ never (sym (no_member n _ q (w.no_bit_above p) l) ∙ i) | no f ↦ omega arith ],
)

-- ---- what rows keep

module _ {n : ℕ} where
  pub keeps_all : {rows : List ℕ} → Within n rows → Keeps n (λ p q. true) rows rows
  unfolding both
  keeps_all {rows} w = record { within = w; kept = λ p q. go (in_rows rows p q) }
    where
      go : (b : Bool) → b ≡ both b true
      go true = refl
      go false = refl

  -- one after the other
  pub keeps_more : {K L : ℕ → ℕ → Bool} {old mid new : List ℕ} → Keeps n K old mid → Keeps n L mid new → Keeps n (λ p q. both (L p q) (K p q)) old new
  unfolding both
  keeps_more {K} {L} {old} k l = record { within = l.within; kept = λ p q. l.kept p q ∙ ap (λ (b : Bool). both b (L p q)) (k.kept p q) ∙ go (in_rows old p q) (K p q) (L p q) }
    where
      go : (a b c : Bool) → both (both a b) c ≡ both a (both c b)
      go false b c = refl
      go true true true = refl
      go true true false = refl
      go true false true = refl
      go true false false = refl

  -- only what is kept of the pairs that were there matters
  pub keeps_same : {K L : ℕ → ℕ → Bool} {old new : List ℕ} → ((p q : ℕ) → So (in_rows old p q) → K p q ≡ L p q) → Keeps n K old new → Keeps n L old new
  unfolding both
  keeps_same {K} {L} {old} same k = record { within = k.within; kept = λ p q. k.kept p q ∙ go (in_rows old p q) (same p q) }
    where
      go : {b c : Bool} (a : Bool) → (So a → b ≡ c) → both a b ≡ both a c
      go true e = e refl
      go false e = refl

  -- what was held, and is kept
  pub keeps_holds : {R S : Relation} {K : ℕ → ℕ → Bool} {old new : List ℕ} → Holds n R old → Keeps n K old new
      → ((p q : ℕ) → p < n → q < n → both (R (p, q)) (K p q) ≡ S (p, q)) → Holds n S new
  keeps_holds {K = K} h k e = record { within = k.within; bits = λ p q i j. k.kept p q ∙ ap (λ (b : Bool). both b (K p q)) (h.bits p q i j) ∙ e p q i j }

-- ---- a strike

-- where no member is left, all rows are struck
pub all_struck : (left p row kept : ℕ) → left ≡ 0 → struck (member left p) row kept ≡ row
all_struck left p row kept e = rw (e, none_member p)

-- with the lowest member's row struck and the member dropped, what is struck or still to come is the same
pub struck_walked : {w q rest : ℕ} (rows : List ℕ) (kept p : ℕ) → Lowest w q rest → length rows ≡ 64
    → struck (member rest p) (get_or (set rows q (bit_and (get_or rows q 0) kept)) p 0) kept ≡ struck (member w p) (get_or rows p 0) kept
unfolding either
struck_walked {w} {q} {rest} rows kept p h size = elim (ℕ_discrete p q) [
  | yes e ↦ rw (e, get_or-set_same rows q (bit_and (get_or rows q 0) kept) 0 (omega (arith, h.few)), lowest_out h, h.in_set)
  | no f ↦ rw (get_or-set_other rows q p (bit_and (get_or rows q 0) kept) 0 f, lowest_or_rest h p, ne_eqb q p (λ e. f (sym e)))
]

-- of the rows that it strikes, a strike keeps what is in `kept`
pub strike_keeps : {n : ℕ} {old new : List ℕ} (hit kept : ℕ) → Within n old → ((p : ℕ) → get_or new p 0 ≡ struck (member hit p) (get_or old p 0) kept)
    → Keeps n (λ p q. implies (member hit p) (member kept q)) old new
unfolding implies both
strike_keeps {n} {old} {new} hit kept w e =
    record {
      within = record {
        no_row_above = λ p l. e p ∙ gone (member hit p) (get_or old p 0) (w.no_row_above p l);
        no_bit_above = λ p. subst (λ (x : ℕ). x < 2 ^ n) (sym (e p)) (less (member hit p) (get_or old p 0) (w.no_bit_above p));
      };
      kept = λ p q. ap (λ (x : ℕ). member x q) (e p) ∙ bits (member hit p) (get_or old p 0) q;
    }
  where
    gone : (b : Bool) (row : ℕ) → row ≡ 0 → struck b row kept ≡ 0
    gone true row z = omega (arith, and_le_l row kept)
    gone false row z = z

    less : (b : Bool) (row : ℕ) → row < 2 ^ n → struck b row kept < 2 ^ n
    less true row l = omega (arith, and_le_l row kept)
    less false row l = l

    bits : (b : Bool) (row q : ℕ) → member (struck b row kept) q ≡ both (member row q) (implies b (member kept q))
    bits true row q = and_member row kept q
    bits false row q = go (member row q)
      where
        go : (c : Bool) → c ≡ both c true
        go true = refl
        go false = refl

-- ---- all pairs

-- where the first rows are all states and the others none
pub all_holds : (n : ℕ) (rows : List ℕ) → ((p : ℕ) → p < n → get_or rows p 0 ≡ 2 ^ n - 1) → ((p : ℕ) → n ≤ p → get_or rows p 0 ≡ 0) → Holds n full rows
unfolding full
all_holds n rows before after =
    record {
      within = record {
        no_row_above = after;
        no_bit_above = λ p. elim (dec_le n p) [ yes l ↦ omega (arith, after p l, pow_pos n) | no g ↦ omega (arith, before p (omega arith), pow_pos n) ];
      };
      bits = λ p q i j. ap (λ (x : ℕ). member x q) (before p i ∙ sym (all_word n)) ∙ word_member n q (λ x. true) j;
    }

pub all_filled : (n all : ℕ) {filled : List ℕ} → n ≤ 64 → all ≡ 2 ^ n - 1 → filled ≡ replicate (length (take n (replicate {A = ℕ} 64 0))) all → Holds n full (filled ++ drop n (replicate 64 0))
all_filled n all few e f =
    let size : length (take n none) ≡ n = length-take-le n none (omega (arith, length-replicate {A = ℕ} 64 0)) in
    rw (f, size, e) (all_holds n (first ++ drop n none)
    (λ p h. get_or_append_left first (drop n none) 0 p (omega (arith, length-replicate n (2 ^ n - 1))) ∙ get_or-replicate n p (2 ^ n - 1) 0 h)
    (λ p h. get_or-append_right first (drop n none) n p 0 (length-replicate n (2 ^ n - 1)) h ∙ get_or-drop n none (p - n) 0 ∙ blank 64 (n + (p - n))))
  where
    none : List ℕ
    none = replicate 64 0

    first : List ℕ
    first = replicate n (2 ^ n - 1)
