-- A step of a set, from what the same step gave for another; and what is remembered of it.
use Prim.Native.Nat.{ℕ, ◌+◌, ◌-◌, ◌*◌, ◌<◌, ◌≤◌, ◌^◌}
use mathlib.Core.Path.{◌≡◌, sym, ◌∙◌}
use mathlib.Core.Bool.{So, false}
use mathlib.Core.List.{List}
use native.Mathlib.Decide.{dec_lt, ℕ_discrete}
use native.Mathlib.Omega.{arith}
use native.Mathlib.Nat.{le_trans, mul-le-mul_right}
use lib.Arith.{digits_lt}
use lib.Bits.{bit_and}
use lib.ListN.{length, get_or, set, length-set}
use lib.Seq.{get_or-set_same, get_or-set_other}
use Rattle.settle.specs.Test.{either}
use Rattle.sheet.specs.Reading.{label_of}
use Rattle.words.specs.Words.{member}
use Rattle.words.proofs.Words.{word_small, word_lt, word_cong, word_none, word_member, word_of_lem, no_member, minus_member, none_member}
use Rattle.steps.specs.Walk.{leads}
use Rattle.steps.proofs.Leads.{leads_none, leads_either, leads_small}
use Rattle.evaluate.specs.Evaluating.{row_of, step_word, Serves, memo_at, Remembers, SameRows, Kept}
use Rattle.evaluate.proofs.Modal.{member_below}
use Rattle.evaluate.proofs.Rows.{action_row, step_same}

-- a table that serves m actions serves each row of it
pub serves_row : (n m row : ℕ) (into : List ℕ) → Serves n m into → row ≤ m → Serves n row into
serves_row n m row into S h = record {
  states_few = S.states_few;
  actions_few = omega (arith, S.actions_few);
  room = le_trans (mul-le-mul_right n (omega arith)) S.room;
  no_bit_above = S.no_bit_above;
}

module _ (n row : ℕ) (into : List ℕ) (S : Serves n row into) where
  -- each member has a word in the row
  pub words_there : (w : ℕ) → w < 2 ^ n → (u : ℕ) → So (member w u) → row * n + u < length into
  words_there w h u m = omega (arith, S.room, digits_lt {q = row} {m = row + 1} {r = u} {c = n} (omega arith) (member_below n w u h m))

  none_above : (w s : ℕ) → n ≤ s → leads into (row * n) w s ≡ false
  none_above w s h = leads_small n into (row * n) w s S.no_bit_above h

  -- from nothing
  pub stepped_all : (f r : ℕ) → r < 2 ^ 64 → ((s : ℕ) → member r s ≡ either (member 0 s) (leads into (row * n) f s)) → r ≡ step_word into n row f
  unfolding either
  stepped_all f r h is = word_of_lem n r _ S.states_few h (λ s. rw (is s, none_member s)) (none_above f)

  -- from what the row gave for a set that lies in f
  pub stepped_more : (was known f r : ℕ) → was < 2 ^ n → f < 2 ^ n → bit_and was f ≡ was → known ≡ step_word into n row was → r < 2 ^ 64
      → ((s : ℕ) → member r s ≡ either (member known s) (leads into (row * n) (f - was) s)) → r ≡ step_word into n row f
  stepped_more was known f r h k inside e b is =
      word_of_lem n r _ S.states_few b (λ s. is s ∙ rw (gave s) (sym (leads_either into (row * n) was (f - was) f s (λ u l. (minus_member n was f h k inside).1 u)))) (none_above f)
    where
      gave : (s : ℕ) → member known s ≡ leads into (row * n) was s
      gave s = elim (dec_lt s n) [
        | yes l ↦ rw e (word_member n s _ l)
        | no g ↦ let a : n ≤ s = omega arith in rw e (no_member n (step_word into n row was) s (word_lt n _) a ∙ sym (none_above was s a))
      ]

-- ---- what is remembered

-- nothing leads to no state, so that words that are 0 are a beginning
pub remembers_none : (n m : ℕ) (sheet work : List ℕ) → Serves n m work → memo_at n m (length sheet) ≤ length work → ((e : ℕ) → (m + 1) * n ≤ e → get_or work e 0 ≡ 0) → Remembers n m sheet work
remembers_none n m sheet work S size zeros = record {
  serves = S;
  size = size;
  gave = λ p l k. rw (zeros (memo_at n m p) (omega arith), zeros (memo_at n m p + 1) (omega arith)) (sym (word_cong n _ _ (λ s b. leads_none work _ s) ∙ word_none n));
}

-- one more: all other words stand where they stood
module _ (n m : ℕ) (sheet work : List ℕ) (R : Remembers n m sheet work) (at f w : ℕ) (inside : at < length sheet) where
  abbrev memo : ℕ
  memo = memo_at n m at

  abbrev after : List ℕ
  after = set (set work memo f) (memo + 1) w

  here : get_or after memo 0 ≡ f
  here = get_or-set_other (set work memo f) (memo + 1) memo w 0 (λ e. omega arith) ∙ get_or-set_same work memo f 0 (omega (arith, R.size))

  next : get_or after (memo + 1) 0 ≡ w
  next = get_or-set_same (set work memo f) (memo + 1) w 0 (omega (arith, R.size, length-set work memo f))

  elsewhere : (e : ℕ) → (e ≡ memo → ⊥) → (e ≡ memo + 1 → ⊥) → get_or after e 0 ≡ get_or work e 0
  elsewhere e d g = get_or-set_other (set work memo f) (memo + 1) e w 0 g ∙ get_or-set_other work memo e f 0 d

  same : SameRows n m work after
  same e l = elsewhere e (λ d. omega arith) (λ d. omega arith)

  size_kept : length after ≡ length work
  size_kept = length-set (set work memo f) (memo + 1) w ∙ length-set work memo f

  module _ (f_small : f < 2 ^ n) (w_small : w < 2 ^ n) where
    serves : Serves n m after
    serves = record {
      states_few = R.serves.states_few;
      actions_few = R.serves.actions_few;
      room = rw (size_kept) R.serves.room;
      no_bit_above = λ e. elim (ℕ_discrete e memo) [
        | yes d ↦ rw (d, here) f_small
        | no d ↦ elim (ℕ_discrete e (memo + 1)) [ yes g ↦ rw (g, next) w_small | no g ↦ rw (elsewhere e d g) (R.serves.no_bit_above e) ]
      ];
    }

    abbrev row : ℕ → ℕ
    row p = row_of (label_of (get_or sheet (p + 1) 0))

    pub remembers_more : w ≡ step_word work n (row_of (label_of (get_or sheet (at + 1) 0))) f
        → Kept n m sheet work (set (set work (memo_at n m at) f) (memo_at n m at + 1) w)
    remembers_more e = (
      same,
      record {
        serves = serves;
        size = rw (size_kept) R.size;
        gave = λ p l k. (
            let a = action_row m (get_or sheet (p + 1) 0) R.serves.actions_few k in
            elim (ℕ_discrete p at) [
              | yes d ↦ rw (d, here, next) (e ∙ sym (step_same n m work after same (row at) f (rw d at a) f_small))
              | no d ↦ rw (elsewhere (memo_at n m p) (λ g. d (omega arith)) (λ g. omega arith), elsewhere (memo_at n m p + 1) (λ g. omega arith) (λ g. d (omega arith)))
                  (R.gave p l k ∙ sym (step_same n m work after same (row p) (get_or work (memo_at n m p) 0) a (R.serves.no_bit_above (memo_at n m p))))
            ]);
      },
    )

-- the same of the step at a place, by its row
module _ (n m : ℕ) (sheet work after : List ℕ) (R : Remembers n m sheet work) (at f w row : ℕ) (inside : at + 1 < length sheet) (f_small : f < 2 ^ n)
    (row_is : row ≡ row_of (label_of (get_or sheet (at + 1) 0))) (gave : w ≡ step_word work n row f) (now : after ≡ set (set work (memo_at n m at) f) (memo_at n m at + 1) w) where
  kept : Kept n m sheet work after
  kept = rw now (remembers_more n m sheet work R at f w (omega arith) f_small (word_small n w _ gave) (rw row_is at gave))

  pub remembers_after : Remembers n m sheet after
  remembers_after = kept.1

  pub rows_after : SameRows n m work after
  rows_after = kept.0

-- the step at a place, and what is remembered after it
pub ruleset by_steps = (serves_row, remembers_after, rows_after)
