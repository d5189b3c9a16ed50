-- The promises in each case, and what follows of them. Assumes nothing.
use Prim.Native.Nat.{ℕ, ◌-◌, ◌≤◌, ◌<◌}
use mathlib.Core.Path.{◌≡◌, refl, sym, ap, subst, subst⁻¹, ◌∙◌}
use mathlib.Core.Bool.{So}
use mathlib.Core.List.{List}
use mathlib.Core.Logic.{◌↔◌}
use native.Mathlib.Omega.{arith}
use native.Mathlib.Decide.{dec_le}
use borrow.Author.Tests.{eqb-true, eq-eqb}
use lib.ListN.{length, get_or, get_or-eq_default}
use lib.Seq.{ext_get_or}
use Rattle.settle.specs.Test.{count}
use Rattle.settle.specs.Finite.{pairs}
use Rattle.settle.specs.Chain.{Inside, Rounds}
use Rattle.settle.proofs.Test.{never, stable, ext, count_cong, count_inside}
use Rattle.settle.proofs.Finite.{pairs_i, pairs_e_lem}
use Rattle.refusal.specs.declared.Refusal.{Refusal}
use Rattle.chart.specs.Chart.{Step}
use Rattle.chart.specs.Reading.{chart_in, read_chart}
use Rattle.chart.specs.declared.Shape.{Shape}
use Rattle.chart.proofs.Accepted.{accepted, each_step, never_both, same_shape}
use Rattle.sheet.proofs.Meaning.{TargetsBelow}
use Rattle.words.specs.Words.{member, word_of}
use Rattle.words.proofs.Words.{word_lt, word_member, no_member, none_member}
use Rattle.nearness.specs.Relation.{Relation, Near}
use Rattle.nearness.specs.Bisimulation.{Bisimilar}
use Rattle.nearness.proofs.Bisimulation.{bisimilar_iff}
use Rattle.nearness.proofs.Formulas.{near_refl}
use Rattle.nearness.proofs.Rounds.{near_rounds, equal_iff}
use Rattle.relation.specs.Settles.{Settles}
use Rattle.relation.specs.declared.Settled.{Settled}
use Rattle.relation.proofs.Keeping.{within_states}
use Rattle.equal.specs.Working.{EqualWords}
use Rattle.equal.specs.Promise.{TellsEqual, pairs_in, EqualRows, RowsPromise, HowMany, PairsPromise, RowsRefusedExactly, PairsRefusedExactly, RowsDetermined, PairsDetermined, SixtyFourWords, SetWhereMarkZero, CountOfBits, AtLeastN, NExactly}
use Rattle.equal.proofs.Counting.{diagonal, diagonal_count, count_more, same_bits}
use Rattle.std.specs.Prelude.{Result, Ok, Err}

-- ---- what the rounds find

targets : (chart : List ℕ) (sh : Shape) → read_chart chart ≡ Ok sh → TargetsBelow sh.n (chart_in chart sh).steps
targets chart sh read u i = (each_step chart sh read u i).target_in

pub settled_equal : (chart : List ℕ) (sh : Shape) → read_chart chart ≡ Ok sh → (s : Settled) → Settles sh.n (Near (chart_in chart sh).steps) s → EqualWords sh.n (chart_in chart sh).steps s.rows
settled_equal chart sh read s h =
    record {
      within = h.rows_hold.within;
      tells = λ p q i j. rw (h.rows_hold.bits p q i j) (bisimilar_iff sh.n (chart_in chart sh).steps (targets chart sh read) p q i j s.rounds h.rounds_are.0);
    }

-- ---- two tests that tell the equal pairs agree on the pairs of states

module _ (n : ℕ) (steps : List Step) where
  tell_alike : (P Q : Relation) → TellsEqual n steps P → TellsEqual n steps Q → (p q : ℕ) → p < n → q < n → P (p, q) ≡ Q (p, q)
  tell_alike P Q f g p q i j = ext (λ t. (g p q i j).1 ((f p q i j).0 t)) (λ t. (f p q i j).1 ((g p q i j).0 t))

  pub how_many : (P : Relation) → TellsEqual n steps P → HowMany n steps (count P (pairs n))
  how_many P f Q g = count_cong P Q (pairs n) (λ x m. let b = pairs_e_lem n x m in tell_alike P Q f g x.0 x.1 b.0 b.1)

  -- the words stand in the lent array, where 64 are lent
  pub words_equal : {words old : List ℕ} → EqualWords n steps words → length words ≡ 64 → length old ≡ 64 → EqualRows n steps old words
  words_equal {words} {old} w size lent =
      record {
        bit_exactly = λ p q few room. (
          λ t. (let s = within_states w.within p q t in (s.0, s.1, (w.tells p q s.0 s.1).0 t)),
          λ b. (w.tells p q b.0 b.1).1 b.2,
        );
        later_words_stay = λ p l. get_or-eq_default words 0 (omega arith) ∙ sym (get_or-eq_default old 0 (omega arith));
        length_stays = size ∙ sym lent;
      }

  -- a word is determined by what is said of its bits
  equal_rows_same : {old a b : List ℕ} → EqualRows n steps old a → EqualRows n steps old b → a ≡ b
  equal_rows_same {old} {a} {b} f g = ext_get_or 0 a b (f.length_stays ∙ sym g.length_stays) (λ p i. elim (dec_le 64 p) [
    | yes l ↦ f.later_words_stay p l ∙ sym (g.later_words_stay p l)
    | no k ↦ (let few : p < 64 = omega arith in
        let room : p < length old = omega (arith, f.length_stays) in
        same_bits _ _ (λ q. ext (λ t. (g.bit_exactly p q few room).1 ((f.bit_exactly p q few room).0 t)) (λ t. (f.bit_exactly p q few room).1 ((g.bit_exactly p q few room).0 t))))
  ])

-- ---- the promises in each case

pub rows_refused : (chart old : List ℕ) (r : Refusal) → read_chart chart ≡ Err r → RowsPromise chart old old (Err r)
rows_refused chart old r e =
    record {
      chart_refused = λ s f. let z : r ≡ s = cc in ap Err z;
      then_answered = λ sh f. never_both f e;
      refusal_leaves_all = λ s f. refl;
    }

pub pairs_refused : (chart : List ℕ) (r : Refusal) → read_chart chart ≡ Err r → PairsPromise chart (Err r)
pairs_refused chart r e =
    record {
      chart_refused = λ s f. let z : r ≡ s = cc in ap Err z;
      then_answered = λ sh f. never_both f e;
    }

module _ (chart : List ℕ) (sh : Shape) (read : read_chart chart ≡ Ok sh) where
  pub rows_answered : {old new : List ℕ} → EqualRows sh.n (chart_in chart sh).steps old new → RowsPromise chart old new (Ok sh.n)
  rows_answered {old} {new} w =
      record {
        chart_refused = λ r f. never_both read f;
        then_answered = λ u f. subst (λ (x : Shape). ◌≡◌ {A = Result ℕ Refusal} (Ok sh.n) (Ok x.n) × EqualRows x.n (chart_in chart x).steps old new) (same_shape read f) (refl, w);
        refusal_leaves_all = λ r f. (let z : ◌≡◌ {A = ℕ} 0 1 = cc in absurd (omega arith));
      }

  pub pairs_answered : {c : ℕ} → HowMany sh.n (chart_in chart sh).steps c → PairsPromise chart (Ok c)
  pairs_answered {c} h =
      record {
        chart_refused = λ r f. never_both read f;
        then_answered = λ u f. (c, refl, subst (λ (x : Shape). HowMany x.n (chart_in chart x).steps c) (same_shape read f) h);
      }

-- ---- refused as the reader refuses, and no choice

pub rows_refused_exactly : RowsRefusedExactly
rows_refused_exactly chart old new answer w r = (go (read_chart chart) refl, w.chart_refused r)
  where
    go : (x : Result Shape Refusal) → read_chart chart ≡ x → answer ≡ Err r → read_chart chart ≡ Err r
    go (Err s) e f = let a : answer ≡ Err s = w.chart_refused s e in cc
    go (Ok sh) e f = let a : answer ≡ Ok sh.n = (w.then_answered sh e).0 in let z : ◌≡◌ {A = ℕ} 0 1 = cc in absurd (omega arith)

pub pairs_refused_exactly : PairsRefusedExactly
pairs_refused_exactly chart answer w r = (go (read_chart chart) refl, w.chart_refused r)
  where
    go : (x : Result Shape Refusal) → read_chart chart ≡ x → answer ≡ Err r → read_chart chart ≡ Err r
    go (Err s) e f = let a : answer ≡ Err s = w.chart_refused s e in cc
    go (Ok sh) e f = let g = w.then_answered sh e in let a : answer ≡ Ok g.0 = g.1 in let z : ◌≡◌ {A = ℕ} 0 1 = cc in absurd (omega arith)

pub rows_determined : RowsDetermined
rows_determined chart old a b s t w z = go (read_chart chart) refl
  where
    go : (x : Result Shape Refusal) → read_chart chart ≡ x → (s ≡ t) × (a ≡ b)
    go (Err r) e =
        let f = w.chart_refused r e in
        let g = z.chart_refused r e in
        (f ∙ sym g, w.refusal_leaves_all r f ∙ sym (z.refusal_leaves_all r g))
    go (Ok sh) e =
        let f = w.then_answered sh e in
        let g = z.then_answered sh e in
        (f.0 ∙ sym g.0, equal_rows_same sh.n (chart_in chart sh).steps f.1 g.1)

-- every chart has a test that tells its equal states: the relation where the rounds settle
module _ (chart : List ℕ) (sh : Shape) (read : read_chart chart ≡ Ok sh) where
  abbrev steps : List Step
  steps = (chart_in chart sh).steps

  settled_round : (k : ℕ) × (k ≤ sh.n - 1) × Rounds (pairs sh.n) (Near steps) k
  settled_round = near_rounds sh.n steps (accepted chart sh read).states_some

  settled_tells : TellsEqual sh.n steps (Near steps settled_round.0)
  settled_tells p q i j = bisimilar_iff sh.n steps (targets chart sh read) p q i j settled_round.0 settled_round.2.0

  -- each state is equal to itself
  diagonal_inside : Inside (pairs sh.n) diagonal (Near steps settled_round.0)
  diagonal_inside x m t = subst (λ (q : ℕ). So (Near steps settled_round.0 (x.0, q))) (eqb-true _ _ t) (near_refl steps _ x.0)

  counted : (c : ℕ) → PairsPromise chart (Ok c) → HowMany sh.n steps c
  counted c w = let g = w.then_answered sh read in let e : g.0 ≡ c = cc in subst (HowMany sh.n steps) e g.2

  counted_settled : (c : ℕ) → PairsPromise chart (Ok c) → c ≡ count (Near steps settled_round.0) (pairs sh.n)
  counted_settled c w = counted c w _ settled_tells

pub pairs_determined : PairsDetermined
pairs_determined chart s t w z = go (read_chart chart) refl
  where
    go : (x : Result Shape Refusal) → read_chart chart ≡ x → s ≡ t
    go (Err r) e = w.chart_refused r e ∙ sym (z.chart_refused r e)
    go (Ok sh) e =
        let f = w.then_answered sh e in
        let g = z.then_answered sh e in
        let R : Relation = Near (chart_in chart sh).steps (settled_round chart sh e).0 in
        let tells = settled_tells chart sh e in
        f.1 ∙ ap Ok (f.2 R tells ∙ sym (g.2 R tells)) ∙ sym g.1

-- ---- the words

module _ (chart : List ℕ) (sh : Shape) (read : read_chart chart ≡ Ok sh) (old new : List ℕ) (answer : Result ℕ Refusal) (lent : length old ≡ 64) (w : RowsPromise chart old new answer) where
  rows_tell : TellsEqual sh.n (chart_in chart sh).steps (pairs_in new)
  rows_tell p q i j =
      let few = (accepted chart sh read).states_few in
      let b = (w.then_answered sh read).1.bit_exactly p q (omega arith) (omega arith) in
      (λ t. (b.0 t).2, λ e. b.1 (i, j, e))

pub sixty_four_words : SixtyFourWords
sixty_four_words chart sh read old new answer lent w P tells = (size, rows, none)
  where
    E : EqualRows sh.n (chart_in chart sh).steps old new
    E = (w.then_answered sh read).1

    few : sh.n ≤ 64
    few = (accepted chart sh read).states_few

    size : length new ≡ 64
    size = E.length_stays ∙ lent

    rows : (p : ℕ) → p < sh.n → get_or new p 0 ≡ word_of sh.n (λ q. P (p, q))
    rows p i = same_bits _ _ (λ q. elim (dec_le sh.n q) [
      | yes l ↦ ext (λ t. (let b = (E.bit_exactly p q (omega (arith, few)) (omega (arith, few))).0 t in absurd (omega (arith, b.1)))) (λ t. never (sym (no_member sh.n _ q (word_lt sh.n _) l) ∙ t))
      | no f ↦ (let j : q < sh.n = omega arith in tell_alike sh.n (chart_in chart sh).steps (pairs_in new) P (rows_tell chart sh read old new answer lent w) tells p q i j ∙ sym (word_member sh.n q (λ y. P (p, y)) j))
    ])

    none : (p : ℕ) → sh.n ≤ p → get_or new p 0 ≡ 0
    none p l = elim (dec_le 64 p) [
      | yes h ↦ get_or-eq_default new 0 (omega (arith, size))
      | no f ↦ same_bits _ _ (λ q. ext (λ t. (let b = (E.bit_exactly p q (omega arith) (omega arith)).0 t in absurd (omega (arith, b.0)))) (λ t. never (sym (none_member q) ∙ t)))
    ]

pub set_where_mark_zero : SetWhereMarkZero
set_where_mark_zero chart sh read old new answer lent w p q i j =
    let b = rows_tell chart sh read old new answer lent w p q i j in
    let e = equal_iff sh.n (chart_in chart sh).steps (targets chart sh read) p q i j in
    (λ t. e.1 (b.0 t), λ m. b.1 (e.0 m))

-- ---- the pairs

pub count_of_bits : CountOfBits
count_of_bits chart sh read old new answer lent w c v = counted chart sh read c v (pairs_in new) (rows_tell chart sh read old new answer lent w)

pub at_least_n : AtLeastN
at_least_n chart sh read c w = omega (arith, counted_settled chart sh read c w, diagonal_count sh.n, count_inside diagonal _ (pairs sh.n) (diagonal_inside chart sh read))

pub n_exactly : NExactly
n_exactly chart sh read c w = (alone, exactly)
  where
    R : Relation
    R = Near (chart_in chart sh).steps (settled_round chart sh read).0

    alone : c ≡ sh.n → (p q : ℕ) → p < sh.n → q < sh.n → Bisimilar (chart_in chart sh).steps p q → p ≡ q
    alone e p q i j b = eqb-true p q (stable _ (λ f. omega (arith, counted_settled chart sh read c w, diagonal_count sh.n, count_more diagonal R (pairs_i sh.n p q i j) (diagonal_inside chart sh read) ((settled_tells chart sh read p q i j).1 b) f)))

    exactly : ((p q : ℕ) → p < sh.n → q < sh.n → Bisimilar (chart_in chart sh).steps p q → p ≡ q) → c ≡ sh.n
    exactly f = counted_settled chart sh read c w ∙ count_cong R diagonal (pairs sh.n) (λ x m. ext
        (λ t. (let b = pairs_e_lem sh.n x m in eq-eqb _ _ (f x.0 x.1 b.0 b.1 ((settled_tells chart sh read x.0 x.1 b.0 b.1).0 t))))
        (diagonal_inside chart sh read x m)) ∙ diagonal_count sh.n
