-- The rounds, on words: what one application gives, and when it changes nothing.
use Prim.Native.Nat.{ℕ, zero, suc, ◌+◌, ◌-◌, ◌<◌, ◌≤◌, ◌^◌}
use mathlib.Core.Path.{◌≡◌, refl, ap, sym, ◌∙◌}
use mathlib.Core.Bool.{Bool}
use mathlib.Core.List.{List}
use native.Mathlib.Omega.{arith}
use Rattle.steps.proofs.Filling.{table_few}
use native.Mathlib.Numerals.{add-one}
use lib.ListN.{length}
use borrow.Author.Count.{below_more}
use borrow.Author.Tests.{ne_eqb, le-ltb}
use Rattle.settle.specs.Finite.{below}
use Rattle.settle.specs.Chain.{Same, empty, full, chain, Settled, Rounds}
use Rattle.settle.proofs.Finite.{below_e, below_i}
use Rattle.chart.specs.Chart.{Step}
use Rattle.chart.specs.Reading.{chart_in, read_chart}
use Rattle.std.specs.Prelude.{Ok}
use Rattle.chart.specs.declared.Shape.{Shape}
use Rattle.chart.proofs.Accepted.{accepted, each_step}
use Rattle.sheet.specs.Formula.{Formula}
use Rattle.sheet.specs.Meaning.{holds}
use Rattle.sheet.specs.Reading.{parse}
use Rattle.sheet.proofs.Meaning.{TargetsBelow, holds_same}
use Rattle.words.specs.Words.{word_of, member, Size}
use Rattle.words.proofs.Words.{word_none, all_word, word_cong, word_member, word_small}
use Rattle.steps.specs.Table.{Table}
use Rattle.evaluate.specs.Evaluating.{table_word, memo_at, Remembers, SameRows, formula_of}
use Rattle.evaluate.proofs.Modal.{table_holds}
use Rattle.evaluate.proofs.Rows.{read_labels, word_same}
use Rattle.evaluate.proofs.Stepped.{remembers_none}
use Rattle.solve.specs.Solving.{application, first_set, Reached}
use Rattle.sheet.specs.Kinds.{kind_number, kind_of}

pub empty_word : (n : ℕ) → 0 ≡ word_of n empty
unfolding empty
empty_word n = sym (word_none n)

pub full_word : (n : ℕ) → 2 ^ n - 1 ≡ word_of n full
unfolding full
full_word n = sym (all_word n)

-- a byte and the kind that it stands for ask for the same end
pub same_end : (byte : ℕ) → first_set (kind_number (kind_of byte)) ≡ first_set byte
same_end zero = refl
same_end (suc zero) = refl
same_end (suc (suc byte)) = rw (ne_eqb (suc (suc byte)) 0 (λ e. omega arith), ne_eqb (suc (suc byte)) 1 (λ e. omega arith), le-ltb (suc (suc byte)) 2 (omega arith))

-- ---- by the table of the chart's steps

pub states_few : (s : List ℕ) (sh : Shape) → read_chart s ≡ Ok sh → sh.n ≤ 64
states_few s sh e = (accepted s sh e).states_few

pub actions_few : (s : List ℕ) (sh : Shape) → read_chart s ≡ Ok sh → sh.m ≤ 32
actions_few s sh e = (accepted s sh e).actions_few

-- 33 rows of 64 words and two words for each of 402 places are enough
pub work_few : (s : List ℕ) (sh : Shape) (b : List ℕ) → read_chart s ≡ Ok sh → length b ≤ 402 → memo_at sh.n sh.m (length b) ≤ 2916
work_few s sh b e short = omega (arith, table_few s sh e)

module _ (s : List ℕ) (sh : Shape) (b : List ℕ) (nodes : ℕ) (made : List ℕ) (e : read_chart s ≡ Ok sh) (T : Table sh.n sh.m (chart_in s sh).steps made) where
  -- the table as it was made, with nothing remembered yet
  pub made_remembers : memo_at sh.n sh.m (length b) ≤ length made → Remembers sh.n sh.m b made
  made_remembers size = remembers_none sh.n sh.m b made
      (record { states_few = (accepted s sh e).states_few; actions_few = (accepted s sh e).actions_few; room = T.room; no_bit_above = T.no_bit_above }) size T.none_after

  -- the word of the formula is that of one application, as long as the rows are what they were
  pub table_application : (work : List ℕ) → SameRows sh.n sh.m made work → (set : ℕ) → set < 2 ^ sh.n
      → table_word work sh.n (formula_of (parse nodes b sh.m 3 nodes)) set ≡ word_of sh.n (application s sh b nodes (member set))
  table_application work same set small =
      let read = parse nodes b sh.m 3 nodes in
      let labels = read_labels b sh.m 3 nodes in
      word_same sh.n sh.m made work same (formula_of read) labels set small
      ∙ table_holds sh.n sh.m (accepted s sh e).states_few (chart_in s sh).steps (λ u i. (each_step s sh e u i).target_in) (λ u i. (each_step s sh e u i).action_in) made T (formula_of read) labels set small

-- ---- the rounds

-- the words of two tests are equal exactly where the tests are
same_word : (n : ℕ) (P Q : ℕ → Bool) → word_of n P ≡ word_of n Q → Same (below n) P Q
same_word n P Q e x i = let h = below_e n x i in sym (word_member n x P h) ∙ ap (λ (w : ℕ). member w x) e ∙ word_member n x Q h

same_tests : (n : ℕ) (P Q : ℕ → Bool) → Same (below n) P Q → word_of n P ≡ word_of n Q
same_tests n P Q e = word_cong n P Q (λ x h. e x (below_i n x h))

-- the loop, after so many rounds: none of the rounds before was settled
pub record Rounding (n : ℕ) (F : (ℕ → Bool) → ℕ → Bool) (S : ℕ → Bool) (set rounds : ℕ) : Type 0 where
  pub set_is : set ≡ word_of n (chain F S rounds)
  pub unsettled : (j : ℕ) → j < rounds → Settled (below n) (chain F S) j → ⊥

module _ (n m : ℕ) (steps : List Step) (targets : TargetsBelow n steps) (f : Formula) (S : ℕ → Bool) where
  pub started : (set : ℕ) → set ≡ word_of n S → Rounding n (holds m steps f) S set 0
  unfolding chain
  started set e = record { set_is = e; unsettled = λ j l. absurd (omega arith) }

  -- one application more
  module _ (set next rounds : ℕ) (R : Rounding n (holds m steps f) S set rounds) (e : next ≡ word_of n (holds m steps f (member set))) where
    next_is : next ≡ word_of n (chain (holds m steps f) S (suc rounds))
    unfolding chain
    next_is = e ∙ word_cong n _ _ (holds_same m n steps targets f _ _ (λ x h. ap (λ (w : ℕ). member w x) R.set_is ∙ word_member n x _ h))

    -- where the next set is the same, the rounds are the least
    pub settled_rounds : next ≡ set → Rounds (below n) (chain (holds m steps f) S) rounds
    settled_rounds same = (same_word n _ _ (sym R.set_is ∙ sym same ∙ next_is), R.unsettled)

    -- where it is not, this one was not settled either
    pub one_more : (next ≡ set → ⊥) → Rounding n (holds m steps f) S next (rounds + 1)
    one_more ne = record {
      set_is = rw (add-one rounds) next_is;
      unsettled = below_more (λ j. Settled (below n) (chain (holds m steps f) S) j → ⊥) rounds R.unsettled (λ s. ne (next_is ∙ sym (same_tests n _ _ s) ∙ sym R.set_is));
    }

-- ---- the rounds of a sheet's formula, as the loop goes through them

-- after so many rounds: the rows of the words are those of the table that was made
pub record Going (s : List ℕ) (sh : Shape) (b : List ℕ) (nodes : ℕ) (S : ℕ → Bool) (work : List ℕ) (set rounds : ℕ) : Type 0 where
  pub read : read_chart s ≡ Ok sh
  pub made : List ℕ
  pub table : Table sh.n sh.m (chart_in s sh).steps made
  pub rows : SameRows sh.n sh.m made work
  pub rounding : Rounding sh.n (application s sh b nodes) S set rounds

module _ (s : List ℕ) (sh : Shape) (b : List ℕ) (nodes : ℕ) (S : ℕ → Bool) where
  abbrev asked : Formula
  asked = formula_of (parse nodes b sh.m 3 nodes)

  targets_in : read_chart s ≡ Ok sh → TargetsBelow sh.n (chart_in s sh).steps
  targets_in e u i = (each_step s sh e u i).target_in

  pub going_started : (made : List ℕ) (set : ℕ) → read_chart s ≡ Ok sh → Table sh.n sh.m (chart_in s sh).steps made → set ≡ word_of sh.n S
      → Going s sh b nodes S made set 0
  going_started made set e T h = record {
    read = e;
    made = made;
    table = T;
    rows = λ e l. refl;
    rounding = started sh.n sh.m (chart_in s sh).steps (targets_in e) asked S set h;
  }

  module _ (work : List ℕ) (set next rounds : ℕ) (G : Going s sh b nodes S work set rounds) (h : next ≡ table_word work sh.n (formula_of (parse nodes b sh.m 3 nodes)) set) where
    next_word : next ≡ word_of sh.n (application s sh b nodes (member set))
    next_word = h ∙ table_application s sh b nodes G.made G.read G.table work G.rows set (word_small sh.n set _ G.rounding.set_is)

    pub going_settled : (count : ℕ) → Size set count → rounds ≤ 4096 → next ≡ set → Reached sh.n (application s sh b nodes) S (record { word = set; count = count; rounds = rounds })
    going_settled count size few same = record {
      word_is = G.rounding.set_is;
      count_is = size _ _ G.rounding.set_is;
      rounds_are = settled_rounds sh.n sh.m (chart_in s sh).steps (targets_in G.read) asked S set next rounds G.rounding next_word same;
      rounds_few = few;
    }

    pub going_on : (after : List ℕ) → SameRows sh.n sh.m work after → (next ≡ set → ⊥) → Going s sh b nodes S after next (rounds + 1)
    going_on after same ne = record {
      read = G.read;
      made = G.made;
      table = G.table;
      rows = λ e l. same e l ∙ G.rows e l;
      rounding = one_more sh.n sh.m (chart_in s sh).steps (targets_in G.read) asked S set next rounds G.rounding next_word ne;
    }

-- how the rounds go on
pub ruleset by_rounds = (states_few, word_small, made_remembers, going_started, going_settled, going_on)
