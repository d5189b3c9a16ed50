-- Judging one line further: the lines before it are good, and the words hold their pairs.
use Prim.Native.Nat.{ℕ, ◌+◌, ◌*◌, ◌≤◌, ◌<◌}
use mathlib.Core.Path.{◌≡◌, ap}
use mathlib.Core.Bool.{Bool, true, false}
use mathlib.Core.List.{List, ◌∷◌}
use native.Mathlib.Omega.{arith}
use native.Mathlib.Numerals.{add-one}
use lib.ListN.{length, get_or, set, replicate}
use Rattle.words.specs.Words.{With}
use Rattle.chart.specs.Chart.{Step}
use Rattle.ranges.specs.Sources.{Sorted, steps_by}
use Rattle.ranges.proofs.Ranges.{targets_below}
use Rattle.reason.specs.Line.{Line, line_at, lines_in}
use Rattle.reason.specs.Good.{Good}
use Rattle.check_reasons.specs.Judging.{Whether, Words, Passes}
use Rattle.check_reasons.proofs.Leads.{whether_so, whether_not}
use Rattle.check_reasons.specs.Promise.{FirstBad}
use Rattle.check_reasons.proofs.Rows.{words_none, words_more, passes_good, good_passes}

-- the first i lines are good, and the words hold their pairs
pub record GoodSo (n : ℕ) (steps : List Step) (list rows : List ℕ) (i : ℕ) : Type 0 where
  pub within : 5 * i ≤ length list
  pub words : Words (lines_in list i) rows
  pub good : Good n steps (lines_in list i)

lines_suc : (s : List ℕ) (i : ℕ) → lines_in s (i + 1) ≡ line_at s (5 * i) ∷ lines_in s i
unfolding lines_in
lines_suc s i = ap (lines_in s) (add-one i)

pub good_none : (n : ℕ) (steps : List Step) (list : List ℕ) → GoodSo n steps list (replicate 64 0) 0
unfolding lines_in Good
good_none n steps list = record { within = omega arith; words = words_none; good = tt }

module _ (bytes : List ℕ) (at n : ℕ) (first : List ℕ) (w : Sorted bytes at n first) (list rows : List ℕ) (i : ℕ) (s : GoodSo n (steps_by bytes at n first) list rows i) where
  abbrev steps : List Step
  steps = steps_by bytes at n first

  abbrev line : Line
  line = line_at list (5 * i)

  pub line_bad : (l : Line) → l ≡ line → (b : Bool) → Whether (Passes n steps rows l) b → b ≡ false → 5 * i < length list → FirstBad n steps list i
  line_bad l e b f z h =
      record {
        begun = h;
        earlier_good = s.good;
        bad = λ k g. whether_not b z f (rw e (good_passes n steps w.triples.few (targets_below bytes at _ n w.triples) (lines_in list i) rows s.words.holds line g));
      }

  pub line_good : (l : Line) → l ≡ line → (b : Bool) → Whether (Passes n steps rows l) b → b ≡ true → 5 * i + 5 ≤ length list → (r : ℕ) → With (get_or rows l.p 0) l.q r → GoodSo n steps list (set rows l.p r) (i + 1)
  unfolding Good
  line_good l e b f z h r m =
      let g : Passes n steps rows line = rw e at (whether_so b z f) in
      let k : With (get_or rows line.p 0) line.q r = rw e at m in
      rw e (record {
        within = omega arith;
        words = rw (lines_suc list i) (words_more (lines_in list i) rows line r s.words (omega (arith, g.p_in, w.triples.few)) (omega (arith, g.q_in, w.triples.few)) k);
        good = rw (lines_suc list i) (s.good, passes_good n steps w.triples.few (targets_below bytes at _ n w.triples) (lines_in list i) rows s.words.holds line g);
      })
