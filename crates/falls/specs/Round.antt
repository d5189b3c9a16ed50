-- A round of simulation on words, bit by bit. `into` is the table of the steps and `out` that of the steps turned back, n words a row.
use Rattle.std.specs.Prelude.{ℕ, ◌+◌, ◌-◌, ◌*◌, ◌^◌, ◌<◌, ◌≡◌, Bool, true, false, List, eqb, leb, get_or}
use Rattle.std.proofs.Math.Bool.{So}
use Rattle.std.specs.Int.Bits.{bit_and}
use Rattle.std.specs.Int.Count.{ones}
use Rattle.settle.specs.Test.{pick, both, neg, each}
use Rattle.settle.specs.Finite.{below}
use Rattle.words.specs.Words.{member}
use Rattle.steps.specs.Walk.{leads}

-- ---- who keeps a step into a row

-- no member in common
abbrev pub apart : ℕ → ℕ → Bool
apart v w = eqb (bit_and v w) 0

-- the set of q alone, or the empty set
abbrev pub one_if : Bool → ℕ → ℕ
one_if b q = pick b (2 ^ q) 0

-- more than one fell, and no fewer than are left
abbrev pub fewer_left : ℕ → ℕ → Bool
fewer_left row gone = pick (eqb (bit_and gone (gone - 1)) 0) false (leb (ones row) (ones gone))

-- by the rows that begin at base: q has a step to what is left of the row; or it is not so that it had one to what fell and has none to what is left
unfoldable pub keeps_step : Bool → List ℕ → List ℕ → ℕ → ℕ → ℕ → ℕ → Bool
keeps_step true into out base row gone q = leads into base row q
keeps_step false into out base row gone q = neg (both (leads into base gone q) (apart (get_or out (base + q) 0) row))

-- by each action by which p has a step to x, q keeps a step into x's row
abbrev pub survives : List ℕ → List ℕ → ℕ → ℕ → ℕ → ℕ → ℕ → ℕ → ℕ → Bool
survives into out n m x row gone p q =
    each (λ a. member (get_or into ((a + 1) * n + x) 0) p) (λ a. keeps_step (fewer_left row gone) into out ((a + 1) * n) row gone q) (below m)

-- and that of every x whose row became smaller
abbrev pub outlasts : List ℕ → List ℕ → ℕ → ℕ → List ℕ → List ℕ → ℕ → ℕ → ℕ → Bool
outlasts into out n m near fell changed p q = each (member changed) (λ x. survives into out n m x (get_or near x 0) (get_or fell x 0) p q) (below 64)

-- q is able to each action that p is able to
abbrev pub able_too : List ℕ → ℕ → ℕ → ℕ → ℕ → Bool
able_too into n m p q = each (λ a. leads into ((a + 1) * n) (2 ^ n - 1) p) (λ a. leads into ((a + 1) * n) (2 ^ n - 1) q) (below m)

-- ---- what a round notes for the next

-- what row p of near has and row p of next has not; all is the word of all states
abbrev pub fallen : ℕ → List ℕ → List ℕ → ℕ → ℕ
fallen all near next p = bit_and (get_or near p 0) (all - get_or next p 0)

abbrev pub smaller : ℕ → List ℕ → List ℕ → ℕ → Bool
smaller all near next p = neg (eqb (fallen all near next p) 0)

-- of the states that pass, those are in `changed` from whose rows something fell, and it is noted; old and new are the notes before and after
pub record Noted (n : ℕ) (among : ℕ → Bool) (near next old new : List ℕ) (changed : ℕ) : Type 0 where
  pub rows_changed : (p : ℕ) → member changed p ≡ both (among p) (smaller (2 ^ n - 1) near next p)
  pub fell_noted : (p : ℕ) → get_or new p 0 ≡ pick (member changed p) (fallen (2 ^ n - 1) near next p) (get_or old p 0)

-- the states are below n, and something below n is noted for each
abbrev pub Fallen : ℕ → List ℕ → ℕ → Type 0
Fallen n fell changed = (x : ℕ) → So (member changed x) → (x < n) × (0 < get_or fell x 0) × (get_or fell x 0 < 2 ^ n)
