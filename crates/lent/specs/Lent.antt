-- Bytes in a lent buffer, other than the two matrices, and what the answer says of them.
use Rattle.std.specs.Prelude.{◌≡◌, List, ◌++◌, ℕ, ltb, length, drop}
use Rattle.settle.specs.Test.{pick}
use Rattle.refusal.specs.Refusal.{lent_refusal}
use Rattle.refusal.specs.declared.Refusal.{Refusal}
use Rattle.std.specs.Prelude.{Result, Ok, Err}

-- what a question has for the buffer: the bytes to be written, or the refusal
pub data Outcome : Type 0 where
  writes : List ℕ → Outcome
  refuses : Refusal → Outcome

-- the length written; 14 exactly if the buffer is shorter
abbrev pub answer_of : List ℕ → Outcome → Result ℕ Refusal
answer_of old (writes bytes) = pick (ltb (length old) (length bytes)) (Err (lent_refusal 14)) (Ok (length bytes))
answer_of old (refuses r) = Err r

-- the bytes fill the buffer's start and later bytes stay; a refusal leaves every byte
abbrev pub bytes_of : List ℕ → Outcome → List ℕ
bytes_of old (writes bytes) = pick (ltb (length old) (length bytes)) old (bytes ++ drop (length bytes) old)
bytes_of old (refuses r) = old

-- 'Whatever else is written to a lent buffer, now or by a later request, also fills its start; later bytes stay, the length written stands in the
-- answer, and 14 is given exactly when the buffer is shorter than that length.' old is the buffer before the call, new after
pub record LentPromise (outcome : Outcome) (old new : List ℕ) (answer : Result ℕ Refusal) : Type 0 where
  pub answered : answer ≡ answer_of old outcome
  pub bytes : new ≡ bytes_of old outcome
