-- Text as bytes: a number in decimal, a line of numbers, and a text in a lent buffer.
use Rattle.std.specs.Prelude.{ℕ, zero, suc, ◌+◌, ◌-◌, ◌*◌, ◌/◌, ◌%◌, ◌≡◌, List, [], ◌∷◌, ◌++◌, ◌≤◌, length, take, drop, ltb, leb}
use Rattle.settle.specs.Test.{pick}
use Rattle.text.specs.declared.Page.{Page}

-- the digits of x, the most significant first and no leading zero, where '0' is 48: those of its tenth, and then its last. The first argument
-- bounds how many there are
unfoldable pub digits : ℕ → ℕ → List ℕ
digits zero x = []
digits (suc most) x = pick (ltb x 10) ((48 + x) ∷ []) (digits most (x / 10) ++ ((48 + x % 10) ∷ []))

-- x in decimal: it has at most x + 1 digits
unfoldable pub decimal : ℕ → List ℕ
decimal x = digits (suc x) x

-- the number that digits stand for, after those that stand for `so`
unfoldable pub read_on : ℕ → List ℕ → ℕ
read_on so [] = so
read_on so (digit ∷ rest) = read_on (10 * so + (digit - 48)) rest

-- numbers separated by a space (32) and ended by a line feed (10)
unfoldable pub line : List ℕ → List ℕ
line [] = 10 ∷ []
line (x ∷ []) = decimal x ++ (10 ∷ [])
line (x ∷ (y ∷ rest)) = decimal x ++ (32 ∷ line (y ∷ rest))

-- ---- a text in a lent buffer

-- the buffer with the text from a place on
unfoldable pub placed : List ℕ → ℕ → List ℕ → List ℕ
placed buffer at text = take at buffer ++ text ++ drop (at + length text) buffer

-- where the text does not fit, the buffer stays and so does the place
unfoldable pub buffer_after : List ℕ → ℕ → List ℕ → List ℕ
buffer_after buffer at text = pick (leb (at + length text) (length buffer)) (placed buffer at text) buffer

unfoldable pub place_after : List ℕ → ℕ → List ℕ → ℕ
place_after buffer at text = pick (leb (at + length text) (length buffer)) (at + length text) at

-- what a function that puts a text at a place promises: the place it answers, and the buffer that it leaves
pub record PutPromise (old : List ℕ) (at : ℕ) (text : List ℕ) (after : ℕ) (new : List ℕ) : Type 0 where
  pub place : after ≡ place_after old at text
  pub bytes : new ≡ buffer_after old at text

-- ---- a text put on a page, after what was put before

-- the page is of the same buffer, and what the promise says of its bytes and its place
pub record Puts (old : Page) (text : List ℕ) (new : Page) : Type 0 where
  pub same_buffer : new.bytes.ghost_name ≡ old.bytes.ghost_name
  pub length_stays : length new.bytes.now ≡ length old.bytes.now
  pub promise : PutPromise old.bytes.now old.at text new.at new.bytes.now

-- the text fits
abbrev pub HasRoom : Page → List ℕ → Type 0
HasRoom page text = page.at + length text ≤ length page.bytes.now

-- a text that fits stands there, and the next goes after it
pub record Added (old : Page) (text : List ℕ) (new : Page) : Type 0 where
  pub same_buffer : new.bytes.ghost_name ≡ old.bytes.ghost_name
  pub length_stays : length new.bytes.now ≡ length old.bytes.now
  pub place : new.at ≡ old.at + length text
  pub bytes : new.bytes.now ≡ placed old.bytes.now old.at text
