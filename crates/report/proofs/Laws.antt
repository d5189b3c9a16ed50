-- The text a step at a time, in the code's terms.
use Prim.Native.Nat.{ℕ, ◌+◌, ◌-◌, ◌<◌, ◌≤◌}
use mathlib.Core.Path.{◌≡◌, refl, ap, sym, ◌∙◌}
use mathlib.Core.List.{List, [], ◌∷◌, ◌++◌, append_assoc}
use native.Mathlib.Omega.{arith}
use native.Mathlib.Nat.{le_refl}
use native.Mathlib.Numerals.{add-one}
use native.Mathlib.Decide.{le_ind}
use borrow.Author.Tests.{eq-eqb, ne_eqb}
use lib.ListN.{length, length-append}
use Rattle.refusal.specs.Refusal.{input_number}
use Rattle.refusal.specs.declared.Refusal.{Refusal}
use Rattle.text.specs.Text.{decimal, line, HasRoom, Added, Puts}
use Rattle.text.specs.declared.Page.{Page}
use Rattle.text.proofs.Pieces.{puts_added, room_first, room_next, added_then, puts_next}
use Rattle.report.specs.Text.{states_word, rounds_word, refused_word, refused_text, pair_text, row_text, rows_text, chart_text}

-- a word, a number and a line feed
pub count_text : (word : List ℕ) (x : ℕ) → (word ++ decimal x) ++ (10 ∷ []) ≡ word ++ line (x ∷ [])
unfolding line
count_text word x = rw append_assoc

pub count_length : (word : List ℕ) (x : ℕ) → length (word ++ line (x ∷ [])) ≡ length word + length (decimal x) + 1
count_length word x = ap length (sym (count_text word x)) ∙ simp length-append

-- a word, an input, a space, and the number, the place and the byte
pub refused_text_lem : (r : Refusal) → ((refused_word ++ decimal (input_number r.input)) ++ (32 ∷ [])) ++ line (r.number ∷ r.place ∷ r.byte ∷ []) ≡ refused_text r
unfolding refused_text line
refused_text_lem r = simp append_assoc

pub refused_length : (r : Refusal) → length (refused_text r) ≡ length refused_word + length (decimal (input_number r.input)) + 1 + length (line (r.number ∷ r.place ∷ r.byte ∷ []))
refused_length r = ap length (sym (refused_text_lem r)) ∙ simp length-append

pub pair_equal : (p q mark : ℕ) → mark ≡ 0 → pair_text p q mark ≡ []
unfolding pair_text
pair_equal p q mark e = rw (eq-eqb _ _ e)

pub pair_apart : (p q mark : ℕ) → (mark ≡ 0 → ⊥) → pair_text p q mark ≡ line (p ∷ q ∷ mark ∷ [])
unfolding pair_text
pair_apart p q mark f = rw (ne_eqb _ _ f)

module _ (mark : ℕ → ℕ → ℕ) where
  module _ (p : ℕ) where
    pub row_none : row_text mark p 0 ≡ []
    unfolding row_text
    row_none = refl

    pub row_step : (k : ℕ) → row_text mark p (k + 1) ≡ row_text mark p k ++ pair_text p (p + 1 + k) (mark p (p + 1 + k))
    unfolding row_text
    row_step k = rw (add-one k)

    pub row_longer : (k : ℕ) → length (row_text mark p (k + 1)) ≡ length (row_text mark p k) + length (pair_text p (p + 1 + k) (mark p (p + 1 + k)))
    row_longer k = ap length (row_step k) ∙ length-append (row_text mark p k) _

    pub row_within : (k j : ℕ) → k ≤ j → length (row_text mark p k) ≤ length (row_text mark p j)
    row_within k = le_ind (λ j. length (row_text mark p k) ≤ length (row_text mark p j)) (le_refl _) (λ j h l. rw (← add-one j) (omega (arith, row_longer j)))

  module _ (n : ℕ) where
    pub rows_none : rows_text mark n 0 ≡ []
    unfolding rows_text
    rows_none = refl

    pub rows_step : (k : ℕ) → rows_text mark n (k + 1) ≡ rows_text mark n k ++ row_text mark k (n - 1 - k)
    unfolding rows_text
    rows_step k = rw (add-one k)

    pub rows_longer : (k : ℕ) → length (rows_text mark n (k + 1)) ≡ length (rows_text mark n k) + length (row_text mark k (n - 1 - k))
    rows_longer k = ap length (rows_step k) ∙ length-append (rows_text mark n k) _

    pub rows_within : (k j : ℕ) → k ≤ j → length (rows_text mark n k) ≤ length (rows_text mark n j)
    rows_within k = le_ind (λ j. length (rows_text mark n k) ≤ length (rows_text mark n j)) (le_refl _) (λ j h l. rw (← add-one j) (omega (arith, rows_longer j)))

pub chart_length : (n rounds : ℕ) (mark : ℕ → ℕ → ℕ) → length (chart_text n rounds mark)
    ≡ length (states_word ++ line (n ∷ [])) + length (rounds_word ++ line (rounds ∷ [])) + length (rows_text mark n n)
unfolding chart_text
chart_length n rounds mark =
    let first = states_word ++ line (n ∷ []) in
    let second = rounds_word ++ line (rounds ∷ []) in
    length-append (first ++ second) (rows_text mark n n) ∙ ap (λ (k : ℕ). k + length (rows_text mark n n)) (length-append first second)

-- ---- on a page

-- a word, a number and a line feed
pub count_added : (p₀ p₁ p₂ p₃ : Page) (word : List ℕ) (x : ℕ) → HasRoom p₀ (word ++ line (x ∷ [])) → Puts p₀ word p₁ → Puts p₁ (decimal x) p₂ → Puts p₂ (10 ∷ []) p₃
    → Added p₀ (word ++ line (x ∷ [])) p₃
count_added p₀ p₁ p₂ p₃ word x room q₁ q₂ q₃ =
    let all : HasRoom p₀ ((word ++ decimal x) ++ (10 ∷ [])) = omega (arith, ap length (count_text word x)) in
    let room₂ = room_first p₀ (word ++ decimal x) (10 ∷ []) all in
    let a₁ = puts_added p₀ word p₁ (room_first p₀ word (decimal x) room₂) q₁ in
    rw (← count_text word x) (puts_next p₀ (word ++ decimal x) (10 ∷ []) p₂ p₃ all (puts_next p₀ word (decimal x) p₁ p₂ room₂ a₁ q₂) q₃)

pub refused_added : (p₀ p₁ p₂ p₃ p₄ : Page) (r : Refusal) (input : ℕ) → input ≡ input_number r.input → HasRoom p₀ (refused_text r)
    → Puts p₀ refused_word p₁ → Puts p₁ (decimal input) p₂ → Puts p₂ (32 ∷ []) p₃ → Puts p₃ (line (r.number ∷ r.place ∷ r.byte ∷ [])) p₄ → Added p₀ (refused_text r) p₄
refused_added p₀ p₁ p₂ p₃ p₄ r input e room q₁ q₂ q₃ q₄ =
    let u : List ℕ = decimal (input_number r.input) in
    let v : List ℕ = line (r.number ∷ r.place ∷ r.byte ∷ []) in
    let second : Puts p₁ u p₂ = rw e at q₂ in
    let all : HasRoom p₀ (refused_word ++ u ++ (32 ∷ []) ++ v) = omega (arith, ap length (refused_text_lem r)) in
    let room₃ = room_first p₀ (refused_word ++ u ++ (32 ∷ [])) v all in
    let room₂ = room_first p₀ (refused_word ++ u) (32 ∷ []) room₃ in
    let a₁ = puts_added p₀ refused_word p₁ (room_first p₀ refused_word u room₂) q₁ in
    let a₂ = puts_next p₀ refused_word u p₁ p₂ room₂ a₁ second in
    let a₃ = puts_next p₀ (refused_word ++ u) (32 ∷ []) p₂ p₃ room₃ a₂ q₃ in
    rw (← refused_text_lem r) (puts_next p₀ (refused_word ++ u ++ (32 ∷ [])) v p₃ p₄ all a₃ q₄)

module _ (mark : ℕ → ℕ → ℕ) where
  -- the lines of p with the states above it, up to q
  module _ (p : ℕ) where
    pub row_start : row_text mark p (p + 1 - (p + 1)) ≡ []
    row_start = let e : p + 1 - (p + 1) ≡ 0 = omega arith in rw e (row_none mark p)

    row_next : (q : ℕ) → p < q → row_text mark p (q + 1 - (p + 1)) ≡ row_text mark p (q - (p + 1)) ++ pair_text p q (mark p q)
    row_next q h =
        let e : q + 1 - (p + 1) ≡ q - (p + 1) + 1 = omega arith in
        let f : p + 1 + (q - (p + 1)) ≡ q = omega arith in
        rw e (rw f at (row_step mark p (q - (p + 1))))

    module _ (n : ℕ) (start a : Page) (q : ℕ) (above : p < q) (below : q < n) (room : HasRoom start (row_text mark p (n - 1 - p))) (before : Added start (row_text mark p (q - (p + 1))) a) where
      row_room : HasRoom start (row_text mark p (q - (p + 1)) ++ pair_text p q (mark p q))
      row_room = omega (arith, ap length (row_next q above), row_within mark p (q + 1 - (p + 1)) (n - 1 - p) (omega arith))

      pub pair_room : HasRoom a (pair_text p q (mark p q))
      pair_room = room_next start (row_text mark p (q - (p + 1))) (pair_text p q (mark p q)) a row_room before

      pub row_added : (b : Page) → Added a (pair_text p q (mark p q)) b → Added start (row_text mark p (q + 1 - (p + 1))) b
      row_added b more = rw (row_next q above) (added_then start (row_text mark p (q - (p + 1))) (pair_text p q (mark p q)) a b row_room before more)

  -- the lines of the states below p
  module _ (n : ℕ) (start a : Page) (p : ℕ) (below : p < n) (room : HasRoom start (rows_text mark n n)) (before : Added start (rows_text mark n p) a) where
    rows_room : HasRoom start (rows_text mark n p ++ row_text mark p (n - 1 - p))
    rows_room = omega (arith, ap length (rows_step mark n p), rows_within mark n (p + 1) n (omega arith))

    pub row_in : HasRoom a (row_text mark p (n - 1 - p))
    row_in = room_next start (rows_text mark n p) (row_text mark p (n - 1 - p)) a rows_room before

    pub rows_added : (b : Page) → Added a (row_text mark p (n - 1 - p)) b → Added start (rows_text mark n (p + 1)) b
    rows_added b more = rw (rows_step mark n p) (added_then start (rows_text mark n p) (row_text mark p (n - 1 - p)) a b rows_room before more)

-- the states, the rounds and the lines
module _ (n rounds : ℕ) (mark : ℕ → ℕ → ℕ) (p₀ : Page) (room : HasRoom p₀ (chart_text n rounds mark)) where
  abbrev first : List ℕ
  first = states_word ++ line (n ∷ [])

  abbrev second : List ℕ
  second = rounds_word ++ line (rounds ∷ [])

  all_room : HasRoom p₀ (first ++ second ++ rows_text mark n n)
  unfolding chart_text
  all_room = room

  both_room : HasRoom p₀ (first ++ second)
  both_room = room_first p₀ (first ++ second) (rows_text mark n n) all_room

  pub states_room : HasRoom p₀ (states_word ++ line (n ∷ []))
  states_room = room_first p₀ first second both_room

  module _ (p₁ : Page) (q₁ : Added p₀ (states_word ++ line (n ∷ [])) p₁) where
    pub rounds_room : HasRoom p₁ (rounds_word ++ line (rounds ∷ []))
    rounds_room = room_next p₀ first second p₁ both_room q₁

    module _ (p₂ : Page) (q₂ : Added p₁ (rounds_word ++ line (rounds ∷ [])) p₂) where
      both : Added p₀ (first ++ second) p₂
      both = added_then p₀ first second p₁ p₂ both_room q₁ q₂

      pub lines_room : HasRoom p₂ (rows_text mark n n)
      lines_room = room_next p₀ (first ++ second) (rows_text mark n n) p₂ all_room both

      pub chart_added : (p₃ : Page) → Added p₂ (rows_text mark n n) p₃ → Added p₀ (chart_text n rounds mark) p₃
      unfolding chart_text
      chart_added p₃ q₃ = added_then p₀ (first ++ second) (rows_text mark n n) p₂ p₃ all_room both q₃
