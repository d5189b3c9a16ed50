-- Texts that are put on a page, one after the other.
use Prim.Native.Nat.{ℕ, ◌≤◌}
use mathlib.Core.Path.{◌≡◌, refl, ap, sym, ◌∙◌}
use mathlib.Core.List.{List, [], ◌++◌}
use native.Mathlib.Omega.{arith}
use lib.ListN.{length, take, length-append}
use lib.Seq.{take_at}
use Rattle.text.specs.Text.{placed, HasRoom, Added, Puts}
use Rattle.text.specs.declared.Page.{Page}
use Rattle.text.proofs.Laws.{length_placed, placed_none, placed_append, put_fits}

-- what a caller learns where the text fits
pub puts_added : (a : Page) (s : List ℕ) (b : Page) → HasRoom a s → Puts a s b → Added a s b
puts_added a s b room p =
    let put = put_fits a.bytes.now a.at s room p.promise in
    record { same_buffer = p.same_buffer; length_stays = p.length_stays; place = put.0; bytes = put.1 }

pub added_none : (a : Page) → Added a [] a
added_none a = record { same_buffer = refl; length_stays = refl; place = omega arith; bytes = placed_none a.bytes.now a.at }

-- the room for two texts is room for each
pub room_first : (a : Page) (s t : List ℕ) → HasRoom a (s ++ t) → HasRoom a s
room_first a s t room = omega (arith, length-append s t)

pub room_next : (a : Page) (s t : List ℕ) (b : Page) → HasRoom a (s ++ t) → Added a s b → HasRoom b t
room_next a s t b room p = omega (arith, length-append s t, p.place, p.length_stays)

-- a text after a text is one text
pub added_then : (a : Page) (s t : List ℕ) (b c : Page) → HasRoom a (s ++ t) → Added a s b → Added b t c → Added a (s ++ t) c
added_then a s t b c room p q =
    record {
      same_buffer = q.same_buffer ∙ p.same_buffer;
      length_stays = q.length_stays ∙ p.length_stays;
      place = omega (arith, length-append s t, p.place, q.place);
      bytes = q.bytes ∙ rw (p.bytes, p.place) (placed_append a.bytes.now a.at s (room_first a s t room) t);
    }

pub puts_next : (a : Page) (s t : List ℕ) (b c : Page) → HasRoom a (s ++ t) → Added a s b → Puts b t c → Added a (s ++ t) c
puts_next a s t b c room p q = added_then a s t b c room p (puts_added b t c (room_next a s t b room p) q)

-- what was put from the start on is what stands there
pub placed_stands : (text old new : List ℕ) (after : ℕ) → length text ≤ length old → after ≡ length text → new ≡ placed old 0 text → (take after new ≡ text) × (after ≤ length new)
unfolding placed
placed_stands text old new after room e p = (rw p (take_at text _ after (sym e)), omega (arith, ap length p, length_placed old 0 text (omega arith)))

pub added_stands : (a : Page) (s : List ℕ) (b : Page) → a.at ≡ 0 → HasRoom a s → Added a s b → (take b.at b.bytes.now ≡ s) × (b.at ≤ length b.bytes.now) × (b.at ≡ length s)
added_stands a s b start room p =
    let place : b.at ≡ length s = omega (arith, p.place) in
    let stands = placed_stands s a.bytes.now b.bytes.now b.at (omega arith) place (rw start at p.bytes) in
    (stands.0, stands.1, place)
