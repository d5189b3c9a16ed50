use Rattle.std.proofs.Common.{◌≡◌, ℕ, ◌+◌, ◌-◌, ◌≤◌, ◌++◌, List, length, take, drop, None, Some, sym, ap, ◌∙◌, append_assoc, arith}
use Rattle.std.proofs.lemmas.List.{take-append-drop, length-take-le, take_at, drop-append-le, length-append, length-drop}
use Rattle.std.proofs.lemmas.Slice.{take-put_mid_below}
use Rattle.std.specs.Prelude.{Option}
use Rattle.std.specs.Io.KnownBytes.{Consumes}
use borrow.Rule.Slice.PartMut.{put_mid, post_of}
use Rattle.printer.proofs.fill.Goals as goal

-- a piece, and then the next
consumed_both : (a b c : Option (List ℕ)) (xs ys : List ℕ) → Consumes a b xs → Consumes b c ys → Consumes a c (xs ++ ys)
consumed_both None b c xs ys p q = tt
consumed_both (Some l) None c xs ys p q = absurd p
consumed_both (Some l) (Some m) None xs ys p q = absurd q
consumed_both (Some l) (Some m) (Some n) xs ys p q = p ∙ ap (λ z. xs ++ z) q ∙ sym (append_assoc xs ys n)

-- the bytes from a place on are those that stood there, and the piece that a read put after them
piece_after : (at end more : ℕ) (xs piece : List ℕ) → at ≤ end → end ≤ length xs → more ≤ length piece
    → drop at (take (end + more) (put_mid end (length xs - end) xs piece)) ≡ drop at (take end xs) ++ take more piece
piece_after at end more xs piece h k m =
    let post = post_of end (length xs - end) xs in
    let before = take end xs in
    let front = before ++ take more piece in
    let split : put_mid end (length xs - end) xs piece ≡ front ++ (drop more piece ++ post) =
    ap (λ l. before ++ (l ++ post)) (sym (take-append-drop more piece)) ∙ simp append_assoc in
    let size : length front ≡ end + more = omega (arith, length-append before (take more piece), length-take-le end xs k, length-take-le more piece m) in
    ap (drop at) (ap (take (end + more)) split ∙ take_at front (drop more piece ++ post) (end + more) size) ∙ drop-append-le at before (take more piece) (omega (arith, length-take-le end xs k))

-- a read keeps the buffer's length
put_length : (end : ℕ) (xs piece : List ℕ) → end ≤ length xs → length piece ≡ length xs - end → length (put_mid end (length xs - end) xs piece) ≡ length xs
put_length end xs piece h e =
    omega (arith, length-append (take end xs) (piece ++ post_of end (length xs - end) xs), length-append piece (post_of end (length xs - end) xs), length-take-le end xs h, length-drop (length xs - end) (drop end xs), length-drop end xs)

pub loop-end-preserved : goal.loop-end-preserved
loop-end-preserved g c =
    let l = c.loop-end in
    let piece = c.read.new.buf in
    let more = c.in_ok-more.ensures in
    record {
      after = omega arith;
      inside = λ h. omega (arith, put_length l.end l.bytes piece (omega arith) (c.read.auto.buf ∙ length-take-le (length l.bytes - l.end) (drop l.end l.bytes) (omega (arith, length-drop l.end l.bytes))), more.bound, c.read.auto.buf, length-take-le (length l.bytes - l.end) (drop l.end l.bytes) (omega (arith, length-drop l.end l.bytes)));
      kept = take-put_mid_below l.end _ l.bytes piece c.args.at l.invariant.after (omega arith) ∙ l.invariant.kept;
      taken = rw (piece_after c.args.at l.end c.in_ok-more.more l.bytes piece l.invariant.after (omega arith) (omega (arith, more.bound))) (consumed_both _ _ _ _ _ l.invariant.taken more.bytes.0);
    }
