-- The loop's invariant: the first i bytes of the text stand in the buffer.
use Rattle.std.proofs.Common.{◌≡◌, length}
use lib.Seq.{paste}
use Rattle.text.proofs.Page.add_bytes.Given as goal

abbrev pub invariant-loop-i : goal.invariant-loop-i
invariant-loop-i l =
    record {
      same : l.self.bytes.ghost_name ≡ l.initial.self.bytes.ghost_name;
      at_is : l.self.at ≡ l.initial.self.at;
      length_stays : length l.self.bytes.now ≡ length l.initial.self.bytes.now;
      pasted : l.self.bytes.now ≡ paste l.initial.self.bytes.now l.initial.self.at l.text l.i;
    }
