use native.Mathlib.Omega.{arith}
use mathlib.Core.Path.{◌∙◌}
use lib.ListN.{length-set}
use Rattle.text.proofs.Laws.{bytes_more, bytes_all}
use Rattle.text.proofs.Page.add_bytes.Goals as goal

pub loop-i-preserved : goal.loop-i-preserved
loop-i-preserved c =
    let l = c.loop-i in
    let page = c.args.self.now in
    record {
      same = l.invariant.same;
      at_is = l.invariant.at_is;
      length_stays = length-set _ _ _ ∙ l.invariant.length_stays;
      pasted = rw l.invariant.at_is (bytes_more page.bytes.now l.self.bytes.now page.at l.i c.args.text.now l.invariant.pasted (omega (arith, c.requires)) c.loop-i-test.true);
    }

pub returns : goal.returns
returns c =
    let l = c.loop-i in
    let page = c.args.self.now in
    record {
      same_buffer = l.invariant.same;
      length_stays = l.invariant.length_stays;
      place = omega (arith, l.invariant.at_is);
      bytes = bytes_all page.bytes.now l.self.bytes.now page.at l.i c.args.text.now l.invariant.pasted (omega (arith, l.auto.i-end));
    }
