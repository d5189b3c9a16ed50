-- Each way out, by what was judged; at the last, the three parts that were written are the layout.
use native.Mathlib.Omega.{arith}
use Rattle.chart.proofs.Exactly.{read_well_formed}
use Prim.Native.Nat.{◌+◌}
use mathlib.Core.Path.{◌≡◌, ap}
use Rattle.text.specs.Text.{Added}
use Rattle.side_by_side.specs.Written.{head}
use lib.ListN.{length}
use Rattle.side_by_side.proofs.Written.{known}
use Rattle.side_by_side.proofs.Answered.{one, other, joint, joining_refused, refused_18, refused_19, refused_20, head_is, steps_length, joined}
use Rattle.side_by_side.proofs.together.Goals as goal

pub overflow_add-a : goal.overflow_add-a
overflow_add-a c = omega (arith, known c.args.first.now, known c.args.second.now)

pub overflow_add-a-2 : goal.overflow_add-a-2
overflow_add-a-2 c = omega (arith, known c.args.first.now, known c.args.second.now)

pub overflow_add-a-3 : goal.overflow_add-a-3
overflow_add-a-3 c = omega (arith, known c.args.first.now, known c.args.second.now)

pub slice_bounds-flag-end : goal.slice_bounds-flag-end
slice_bounds-flag-end c = omega (arith, known c.args.first.now, known c.args.second.now)

pub overflow_add-b : goal.overflow_add-b
overflow_add-b c = omega (arith, known c.args.first.now, known c.args.second.now)

pub overflow_add-b-2 : goal.overflow_add-b-2
overflow_add-b-2 c = omega (arith, known c.args.first.now, known c.args.second.now)

pub overflow_add-b-3 : goal.overflow_add-b-3
overflow_add-b-3 c = omega (arith, known c.args.first.now, known c.args.second.now)

pub slice_bounds-flag-end-2 : goal.slice_bounds-flag-end-2
slice_bounds-flag-end-2 c = omega (arith, known c.args.first.now, known c.args.second.now)

pub overflow_add-a-4 : goal.overflow_add-a-4
overflow_add-a-4 c = omega (arith, known c.args.first.now, known c.args.second.now)

pub overflow_add-a-5 : goal.overflow_add-a-5
overflow_add-a-5 c = omega (arith, known c.args.first.now, known c.args.second.now)

pub returns-then-a-b-gt64 : goal.returns-then-a-b-gt64
returns-then-a-b-gt64 c =
    let a = c.args in
    joining_refused (one a.first.now a.second.now) (other a.first.now a.second.now) (refused_18 a.first.now a.second.now (omega arith)) c.of_lent.ensures

pub returns-then-len-gt32 : goal.returns-then-len-gt32
returns-then-len-gt32 c =
    let a = c.args in
    let joint = joint a.first.now a.second.now c.flag.ensures c.flag-2.ensures c.number-codes.ensures in
    joining_refused (one a.first.now a.second.now) (other a.first.now a.second.now) (refused_19 a.first.now a.second.now (omega arith) (omega (arith, ap length joint.codes_are))) c.of_lent-then-len-gt32.ensures

pub returns-then-a-b-gt1024 : goal.returns-then-a-b-gt1024
returns-then-a-b-gt1024 c =
    let a = c.args in
    let joint = joint a.first.now a.second.now c.flag.ensures c.flag-2.ensures c.number-codes.ensures in
    joining_refused (one a.first.now a.second.now) (other a.first.now a.second.now) (refused_20 a.first.now a.second.now (omega arith) (omega (arith, ap length joint.codes_are)) (omega arith)) c.of_lent-then-a-b-gt1024.ensures

pub put_head-requires-clause-room : goal.put_head-requires-clause-room
put_head-requires-clause-room c = omega (arith, head_is c.args.first.now c.args.second.now c.as_slice.result.now (c.args.first.now.shape.t + c.args.second.now.shape.t), ap length c.as_slice.ensures.value, ap length c.new-page.ensures.empty.1)

pub put_steps-requires-clause-room : goal.put_steps-requires-clause-room
put_steps-requires-clause-room c = omega (arith, head_is c.args.first.now c.args.second.now c.as_slice.result.now (c.args.first.now.shape.t + c.args.second.now.shape.t), c.put_head.ensures.place, ap length c.as_slice.ensures.value, ap length c.new-page.ensures.empty.1)

pub put_steps-requires-2-clause-room : goal.put_steps-requires-2-clause-room
put_steps-requires-2-clause-room c = omega (arith, head_is c.args.first.now c.args.second.now c.as_slice.result.now (c.args.first.now.shape.t + c.args.second.now.shape.t), c.put_head.ensures.place, c.put_steps.ensures.place, steps_length c.args.first.now c.number-codes.new.places 0, ap length c.as_slice.ensures.value, ap length c.new-page.ensures.empty.1)

pub returns : goal.returns
returns c =
    let a = c.args in
    let joint = joint a.first.now a.second.now c.flag.ensures c.flag-2.ensures c.number-codes.ensures in
    let formed = (read_well_formed a.first.now.bytes.now a.first.now.shape c.requires.0 a.first.now.read).0 in
    let others = (read_well_formed a.second.now.bytes.now a.second.now.shape c.requires.1 a.second.now.read).0 in
    let size : length a.out.now ≡ 3172 = omega arith in
    let room : length c.new-page.result.bytes.now ≡ 3172 = omega (arith, ap length c.new-page.ensures.empty.1) in
    let head : Added c.new-page.result (head (one a.first.now a.second.now).modes (other a.first.now a.second.now).modes c.number-codes.result.items (a.first.now.shape.t + a.second.now.shape.t)) c.put_head.new.page = rw c.as_slice.ensures.value at c.put_head.ensures in
    rw (← c.new-page.ensures.empty.1) (joined a.first.now a.second.now formed others {old = c.new-page.result} joint (omega arith) (omega arith) (omega arith) room c.new-page.ensures.empty.0 head c.put_steps.ensures c.put_steps-2.ensures)
