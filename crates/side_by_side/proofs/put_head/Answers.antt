use native.Mathlib.Omega.{arith}
use Rattle.side_by_side.proofs.Written.{known, head_written}
use Rattle.side_by_side.proofs.put_head.Goals as goal

pub slice_bounds-put_bytes-end-2 : goal.slice_bounds-put_bytes-end-2
slice_bounds-put_bytes-end-2 c = omega (arith, (known c.args.first.now).whole)

pub slice_bounds-put_bytes-end-3 : goal.slice_bounds-put_bytes-end-3
slice_bounds-put_bytes-end-3 c = omega (arith, (known c.args.second.now).whole)

pub returns : goal.returns
returns c =
    let a = c.args in
    head_written a.first.now.bytes.now a.second.now.bytes.now a.codes.now a.first.now.shape.n a.second.now.shape.n a.t a.page.now c.put_bytes.new.self c.put_bytes-2.new.self c.put_bytes-3.new.self c.put_bytes-4.new.self c.put_bytes-5.new.self c.put_bytes-6.new.self (omega (arith, (known a.first.now).whole)) (omega (arith, (known a.second.now).whole)) c.requires.room c.put_bytes.ensures c.put_bytes-2.ensures c.put_bytes-3.ensures c.put_bytes-4.ensures c.put_bytes-5.ensures c.put_bytes-6.ensures
