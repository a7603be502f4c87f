-- `qvalue_writer::put_text` meets its contract.
use native.Mathlib.Omega.{arith}
use mathlib.Core.Path.{sym}
use lib.Seq.{length-take-le}
use Rattle.qvalue_writer.proofs.Text.{at-most_five, front-put}
use Rattle.qvalue_writer.proofs.put_text.Goals as goal

pub slice_bounds-full-end : goal.slice_bounds-full-end
slice_bounds-full-end c =
    omega (arith, at-most_five c.args.q, c.requires.0)

pub slice_bounds-put_bytes-end : goal.slice_bounds-put_bytes-end
slice_bounds-put_bytes-end c =
    sym (length-take-le c.args.len _ (omega (arith, at-most_five c.args.q, c.requires.0)))

pub returns : goal.returns
returns c =
    let p = c.put_bytes in
    front-put c.args.q c.args.len c.args.out.now p.new.out
    c.last_digit.result c.last_digit-2.result c.last_digit-3.result
    c.last_digit-4.result
    c.requires.0 c.requires.1
    c.last_digit.ensures c.last_digit-2.ensures c.last_digit-3.ensures
    c.last_digit-4.ensures
    p.ensures.writes
