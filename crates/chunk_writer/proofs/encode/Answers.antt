-- `chunk_writer::encode` meets its contract. By the case of the answer.
use native.Mathlib.Omega.{arith}
use Rattle.chunk_writer.proofs.Answers.{refuses-length, refuses_large, refuses-short, writes}
use Rattle.chunk_writer.proofs.encode.Goals as goal

pub returns-then-chunk_len-eq0 : goal.returns-then-chunk_len-eq0
returns-then-chunk_len-eq0 c =
    let s = c.args in
    let r = refuses-length s.body.now s.chunk_len s.out.now c.if-chunk_len-eq0.true in
    record { answers = r.0; writes = r.1 }

pub returns-then-body-gt-BODY_LIMIT : goal.returns-then-body-gt-BODY_LIMIT
returns-then-body-gt-BODY_LIMIT c =
    let s = c.args in
    let r = refuses_large s.body.now s.chunk_len s.out.now c.if-chunk_len-eq0.false
    c.if-body-gt-BODY_LIMIT.true in
    record { answers = r.0; writes = r.1 }

pub returns-then-out-len : goal.returns-then-out-len
returns-then-out-len c =
    let s = c.args in
    let r = refuses-short s.body.now s.chunk_len s.out.now c.if-chunk_len-eq0.false c.if-body-gt-BODY_LIMIT.false
    (omega (arith, c.frame_len-len.ensures, c.if-out-len.true)) in
    record { answers = r.0; writes = r.1 }

pub returns : goal.returns
returns c =
    let s = c.args in
    let l = c.frame_len-len.ensures in
    let r = writes s.body.now s.chunk_len s.out.now c.if-chunk_len-eq0.false c.if-body-gt-BODY_LIMIT.false l (omega (arith, l, c.if-out-len.false))
    c.put_frame.ensures in
    record { answers = r.0; writes = r.1 }
