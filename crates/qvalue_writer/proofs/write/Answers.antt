-- `qvalue_writer::write` meets its contract.
use native.Mathlib.Omega.{arith}
use borrow.Author.Tests.{lt-ltb, le-ltb}
use lib.Dec.{ltb}
use Rattle.octets.proofs.Writing.{refuses-argument, refuses-short, writes-all}
use Rattle.qvalue.specs.Grammar.{largest}
use Rattle.qvalue_writer.specs.Writing.{qvalue_text}
use Rattle.qvalue_writer.proofs.write.Goals as goal

pub returns-then-thousandths-gt-ONE : goal.returns-then-thousandths-gt-ONE
returns-then-thousandths-gt-ONE c =
    let x = c.args in
    let q = x.thousandths in
    let r = refuses-argument (ltb largest q) (qvalue_text q) x.out.now
    (lt-ltb largest q c.if-thousandths-gt-ONE.true) in
    record { answers = r.0; writes = r.1 }

pub returns-then-out-len : goal.returns-then-out-len
returns-then-out-len c =
    let x = c.args in
    let q = x.thousandths in
    let r = refuses-short (ltb largest q) (qvalue_text q) x.out.now
    (le-ltb largest q c.if-thousandths-gt-ONE.false) (omega (arith, c.text_len-len.ensures, c.if-out-len.true)) in
    record { answers = r.0; writes = r.1 }

pub returns : goal.returns
returns c =
    let x = c.args in
    let q = x.thousandths in
    let n = c.text_len-len in
    let r = writes-all (ltb largest q) (qvalue_text q) x.out.now n.result c.put_text.new.out n.ensures
    (le-ltb largest q c.if-thousandths-gt-ONE.false)
    (omega (arith, n.ensures, c.if-out-len.false))
    c.put_text.ensures in
    record { answers = r.0; writes = r.1 }
