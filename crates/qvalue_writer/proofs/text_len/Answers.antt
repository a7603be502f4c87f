-- `qvalue_writer::text_len` meets its contract.
use mathlib.Core.Path.{sym}
use Rattle.qvalue_writer.proofs.Text.{no_digit, one_digit, two_digits, three_digits}
use Rattle.qvalue_writer.proofs.text_len.Goals as goal

pub returns-then-q-eq0 : goal.returns-then-q-eq0
returns-then-q-eq0 c = sym (no_digit c.args.q c.if-q-eq0.true)

pub returns-then-q-eq0-2 : goal.returns-then-q-eq0-2
returns-then-q-eq0-2 c = sym (one_digit c.args.q c.if-q-eq0.false c.if-q-eq0-2.true)

pub returns-then-q-eq0-3 : goal.returns-then-q-eq0-3
returns-then-q-eq0-3 c = sym (two_digits c.args.q c.if-q-eq0.false c.if-q-eq0-2.false c.if-q-eq0-3.true)

pub returns-else-q-eq0-3 : goal.returns-else-q-eq0-3
returns-else-q-eq0-3 c = sym (three_digits c.args.q c.if-q-eq0.false c.if-q-eq0-2.false c.if-q-eq0-3.false)
