-- `scans::is_other_text` meets its contract: a byte below SP, the quote, or any other.
use Rattle.std.proofs.Common.{arith}
use Rattle.scans.proofs.Texts.{control_text, quote-not, high_text}
use Rattle.scans.proofs.is_other_text.Goals as goal

pub returns-then-b-lt32 : goal.returns-then-b-lt32
returns-then-b-lt32 c h = control_text c.args.b (omega arith) h c.if-b-lt32.true

pub returns-then-b-eq34 : goal.returns-then-b-eq34
returns-then-b-eq34 c h = quote-not c.args.b (omega arith) h c.if-b-eq34.true

pub returns : goal.returns
returns c h = high_text c.args.b (omega arith) h c.if-b-lt32.false c.if-b-eq34.false
