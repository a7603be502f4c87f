-- `content_range_writer::write` meets its contract.
use mathlib.Core.Bool.{false}
use mathlib.Core.Path.{◌≡◌, sym, ◌∙◌}
use borrow.Author.Tests.{not-true, not-false}
use native.Mathlib.Omega.{arith}
use Rattle.octets.proofs.Writing.{refuses-argument, refuses-short, writes-all}
use Rattle.content_range_writer.specs.Writing.{content_range_text, out_of_range}
use Rattle.content_range_writer.proofs.Writer.{in_range}
use Rattle.content_range_writer.proofs.write.Goals as goal
use Rattle.content_range_writer.proofs.write.Goals.{Else-not-is_in_range}

within : (c : Else-not-is_in_range) → out_of_range c.args.first c.args.last c.args.entity_length ≡ false
within c = not-true _ (sym c.is_in_range.ensures ∙ c.if-not-is_in_range.false)

pub returns-then-not-is_in_range : goal.returns-then-not-is_in_range
returns-then-not-is_in_range c =
    let x = c.args in
    let r = refuses-argument (out_of_range x.first x.last x.entity_length) (content_range_text x.first x.last x.entity_length) x.out.now
    (not-false _ (sym c.is_in_range.ensures ∙ c.if-not-is_in_range.true)) in
    record { answers = r.0; writes = r.1 }

pub text_len-len-requires : goal.text_len-len-requires
text_len-len-requires c =
    in_range c.args.first c.args.last c.args.entity_length (within ((goal.at.text_len-len-requires c).Else-not-is_in_range))

pub returns-then-out-len : goal.returns-then-out-len
returns-then-out-len c =
    let x = c.args in
    let r = refuses-short (out_of_range x.first x.last x.entity_length) (content_range_text x.first x.last x.entity_length) x.out.now
    (within ((goal.at.returns-then-out-len c).Else-not-is_in_range)) (omega arith) in
    record { answers = r.0; writes = r.1 }

pub returns : goal.returns
returns c =
    let x = c.args in
    let r = writes-all (out_of_range x.first x.last x.entity_length) (content_range_text x.first x.last x.entity_length) x.out.now
    c.text_len-len.result c.put_text.new.out c.text_len-len.ensures
    (within ((goal.at.returns c).Else-not-is_in_range)) (omega arith) c.put_text.ensures in
    record { answers = r.0; writes = r.1 }
