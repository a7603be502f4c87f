-- `date_writer::text_of` meets its contract.
use Rattle.date_writer.proofs.Writer.{text-found}
use Rattle.date_writer.proofs.text_of.Goals as goal

pub returns : goal.returns
returns c =
    let x = c.args in
    text-found x.moment.weekday x.moment.fields _ _ _ _ _ _ _ _ _ _ _ _ _ _ _ _ _ _
    c.letter.ensures c.letter-2.ensures c.letter-3.ensures
    c.tens_digit.ensures c.ones_digit.ensures
    c.letter-4.ensures c.letter-5.ensures c.letter-6.ensures
    c.tens_digit-2.ensures c.ones_digit-2.ensures c.tens_digit-3.ensures c.ones_digit-3.ensures
    c.tens_digit-4.ensures c.ones_digit-4.ensures
    c.tens_digit-5.ensures c.ones_digit-5.ensures
    c.tens_digit-6.ensures c.ones_digit-6.ensures
