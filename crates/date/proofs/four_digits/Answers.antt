-- `date::four_digits` meets its contract.
use Rattle.date.proofs.Tables.{four-number}
use Rattle.date.proofs.four_digits.Goals as goal

pub returns : goal.returns
returns c =
    four-number c.args.s.now c.args.at c.requires _ _ c.two_digits.ensures.is c.two_digits-2.ensures.is
