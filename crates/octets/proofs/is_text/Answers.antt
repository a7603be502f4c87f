-- `octets::is_text` meets its contract: the bits are those of the class.
use Rattle.std.proofs.Common.{◌∙◌, rules}
use Rattle.octets.proofs.Tables.{text-bits}
use Rattle.octets.proofs.is_text.Goals as goal

pub returns : goal.returns
returns c = c.in_class.ensures ∙ text-bits c.args.b (search rules)
