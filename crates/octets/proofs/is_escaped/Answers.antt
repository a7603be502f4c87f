-- `octets::is_escaped` meets its contract: the bits are those of the class.
use Rattle.std.proofs.Common.{◌∙◌, rules}
use Rattle.octets.proofs.Tables.{escaped_bits}
use Rattle.octets.proofs.is_escaped.Goals as goal

pub returns : goal.returns
returns c = c.in_class.ensures ∙ escaped_bits c.args.b (search rules)
