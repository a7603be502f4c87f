-- `octets::is_content` meets its contract: the bits are those of the class.
use Rattle.std.proofs.Common.{◌∙◌, rules}
use Rattle.octets.proofs.Tables.{content-bits}
use Rattle.octets.proofs.is_content.Goals as goal

pub returns : goal.returns
returns c = c.in_class.ensures ∙ content-bits c.args.b (search rules)
