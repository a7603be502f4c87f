-- `octets::is_token` meets its contract: the bits are those of the class.
use Rattle.std.proofs.Common.{◌∙◌, rules}
use Rattle.octets.proofs.Tables.{token-bits}
use Rattle.octets.proofs.is_token.Goals as goal

pub returns : goal.returns
returns c = c.in_class.ensures ∙ token-bits c.args.b (search rules)
