-- `scans::token_end` meets its contract: the run ends from behind the letters where it does from before them.
use Rattle.std.proofs.Common.{◌∙◌}
use Rattle.octets.specs.Bytes.{token?}
use Rattle.octets.proofs.Tables.{token-bits}
use Rattle.scans.proofs.token_end.Goals as goal

pub returns : goal.returns
returns c = c.class_end.ensures token? token-bits ∙ c.letters_end.ensures
