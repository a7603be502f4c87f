-- `chunked::known_size` meets its contract.
use Rattle.chunked.proofs.Digits.{dropped}
use Rattle.chunked.proofs.known_size.Goals as goal

pub returns : goal.returns
returns c = dropped c.args.first c.args.second c.args.two c.requires.2 c.requires.3
