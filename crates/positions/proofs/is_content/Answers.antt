-- `positions::is_content` meets its contract: the bytes from 128 on are all in the class.
use Rattle.std.proofs.lemmas.Grind.{common_steps}
use native.Mathlib.Omega.{arith}
use Rattle.octets.specs.Bytes.{content?}
use Rattle.positions.proofs.is_content.Goals as goal

pub returns-then-byte-ge128 : goal.returns-then-byte-ge128
unfolding content?
returns-then-byte-ge128 c = grind (arith, common_steps)
