-- `lines::pair` meets its contract. The word has the second digit's value above the first's.
use Prim.Native.Nat.{◌+◌, ◌*◌, ◌/◌}
use native.Mathlib.Omega.{arith}
use lib.Bits.{bit_xor, and_le_r}
use Rattle.octets.specs.Bytes.{hex_value}
use Rattle.lines.proofs.Hexes.{value-small, short-fits, values-are, values-fit, byte-of-word}
use Rattle.lines.proofs.pair.Goals as goal

pub overflow_mul-values : goal.overflow_mul-values
overflow_mul-values c = omega (arith, and_le_r (bit_xor (c.args.first + c.args.second * 256) 20303 / 64) 257)

pub overflow_add-values : goal.overflow_add-values
overflow_add-values c = omega (arith, short-fits c.args.first c.args.second (omega arith) (omega arith) c.requires.0 c.requires.1)

pub overflow_sub-values : goal.overflow_sub-values
overflow_sub-values c = short-fits c.args.first c.args.second (omega arith) (omega arith) c.requires.0 c.requires.1

pub overflow_mul-result : goal.overflow_mul-result
overflow_mul-result c = omega (arith, values-fit c.args.first c.args.second (omega arith) (omega arith) c.requires.0 c.requires.1)

pub overflow_add-result : goal.overflow_add-result
overflow_add-result c = omega (arith, values-fit c.args.first c.args.second (omega arith) (omega arith) c.requires.0 c.requires.1)

pub returns : goal.returns
returns c =
    let first = c.args.first in
    let second = c.args.second in
    byte-of-word (hex_value first) (hex_value second) (values-are first second (omega arith) (omega arith) c.requires.0 c.requires.1)
    (value-small first c.requires.0) (value-small second c.requires.1)
