-- `size_lines::short_size` meets its contract.
use native.Mathlib.Omega.{arith}
use Rattle.chunked.proofs.Digits.{joined}
use Rattle.size_lines.proofs.short_size.Goals as goal

pub overflow_mul-result-2 : goal.overflow_mul-result-2
overflow_mul-result-2 c = omega (arith, (joined c.args.first c.args.second c.args.two c.requires.0 c.requires.1 c.requires.2).part)

pub overflow_add-result : goal.overflow_add-result
overflow_add-result c = omega (arith, (joined c.args.first c.args.second c.args.two c.requires.0 c.requires.1 c.requires.2).small)

pub returns : goal.returns
returns c =
    let j = joined c.args.first c.args.second c.args.two c.requires.0 c.requires.1 c.requires.2 in
    (j.small, j.one, j.two)
