-- `chunked::size_of` meets its contract.
use Rattle.std.proofs.Common.{arith}
use Rattle.chunked.proofs.Digits.{Joined, joined}
use Rattle.chunked.proofs.size_of.Goals as goal
use Rattle.chunked.proofs.size_of.Goals.{Start}

joins : (c : Start) → Joined c.args.first c.args.second c.args.two
joins c = joined c.args.first c.args.second c.args.two c.requires.0 c.requires.1 c.requires.2

pub overflow_mul-result-2 : goal.overflow_mul-result-2
overflow_mul-result-2 c = omega (arith, (joins ((goal.at.overflow_mul-result-2 c).Start)).part)

pub overflow_add-result : goal.overflow_add-result
overflow_add-result c = omega (arith, (joins ((goal.at.overflow_add-result c).Start)).small)

pub returns : goal.returns
returns c =
    let p = (goal.at.returns c).Start in
    ((joins p).small, (joins p).one, (joins p).two)
