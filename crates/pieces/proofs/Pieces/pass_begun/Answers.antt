-- `Pieces::pass_begun` meets its contract.
use Rattle.pieces.proofs.Passing.{ran_none, ran_passed}
use Rattle.pieces.proofs.Pieces.pass_begun.Goals as goal

pub returns-in_default : goal.returns-in_default
returns-in_default c = ran_passed c.args.out.now (ran_none c.args.self c.args.bytes.now)
