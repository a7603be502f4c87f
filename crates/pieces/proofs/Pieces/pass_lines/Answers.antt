-- `Pieces::pass_lines` meets its contract.
use mathlib.Core.Path.{sym, subst}
use Rattle.pieces.specs.helpers.Runs.{Passed}
use Rattle.pieces.proofs.Passing.{ran_none, ran_passed}
use Rattle.pieces.proofs.Chunks.{chunks-passed}
use Rattle.pieces.proofs.Pieces.pass_lines.Goals as goal

pub returns-then-bytes-lt3 : goal.returns-then-bytes-lt3
returns-then-bytes-lt3 c =
    ran_passed c.args.out.now (ran_none c.args.self c.args.bytes.now)

pub returns : goal.returns
returns c =
    subst (λ r. Passed c.args.self c.args.bytes.now c.args.out.now r c.pass.new.out) (sym c.behind.ensures)
    (chunks-passed c.args.self c.pass.result c.requires.0 c.requires.1 c.requires.2 c.pass.ensures)
