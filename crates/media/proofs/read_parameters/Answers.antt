-- `media::read_parameters` meets its contract: the table holds what was found.
use native.Mathlib.Omega.{arith}
use Rattle.media.proofs.Filled.{filling_found, filling_next, filled-answer}
use Rattle.media.proofs.read_parameters.Goals as goal

pub read_parameter-requires : goal.read_parameter-requires
read_parameter-requires c =
    record { found = filling_found c.loop-at.invariant; at_in_bounds = c.loop-at-test.true }

pub loop-at-preserved : goal.loop-at-preserved
loop-at-preserved c = filling_next c.loop-at.invariant c.in_ok-parameter.ensures

pub returns : goal.returns
returns c = filled-answer c.loop-at.invariant (omega (arith, c.loop-at-test.false))
