-- `transition::enter` meets its contract.
use mathlib.Core.Path.{sym}
use native.Mathlib.Omega.{arith}
use Rattle.framing.proofs.Turns.{enter_last, enter_data}
use Rattle.transition.proofs.enter.Goals as goal

pub returns-then-size-eq0 : goal.returns-then-size-eq0
returns-then-size-eq0 c = sym (enter_last _ _ c.if-size-eq0.true)

pub returns : goal.returns
returns c = sym (enter_data _ _ (omega arith))
