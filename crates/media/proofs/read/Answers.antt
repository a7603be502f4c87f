-- `media::read` meets its contract: the names are refused, or read and the parameters behind them.
use mathlib.Core.Path.{refl}
use mathlib.Core.List.{[]}
use Rattle.media.proofs.Filled.{filled-answer}
use Rattle.media.proofs.read.Goals as goal

pub returns-then-s-names : goal.returns-then-s-names
returns-then-s-names c = filled-answer (record { table = []; found = c.in_ok-names.ensures; is = refl }) c.if-s-names.true
