-- `escapes::has_percent` meets its contract: what was found, or what is left, has one just where the whole has.
use Rattle.std.proofs.Common.{◌≡◌, ◌||◌, drop}
use Rattle.escapes.specs.helpers.Units.{percent?}
use Rattle.escapes.proofs.has_percent.Given as goal

abbrev pub invariant-loop-b : goal.invariant-loop-b
invariant-loop-b l = (l.found || percent? (drop l.b-index l.s)) ≡ percent? l.s
