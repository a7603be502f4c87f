-- `date::fitting_at` meets its contract: the bytes passed and those that fit from there on are all that fit.
use Prim.Native.Nat.{◌+◌}
use mathlib.Core.Path.{◌≡◌}
use lib.ListN.{drop}
use Rattle.octets.specs.helpers.Shapes.{fitting}
use Rattle.date.proofs.fitting_at.Given as goal

abbrev pub invariant-loop-i : goal.invariant-loop-i
invariant-loop-i l = (l.text ≡ drop l.at l.s) × (l.i + fitting (drop l.i l.shape) (drop l.i l.text) ≡ fitting l.shape l.text)
