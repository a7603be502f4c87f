-- `media_charset::read_charset` meets its contract: what was passed is not `charset`.
use mathlib.Core.Path.{◌≡◌}
use lib.ListN.{drop}
use Rattle.media_charset.specs.Charset.{Effective}
use Rattle.media_charset.specs.Places.{stated_at}
use Rattle.media_charset.proofs.read_charset.Given as goal

abbrev pub invariant-loop-p : goal.invariant-loop-p
invariant-loop-p l = (other : Effective) → stated_at l.s other (drop l.p-index l.parameters) ≡ stated_at l.s other l.parameters
