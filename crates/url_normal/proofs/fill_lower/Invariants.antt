-- `url_normal::fill_lower` meets its contract: a byte at a time.
use Rattle.copying.specs.helpers.Runs.{Front}
use Rattle.url_equal.specs.Meaning.{lower_all}
use Rattle.url_normal.proofs.fill_lower.Given as goal

abbrev pub invariant-loop-i : goal.invariant-loop-i
invariant-loop-i l = Front l.initial.dst (lower_all l.s) l.dst l.i
