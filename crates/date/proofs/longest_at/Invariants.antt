-- `date::longest_at` meets its contract: the longest of the names passed, and of those from there on, is the longest of all.
use mathlib.Core.Path.{◌≡◌}
use lib.ListN.{drop}
use Rattle.grammar.specs.helpers.Words.{larger}
use Rattle.date.specs.helpers.Shapes.{longest}
use Rattle.date.proofs.longest_at.Given as goal

abbrev pub invariant-loop-name : goal.invariant-loop-name
invariant-loop-name l =
    (l.name-iterator.size ≡ 3) × (larger l.best (longest l.name-iterator.rest.now (drop l.at l.s)) ≡ longest l.names (drop l.at l.s))
