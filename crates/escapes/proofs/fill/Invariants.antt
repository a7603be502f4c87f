-- `escapes::fill` meets its contract: what is left of the text is what is left to be put.
use Rattle.std.proofs.Common.{◌≡◌, drop}
use Rattle.copying.specs.helpers.Runs.{Front}
use Rattle.escapes.specs.Resolved.{resolved}
use Rattle.escapes.proofs.fill.Given as goal

abbrev pub invariant-loop-byte : goal.invariant-loop-byte
invariant-loop-byte l =
    (goal.iterator-loop-byte).can_next l.byte-iterator
    × (goal.iterator-loop-byte).is_finite l.byte-iterator
    × Front l.initial.dst (resolved l.s) l.dst l.len
    × (drop l.len (resolved l.s) ≡ resolved l.byte-iterator.0.now)
