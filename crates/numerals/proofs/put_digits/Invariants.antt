-- `numerals::put_digits` meets its contract. The digits from place i on are put.
use Rattle.numerals.proofs.Digits.{LastDigits}
use Rattle.numerals.proofs.put_digits.Given as goal

abbrev pub invariant-loop-i : goal.invariant-loop-i
invariant-loop-i l = LastDigits l.radix l.n l.initial.out l.out l.i l.rest

abbrev pub decreases-loop-i : goal.decreases-loop-i
decreases-loop-i l = l.i
