-- `calendar::fields_at` meets its contract.
use Rattle.std.proofs.Common.{arith}
use Rattle.std.proofs.lemmas.Int.{ints}
use Rattle.std.proofs.lemmas.Grind.{common_steps}
use mathlib.Core.Path.{◌≡◌, ap, ◌∙◌}
use mathlib.Core.Bool.{true, false}
use Prim.Native.Nat.{◌/◌, ◌%◌}
use lib.IntN.{ℤ}
use mir.Facts.{to_z-of_z}
use Rattle.calendar.specs.Instants.{in_range?, since_first}
use Rattle.calendar.proofs.Instants.{outside, inside}
use Rattle.calendar.proofs.fields_at.Goals as goal
use Rattle.calendar.proofs.fields_at.Goals.{Else-not-contains, Then-not-contains}

out-of_range : (c : Then-not-contains) → in_range? c.args.seconds ≡ false
out-of_range c = grind (arith, ints, common_steps, to_z-of_z)

in_range : (c : Else-not-contains) → in_range? c.args.seconds ≡ true
in_range c = grind (arith, ints, common_steps, to_z-of_z)

pub returns-then-not-contains : goal.returns-then-not-contains
returns-then-not-contains c = outside c.args.seconds (out-of_range ((goal.at.returns-then-not-contains c).Then-not-contains))

pub returns : goal.returns
returns c =
    let s = to_z-of_z c.ranges.seconds in
    inside c.args.seconds (in_range ((goal.at.returns c).Else-not-contains)) _ _ _ _
    (c.of_instant-day.ensures ∙ ap (λ (z : ℤ). since_first z / 86400) s) (c.second_in_day.ensures ∙ ap (λ (z : ℤ). since_first z % 86400) s)
    c.fields.ensures c.weekday.ensures
