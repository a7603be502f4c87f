-- `calendar::locate` meets its contract.
use Prim.Native.Nat.{◌+◌, ◌*◌, ◌<◌}
use Rattle.std.proofs.Common.{arith}
use Rattle.std.proofs.lemmas.Grind.{common_steps}
use mathlib.Core.Path.{sym, ◌∙◌}
use mir.Syntax.{w64}
use mir.Facts.{to_z-of_z}
use Rattle.calendar.proofs.Instants.{nowhere_date, nowhere_time, located-at, second_fits}
use Rattle.calendar.proofs.locate.Goals as goal
use Rattle.calendar.proofs.locate.Goals.{Else-not-time_exists}

clock : (c : Else-not-time_exists) → (c.args.f.hour * 3600 + c.args.f.minute * 60 + c.args.f.second < 86400)
    × (c.args.f.hour * 3600 < 86400) × (c.args.f.minute * 60 < 3600)
clock c = second_fits c.args.f (sym c.if-not-time_exists.ensures)

pub returns-then-not-date_exists : goal.returns-then-not-date_exists
returns-then-not-date_exists c = grind (arith, common_steps, nowhere_date c.args.f, nowhere_time c.args.f)

pub overflow_mul-second : goal.overflow_mul-second
overflow_mul-second c = omega (arith, clock ((goal.at.overflow_mul-second c).Else-not-time_exists))

pub overflow_mul-second-2 : goal.overflow_mul-second-2
overflow_mul-second-2 c = omega (arith, clock ((goal.at.overflow_mul-second-2 c).Else-not-time_exists))

pub overflow_add-second : goal.overflow_add-second
overflow_add-second c = omega (arith, clock ((goal.at.overflow_add-second c).Else-not-time_exists))

pub overflow_add-second-2 : goal.overflow_add-second-2
overflow_add-second-2 c = omega (arith, clock ((goal.at.overflow_add-second-2 c).Else-not-time_exists))

pub seconds-requires : goal.seconds-requires
seconds-requires c = omega (arith, clock ((goal.at.seconds-requires c).Else-not-time_exists))

pub returns : goal.returns
returns c =
    located-at c.args.f _ _ _ (sym c.if-not-date_exists.ensures) (sym c.if-not-time_exists.ensures)
    c.weekday.ensures c.of_date-day.ensures
    (to_z-of_z {w = w64} (record { sfits = c.seconds.type_inv }) ∙ c.seconds.ensures)
