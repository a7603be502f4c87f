-- `date::Named::read_asctime` meets its contract.
use Rattle.std.proofs.Common.{◌≡◌, true, false, arith}
use Rattle.std.proofs.lemmas.Grind.{common_steps}
use Rattle.date.specs.helpers.Shapes.{standing}
use Rattle.date.proofs.Scan.{asctime-one, asctime-two}
use Rattle.date.proofs.Named.read_asctime.Goals as goal

pub read_tail-requires : goal.read_tail-requires
read_tail-requires c =
    let x = c.args.self in
    let e : standing x.text.now 8 32 ≡ true = grind (arith, common_steps) in
    asctime-one x.present_year x.text.now x.day c.requires _ c.fitting_at-fits.ensures c.if-fits-lt1.false e

pub read_tail-requires-in_default : goal.read_tail-requires-in_default
read_tail-requires-in_default c =
    let x = c.args.self in
    let e : standing x.text.now 8 32 ≡ false = grind (arith, common_steps) in
    asctime-two x.present_year x.text.now x.day c.requires _ c.fitting_at-fits.ensures c.if-fits-lt1.false e
