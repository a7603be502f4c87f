-- `date::Named::read_form` meets its contract.
use Rattle.std.proofs.Common.{◌≡◌, false, arith}
use Rattle.std.proofs.lemmas.Grind.{common_steps}
use Rattle.date.specs.helpers.Shapes.{standing}
use Rattle.date.proofs.Scan.{goes-long}
use Rattle.date.proofs.Named.read_form.Goals as goal
use Rattle.date.proofs.Named.read_form.Goals.{In_default}

no_comma : (c : In_default) → standing c.args.self.text.now 3 44 ≡ false
no_comma c = grind (arith, common_steps)

no_blank : (c : In_default) → standing c.args.self.text.now 3 32 ≡ false
no_blank c = grind (arith, common_steps)

pub read_rfc850-requires : goal.read_rfc850-requires
read_rfc850-requires c =
    let d = (goal.at.read_rfc850-requires c).In_default in
    goes-long c.args.self.present_year c.args.self.text.now c.args.self.day c.requires (no_comma d) (no_blank d)
