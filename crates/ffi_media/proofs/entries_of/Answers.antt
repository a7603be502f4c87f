-- `ffi_media::entries_of` meets its contract: the first entries are converted, and the others are still to come.
use native.Mathlib.Omega.{arith}
use lib.ListN.{length}
use borrow.Author.Rules.{rules}
use mathlib.Core.Path.{◌≡◌, refl, ◌∙◌}
use Rattle.octets.proofs.Entries.{converted, one-converted, all-converted}
use Rattle.ffi_media.specs.Fields.{parameter_fields}
use Rattle.ffi_media.proofs.entries_of.Goals as goal

pub loop-i-init : goal.loop-i-init
unfolding converted
loop-i-init c = refl

pub loop-i-preserved : goal.loop-i-preserved
loop-i-preserved c =
    let l = c.loop-i in
    let full : length c.args.table.now ≡ 16 = search rules in
    one-converted parameter_fields l.i c.args.table.now _ _ _ _ (omega (arith, full, c.loop-i-test.true)) full l.invariant c.from.ensures

pub returns : goal.returns
returns c =
    let l = c.loop-i in
    let full : length c.args.table.now ≡ 16 = search rules in
    l.invariant ∙ all-converted parameter_fields l.i c.args.table.now _ (omega (arith, full, l.auto.i-end, c.loop-i-test.false)) full
