-- `escapes::fits` meets its contract: a resolved text is no longer than the text.
use Rattle.std.proofs.Common.{length, sym, ◌∙◌, arith, le-leb}
use Rattle.escapes.specs.Resolved.{resolved}
use Rattle.escapes.proofs.Resolved.{resolved-short}
use Rattle.escapes.proofs.fits.Goals as goal

pub returns-then-s-room : goal.returns-then-s-room
returns-then-s-room c =
    let x = c.args in
    let h = c.if-s-room.true in
    le-leb (length x.s.now) x.room h ∙ sym (le-leb (length (resolved x.s.now)) x.room (omega (arith, resolved-short x.s.now)))
