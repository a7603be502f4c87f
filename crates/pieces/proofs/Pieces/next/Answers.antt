-- `Pieces::next` meets its contract.
use mathlib.Core.Path.{sym, ◌∙◌}
use Rattle.pieces.proofs.Valid.{next-to, next-full, next-turned, never_impossible}
use Rattle.pieces.proofs.Pieces.next.Goals as goal

pub returns-in-Some-Ok : goal.returns-in-Some-Ok
returns-in-Some-Ok c =
    let e = rw c.in-Some-Ok.field-0-is at c.in-Some-Ok.ensures in
    c.refuse.ensures ∙ next-full c.args.self c.args.byte c.requires (sym e) c.if-self-eq-FRAMED_LIMIT.true

pub returns-in-Some-Ok-2 : goal.returns-in-Some-Ok-2
returns-in-Some-Ok-2 c =
    let e = rw c.in-Some-Ok.field-0-is at c.in-Some-Ok.ensures in
    c.moved.ensures ∙ next-to c.args.self c.args.byte c.requires (sym e) c.if-self-eq-FRAMED_LIMIT.false

pub returns-in-Some-Err : goal.returns-in-Some-Err
returns-in-Some-Err c =
    let e = rw c.in-Some-Err.field-0-is at c.in-Some-Err.ensures in
    c.refuse-in-Some-Err.ensures ∙ next-turned c.args.self c.args.byte c.requires (sym e)

pub returns-in-None : goal.returns-in-None
returns-in-None c = never_impossible c.args.self c.args.byte c.requires (sym c.in-None.ensures)
