-- `date_writer::write` meets its contract.
use mathlib.Core.Path.{◌≡◌, sym, ap, ◌∙◌}
use mir.Facts.{to_z-of_z}
use Rattle.std.specs.Prelude.{Some}
use Rattle.calendar.specs.Instants.{told}
use Rattle.date_writer.proofs.Writer.{in_tables, refuses-range, refuses-short, writes}
use Rattle.date_writer.proofs.write.Goals as goal
use Rattle.date_writer.proofs.write.Goals.{In-Some}

-- the calendar's answer is that of the instant itself
at : (c : In-Some) → Some c.in-Some.moment ≡ told c.args.seconds
at c = c.in-Some.ensures ∙ ap told (to_z-of_z c.ranges.seconds)

pub returns-in_default : goal.returns-in_default
returns-in_default c =
    let w = refuses-range c.args.seconds c.args.out.now (sym c.in_default.is ∙ c.fields_at.ensures ∙ ap told (to_z-of_z c.ranges.seconds)) in
    record { answers = w.0; writes = w.1 }

pub returns-then-out-lt-TEXT_LEN : goal.returns-then-out-lt-TEXT_LEN
returns-then-out-lt-TEXT_LEN c =
    let x = c.args in
    let w = refuses-short x.seconds x.out.now c.in-Some.moment (at ((goal.at.returns-then-out-lt-TEXT_LEN c).In-Some)) c.if-out-lt-TEXT_LEN.true in
    record { answers = w.0; writes = w.1 }

pub text_of-requires : goal.text_of-requires
text_of-requires c = in_tables c.args.seconds _ (at ((goal.at.text_of-requires c).In-Some))

pub returns : goal.returns
returns c =
    let x = c.args in
    let w = writes x.seconds x.out.now _ (at ((goal.at.returns c).In-Some)) c.if-out-lt-TEXT_LEN.false _ _ c.text_of.ensures c.put_bytes.ensures.writes in
    record { answers = w.0; writes = w.1 }
