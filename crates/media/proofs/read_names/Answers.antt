-- `media::read_names` meets its contract: a text that is too long, one without a type, or one with a type.
use mathlib.Core.Path.{sym, ◌∙◌}
use Rattle.octets.specs.Bytes.{token?}
use Rattle.octets.proofs.Tables.{token-bits}
use Rattle.media.proofs.Scan.{type-none}
use Rattle.media.proofs.read_names.Goals as goal

pub returns-then-slash-eq0 : goal.returns-then-slash-eq0
returns-then-slash-eq0 c =
    let s = c.args.s.now in
    type-none s c.in_ok-check_length.ensures (sym (c.class_end-slash.ensures token? token-bits) ∙ c.if-slash-eq0.true)

pub read_subtype-requires : goal.read_subtype-requires
read_subtype-requires c = record {
  short = c.in_ok-check_length.ensures;
  ends = c.class_end-slash.ensures token? token-bits;
  some = c.if-slash-eq0.false;
}
