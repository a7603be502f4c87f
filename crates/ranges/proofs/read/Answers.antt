-- `ranges::read` meets its contract: the length of the entity, that of the value, the unit, then the elements.
use native.Mathlib.Omega.{arith}
use mathlib.Core.Path.{sym, ap, ◌∙◌}
use Rattle.grammar.specs.Reading.{refused}
use Rattle.octets.specs.declared.Refusal.TheVariants.{Malformed}
use Rattle.ranges.proofs.Scan.{unit-not, unit-read}
use Rattle.ranges.proofs.Filled.{refused-found}
use Rattle.ranges.proofs.read.Goals as goal

pub returns-then-unit-lt-UNIT_LEN : goal.returns-then-unit-lt-UNIT_LEN
returns-then-unit-lt-UNIT_LEN c =
    let a = c.args in
    let e = c.word_at-unit.ensures in
    refused-found a.entity_length a.s.now (Malformed c.word_at-unit.result) c.if-entity_length-gt-LENGTH_LIMIT.false
    (unit-not a.entity_length a.s.now c.in_ok-check_length.ensures (omega (arith, e, c.if-unit-lt-UNIT_LEN.true)) ∙ ap (refused 1) (sym e))

pub read_elements-requires : goal.read_elements-requires
read_elements-requires c =
    let a = c.args in
    record {
      length_within = c.if-entity_length-gt-LENGTH_LIMIT.false;
      found = unit-read a.entity_length a.s.now c.in_ok-check_length.ensures (omega (arith, c.word_at-unit.ensures, c.if-unit-lt-UNIT_LEN.false));
    }
