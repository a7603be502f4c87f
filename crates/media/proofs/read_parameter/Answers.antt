-- `media::read_parameter` meets its contract: each way out is what the grammar leaves there.
use Rattle.media.specs.Reading.{read_already}
use Rattle.octets.specs.Bytes.{blank?}
use Rattle.octets.proofs.Tables.{blank-bits}
use Rattle.media.proofs.Scan.{steps_on, blanks-end, semicolon_not, name-begins, name-behind}
use Rattle.media.proofs.read_parameter.Goals as goal
use Rattle.media.proofs.read_parameter.Goals.{then-semicolon-s-via-then-semicolon-s, then-semicolon-s-via-else-semicolon-s+then-s-semicolon-ne59}

pub returns-then-semicolon-s : goal.returns-then-semicolon-s
returns-then-semicolon-s c =
    let d = c.class_end-semicolon in
    let e = d.ensures blank? blank-bits in
    elim c.then-semicolon-s.branch [
      | then-semicolon-s-via-then-semicolon-s h ↦ blanks-end c.requires.found c.requires.at_in_bounds d.result e h.if-semicolon-s.true
      | then-semicolon-s-via-else-semicolon-s+then-s-semicolon-ne59 h ↦ semicolon_not c.requires.found c.requires.at_in_bounds d.result e h.if-semicolon-s.false h.if-s-semicolon-ne59.true
    ]

pub read_attribute-requires : goal.read_attribute-requires
read_attribute-requires c =
    let d = c.class_end-semicolon in
    name-begins c.requires.found c.requires.at_in_bounds d.result (d.ensures blank? blank-bits) c.if-semicolon-s.false c.if-s-semicolon-ne59.false
    c.class_end-start.result (c.class_end-start.ensures blank? blank-bits)

pub returns : goal.returns
returns c =
    let x = c.args in
    let s = x.s.now in
    let ps = read_already x.found.now in
    let d = c.class_end-semicolon in
    let f = c.class_end-start in
    steps_on s x.found.now.names ps x.at f.result c.read_attribute.result
    (name-behind c.requires.found c.requires.at_in_bounds d.result (d.ensures blank? blank-bits) c.if-semicolon-s.false
    c.if-s-semicolon-ne59.false f.result (f.ensures blank? blank-bits)) c.read_attribute.ensures
