-- `content_range_writer::put_text` meets its contract: its parts stand one behind the other.
use Rattle.content_range_writer.proofs.Writer.{text-put}
use Rattle.content_range_writer.proofs.put_text.Goals as goal

pub returns : goal.returns
returns c =
    let n = c.put_numeral in
    let s = c.put_bytes-slash_end in
    let l = c.put_numeral-last_end in
    let d = c.put_bytes-dash_end in
    let f = c.put_numeral-first_end in
    let u = c.put_bytes-unit_end in
    text-put c.args.first c.args.last c.args.entity_length c.args.out.now
    u.new.out f.new.out d.new.out l.new.out s.new.out n.new.out
    u.result f.result d.result l.result s.result n.result c.requires
    u.ensures.ends u.ensures.writes f.ensures.ends f.ensures.writes d.ensures.ends d.ensures.writes
    l.ensures.ends l.ensures.writes s.ensures.ends s.ensures.writes n.ensures.ends n.ensures.writes
