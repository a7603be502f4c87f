-- `version_writer::put_text` meets its contract: its parts stand one behind the other.
use Rattle.version_writer.proofs.Writer.{text-put}
use Rattle.version_writer.proofs.put_text.Goals as goal

pub returns : goal.returns
returns c =
    let d = c.put_numeral in
    let p = c.put_bytes-point_end in
    let m = c.put_numeral-major_end in
    let h = c.put_bytes-name_end in
    text-put c.args.major c.args.minor c.args.out.now h.new.out m.new.out p.new.out d.new.out h.result m.result
    p.result d.result
    c.requires h.ensures.ends h.ensures.writes m.ensures.ends m.ensures.writes p.ensures.ends p.ensures.writes d.ensures.ends d.ensures.writes
