-- `chunk_writer::put_chunk` meets its contract. Four parts, one behind the other.
use Rattle.chunk_writer.proofs.Puts.{chunk-put}
use Rattle.chunk_writer.proofs.put_chunk.Goals as goal

pub returns : goal.returns
returns c =
    let h = c.put_numeral-size_end.ensures in
    let d = c.put_bytes-data_at.ensures in
    let b = c.put_bytes-data_end.ensures in
    let e = c.put_bytes.ensures in
    let r = chunk-put c.args.out.now c.args.at c.args.part.now c.requires
    (h.ends, h.writes) (d.ends, d.writes) (b.ends, b.writes) (e.ends, e.writes) in
    record { ends = r.0; writes = r.1 }
