-- `chunk_writer::put_full` meets its contract. The line with what stands behind it, the data over that, CR LF.
use Rattle.chunk_writer.proofs.Lines.{full-parts}
use Rattle.chunk_writer.proofs.put_full.Goals as goal

pub returns : goal.returns
returns c =
    let p = c.requires in
    let r = full-parts c.args.out.now c.args.at c.args.part.now _ c.args.width p.0 p.1 p.2 p.3 p.4
    c.copy.ensures c.copy-2.ensures c.copy-3.ensures in
    record { ends = r.0; writes = r.1 }
