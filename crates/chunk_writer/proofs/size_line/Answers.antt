-- `chunk_writer::size_line` meets its contract.
use mathlib.Core.Path.{refl}
use Rattle.chunk_writer.proofs.Lines.{line_made}
use Rattle.chunk_writer.proofs.size_line.Goals as goal

pub returns : goal.returns
returns c =
    let h = c.put_numeral-end.ensures in
    line_made _ c.args.size refl (h.ends, h.writes) c.put_bytes.ensures.writes
