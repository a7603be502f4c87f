-- `chunk_writer::put_frame` meets its contract. The parts taken are framed, and what is still to come is the frame of the others.
use mathlib.Core.Path.{◌≡◌}
use Rattle.std.specs.Slice.Iter.{chunks_rest, chunks_size}
use Rattle.chunk_writer.proofs.Puts.{Framed}
use Rattle.chunk_writer.proofs.put_frame.Given as goal

abbrev pub invariant-loop-part : goal.invariant-loop-part
invariant-loop-part l =
    (chunks_size l.part-iterator ≡ l.chunk_len)
    × Framed l.body l.chunk_len l.initial.out l.out (chunks_rest l.part-iterator) l.at
