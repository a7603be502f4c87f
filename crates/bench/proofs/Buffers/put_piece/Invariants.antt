-- `bench::Buffers::put_piece` meets its contract. The lines that ended are answered, and the first bytes of the next are held.
use Prim.Native.Nat.{◌-◌}
use lib.ListN.{length, take}
use Rattle.bench.proofs.Walk.{Spoken}
use Rattle.bench.proofs.Buffers.put_piece.Given as goal

abbrev pub invariant-loop-at : goal.invariant-loop-at
invariant-loop-at l =
    Spoken l.piece (take l.held l.initial.self.line) l.initial.self.out l.self.line l.self.out l.at l.begun l.used

abbrev pub decreases-loop-at : goal.decreases-loop-at
decreases-loop-at l = length l.piece - l.at
