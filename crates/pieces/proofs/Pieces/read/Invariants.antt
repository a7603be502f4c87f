-- `Pieces::read` meets its contract: what remains leads to where all of the bytes lead.
use Prim.Native.Nat.{◌-◌, ◌≤◌}
use Rattle.pieces.proofs.Rest.{Rest, left}
use Rattle.pieces.proofs.Pieces.read.Given as goal

abbrev pub invariant-loop-state : goal.invariant-loop-state
invariant-loop-state l = record {
  least : l.fn.self.taken ≤ l.state.taken;
  rest : Rest l.fn.self 0 l.bytes l.fn.out l.state l.out (l.state.taken - l.fn.self.taken);
}

abbrev pub decreases-loop-state : goal.decreases-loop-state
decreases-loop-state l = left l.bytes l.state (l.state.taken - l.fn.self.taken)
