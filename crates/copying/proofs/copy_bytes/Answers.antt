-- `copying::copy_bytes` meets its contract.
use native.Mathlib.Omega.{arith}
use Rattle.copying.proofs.Runs.{front_length, front-on, front-all}
use Rattle.copying.proofs.copy_bytes.Goals as goal

pub bounds-dst-i : goal.bounds-dst-i
bounds-dst-i c = omega (arith, front_length c.requires c.loop-i.invariant)

pub loop-i-preserved : goal.loop-i-preserved
loop-i-preserved c = front-on c.requires c.loop-i.invariant (omega arith)

pub shape_of-dst : goal.shape_of-dst
shape_of-dst c = front_length c.requires c.loop-i.invariant

pub returns : goal.returns
returns c = front-all c.requires c.loop-i.invariant (omega arith)
