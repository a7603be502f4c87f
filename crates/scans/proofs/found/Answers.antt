-- `scans::found` meets its contract.
use Rattle.std.proofs.Common.{eq-eqb, ne_eqb}
use Rattle.scans.proofs.found.Goals as goal

pub returns-then-end-from : goal.returns-then-end-from
returns-then-end-from c = let x = c.args in rw (eq-eqb x.end x.from c.if-end-from.true)

pub returns-else-end-from : goal.returns-else-end-from
returns-else-end-from c = let x = c.args in rw (ne_eqb x.end x.from c.if-end-from.false)
