-- `ranges::read_number` meets its contract: each answer of the decimal reading, with the largest length as its cap.
use mathlib.Core.Path.{sym}
use Rattle.ranges.proofs.Numbers.{within, beyond, none}
use Rattle.ranges.proofs.read_number.Goals as goal

pub returns-in-Number : goal.returns-in-Number
returns-in-Number c = within c.args.s.now c.args.from _ _ (sym c.in-Number.ensures)

pub returns-in-Above : goal.returns-in-Above
returns-in-Above c = beyond c.args.s.now c.args.from _ _ (sym c.in-Above.ensures)

pub returns-in-Missing : goal.returns-in-Missing
returns-in-Missing c = none c.args.s.now c.args.from (sym c.in-Missing.ensures)
