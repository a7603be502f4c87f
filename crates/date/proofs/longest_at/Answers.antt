-- `date::longest_at` meets its contract: the longest of the names passed, and of those from there on, is the longest of all.
use mathlib.Core.Path.{◌∙◌}
use Rattle.date.proofs.Tables.{longest-end, longest-on}
use Rattle.date.proofs.longest_at.Goals as goal

pub loop-name-preserved : goal.loop-name-preserved
loop-name-preserved c =
    let e = c.in-Some.ensures.steps in
    let inv = c.loop-name.invariant in
    (e.0 ∙ inv.0, longest-on _ _ _ _ _ _ _ _ inv.1 e.1.0 (e.1.1 ∙ inv.0) c.fitting_at.ensures c.max-best.ensures)

pub returns : goal.returns
returns c = longest-end _ _ _ _ c.loop-name.invariant.1 (rw c.loop-name.invariant.0 at c.in-None.ensures.steps.1.0)
