-- `media_equal::same_names` meets its contract: type, then subtype.
use mathlib.Core.Path.{ap₂, ◌∙◌}
use Rattle.octets.specs.Case.{alike}
use Rattle.media_equal.proofs.Compared.{fails, holds}
use Rattle.media_equal.proofs.same_names.Goals as goal

pub returns-then-not-same_ignoring_case : goal.returns-then-not-same_ignoring_case
returns-then-not-same_ignoring_case c =
    let t = c.same_ignoring_case in
    fails t.result _ _ (t.ensures ∙ ap₂ alike c.part-x.ensures c.part-y.ensures)
    c.if-not-same_ignoring_case.true

pub returns : goal.returns
returns c =
    let t = c.same_ignoring_case in
    c.same_ignoring_case-2.ensures ∙ ap₂ alike c.part-x-2.ensures c.part-y-2.ensures
    ∙ holds t.result _ _ (t.ensures ∙ ap₂ alike c.part-x.ensures c.part-y.ensures)
    c.if-not-same_ignoring_case.false
