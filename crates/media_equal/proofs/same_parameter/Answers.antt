-- `media_equal::same_parameter` meets its contract: the names, then the values.
use Rattle.media_equal.proofs.Compared.{names-differ, by_values}
use Rattle.media_equal.proofs.same_parameter.Goals as goal

pub returns-then-not-same_ignoring_case : goal.returns-then-not-same_ignoring_case
returns-then-not-same_ignoring_case c =
    let x = c.args in
    let t = c.same_ignoring_case in
    names-differ x.a.now x.b.now x.p x.q _ _ t.result c.part-x.ensures c.part-y.ensures t.ensures
    c.if-not-same_ignoring_case.true

pub returns : goal.returns
returns c =
    let x = c.args in
    let t = c.same_ignoring_case in
    by_values x.a.now x.b.now x.p x.q _ _ t.result c.part-x.ensures c.part-y.ensures t.ensures
    c.if-not-same_ignoring_case.false _ _ _ _
    c.value.ensures c.value-2.ensures c.same_ignoring_case-folded.ensures c.same_value.ensures
