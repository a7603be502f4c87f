-- `media_charset::read_charset` meets its contract: by the reading, and what it says of the text; what was passed is not `charset`.
use mathlib.Core.Path.{sym, ap, ◌∙◌}
use Rattle.std.proofs.lemmas.Result.{err_from_is_err_and}
use Rattle.grammar.specs.Reading.{value}
use Rattle.media.specs.Grammar.{part_at}
use Rattle.media_charset.specs.Charset.{default_charset}
use Rattle.media_charset.specs.Places.{stated_at}
use Rattle.media_charset.proofs.Places.{read-effect, refused-effect}
use Rattle.media_charset.proofs.Tables.{not-stated, stated-here, stated-behind}
use Rattle.media_charset.proofs.read_charset.Goals as goal

pub returns-in_err-m : goal.returns-in_err-m
returns-in_err-m c =
    let z = c.args in
    let p = err_from_is_err_and c.from_residual.result c.from_residual.ensures.1 in
    rw (p.1, p.2) (sym (refused-effect z.s.now z.assumed _ c.in_err-m.ensures.0))

pub returns-then-same_ignoring_case : goal.returns-then-same_ignoring_case
returns-then-same_ignoring_case c =
    let l = c.loop-p in
    let z = c.args in
    let m = c.in_ok-m.m in
    let other = default_charset z.assumed (part_at z.s.now m.names.type_start m.names.type_length) in
    ap value (stated-here z.s.now c.used-parameters.result.now l.p-index c.loop-p-test.true _ other _ c.part.ensures
    c.same_ignoring_case.ensures c.if-same_ignoring_case.true ∙ l.invariant other ∙ ap (stated_at z.s.now other) c.used-parameters.ensures)
    ∙ sym (read-effect z.s.now z.assumed m c.in_ok-m.ensures.0)

pub loop-p-preserved : goal.loop-p-preserved
loop-p-preserved c other =
    stated-behind c.args.s.now c.used-parameters.result.now c.loop-p.p-index c.loop-p-test.true _ other _ c.part.ensures
    c.same_ignoring_case.ensures c.if-same_ignoring_case.false
    ∙ c.loop-p.invariant other

pub returns : goal.returns
returns c =
    let l = c.loop-p in
    let z = c.args in
    let m = c.in_ok-m.m in
    let other = default_charset z.assumed (part_at z.s.now m.names.type_start m.names.type_length) in
    ap value (c.default_charset.ensures ∙ ap (default_charset z.assumed) c.part-name.ensures
    ∙ not-stated z.s.now c.used-parameters.result.now l.p-index other c.loop-p-test.false ∙ l.invariant other
    ∙ ap (stated_at z.s.now other) c.used-parameters.ensures)
    ∙ sym (read-effect z.s.now z.assumed m c.in_ok-m.ensures.0)
