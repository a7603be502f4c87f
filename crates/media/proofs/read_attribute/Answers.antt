-- `media::read_attribute` meets its contract: each way out is what the grammar leaves there.
use native.Mathlib.Omega.{arith}
use mathlib.Core.Path.{sym, ap, ◌∙◌}
use Rattle.grammar.specs.helpers.Scans.{slice}
use Rattle.std.specs.Prelude.{List}
use Rattle.media.specs.declared.Parameter.{Parameter}
use Rattle.media.specs.Grammar.{has_name}
use Rattle.media.specs.helpers.Places.{names_at}
use Rattle.media.specs.Reading.{read_already}
use Rattle.media.proofs.Tables.{any-named}
use Rattle.media.proofs.Scan.{counted_in, steps_on, name-none}
use Rattle.media.proofs.Scan.{seventeenth, name-cut_off, equals_not, name-repeated, name_new}
use Rattle.media.proofs.read_attribute.Goals as goal
use Rattle.media.proofs.read_attribute.Goals.{then-equals-s-via-then-equals-s, then-equals-s-via-else-equals-s+then-s-equals-ne61}

pub returns-then-equals-start : goal.returns-then-equals-start
returns-then-equals-start c =
    let g = c.token_end-equals in
    name-none c.requires (sym g.ensures ∙ c.if-equals-start.true)

pub returns-then-count-eq-PARAMETER_LIMIT : goal.returns-then-count-eq-PARAMETER_LIMIT
returns-then-count-eq-PARAMETER_LIMIT c =
    let g = c.token_end-equals in
    seventeenth c.requires g.result g.ensures c.if-equals-start.false
    (omega (arith, counted_in c.requires.before))

pub returns-then-equals-s : goal.returns-then-equals-s
returns-then-equals-s c =
    let g = c.token_end-equals in
    elim c.then-equals-s.branch [
      | then-equals-s-via-then-equals-s h ↦
          name-cut_off c.requires g.result g.ensures c.if-equals-start.false
          (omega (arith, counted_in c.requires.before, c.requires.before.few)) h.if-equals-s.true
      | then-equals-s-via-else-equals-s+then-s-equals-ne61 h ↦
          equals_not c.requires g.result g.ensures c.if-equals-start.false
          (omega (arith, counted_in c.requires.before, c.requires.before.few)) h.if-equals-s.false h.if-s-equals-ne61.true
    ]

pub returns-then-is_among : goal.returns-then-is_among
returns-then-is_among c =
    let g = c.token_end-equals in
    let e = sym c.if-is_among.true ∙ c.is_among.ensures ∙ any-named c.args.s.now (slice c.args.s.now c.args.start g.result) c.used.result.now
    ∙ ap (λ (t : List Parameter). has_name (slice c.args.s.now c.args.start g.result) (names_at c.args.s.now t)) c.used.ensures in
    name-repeated c.requires g.result g.ensures
    c.if-equals-start.false
    (omega (arith, counted_in c.requires.before, c.requires.before.few))
    c.if-equals-s.false c.if-s-equals-ne61.false e

pub returns : goal.returns
returns c =
    let x = c.args in
    let s = x.s.now in
    let ps = read_already x.found.now in
    let g = c.token_end-equals in
    let e = sym c.if-is_among.false ∙ c.is_among.ensures ∙ any-named s (slice s x.start g.result) c.used.result.now
    ∙ ap (λ (t : List Parameter). has_name (slice s x.start g.result) (names_at s t)) c.used.ensures in
    let w = name_new c.requires g.result g.ensures
    c.if-equals-start.false
    (omega (arith, counted_in c.requires.before, c.requires.before.few))
    c.if-equals-s.false c.if-s-equals-ne61.false e in
    steps_on s x.found.now.names ps x.start g.result c.read_value.result w.ordered (c.read_value.ensures x.found.now.names ps w)
