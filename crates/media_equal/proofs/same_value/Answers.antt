-- `media_equal::same_value` meets its contract: by the bytes that both iterators give.
use Rattle.std.proofs.Common.{ℕ, List, rules, refl, ◌∙◌}
use Rattle.std.proofs.lemmas.Iterator.{YieldsList-from_map}
use Rattle.std.proofs.lemmas.Iterator.Consumers.{YieldsList-from_first, YieldsList-at}
use Rattle.grammar.specs.Grammar.{lower}
use Rattle.media_equal.specs.declared.UnquotedBytes.{UnquotedBytes}
use Rattle.media_equal.specs.Meaning.{unquoted}
use Rattle.media_equal.proofs.Items.{eq-items, same-mapped}
use Rattle.media_equal.proofs.same_value.Goals as goal

abbrev left : UnquotedBytes → List ℕ
left s = unquoted s.quoted s.rest.now

pub returns-then-folded : goal.returns-then-folded
returns-then-folded c =
    let x = c.args in
    let m = c.map in
    let n = c.map-then-folded in
    rw c.if-folded.true (
    eq-items c.eq.result c.eq.ensures.ran
    (YieldsList-from_map _ lower (YieldsList-at m.ensures.source (YieldsList-from_first (λ b. b) left _ refl)) m.ensures.closure (λ y r q k. search rules))
    (YieldsList-from_map _ lower (YieldsList-at n.ensures.source (YieldsList-from_first (λ b. b) left _ refl)) n.ensures.closure (λ y r q k. search rules))
    ∙ same-mapped lower (left x.v) (left x.w)
    )

pub returns-else-folded : goal.returns-else-folded
returns-else-folded c =
    rw c.if-folded.false
    (eq-items c.eq-else-folded.result c.eq-else-folded.ensures.ran (YieldsList-from_first (λ b. b) left _ refl) (YieldsList-from_first (λ b. b) left _ refl))
