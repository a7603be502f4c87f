-- `chunked::same_line` meets its contract.
use Rattle.std.proofs.Common.{ℕ, sym, ◌∙◌, arith, eqb-true}
use Rattle.framing.proofs.Cases.{false-true}
use Rattle.chunked.proofs.Words.{by_words}
use Rattle.chunked.proofs.same_line.Goals as goal

pub returns-then-word : goal.returns-then-word
returns-then-word c = λ e. false-true e

pub returns : goal.returns
returns c = λ e.
    let one = c.word in
    let two = c.word-2 in
    by_words c.args.input.now (λ (k : ℕ). omega (arith, c.type_inv.input k)) c.args.a c.args.b c.args.count
    (omega arith) (omega arith) c.requires.0 c.requires.1 (sym one.ensures ∙ c.if-word.false ∙ two.ensures)
    (sym c.word-3.ensures ∙ eqb-true c.word-3.result c.word-4.result e ∙ c.word-4.ensures)
