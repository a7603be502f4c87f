-- `chunked::same_bytes` meets its contract.
use Rattle.std.proofs.Common.{sym, ◌∙◌}
use Rattle.chunked.proofs.Words.{same-part}
use Rattle.chunked.proofs.same_bytes.Goals as goal

pub returns : goal.returns
returns c = λ e.
    let s = c.args in
    same-part s.input.now s.a s.b s.count (sym c.same.ensures ∙ e)
