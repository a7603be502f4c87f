-- `chunked::decode` meets its contract.
use Rattle.chunked.proofs.Copies.{kept-other}
use Rattle.chunked.proofs.decode.Goals as goal

pub returns-in_default : goal.returns-in_default
returns-in_default c =
    let s = c.args in
    let d = c.decide-answer.ensures.answers in
    record { answers = d; writes = kept-other s.input.now s.out.now c.decide-answer.result.answer d c.in_default.not-Whole }
