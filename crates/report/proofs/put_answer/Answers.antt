-- `report::put_answer` meets its contract. By the case of the answer.
use mathlib.Core.Path.{◌≡◌, sym, ap, ap₂, ◌∙◌}
use Rattle.grammar.specs.Text.{bytes}
use Rattle.framing.specs.Answer.{whole, more, refused}
use Rattle.chunked.specs.Verdict.{verdict}
use Rattle.text.specs.Placing.{placed, behind}
use Rattle.report.specs.Saying.{numbers, said_answer}
use Rattle.report.proofs.Says.{shows, said-whole, said_more}
use Rattle.report.proofs.put_answer.Goals as goal

pub returns-in-Whole : goal.returns-in-Whole
returns-in-Whole c =
    let body = c.in-Whole.body in
    let r = shows c.args.answer (whole body) (ap verdict c.in-Whole.is) c.args.out.now c.args.at
    (numbers (bytes "C ") body.taken body.length) c.put_two.new.out c.put_two.result (said-whole body)
    (c.put_two.ensures.ends, c.put_two.ensures.says) in
    record { ends = r.0; says = r.1 }

pub returns-in-More : goal.returns-in-More
returns-in-More c =
    let out = c.args.out.now in
    let is = ap verdict c.in-More.is in
    let r = shows c.args.answer more is out c.args.at (bytes "M\n") c.put_bytes.new.out
    c.put_bytes.result said_more
    (c.put_bytes.ensures.ends, c.put_bytes.ensures.writes) in
    record { ends = r.0; says = r.1 }

pub returns-in-Refused : goal.returns-in-Refused
returns-in-Refused c =
    let is : refused c.number.result c.place.result ≡ verdict c.args.answer
    = ap₂ refused c.number.ensures c.place.ensures ∙ sym (ap verdict c.in-Refused.is) in
    record {
      ends = c.put_refusal.ensures.ends ∙ ap (λ v. behind c.args.out.now c.args.at (said_answer v)) is;
      says = c.put_refusal.ensures.says ∙ ap (λ v. placed c.args.out.now c.args.at (said_answer v)) is;
    }
