-- `url_normal::normalize` meets its contract: by what reading answers.
use Rattle.std.proofs.Common.{length, sym, ap, ◌∙◌}
use Rattle.std.proofs.lemmas.Result.{err_from_is_err_and}
use Rattle.url_normal.specs.Normal.{answer_in_room, output_after}
use Rattle.url_normal.proofs.Lengths.{form-short}
use Rattle.url_normal.proofs.Answers.{readable_short, refused_as, read_as}
use Rattle.url_normal.proofs.normalize.Goals as goal

pub returns-in_err-url : goal.returns-in_err-url
returns-in_err-url c =
    let x = c.args in
    let p = err_from_is_err_and c.from_residual.result c.from_residual.ensures.1 in
    let e = refused_as x.s.now _ _ (sym c.in_err-url.ensures) in
    record {
      answers = rw (p.1, p.2) (sym (ap (λ v. answer_in_room v (length x.out.now)) e));
      writes = sym (ap (λ v. output_after v x.out.now) e);
    }

pub invariant_of-write : goal.invariant_of-write
invariant_of-write c =
    let x = c.args in
    let e = sym c.in_ok-url.ensures in
    record { text_within_limit = readable_short x.s.now _ e; one_longer = form-short x.s.now _ e }

pub returns : goal.returns
returns c =
    let w = c.write in
    let x = c.args in
    let e = read_as x.s.now _ (sym c.in_ok-url.ensures) in
    record {
      answers = w.ensures.answers ∙ sym (ap (λ v. answer_in_room v (length x.out.now)) e);
      writes = w.ensures.writes ∙ sym (ap (λ v. output_after v x.out.now) e);
    }
