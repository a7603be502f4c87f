-- `escapes::same` meets its contract: both iterators give the resolved bytes.
use Rattle.std.proofs.Common.{List, ℕ, sym, ap, ◌∙◌}
use Rattle.octets.specs.Same.{same?}
use Rattle.escapes.specs.declared.ResolvedBytes.{ResolvedBytes}
use Rattle.escapes.specs.Resolved.{resolved}
use Rattle.escapes.proofs.Compared.{same-behind, same-last}
use Rattle.escapes.proofs.same.Goals as goal

left : ResolvedBytes → List ℕ
left s = resolved s.0.now

pub returns : goal.returns
unfolding left
returns c =
    let w = c.eq.ensures.ran in
    same-last left w.8.0 w.9.0 w.5 w.6 w.3 w.4 c.eq.result w.8.2 w.9.2 w.11
    ∙ sym (same-behind left (record { 0 = c.args.a }) w.0 w.1 w.2 w.8.0 w.9.0 w.8.1 w.9.1 w.10)
    ∙ ap (λ (z : ResolvedBytes). same? (resolved c.args.a.now) (left z)) w.7
