-- `escapes::resolved_len` meets its contract.
use Rattle.std.proofs.Common.{length, inl, sym, ap, ◌∙◌, arith}
use Rattle.escapes.proofs.Resolved.{no_percent, resolved-short}
use Rattle.escapes.proofs.resolved_len.Goals as goal

pub returns-then-not-has_percent : goal.returns-then-not-has_percent
returns-then-not-has_percent c = ap length (sym (no_percent c.args.s.now (sym c.has_percent.ensures ∙ c.if-not-has_percent.true)))

pub count-requires-clause-fits : goal.count-requires-clause-fits
count-requires-clause-fits c = inl (omega (arith, resolved-short c.args.s.now))
