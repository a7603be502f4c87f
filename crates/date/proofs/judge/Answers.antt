-- `date::judge` meets its contract.
use Rattle.date.proofs.Judged.{judged_nowhere, judged_wrong, judged-right}
use Rattle.date.proofs.judge.Goals as goal

pub returns-in_default : goal.returns-in_default
returns-in_default c = judged_nowhere c.args.fields c.args.named c.in_default.ensures

pub returns-then-instant-named : goal.returns-then-instant-named
returns-then-instant-named c =
    judged_wrong c.args.fields c.args.named _ c.in-Some.ensures c.if-instant-named.true

pub returns : goal.returns
returns c =
    judged-right c.args.fields c.args.named _ c.in-Some.ensures c.if-instant-named.false
