-- `Pieces::pass` meets its contract: the bytes that it looks at are within the limit on a framed body.
use native.Mathlib.Omega.{arith}
use mathlib.Core.Path.{◌∙◌, ap}
use Prim.Native.Nat.{◌-◌}
use lib.ListN.{length, length-take}
use Rattle.framing.specs.declared.State.{State}
use Rattle.framing.specs.helpers.Machine.{emit}
use Rattle.framing.proofs.Goes.{emit-line}
use Rattle.pieces.specs.Grammar.{FRAMED_LIMIT}
use Rattle.pieces.proofs.Answers.{no_data}
use Rattle.pieces.proofs.Passing.{ran_none, ran_passed, idle_by, idle_full}
use Rattle.pieces.proofs.Pieces.pass.Goals as goal

pub returns-in-Data-clause-idle : goal.returns-in-Data-clause-idle
returns-in-Data-clause-idle c = λ some still.
    let e = ap length c.within.ensures in
    idle_full c.args.self c.requires.going
    (omega (arith, c.pass_data.ensures.some still, c.requires.sound.within, length-take (FRAMED_LIMIT - c.args.self.taken) c.args.bytes.now))

pub returns-in-Line-First-eq0-default-clause-idle : goal.returns-in-Line-First-eq0-default-clause-idle
returns-in-Line-First-eq0-default-clause-idle c = λ _ _.
    idle_by c.args.self (λ b. ap (λ (q : State). emit q b) c.in-Line-First-eq0-default.is ∙ emit-line _ b _ _)

pub returns-in_default : goal.returns-in_default
returns-in_default c = record {
  goes = ran_passed c.args.out.now (ran_none c.args.self c.args.bytes.now);
  idle = λ _ _. idle_by c.args.self (no_data c.args.self.position c.in_default.not-Data);
}

pub returns-in_default-2 : goal.returns-in_default-2
returns-in_default-2 c = record {
  goes = ran_passed c.args.out.now (ran_none c.args.self c.args.bytes.now);
  idle = λ _ _. idle_by c.args.self (no_data c.args.self.position c.in_default.not-Data);
}

pub returns-in_default-3 : goal.returns-in_default-3
returns-in_default-3 c = record {
  goes = ran_passed c.args.out.now (ran_none c.args.self c.args.bytes.now);
  idle = λ _ _. idle_by c.args.self (no_data c.args.self.position c.in_default.not-Data);
}
