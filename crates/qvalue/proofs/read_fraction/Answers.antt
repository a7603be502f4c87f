-- `qvalue::read_fraction` meets its contract: each way out is what the grammar leaves behind the first digit.
use Rattle.std.proofs.Common.{◌≡◌, ℕ, ◌≤◌, true, get_or, sym, arith}
use Rattle.octets.specs.Bytes.{digit?}
use Rattle.qvalue.proofs.Scan.{no_point, behind_digits, no_more, digit_there, decimals-read}
use Rattle.qvalue.proofs.read_fraction.Goals as goal
use Rattle.qvalue.proofs.read_fraction.Goals.{Else-end-s}

pub returns-then-s-eq1 : goal.returns-then-s-eq1
returns-then-s-eq1 c =
    let x = c.args in
    sym (no_point x.s.now x.whole x.class c.requires c.if-s-eq1.true)

pub returns-then-end-s : goal.returns-then-end-s
returns-then-end-s c =
    let x = c.args in
    let a = c.requires in
    let e = c.class_end.ensures a.class.has a.bits in
    sym (behind_digits x.s.now x.whole x.class a c.if-s-eq1.false c.if-s-ne46.false _ e _ c.min-end.ensures c.if-end-s.true)

-- behind the point stand as many digits as there may be, and then nothing
module _ (c : Else-end-s) where
  few : c.class_end.result ≤ 5
  few =
      no_more c.args.s.now c.args.whole c.args.class c.requires c.if-s-eq1.false c.if-s-ne46.false _
      (c.class_end.ensures c.requires.class.has c.requires.bits) (omega (arith, c.min-end.ensures, c.if-end-s.false))

  digit : (k : ℕ) → 2 ≤ k → digit? (get_or c.args.s.now k 48) ≡ true
  digit =
      digit_there c.args.s.now c.args.whole c.args.class c.requires c.if-s-eq1.false c.if-s-ne46.false _
      (c.class_end.ensures c.requires.class.has c.requires.bits) few (omega (arith, c.min-end.ensures, c.if-end-s.false))

pub digit_at-requires : goal.digit_at-requires
digit_at-requires c = digit (goal.at.digit_at-requires c).Else-end-s 2 (omega arith)

pub digit_at-requires-2 : goal.digit_at-requires-2
digit_at-requires-2 c = digit (goal.at.digit_at-requires-2 c).Else-end-s 3 (omega arith)

pub digit_at-requires-3 : goal.digit_at-requires-3
digit_at-requires-3 c = digit (goal.at.digit_at-requires-3 c).Else-end-s 4 (omega arith)

pub returns : goal.returns
returns c =
    let x = c.args in
    let a = c.requires in
    rw (c.digit_at.ensures.0, c.digit_at-2.ensures.0, c.digit_at-3.ensures.0)
    (sym (decimals-read x.s.now x.whole x.class a c.if-s-eq1.false c.if-s-ne46.false _ (c.class_end.ensures a.class.has a.bits)
    (few (goal.at.returns c).Else-end-s) (omega (arith, c.min-end.ensures))))
