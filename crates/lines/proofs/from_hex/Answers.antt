-- `lines::from_hex` meets its contract. By the case of the answer.
use mathlib.Core.Path.{◌≡◌, sym, ◌∙◌}
use Rattle.std.proofs.Math.Option.{none}
use Rattle.lines.specs.Reading.{spelled}
use Prim.Native.Nat.{◌/◌}
use native.Mathlib.Omega.{arith}
use lib.ListN.{length}
use lib.Seq.{length-take-le}
use Rattle.lines.proofs.Hexes.{too_many, odd, other, half, no_room, good, bad_is, good-is}
use Rattle.lines.proofs.from_hex.Goals as goal
use Rattle.lines.proofs.from_hex.Goals.{then-line-gt-DIGIT_LIMIT-via-then-line-gt-DIGIT_LIMIT}
use Rattle.lines.proofs.from_hex.Goals.{then-line-gt-DIGIT_LIMIT-via-else-line-gt-DIGIT_LIMIT+then-line-ne0}
use Rattle.lines.proofs.from_hex.Goals.{then-line-gt-DIGIT_LIMIT-via-else-line-gt-DIGIT_LIMIT+else-line-ne0+then-not-all_hex}

pub returns-then-line-gt-DIGIT_LIMIT : goal.returns-then-line-gt-DIGIT_LIMIT
returns-then-line-gt-DIGIT_LIMIT c =
    let line = c.args.line.now in
    let out = c.args.out.now in
    let bad : spelled line (length out) ≡ none = elim c.then-line-gt-DIGIT_LIMIT.branch [
      | then-line-gt-DIGIT_LIMIT-via-then-line-gt-DIGIT_LIMIT w ↦ too_many line (length out) w.if-line-gt-DIGIT_LIMIT.true
      | then-line-gt-DIGIT_LIMIT-via-else-line-gt-DIGIT_LIMIT+then-line-ne0 w ↦ odd line (length out) w.if-line-gt-DIGIT_LIMIT.false w.if-line-ne0.true
      | then-line-gt-DIGIT_LIMIT-via-else-line-gt-DIGIT_LIMIT+else-line-ne0+then-not-all_hex w
          ↦ other line (length out) w.if-line-gt-DIGIT_LIMIT.false (sym w.all_hex.ensures ∙ w.if-not-all_hex.true)
    ] in
    let p = bad_is line out bad in
    record { answers = p.0; writes = p.1 }

pub returns-then-count-out : goal.returns-then-count-out
returns-then-count-out c =
    let line = c.args.line.now in
    let out = c.args.out.now in
    let all = sym c.all_hex.ensures ∙ c.if-not-all_hex.false in
    let p = bad_is line out (no_room line (length out) c.if-line-gt-DIGIT_LIMIT.false c.if-line-ne0.false all c.if-count-out.true) in
    record { answers = p.0; writes = p.1 }

pub slice_bounds-put_pairs-end-2 : goal.slice_bounds-put_pairs-end-2
slice_bounds-put_pairs-end-2 c =
    sym (length-take-le (length c.args.line.now / 2) c.args.out.now c.if-count-out.false)

pub put_pairs-requires : goal.put_pairs-requires
put_pairs-requires c =
    let line = c.args.line.now in
    let out = c.args.out.now in
    let all = sym c.all_hex.ensures ∙ c.if-not-all_hex.false in
    (omega (arith, c.if-line-ne0.false, length-take-le (length line / 2) out c.if-count-out.false), all)

pub returns : goal.returns
returns c =
    let line = c.args.line.now in
    let out = c.args.out.now in
    let all = sym c.all_hex.ensures ∙ c.if-not-all_hex.false in
    let p = good-is line out c.put_pairs.new.out (length line / 2)
    (sym (half line (length out) c.if-line-gt-DIGIT_LIMIT.false c.if-line-ne0.false all)) c.put_pairs.ensures
    (good line (length out) c.if-line-gt-DIGIT_LIMIT.false c.if-line-ne0.false all c.if-count-out.false) in
    record { answers = p.0; writes = p.1 }
