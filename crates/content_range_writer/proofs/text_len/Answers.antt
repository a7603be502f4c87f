-- `content_range_writer::text_len` meets its contract.
use native.Mathlib.Omega.{arith}
use Prim.Native.Nat.{◌+◌, ◌≤◌}
use Rattle.content_range_writer.proofs.Writer.{text_length, at-most_65}
use Rattle.content_range_writer.proofs.text_len.Goals as goal
use Rattle.content_range_writer.proofs.text_len.Goals.{After-width-length_digits}

-- the whole sum, and with it each of its parts, is at most 65
whole : (c : After-width-length_digits)
    → 8 + c.width-first_digits.result + c.width-last_digits.result + c.width-length_digits.result ≤ 65
whole c =
    let n = at-most_65 c.args.first c.args.last c.args.entity_length c.requires in
    omega (
      arith,
      text_length c.args.first c.args.last c.args.entity_length,
      c.width-first_digits.ensures,
      c.width-last_digits.ensures,
      c.width-length_digits.ensures,
    )

pub overflow_add-result : goal.overflow_add-result
overflow_add-result c = omega (arith, whole ((goal.at.overflow_add-result c).After-width-length_digits))

pub overflow_add-result-2 : goal.overflow_add-result-2
overflow_add-result-2 c = omega (arith, whole ((goal.at.overflow_add-result-2 c).After-width-length_digits))

pub overflow_add-result-3 : goal.overflow_add-result-3
overflow_add-result-3 c = omega (arith, whole ((goal.at.overflow_add-result-3 c).After-width-length_digits))

pub overflow_add-result-4 : goal.overflow_add-result-4
overflow_add-result-4 c = omega (arith, whole ((goal.at.overflow_add-result-4 c).After-width-length_digits))

pub overflow_add-result-5 : goal.overflow_add-result-5
overflow_add-result-5 c = omega (arith, whole ((goal.at.overflow_add-result-5 c).After-width-length_digits))

pub returns : goal.returns
returns c =
    omega (
      arith,
      text_length c.args.first c.args.last c.args.entity_length,
      c.width-first_digits.ensures,
      c.width-last_digits.ensures,
      c.width-length_digits.ensures,
    )
