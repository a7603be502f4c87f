-- `version_writer::text_len` meets its contract.
use native.Mathlib.Omega.{arith}
use Rattle.version_writer.proofs.Writer.{text_length, few-digits, within_both}
use Rattle.version_writer.proofs.text_len.Goals as goal

pub overflow_add-result : goal.overflow_add-result
overflow_add-result c =
    let w = within_both c.args.major c.args.minor c.requires in
    omega (arith, few-digits c.args.major w.0, c.width-major_len.ensures)

pub overflow_add-result-2 : goal.overflow_add-result-2
overflow_add-result-2 c =
    let w = within_both c.args.major c.args.minor c.requires in
    omega (arith, few-digits c.args.major w.0, c.width-major_len.ensures)

pub overflow_add-result-3 : goal.overflow_add-result-3
overflow_add-result-3 c =
    let w = within_both c.args.major c.args.minor c.requires in
    let m = few-digits c.args.major w.0 in
    let n = few-digits c.args.minor w.1 in
    omega (arith, c.width-major_len.ensures, c.width-minor_len.ensures)

pub returns : goal.returns
returns c =
    omega (arith, text_length c.args.major c.args.minor, c.width-major_len.ensures, c.width-minor_len.ensures)
