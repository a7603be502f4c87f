-- `language::part_end` meets its contract.
use Prim.Native.Nat.{ℕ, ◌+◌}
use native.Mathlib.Omega.{arith}
use mathlib.Core.Path.{ap, ◌∙◌}
use Rattle.octets.specs.Bytes.{letter?}
use Rattle.octets.proofs.Tables.{letter-bits}
use Rattle.language.proofs.Scan.{part-least}
use Rattle.language.proofs.part_end.Goals as goal

pub overflow_sub-end : goal.overflow_sub-end
overflow_sub-end c = omega (arith, c.class_end-end.ensures letter? letter-bits)

pub returns : goal.returns
returns c =
    let x = c.args in
    ap (λ (n : ℕ). x.from + n) c.min.ensures ∙ part-least x.s.now x.from c.class_end-end.result (c.class_end-end.ensures letter? letter-bits)
