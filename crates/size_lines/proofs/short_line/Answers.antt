-- `size_lines::short_line` meets its contract.
use mathlib.Core.Path.{◌≡◌, ap}
use Prim.Native.Nat.{ℕ, ◌/◌, ◌%◌}
use mathlib.Core.List.{List}
use native.Mathlib.Omega.{arith}
use lib.ListN.{get_or}
use Rattle.size_lines.proofs.Words.{word_line}
use Rattle.size_lines.proofs.short_line.Goals as goal

pub returns : goal.returns
returns c =
    let w = c.args.word in
    let bytes = c.to_le_bytes.ensures in
    let x : get_or c.to_le_bytes.result 0 0 ≡ w % 256 = omega (arith, ap (λ (l : List ℕ). get_or l 0 0) bytes) in
    let y : get_or c.to_le_bytes.result 1 0 ≡ w / 256 % 256 = omega (arith, ap (λ (l : List ℕ). get_or l 1 0) bytes) in
    let z = c.short_size-size in
    word_line w x y c.hex_value-first.ensures c.hex_value-second.ensures c.has_second-two.ensures (omega arith) (omega arith)
    c.line_end.ensures (omega arith) z.ensures.1 z.ensures.2 (omega arith)
