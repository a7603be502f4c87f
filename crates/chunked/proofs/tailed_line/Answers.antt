-- `chunked::tailed_line` meets its contract.
use Rattle.std.proofs.Common.{◌+◌, ◌-◌, ◌/◌, ◌≤◌, refl, arith}
use Rattle.chunked.proofs.Digits.{at_most}
use Rattle.chunked.proofs.Short.{start_digit, known-line}
use Rattle.chunked.proofs.Chunks.{chunk-known}
use Rattle.chunked.proofs.Tails.{tailed}
use Rattle.chunked.proofs.tailed_line.Goals as goal
use Rattle.chunked.proofs.tailed_line.Goals.{After-hex_value-second}

second : (c : After-hex_value-second) → c.hex_value-second.result ≤ 16
second c =
    at_most _ c.hex_value-second.result (omega (arith, c.type_inv.input (c.args.at + 1)))
    c.hex_value-second.ensures

pub overflow_sub-two : goal.overflow_sub-two
overflow_sub-two c = omega (arith, second ((goal.at.overflow_sub-two c).After-hex_value-second))

pub size_of-size-requires : goal.size_of-size-requires
size_of-size-requires c =
    let p = (goal.at.size_of-size-requires c).After-hex_value-second in
    (c.digit_value.ensures.0, omega (arith, second p), omega arith)

pub returns : goal.returns
returns c =
    let d = start_digit c.requires.0.2 in
    let r = known-line c.requires.0.2
    (tailed c.requires.1 (1 - c.hex_value-second.result / 16) refl d (c.digit_value.ensures.1 d) c.hex_value-second.ensures
    (c.same_line.ensures c.if-not-same_line.false) (omega arith) c.size_of-size.ensures.1
    c.size_of-size.ensures.2) in
    (chunk-known r, λ _. r)
