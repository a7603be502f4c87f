-- `chunked::tailed_chunk` meets its contract.
use Rattle.std.proofs.Common.{ℕ, ◌+◌, ◌-◌, ◌/◌, ◌<◌, ◌≤◌, sym, refl, subst, arith}
use Rattle.chunked.specs.helpers.Passes.{ChunkAt}
use Rattle.chunked.proofs.Digits.{at_most}
use Rattle.chunked.proofs.Short.{size-some}
use Rattle.chunked.proofs.Chunks.{chunk-known}
use Rattle.chunked.proofs.Tails.{tailed}
use Rattle.chunked.proofs.tailed_chunk.Goals as goal
use Rattle.chunked.proofs.tailed_chunk.Goals.{After-hex_value-second}

second : (c : After-hex_value-second) → c.hex_value-second.result ≤ 16
second c =
    at_most _ c.hex_value-second.result (omega (arith, c.type_inv.input (c.args.at + 1))) c.hex_value-second.ensures

pub overflow_sub-two : goal.overflow_sub-two
overflow_sub-two c = omega (arith, second ((goal.at.overflow_sub-two c).After-hex_value-second))

pub size_of-size-requires : goal.size_of-size-requires
size_of-size-requires c =
    let p = (goal.at.size_of-size-requires c).After-hex_value-second in
    (c.digit_value.ensures.0, omega (arith, second p), omega arith)

pub same_line-requires : goal.same_line-requires
same_line-requires c =
    (c.requires.1.inside, omega (arith, (c.has_data.ensures c.if-not-has_data.false).1.inside))

pub returns : goal.returns
returns c =
    let i = c.args.at in
    let xs = c.args.input.now in
    let m = c.args.tail.length in
    let n = 1 - c.hex_value-second.result / 16 in
    let first = c.is_leading.ensures c.if-not-is_leading.false in
    let d = c.digit_value.ensures.1 first.0 in
    let h = c.has_data.ensures c.if-not-has_data.false in
    let r : ChunkAt xs i (1 + n + m) c.size_of-size.result = record {
      some = size-some c.hex_value-second.result (subst (λ (k : ℕ). 0 < k) (sym d) first.1) (omega arith) c.size_of-size.ensures.1
          c.size_of-size.ensures.2;
      line = tailed c.requires.1 n refl first.0 d c.hex_value-second.ensures
          (c.same_line.ensures c.if-not-same_line.false) (omega (arith, h.1.inside)) c.size_of-size.ensures.1
          c.size_of-size.ensures.2;
      end = h.1;
    } in
    (chunk-known r, λ _. (h.0, r))
