-- `chunked::short_chunk` meets its contract.
use Rattle.std.proofs.Common.{ℕ, ◌+◌, ◌<◌, ◌≤◌, sym, subst, arith}
use Rattle.chunked.specs.helpers.Passes.{ChunkAt}
use Rattle.chunked.proofs.Digits.{at_most, no_larger}
use Rattle.chunked.proofs.Chunks.{chunk-known}
use Rattle.chunked.proofs.Short.{size-some, line_by_digits}
use Rattle.chunked.proofs.short_chunk.Goals as goal
use Rattle.chunked.proofs.short_chunk.Goals.{After-hex_value-second}

second : (c : After-hex_value-second) → c.hex_value-second.result ≤ 16
second c =
    at_most _ c.hex_value-second.result (omega (arith, c.type_inv.input (c.args.at + 1))) c.hex_value-second.ensures

pub overflow_mul-second : goal.overflow_mul-second
overflow_mul-second c =
    let p = (goal.at.overflow_mul-second c).After-hex_value-second in
    omega (arith, second p, no_larger c.hex_value-second.result c.has_second-two.result c.has_second-two.ensures.0)

pub size_of-size-requires : goal.size_of-size-requires
size_of-size-requires c =
    let p = (goal.at.size_of-size-requires c).After-hex_value-second in
    (c.digit_value.ensures.0, omega (arith, second p), c.has_second-two.ensures.0)

pub returns : goal.returns
returns c =
    let n = c.has_second-two.result in
    let i = c.args.at in
    let xs = c.args.input.now in
    let first = c.is_leading.ensures c.if-not-is_leading.false in
    let d = c.digit_value.ensures.1 first.0 in
    let h = c.has_data.ensures c.if-not-has_data.false in
    let r : ChunkAt xs i (3 + n) c.size_of-size.result = record {
      some = size-some c.hex_value-second.result (subst (λ (k : ℕ). 0 < k) (sym d) first.1) c.has_second-two.ensures.0
          c.size_of-size.ensures.1 c.size_of-size.ensures.2;
      line = line_by_digits xs first.0 d c.hex_value-second.ensures (omega arith) c.has_second-two.ensures.0
          (c.crlf_at.ensures c.if-not-crlf_at.false) c.size_of-size.ensures.1
          c.size_of-size.ensures.2;
      end = h.1;
    } in
    (chunk-known r, λ _. (h.0, r))
