-- `chunked::short_line` meets its contract.
use Rattle.std.proofs.Common.{arith}
use Rattle.chunked.proofs.Short.{enough, short_trusted}
use Rattle.chunked.proofs.Chunks.{none-known, chunk-known}
use Rattle.chunked.proofs.short_line.Goals as goal

pub overflow_add-byte : goal.overflow_add-byte
overflow_add-byte c = omega (arith, enough c.requires.2)

pub bounds-input-at : goal.bounds-input-at
bounds-input-at c = omega (arith, enough c.requires.2)

pub bounds-input-at-2 : goal.bounds-input-at-2
bounds-input-at-2 c = omega (arith, enough c.requires.2)

pub crlf_at-requires : goal.crlf_at-requires
crlf_at-requires c = omega (arith, enough c.requires.2, c.has_second-two.ensures.0)

pub returns-then-not-crlf_at : goal.returns-then-not-crlf_at
returns-then-not-crlf_at c = (none-known, λ h. absurd (omega arith))

pub known_size-size-requires : goal.known_size-size-requires
known_size-size-requires c =
    let two = c.has_second-two.ensures in
    (c.digit_value-first.ensures.0, c.digit_value-second.ensures.0, two.0, λ e. c.digit_value-second.ensures.2 (omega (arith, two.1 e)))

pub returns : goal.returns
returns c =
    let r = short_trusted c.requires.2 c.has_second-two.ensures
    (c.crlf_at.ensures c.if-not-crlf_at.false) c.digit_value-first.ensures.1
    c.digit_value-second.ensures.1 c.known_size-size.ensures.0 c.known_size-size.ensures.1 in
    (chunk-known r, λ _. r)
