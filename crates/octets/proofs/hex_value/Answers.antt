-- `octets::hex_value` meets its contract: both sides are computed at each byte.
use Rattle.std.proofs.Common.{◌≡◌, ℕ, ◌+◌, ◌%◌, ◌<◌, cond, ltb, refl, arith, le-ltb, lt-ltb}
use lib.Bits.{bit_or}
use Rattle.octets.specs.Bytes.{hex?, hex_value}
use Rattle.octets.proofs.Spans.{by_range}
use Rattle.octets.proofs.hex_value.Goals as goal

valued : ℕ → ℕ
valued b = cond (hex? b) (hex_value b) 16

picked : ℕ → ℕ
picked b =
    let digit = (b + 208) % 256 in
    let letter = (bit_or b 32 + 159) % 256 in
    cond (ltb digit 10) digit (cond (ltb letter 6) (letter + 10) 16)

picks : (b : ℕ) → b < 256 → picked b ≡ valued b
unfolding hex? valued picked
picks b small = by_range picked valued 0 256 refl b (omega arith) (omega arith)

pub returns-then-digit-lt10 : goal.returns-then-digit-lt10
unfolding valued picked
returns-then-digit-lt10 c =
    let b = c.args.b in
    let p = picks b (omega arith) in
    rw (lt-ltb ((b + 208) % 256) 10 c.if-digit-lt10.true) at p

pub returns-then-letter-lt6 : goal.returns-then-letter-lt6
unfolding valued picked
returns-then-letter-lt6 c =
    let b = c.args.b in
    let p = picks b (omega arith) in
    rw (le-ltb ((b + 208) % 256) 10 (omega arith), lt-ltb ((bit_or b 32 + 159) % 256) 6 c.if-letter-lt6.true) at p

pub returns-else-letter-lt6 : goal.returns-else-letter-lt6
unfolding valued picked
returns-else-letter-lt6 c =
    let b = c.args.b in
    let p = picks b (omega arith) in
    rw (le-ltb ((b + 208) % 256) 10 (omega arith), le-ltb ((bit_or b 32 + 159) % 256) 6 (omega arith)) at p
