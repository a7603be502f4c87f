-- `chunked::size_at` meets its contract. The loop stands behind digits of the line, which make that value.
use Rattle.std.proofs.Common.{ℕ, ◌+◌, ◌*◌, ◌<◌, get_or, sym, ◌∙◌, arith}
use Rattle.octets.proofs.Bytes.{is_hex, no_hex}
use Rattle.chunked.specs.helpers.Passes.{ChunkAt}
use Rattle.chunked.proofs.Short.{same_size}
use Rattle.chunked.proofs.Long.{InDigits, digits-start, digits-inside, digits-stop, digits-on, digits-small}
use Rattle.chunked.proofs.size_at.Goals as goal
use Rattle.chunked.proofs.size_at.Goals.{After-hex_value-digit, Else-digit-gt15}

byte : (c : After-hex_value-digit) → get_or c.args.input.now c.loop-end.end 0 < 256
byte c = omega (arith, c.type_inv.input c.loop-end.end)

-- behind one digit more
next : (c : Else-digit-gt15)
    → let s = c.args in
    (w : ℕ) × (v : ℕ) × (d : ChunkAt s.input.now s.at w v) × InDigits d (c.loop-end.end + 1) (c.loop-end.value * 16 + c.hex_value-digit.result)
next c =
    let i = c.loop-end.invariant in
    let h = is_hex _ _ c.hex_value-digit.ensures (omega (arith, c.if-digit-gt15.false)) in
    (i.0, i.1, i.2, digits-on i.2 i.3 c.hex_value-digit.result h.0 h.1)

pub loop-end-init : goal.loop-end-init
loop-end-init c =
    let h = c.requires in
    (h.0, h.1, h.2, digits-start h.2)

pub overflow_mul-value : goal.overflow_mul-value
overflow_mul-value c =
    let p = (goal.at.overflow_mul-value c).Else-digit-gt15 in
    omega (arith, digits-small (next p).2 (next p).3, (next p).2.end.inside)

pub overflow_add-value : goal.overflow_add-value
overflow_add-value c =
    let p = (goal.at.overflow_add-value c).Else-digit-gt15 in
    omega (arith, digits-small (next p).2 (next p).3, (next p).2.end.inside)

pub loop-end-preserved : goal.loop-end-preserved
loop-end-preserved c = next ((goal.at.loop-end-preserved c).Else-digit-gt15)

pub returns-then-digit-gt15 : goal.returns-then-digit-gt15
returns-then-digit-gt15 c =
    let p = (goal.at.returns-then-digit-gt15 c).After-hex_value-digit in
    λ w v d.
    let i = c.loop-end.invariant in
    same_size d.line i.2.line ∙ sym (digits-stop i.2 i.3 (no_hex _ _ c.hex_value-digit.ensures (byte p) c.if-digit-gt15.true))

pub returns-after-loop-end : goal.returns-after-loop-end
returns-after-loop-end c =
    let i = c.loop-end.invariant in
    absurd (omega (arith, c.loop-end-test.false, digits-inside i.2 i.3))
