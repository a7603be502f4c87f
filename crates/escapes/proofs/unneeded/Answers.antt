-- `escapes::unneeded` meets its contract: by whether both are hex digits.
use Rattle.std.proofs.Common.{◌≡◌, refl, Some, None, inl, inr, if◌then◌else◌, ℕ, ◌+◌, ◌*◌, ◌≤◌, ◌<◌, true, false, cond, sym, ap, ◌∙◌, arith}
use Rattle.octets.specs.Bytes.{hex?, hex_value}
use Rattle.octets.proofs.Bytes.{is_hex, no_hex}
use Rattle.http_url.specs.Bytes.{unreserved?}
use Rattle.escapes.specs.Resolved.{escaped_byte, unneeded?}
use Rattle.escapes.proofs.Tables.{unreserved_bits}
use Rattle.escapes.proofs.unneeded.Goals as goal

first-fails : (x y : ℕ) → hex? x ≡ false → unneeded? x y ≡ false
first-fails x y e = rw e

second-fails : (x y : ℕ) → hex? x ≡ true → hex? y ≡ false → unneeded? x y ≡ false
second-fails x y e f = rw (e, f)

none_of : (x y : ℕ) → unneeded? x y ≡ false → (if unneeded? x y then Some (escaped_byte x y) else None) ≡ None
none_of x y e = rw e refl

-- the byte that two hex digits name, and whether its escape is needed
module _ (x y m n : ℕ) (e : m ≡ cond (hex? x) (hex_value x) 16) (f : n ≡ cond (hex? y) (hex_value y) 16) where
  both-digits : m ≤ 15 → n ≤ 15 → (m * 16 + n ≡ escaped_byte x y) × (m * 16 + n < 256) × (unneeded? x y ≡ unreserved? (m * 16 + n))
  both-digits j k =
      let d = is_hex x m e j in
      let g = is_hex y n f k in
      let v : m * 16 + n ≡ escaped_byte x y = omega (arith, d.1, g.1) in
      (v, omega arith, rw (d.0, g.0) (sym (ap unreserved? v)))

pub returns-then-high-gt15 : goal.returns-then-high-gt15
returns-then-high-gt15 c =
    let x = c.args.x in
    let y = c.args.y in
    let h = c.hex_value-high in
    let l = c.hex_value-low in
    sym (none_of x y (elim c.then-high-gt15.either [
      | inl k ↦ first-fails x y (no_hex x h.result h.ensures (omega arith) k)
      | inr k ↦ second-fails x y (is_hex x h.result h.ensures k.0).0 (no_hex y l.result l.ensures (omega arith) k.1)
    ]))

pub returns-then-in_class : goal.returns-then-in_class
returns-then-in_class c =
    let x = c.args.x in
    let y = c.args.y in
    let h = c.hex_value-high in
    let l = c.hex_value-low in
    let w = both-digits x y h.result l.result h.ensures l.ensures c.if-high-gt15.false c.if-low-gt15.false in
    let e = w.2 ∙ sym (unreserved_bits (h.result * 16 + l.result) w.1) ∙ sym c.in_class.ensures ∙ c.if-in_class.true in
    rw (e, w.0) refl

pub returns-else-in_class : goal.returns-else-in_class
returns-else-in_class c =
    let x = c.args.x in
    let y = c.args.y in
    let h = c.hex_value-high in
    let l = c.hex_value-low in
    let w = both-digits x y h.result l.result h.ensures l.ensures c.if-high-gt15.false c.if-low-gt15.false in
    sym (none_of x y (w.2 ∙ sym (unreserved_bits (h.result * 16 + l.result) w.1) ∙ sym c.in_class.ensures ∙ c.if-in_class.false))
