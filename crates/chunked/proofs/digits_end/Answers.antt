-- `chunked::digits_end` meets its contract. The loop stands behind digits.
use Rattle.std.proofs.Common.{◌≡◌, ℕ, ◌+◌, ◌<◌, ◌≤◌, true, List, get_or, ap, ◌∙◌, arith}
use native.Mathlib.Decide.{dec_le}
use Rattle.octets.specs.Bytes.{hex?}
use Rattle.octets.proofs.Bytes.{is_hex, no_hex}
use Rattle.chunked.proofs.digits_end.Goals as goal
use Rattle.chunked.proofs.digits_end.Goals.{After-hex_value}

digits_more : (xs : List ℕ) (i j : ℕ) → ((k : ℕ) → i ≤ k → k < j → hex? (get_or xs k 0) ≡ true) → hex? (get_or xs j 0) ≡ true
    → (k : ℕ) → i ≤ k → k < j + 1 → hex? (get_or xs k 0) ≡ true
digits_more xs i j each here k h l = go (dec_le j k)
  where
    go : Dec (j ≤ k) → hex? (get_or xs k 0) ≡ true
    go (yes g) = let z : k ≡ j = omega arith in ap (λ (m : ℕ). hex? (get_or xs m 0)) z ∙ here
    go (no g) = each k h (omega arith)

byte : (c : After-hex_value) → get_or c.args.input.now c.loop-at.at 0 < 256
byte c = omega (arith, c.type_inv.input c.loop-at.at)

pub returns-then-hex_value-gt15 : goal.returns-then-hex_value-gt15
returns-then-hex_value-gt15 c =
    let p = (goal.at.returns-then-hex_value-gt15 c).After-hex_value in
    let i = c.loop-at.invariant in
    record {
      starts = i.0;
      within = i.1;
      each = i.2;
      stop = λ l. no_hex _ _ c.hex_value.ensures (byte p) c.if-hex_value-gt15.true;
    }

pub loop-at-preserved : goal.loop-at-preserved
loop-at-preserved c =
    let i = c.loop-at.invariant in (
      omega (arith, i.0),
      omega (arith, c.loop-at-test.true),
      digits_more c.args.input.now c.args.from c.loop-at.at i.2 (is_hex _ _ c.hex_value.ensures (omega (arith, c.if-hex_value-gt15.false))).0,
    )
