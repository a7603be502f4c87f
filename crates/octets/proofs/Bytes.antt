-- What the classes say of a byte.
use Rattle.std.proofs.Common.{◌≡◌, ℕ, ◌<◌, ◌≤◌, Bool, true, false, cond, ◌&&◌, eqb, leb, sym, refl, ap, ◌∙◌, true≢false, arith, ne_eqb, leb-true}
use Rattle.octets.specs.Bytes.{digit?, hex?, hex_value}
use Rattle.octets.proofs.Spans.{by_range}

both_true : (x y : Bool) → (x && y) ≡ true → (x ≡ true) × (y ≡ true)
both_true true y e = (refl, e)
both_true false y e = absurd (true≢false (sym e))

-- a digit is one of 48 to 57
pub digit_low : (b : ℕ) → digit? b ≡ true → 48 ≤ b
unfolding digit?
digit_low b d = leb-true 48 b (both_true (leb 48 b) (leb b 57) d).0

pub digit_high : (b : ℕ) → digit? b ≡ true → b ≤ 57
unfolding digit?
digit_high b d = leb-true b 57 (both_true (leb 48 b) (leb b 57) d).1

-- a byte that passes a test is none that does not
pub told-apart : (p : ℕ → Bool) (b x : ℕ) → p b ≡ true → p x ≡ false → eqb b x ≡ false
told-apart p b x d f = ne_eqb b x (λ e. true≢false (sym d ∙ ap p e ∙ f))

-- ## What `hex_value` tells of a byte
small? : ℕ → Bool
small? b = cond (hex? b) (leb (hex_value b) 15) true

module _ (b d : ℕ) (e : d ≡ cond (hex? b) (hex_value b) 16) where
  pub is_hex : d ≤ 15 → (hex? b ≡ true) × (d ≡ hex_value b)
  is_hex h = go (hex? b) e
    where
      go : (t : Bool) → d ≡ cond t (hex_value b) 16 → (t ≡ true) × (d ≡ hex_value b)
      go true g = (refl, g)
      go false g = absurd (omega arith)

  pub no_hex : b < 256 → 15 < d → hex? b ≡ false
  unfolding hex? small?
  no_hex s h = go (hex? b) e (by_range small? (λ (n : ℕ). true) 0 256 refl b (omega arith) (omega arith))
    where
      go : (t : Bool) → d ≡ cond t (hex_value b) 16 → cond t (leb (hex_value b) 15) true ≡ true → t ≡ false
      go true g i = absurd (omega (arith, leb-true (hex_value b) 15 i))
      go false g i = refl
