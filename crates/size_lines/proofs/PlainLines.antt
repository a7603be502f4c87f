-- A chunk line of digits alone, a digit at a time.
use mathlib.Core.Path.{◌≡◌, refl, sym, ◌∙◌, ap, ap₂, subst}
use mathlib.Core.Bool.{cond}
use mathlib.Core.List.{List, [], ◌∷◌, ◌++◌, append_assoc, append-nil}
use Prim.Native.Nat.{ℕ, suc, ◌+◌, ◌*◌, ◌<◌, ◌≤◌}
use native.Mathlib.Numerals.{add-one}
use native.Mathlib.Omega.{arith}
use lib.ListN.{length, get_or, take}
use lib.Seq.{take-suc, length-take-le}
use Rattle.octets.specs.Bytes.{hex?, hex_value}
use Rattle.octets.proofs.Bytes.{is_hex}
use Rattle.framing.specs.Grammar as G
use Rattle.framing.specs.Grammar.{Many, hex_value_from, LINE_LIMIT}
use Rattle.framing.proofs.Past.{many_append}
use Rattle.size_lines.specs.helpers.Lines.{InDigits, PlainSize}

value_on : (v : ℕ) (l : List ℕ) (b : ℕ) → hex_value_from v (l ++ (b ∷ [])) ≡ hex_value_from v l * 16 + hex_value b
value_on v [] b = refl
value_on v (c ∷ l) b = value_on (v * 16 + hex_value c) l b

-- the bytes with the CR LF behind them
pub take-crlf : (bytes : List ℕ) (at : ℕ) → at + 2 ≤ length bytes → get_or bytes at 0 ≡ 13 → get_or bytes (at + 1) 0 ≡ 10
    → take (at + 2) bytes ≡ take at bytes ++ (13 ∷ 10 ∷ [])
take-crlf bytes at lt cr lf =
    let s : suc at ≡ at + 1 = sym (add-one at) in
    let n : at + 2 ≡ suc (suc at) = omega arith in
    ap (λ (k : ℕ). take k bytes) n
    ∙ take-suc bytes (suc at) 0 (omega arith)
    ∙ ap₂ (λ (x : List ℕ) (y : ℕ). x ++ (y ∷ [])) (take-suc bytes at 0 (omega arith)) (ap (λ (k : ℕ). get_or bytes k 0) s ∙ lf)
    ∙ append_assoc (take at bytes) (get_or bytes at 0 ∷ []) (10 ∷ [])
    ∙ ap (λ (z : ℕ). take at bytes ++ (z ∷ 10 ∷ [])) cr

-- digits with a value above zero are a line
digits-line : {l : List ℕ} → Many hex? l → 0 < hex_value_from 0 l → G.Line l (hex_value_from 0 l)
digits-line G.none h = absurd (omega arith)
digits-line (G.more {b = b} {xs = l} d m) h =
    subst (λ (z : List ℕ). G.Line z (hex_value_from 0 (b ∷ l))) (append-nil (b ∷ l)) (G.line (G.size (G.some d m)) G.none)

module _ {bytes : List ℕ} {left : ℕ} where
  pub digits-none : InDigits bytes left 0 0
  digits-none = record { inside = omega arith; digits = G.none; is = refl; fits = omega arith; short = omega arith }

  module _ {at value : ℕ} (h : InDigits bytes left at value) where
    pub digits-on : {d : ℕ} → at < length bytes → d ≡ cond (hex? (get_or bytes at 0)) (hex_value (get_or bytes at 0)) 16 → d ≤ 15
        → (at ≡ LINE_LIMIT → ⊥) → value * 16 + d ≤ left → InDigits bytes left (at + 1) (value * 16 + d)
    digits-on {d} lt e low short fits =
        let w = is_hex (get_or bytes at 0) d e low in
        let t : take (at + 1) bytes ≡ take at bytes ++ (get_or bytes at 0 ∷ [])
        = ap (λ (n : ℕ). take n bytes) (add-one at) ∙ take-suc bytes at 0 lt in
        record {
          inside = omega arith;
          digits = subst (Many hex?) (sym t) (many_append h.digits (G.more w.0 G.none));
          is = ap (hex_value_from 0) t ∙ value_on 0 (take at bytes) (get_or bytes at 0)
              ∙ ap₂ (λ (x y : ℕ). x * 16 + y) h.is (sym w.1);
          fits = fits;
          short = omega (arith, h.short, short);
        }

    pub digits-end : 0 < value → at + 2 ≤ length bytes → get_or bytes at 0 ≡ 13 → get_or bytes (at + 1) 0 ≡ 10
        → PlainSize bytes left value (at + 2)
    digits-end pos lt cr lf = record {
      some = pos;
      fits = h.fits;
      inside = lt;
      text = take at bytes;
      split = take-crlf bytes at lt cr lf;
      line = subst (G.Line (take at bytes)) h.is (digits-line h.digits (omega (arith, h.is)));
      short = omega (arith, h.short, length-take-le at bytes h.inside);
    }
