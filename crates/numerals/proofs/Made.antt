-- What a numeral is made of, for any base from 2 to 16: its digits, their value, the first of them.
use mathlib.Core.Path.{◌≡◌, refl, sym, ◌∙◌, ap, ap₂}
use mathlib.Core.Bool.{Bool, true, false, ◌&&◌, cond}
use mathlib.Core.List.{List, [], ◌∷◌, ◌++◌}
use Prim.Native.Nat.{ℕ, ◌+◌, ◌-◌, ◌*◌, ◌/◌, ◌%◌, ◌<◌, ◌≤◌}
use native.Mathlib.Nat.{mod-lt, div-add-mod', div-lt_iff_lt-mul}
use native.Mathlib.Omega.{arith}
use lib.Dec.{ltb, leb}
use lib.ListN.{length, get_or, get_or-append}
use borrow.Author.Tests.{ltb-true, ltb-false, le-leb, lt-leb}
use Rattle.octets.specs.Bytes.{hex_value}
use Rattle.numerals.specs.Numeral.{glyph, numeral, value_from, every}
use Rattle.numerals.proofs.Digits.{split, at_true, at-false, by_digits, glyph-below, glyph-above}
use Rattle.numerals.proofs.Digits.{width_some, numeral-length, numeral-small, numeral_large}

-- ## Its digits
every_snoc : (p : ℕ → Bool) (xs : List ℕ) (b : ℕ) → every p xs ≡ true → p b ≡ true → every p (xs ++ (b ∷ [])) ≡ true
every_snoc p [] b h k = rw k refl
every_snoc p (x ∷ xs) b h k = and (p x) (every p xs) (every p (xs ++ (b ∷ []))) (λ e. every_snoc p xs b e k) h
  where
    and : (s t u : Bool) → (t ≡ true → u ≡ true) → (s && t) ≡ true → (s && u) ≡ true
    and true t u f e = f e
    and false t u f e = e

-- each is the glyph of a number below the base: a test that those pass, each byte of the numeral passes
pub only_digits : (p : ℕ → Bool) (base n : ℕ) → 2 ≤ base → ((d : ℕ) → d < base → p (glyph d) ≡ true) → every p (numeral base n) ≡ true
only_digits p base n b f = by_digits base b (λ (m : ℕ). every p (numeral base m) ≡ true) small large n
  where
    small : (n : ℕ) → n < base → every p (numeral base n) ≡ true
    small n h = ap (every p) (numeral-small base n h) ∙ rw (f n h) refl

    large : (n : ℕ) → base ≤ n → every p (numeral base (n / base)) ≡ true → every p (numeral base n) ≡ true
    large n h e = ap (every p) (numeral_large base n b h)
        ∙ every_snoc p (numeral base (n / base)) (glyph (n % base)) e (f (n % base) (mod-lt n {m = base} (omega arith)))

pub not-empty : (base n : ℕ) → 2 ≤ base → 0 < length (numeral base n)
not-empty base n b = omega (arith, numeral-length base n, width_some base n b)

-- ## Its value
glyph-value : (d : ℕ) → d < 16 → hex_value (glyph d) ≡ d
glyph-value d h = split (ltb d 10) (λ e. low (ltb-true d 10 e)) (λ e. high (ltb-false d 10 e))
  where
    low : d < 10 → hex_value (glyph d) ≡ d
    low k =
        ap hex_value (glyph-below d k)
        ∙ at_true (leb (48 + d) 57) (48 + d - 48) (cond (leb (48 + d) 70) (48 + d - 55) (48 + d - 87)) (le-leb (48 + d) 57 (omega arith))
        ∙ omega arith

    high : 10 ≤ d → hex_value (glyph d) ≡ d
    high k = ap hex_value (glyph-above d k)
        ∙ at-false (leb (55 + d) 57) (55 + d - 48) (cond (leb (55 + d) 70) (55 + d - 55) (55 + d - 87)) (lt-leb (55 + d) 57 (omega arith))
        ∙ at_true (leb (55 + d) 70) (55 + d - 55) (55 + d - 87) (le-leb (55 + d) 70 (omega arith)) ∙ omega arith

value_snoc : (base v : ℕ) (xs : List ℕ) (b : ℕ) → value_from base v (xs ++ (b ∷ [])) ≡ value_from base v xs * base + hex_value b
value_snoc base v [] b = refl
value_snoc base v (x ∷ xs) b = value_snoc base (v * base + hex_value x) xs b

pub value-is : (base n : ℕ) → 2 ≤ base → base ≤ 16 → value_from base 0 (numeral base n) ≡ n
value-is base n b m = by_digits base b (λ (k : ℕ). value_from base 0 (numeral base k) ≡ k) small large n
  where
    small : (n : ℕ) → n < base → value_from base 0 (numeral base n) ≡ n
    small n h = ap (value_from base 0) (numeral-small base n h) ∙ omega (arith, glyph-value n (omega arith), nought)
      where
        nought : 0 * base ≡ 0
        nought = omega arith

    large : (n : ℕ) → base ≤ n → value_from base 0 (numeral base (n / base)) ≡ n / base → value_from base 0 (numeral base n) ≡ n
    large n h e = ap (value_from base 0) (numeral_large base n b h)
        ∙ value_snoc base 0 (numeral base (n / base)) (glyph (n % base))
        ∙ ap₂ (λ (x y : ℕ). x * base + y) e (glyph-value (n % base) (omega (arith, mod-lt n {m = base} (omega arith))))
        ∙ div-add-mod' n base

-- ## No leading zeros
-- the first digit is `0` only where the number is 0, whose numeral is that digit
pub first-zero : (base n : ℕ) → 2 ≤ base → base ≤ 16 → get_or (numeral base n) 0 0 ≡ 48 → n ≡ 0
first-zero base n b m = by_digits base b (λ (k : ℕ). get_or (numeral base k) 0 0 ≡ 48 → k ≡ 0) small large n
  where
    nought : (d : ℕ) → d < 16 → glyph d ≡ 48 → d ≡ 0
    nought d h e = split (ltb d 10)
        (λ k. omega (arith, glyph-below d (ltb-true d 10 k)))
        (λ k. absurd (omega (arith, glyph-above d (ltb-false d 10 k))))

    small : (n : ℕ) → n < base → get_or (numeral base n) 0 0 ≡ 48 → n ≡ 0
    small n h e = nought n (omega arith) (sym (ap (λ (z : List ℕ). get_or z 0 0) (numeral-small base n h)) ∙ e)

    large : (n : ℕ) → base ≤ n → (get_or (numeral base (n / base)) 0 0 ≡ 48 → n / base ≡ 0) → get_or (numeral base n) 0 0 ≡ 48 → n ≡ 0
    large n h f e =
        let z : n / base ≡ 0
        = f (sym (get_or-append (numeral base (n / base)) (glyph (n % base) ∷ []) 0 0 (not-empty base (n / base) b))
        ∙ sym (ap (λ (z : List ℕ). get_or z 0 0) (numeral_large base n b h)) ∙ e) in
        absurd (omega (arith, h, (div-lt_iff_lt-mul {k = base} {x = n} {y = 1} (omega arith)).0 (omega arith)))
