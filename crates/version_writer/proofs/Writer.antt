-- What the writer's parts leave in the lent bytes, and when a version is too large.
use Prim.Native.Nat.{ℕ, ◌+◌, ◌≤◌, ◌<◌}
use Prim.Native.Char.{code}
use native.Mathlib.Omega.{arith}
use borrow.Author.Tests.{lt-ltb, le-ltb, ltb-false}
use mathlib.Core.Path.{◌≡◌, refl, ap, ◌∙◌}
use mathlib.Core.Bool.{Bool, true, false, ◌||◌, true≢false}
use mathlib.Core.List.{List, [], ◌∷◌, ◌++◌, append_assoc}
use lib.Dec.{ltb}
use lib.ListN.{length, drop, length-append}
use Rattle.numerals.specs.Numeral.{numeral}
use Rattle.numerals.proofs.Digits.{width_bound, numeral-length}
use Rattle.text.specs.Placing.{placed, behind}
use Rattle.text.proofs.Placing.{placed-front, Put, put-none, put_then}
use Rattle.version_writer.specs.Writing.{http, numbers_text, largest, numbers_too_large}

pub text_length : (x y : ℕ) → length (numbers_text x y) ≡ 6 + (length (numeral 10 x) + length (numeral 10 y))
text_length x y = omega (arith, length-append (numeral 10 x) (code "." ∷ numeral 10 y))

-- the name, the major number, the point, the minor number, one behind the other
pub text-put : (x y : ℕ) (old l₁ l₂ l₃ l₄ : List ℕ) (a b c d : ℕ) → length (numbers_text x y) ≤ length old
    → a ≡ behind old 0 http → l₁ ≡ placed old 0 http
    → b ≡ behind l₁ a (numeral 10 x) → l₂ ≡ placed l₁ a (numeral 10 x)
    → c ≡ behind l₂ b (code "." ∷ []) → l₃ ≡ placed l₂ b (code "." ∷ [])
    → d ≡ behind l₃ c (numeral 10 y) → l₄ ≡ placed l₃ c (numeral 10 y)
    → l₄ ≡ numbers_text x y ++ drop (length (numbers_text x y)) old
text-put x y old l₁ l₂ l₃ l₄ a b c d h pa e₁ pb e₂ pc e₃ pd e₄ =
    p₄.is ∙ ap (placed old 0) whole ∙ placed-front old (numbers_text x y) h
  where
    major : List ℕ
    major = numeral 10 x

    minor : List ℕ
    minor = numeral 10 y

    p₁ : Put old 0 http l₁ a
    p₁ = put_then old 0 [] old 0 http l₁ a (put-none old 0 (omega arith)) (omega (arith, text_length x y)) pa e₁

    p₂ : Put old 0 (http ++ numeral 10 x) l₂ b
    p₂ = put_then old 0 http l₁ a (numeral 10 x) l₂ b p₁ (omega (arith, text_length x y)) pb e₂

    p₃ : Put old 0 ((http ++ numeral 10 x) ++ (code "." ∷ [])) l₃ c
    p₃ =
        put_then old 0 (http ++ numeral 10 x) l₂ b (code "." ∷ []) l₃ c p₂
        (omega (arith, text_length x y, length-append http (numeral 10 x))) pc e₃

    p₄ : Put old 0 (((http ++ numeral 10 x) ++ (code "." ∷ [])) ++ numeral 10 y) l₄ d
    p₄ =
        put_then old 0 ((http ++ numeral 10 x) ++ (code "." ∷ [])) l₃ c (numeral 10 y) l₄ d p₃
        (omega (arith, text_length x y, length-append http major, length-append (http ++ major) (code "." ∷ []))) pd e₄

    whole : ((http ++ numeral 10 x) ++ (code "." ∷ [])) ++ numeral 10 y ≡ numbers_text x y
    whole =
        append_assoc (http ++ numeral 10 x) (code "." ∷ []) (numeral 10 y)
        ∙ append_assoc http (numeral 10 x) (code "." ∷ numeral 10 y)

-- a number that is not too large has few digits
pub few-digits : (n : ℕ) → n ≤ largest → length (numeral 10 n) ≤ 16
few-digits n h = omega (arith, numeral-length 10 n, width_bound 15 10 n (omega arith) (omega arith))

either_false : (x y : Bool) → (x || y) ≡ false → (x ≡ false) × (y ≡ false)
either_false true y e = absurd (true≢false e)
either_false false y e = (refl, e)

pub within_both : (x y : ℕ) → numbers_too_large x y ≡ false → (x ≤ largest) × (y ≤ largest)
within_both x y e =
    let w = either_false (ltb largest x) (ltb largest y) e in
    (ltb-false largest x w.0, ltb-false largest y w.1)

pub both-within : (x y : ℕ) → x ≤ largest → y ≤ largest → numbers_too_large x y ≡ false
both-within x y h k = rw (le-ltb largest x h, le-ltb largest y k)

or_true : (x : Bool) → (x || true) ≡ true
or_true true = refl
or_true false = refl

pub large_major : (x y : ℕ) → largest < x → numbers_too_large x y ≡ true
large_major x y h = rw (lt-ltb largest x h)

pub large_minor : (x y : ℕ) → largest < y → numbers_too_large x y ≡ true
large_minor x y h = rw (lt-ltb largest y h, or_true (ltb largest x))
