-- How long the text is, what the writer's parts leave in the lent bytes, and what the test of the numbers says.
use Prim.Native.Nat.{ℕ, ◌+◌, ◌≤◌}
use native.Mathlib.Omega.{arith}
use borrow.Author.Tests.{lt-ltb, ltb-true, le-leb, leb-true, not-false}
use mathlib.Core.Path.{◌≡◌, refl, sym, ◌∙◌}
use mathlib.Core.Bool.{Bool, true, false, ◌&&◌, true≢false}
use mathlib.Core.List.{List, [], ◌++◌}
use lib.Dec.{ltb, leb}
use lib.ListN.{length, drop, length-append}
use Rattle.grammar.specs.Text.{bytes}
use Rattle.octets.specs.Numbers.{length_limit}
use Rattle.numerals.specs.Numeral.{numeral}
use Rattle.numerals.proofs.Digits.{split, width-below, numeral-length}
use Rattle.text.specs.Placing.{placed, behind}
use Rattle.text.proofs.Placing.{placed-front, Put, put-none, put_then, front_fits, front-then}
use Rattle.content_range_writer.specs.Writing.{content_range_text, InRange, out_of_range}

-- ## Its digits
nineteen_digits : (n : ℕ) → n ≤ length_limit → length (numeral 10 n) ≤ 19
nineteen_digits n h = omega (arith, numeral-length 10 n, width-below 18 n (omega arith))

-- ## The parts, one behind the other
module _ (first last entity_length : ℕ) where
  -- the text as far as each of its parts but the last
  abbrev to_first : List ℕ
  to_first = bytes "bytes " ++ numeral 10 first

  abbrev to_dash : List ℕ
  to_dash = to_first ++ bytes "-"

  abbrev to_last : List ℕ
  to_last = to_dash ++ numeral 10 last

  abbrev to_slash : List ℕ
  to_slash = to_last ++ bytes "/"

  pub text_length : length (content_range_text first last entity_length)
      ≡ 8 + (length (numeral 10 first) + length (numeral 10 last) + length (numeral 10 entity_length))
  text_length =
      omega (
        arith,
        length-append to_first (bytes "-"),
        length-append to_dash (numeral 10 last),
        length-append to_last (bytes "/"),
        length-append to_slash (numeral 10 entity_length),
      )

  pub at-most_65 : InRange first last entity_length → length (content_range_text first last entity_length) ≤ 65
  at-most_65 r =
      omega (
        arith,
        text_length,
        nineteen_digits first (omega arith),
        nineteen_digits last (omega arith),
        nineteen_digits entity_length (omega arith),
      )

  -- the unit, the first, the dash, the last, the slash, the length, one behind the other
  pub text-put : (old l₁ l₂ l₃ l₄ l₅ l₆ : List ℕ) (p₁ p₂ p₃ p₄ p₅ p₆ : ℕ) → length (content_range_text first last entity_length) ≤ length old
      → p₁ ≡ behind old 0 (bytes "bytes ") → l₁ ≡ placed old 0 (bytes "bytes ")
      → p₂ ≡ behind l₁ p₁ (numeral 10 first) → l₂ ≡ placed l₁ p₁ (numeral 10 first)
      → p₃ ≡ behind l₂ p₂ (bytes "-") → l₃ ≡ placed l₂ p₂ (bytes "-")
      → p₄ ≡ behind l₃ p₃ (numeral 10 last) → l₄ ≡ placed l₃ p₃ (numeral 10 last)
      → p₅ ≡ behind l₄ p₄ (bytes "/") → l₅ ≡ placed l₄ p₄ (bytes "/")
      → p₆ ≡ behind l₅ p₅ (numeral 10 entity_length) → l₆ ≡ placed l₅ p₅ (numeral 10 entity_length)
      → l₆ ≡ content_range_text first last entity_length ++ drop (length (content_range_text first last entity_length)) old
  text-put old l₁ l₂ l₃ l₄ l₅ l₆ p₁ p₂ p₃ p₄ p₅ p₆ h₆ e₁ w₁ e₂ w₂ e₃ w₃ e₄ w₄ e₅ w₅ e₆ w₆ =
      put₆.is ∙ placed-front old (content_range_text first last entity_length) h₆
    where
      h₅ : length to_slash ≤ length old
      h₅ = front_fits to_slash (numeral 10 entity_length) old h₆

      h₄ : length to_last ≤ length old
      h₄ = front_fits to_last (bytes "/") old h₅

      h₃ : length to_dash ≤ length old
      h₃ = front_fits to_dash (numeral 10 last) old h₄

      h₂ : length to_first ≤ length old
      h₂ = front_fits to_first (bytes "-") old h₃

      h₁ : 6 ≤ length old
      h₁ = front_fits (bytes "bytes ") (numeral 10 first) old h₂

      put₁ : Put old 0 (bytes "bytes ") l₁ p₁
      put₁ = put_then old 0 [] old 0 (bytes "bytes ") l₁ p₁ (put-none old 0 (omega arith)) (omega arith) e₁ w₁

      put₂ : Put old 0 to_first l₂ p₂
      put₂ = front-then old (bytes "bytes ") l₁ p₁ (numeral 10 first) l₂ p₂ put₁ h₂ e₂ w₂

      put₃ : Put old 0 to_dash l₃ p₃
      put₃ = front-then old to_first l₂ p₂ (bytes "-") l₃ p₃ put₂ h₃ e₃ w₃

      put₄ : Put old 0 to_last l₄ p₄
      put₄ = front-then old to_dash l₃ p₃ (numeral 10 last) l₄ p₄ put₃ h₄ e₄ w₄

      put₅ : Put old 0 to_slash l₅ p₅
      put₅ = front-then old to_last l₄ p₄ (bytes "/") l₅ p₅ put₄ h₅ e₅ w₅

      put₆ : Put old 0 (content_range_text first last entity_length) l₆ p₆
      put₆ = front-then old to_slash l₅ p₅ (numeral 10 entity_length) l₆ p₆ put₅ h₆ e₆ w₆

-- ## The test
all_true : (x y z : Bool) → (x && y && z) ≡ true → (x ≡ true) × (y ≡ true) × (z ≡ true)
all_true true true z e = (refl, refl, e)
all_true true false z e = absurd (true≢false (sym e))
all_true false y z e = absurd (true≢false (sym e))

module _ (first last entity_length : ℕ) where
  pub within : InRange first last entity_length → out_of_range first last entity_length ≡ false
  within r = rw (le-leb first last r.0, lt-ltb last entity_length r.1, le-leb entity_length length_limit r.2)

  pub in_range : out_of_range first last entity_length ≡ false → InRange first last entity_length
  in_range e =
      let t = all_true (leb first last) (ltb last entity_length) (leb entity_length length_limit) (not-false _ e) in
      (leb-true first last t.0, ltb-true last entity_length t.1, leb-true entity_length length_limit t.2)

  pub outside : (InRange first last entity_length → ⊥) → out_of_range first last entity_length ≡ true
  outside never = split (out_of_range first last entity_length) (λ e. e) (λ e. absurd (never (in_range e)))
