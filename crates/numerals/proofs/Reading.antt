-- Decimal numerals read back: where one stands in a text, reading the digits there gives its number.
use Prim.Native.Nat.{ℕ, ◌+◌, ◌-◌, ◌*◌, ◌/◌, ◌%◌, ◌≤◌, ◌<◌}
use native.Mathlib.Omega.{arith}
use borrow.Author.Tests.{le-ltb, le-leb, ne_eqb, ltb-true, ltb-false}
use mathlib.Core.Path.{◌≡◌, refl, sym, ap, ◌∙◌}
use mathlib.Core.Bool.{Bool, true, false, ◌&&◌, true≢false}
use mathlib.Core.List.{List, [], ◌∷◌, ◌++◌}
use mathlib.Core.Option.{none}
use lib.Dec.{ltb}
use lib.ListN.{length, length-append}
use lib.Seq.{drop_at}
use Rattle.octets.specs.Bytes.{digit?, hex_value}
use Rattle.octets.specs.Numbers.{grow, number_after, number}
use Rattle.octets.proofs.Bytes.{digit_high}
use Rattle.scans.specs.declared.Decimal.TheVariants.{Number}
use Rattle.scans.specs.helpers.Runs.{run}
use Rattle.scans.specs.helpers.Decimals.{passing, decimal_of, decimal_at}
use Rattle.scans.proofs.Limits.{digits-grow}
use Rattle.numerals.specs.Numeral.{glyph, numeral, value_from, every}
use Rattle.numerals.proofs.Demands.{one_digit, last_digit, digits_only, some_digit, value}
use Rattle.numerals.proofs.Digits.{split, glyph-below}

both : (x y : Bool) → (x && y) ≡ true → (x ≡ true) × (y ≡ true)
both true y e = (refl, e)
both false y e = absurd (true≢false (sym e))

-- a decimal digit is worth the same read as a hex digit
digit_value : (b : ℕ) → digit? b ≡ true → hex_value b ≡ b - 48
digit_value b d = rw (le-leb b 57 (digit_high b d))

number-value : (n : ℕ) (t : List ℕ) → every digit? t ≡ true → number_after n t ≡ value_from 10 n t
number-value n [] e = refl
number-value n (b ∷ t) e =
    let w = both (digit? b) (every digit? t) e in
    number-value (grow n b) t w.1 ∙ ap (λ (d : ℕ). value_from 10 (n * 10 + d) t) (sym (digit_value b w.0))

none_passes : (limit n : ℕ) (t : List ℕ) → number_after n t ≤ limit → passing limit n t ≡ none
none_passes limit n [] h = refl
none_passes limit n (b ∷ t) h =
    rw (le-ltb limit (grow n b) (omega (arith, digits-grow (grow n b) t)), none_passes limit (grow n b) t h)

-- what stands behind is no digit, or nothing
pub data Stops : List ℕ → Type 0 where
  end : Stops []
  other : {b : ℕ} {t : List ℕ} → digit? b ≡ false → Stops (b ∷ t)

run-all : (t rest : List ℕ) → every digit? t ≡ true → Stops rest → run digit? (t ++ rest) ≡ t
run-all [] rest e end = refl
run-all [] rest e (other {b} {t} f) = rw f
run-all (b ∷ t) rest e s =
    let w = both (digit? b) (every digit? t) e in
    rw w.0 (ap (λ (l : List ℕ). b ∷ l) (run-all t rest w.1 s))

decimal_digit : (d : ℕ) → d < 10 → digit? (glyph d) ≡ true
unfolding digit?
decimal_digit d h = ap digit? (glyph-below d h) ∙ rw (le-leb 48 (48 + d) (omega arith), le-leb (48 + d) 57 (omega arith))

pub decimal_digits : (n : ℕ) → every digit? (numeral 10 n) ≡ true
decimal_digits n = digits_only digit? 10 n (omega arith) decimal_digit

pub numeral-number : (n : ℕ) → number (numeral 10 n) ≡ n
numeral-number n = number-value 0 (numeral 10 n) (decimal_digits n) ∙ value 10 n (omega arith) (omega arith)

pub numeral_reads : (front rest : List ℕ) (n limit : ℕ) → n ≤ limit → Stops rest
    → decimal_at limit (front ++ (numeral 10 n ++ rest)) (length front) ≡ Number n (length front + length (numeral 10 n))
unfolding decimal_at
numeral_reads front rest n limit h s =
    ap (λ (t : List ℕ). decimal_of (passing limit 0 (run digit? t)) (length front) (run digit? t))
    (drop_at front (numeral 10 n ++ rest) (length front) refl)
    ∙ ap (λ (t : List ℕ). decimal_of (passing limit 0 t) (length front) t) (run-all (numeral 10 n) rest (decimal_digits n) s)
    ∙ rw (
      none_passes limit 0 (numeral 10 n) (omega (arith, numeral-number n)),
      ne_eqb (length front + length (numeral 10 n)) (length front) (λ e. omega (arith, some_digit 10 n (omega arith))),
      numeral-number n,
    )

-- ## No digits that make the number are fewer

one_more : (n k : ℕ) → k < 10 → length (numeral 10 (n * 10 + k)) ≤ length (numeral 10 n) + 1
one_more n k h = split (ltb (n * 10 + k) 10)
    (λ e. omega (arith, ap length (one_digit 10 (n * 10 + k) (ltb-true (n * 10 + k) 10 e))))
    (λ e. let rest : (n * 10 + k) / 10 ≡ n = omega arith in
    omega (
      arith,
      ap length (last_digit 10 (n * 10 + k) (omega arith) (ltb-false (n * 10 + k) 10 e)),
      length-append (numeral 10 ((n * 10 + k) / 10)) (glyph ((n * 10 + k) % 10) ∷ []),
      ap (λ (m : ℕ). length (numeral 10 m)) rest,
    ))

digits-after : (n : ℕ) (t : List ℕ) → every digit? t ≡ true → length (numeral 10 (number_after n t)) ≤ length (numeral 10 n) + length t
digits-after n [] e = omega arith
digits-after n (b ∷ t) e =
    let w = both (digit? b) (every digit? t) e in
    omega (arith, digits-after (grow n b) t w.1, one_more n (b - 48) (omega (arith, digit_high b w.0)))

pub numeral-short : (b : ℕ) (t : List ℕ) → every digit? (b ∷ t) ≡ true → length (numeral 10 (number (b ∷ t))) ≤ length (b ∷ t)
numeral-short b t e =
    let w = both (digit? b) (every digit? t) e in
    let k : grow 0 b < 10 = omega (arith, digit_high b w.0) in
    omega (arith, digits-after (grow 0 b) t w.1, ap length (one_digit 10 (grow 0 b) k))
