-- Any line of a chunk, by its digits and its CR.
use Rattle.std.proofs.Common.{◌≡◌, ℕ, zero, suc, ◌+◌, ◌-◌, ◌*◌, ◌<◌, ◌≤◌, true, false, List, [], ◌∷◌, ◌++◌, length, get_or, take, drop, sym}
use Rattle.std.proofs.Common.{refl, ap, ◌∙◌, subst, arith, length-append, length-drop, get_or-drop, take-suc, take-take, get_or-append-add}
use Rattle.std.proofs.Common.{take-add}
use native.Mathlib.Decide.{dec_le}
use lib.Seq.{take-append-le, take-append_seam, drop-append_seam}
use Rattle.octets.specs.Bytes.{hex?, hex_value}
use Rattle.framing.specs.Grammar as G
use Rattle.framing.specs.Grammar.{Many, hex_value_from}
use Rattle.framing.proofs.Cases.{false-true}
use Rattle.chunked.specs.helpers.Passes.{LineAt, ChunkAt, FirstCr}
use Rattle.chunked.proofs.Short.{line-length, text-byte, text-end, before-cr}

-- ## Numbers by their digits
value_append : (v : ℕ) (l r : List ℕ) → hex_value_from v (l ++ r) ≡ hex_value_from (hex_value_from v l) r
value_append v [] r = refl
value_append v (b ∷ l) r = value_append (v * 16 + hex_value b) l r

value_grows : (v : ℕ) (l : List ℕ) → v ≤ hex_value_from v l
value_grows v [] = omega arith
value_grows v (b ∷ l) = omega (arith, value_grows (v * 16 + hex_value b) l)

-- ## The digits of a line
many_each : {l : List ℕ} → Many hex? l → (r : List ℕ) (k : ℕ) → k < length l → hex? (get_or (l ++ r) k 0) ≡ true
many_each G.none r k lt = absurd (omega arith)
many_each (G.more h m) r zero lt = h
many_each (G.more h m) r (suc k) lt = many_each m r k (omega arith)

no_digit : (e : List ℕ) → G.Extensions e → 0 < length e → hex? (get_or e 0 0) ≡ false
unfolding hex?
no_digit e G.none lt = absurd (omega arith)
no_digit e (G.more (G.bare t) y) lt = refl
no_digit e (G.more (G.valued t z) y) lt = refl

pub record Digits (l : List ℕ) (v : ℕ) : Type 0 where
  pub count : ℕ
  pub few : count ≤ length l
  pub each : (k : ℕ) → k < count → hex? (get_or l k 0) ≡ true
  pub stop : count < length l → hex? (get_or l count 0) ≡ false
  pub value : hex_value_from 0 (take count l) ≡ v
  pub behind : G.Extensions (drop count l)

pub digits_in : {l : List ℕ} {v : ℕ} → G.Line l v → Digits l v
digits_in (G.line {s = s} {e = e} (G.size (G.some h m)) x) =
    let z : length s + 0 ≡ length s = omega arith in
    record {
      count = length s;
      few = omega (arith, length-append s e);
      each = many_each (G.more h m) e;
      stop = λ lt.
          ap hex? (ap (λ (k : ℕ). get_or (s ++ e) k 0) (sym z) ∙ get_or-append-add s e 0 0)
          ∙ no_digit e x (omega (arith, length-append s e));
      value = ap (hex_value_from 0) (take-append_seam s e);
      behind = subst G.Extensions (sym (drop-append_seam s e)) x;
    }

module _ {xs : List ℕ} {i w v : ℕ} (l : LineAt xs i w v (13 ∷ 10 ∷ [])) where
  abbrev pub digits : Digits l.text v
  digits = digits_in l.line

  pub inside : i + digits.count < length xs
  inside = omega (arith, digits.few, line-length l, l.inside)

  pub digit_at : (k : ℕ) → k < digits.count → hex? (get_or xs (i + k) 0) ≡ true
  digit_at k lt = ap hex? (text-byte l k (omega (arith, digits.few))) ∙ digits.each k lt

  pub other_at : hex? (get_or xs (i + digits.count) 0) ≡ false
  unfolding hex?
  other_at = go (dec_le (length l.text) digits.count)
    where
      go : Dec (length l.text ≤ digits.count) → hex? (get_or xs (i + digits.count) 0) ≡ false
      go (yes h) = let e : digits.count ≡ length l.text = omega (arith, digits.few) in
          ap (λ (k : ℕ). hex? (get_or xs (i + k) 0)) e ∙ ap hex? (text-end l)
      go (no h) = ap hex? (text-byte l digits.count (omega arith)) ∙ digits.stop (omega arith)

  -- the first bytes of the line
  front : (k : ℕ) → k ≤ digits.count → take k (drop i xs) ≡ take k l.text
  front k le =
      sym (take-take k w (drop i xs) (omega (arith, digits.few, line-length l)))
      ∙ ap (take k) l.split
      ∙ take-append-le k l.text (13 ∷ 10 ∷ []) (omega (arith, digits.few))

-- the bytes of a chunk's line up to j are digits, and n is their number
pub record InDigits {xs : List ℕ} {i w v : ℕ} (c : ChunkAt xs i w v) (j n : ℕ) : Type 0 where
  pub starts : i ≤ j
  pub before : j ≤ i + (digits c.line).count
  pub number : n ≡ hex_value_from 0 (take (j - i) (drop i xs))

module _ {xs : List ℕ} {i w v : ℕ} (c : ChunkAt xs i w v) where
  pub digits-start : InDigits c i 0
  digits-start =
      let z : 0 ≡ i - i = omega arith in
      record { starts = omega arith; before = omega arith; number = ap (λ (k : ℕ). hex_value_from 0 (take k (drop i xs))) z }

  module _ {j n : ℕ} (h : InDigits c j n) where
    place : i + (j - i) ≡ j
    place = omega (arith, h.starts)

    pub digits-inside : j < length xs
    digits-inside = omega (arith, h.before, inside c.line)

    pub digits-stop : hex? (get_or xs j 0) ≡ false → n ≡ v
    digits-stop f = go (dec_le (digits c.line).count (j - i))
      where
        go : Dec ((digits c.line).count ≤ j - i) → n ≡ v
        go (yes g) = let e : j - i ≡ (digits c.line).count = omega (arith, h.before, h.starts) in
            h.number ∙ ap (λ (k : ℕ). hex_value_from 0 (take k (drop i xs))) e ∙ ap (hex_value_from 0) (front c.line (digits c.line).count (omega arith)) ∙ (digits c.line).value
        go (no g) = false-true (sym f ∙ ap (λ (k : ℕ). hex? (get_or xs k 0)) (sym place) ∙ digit_at c.line (j - i) (omega arith))

    pub digits-on : (e : ℕ) → hex? (get_or xs j 0) ≡ true → e ≡ hex_value (get_or xs j 0) → InDigits c (j + 1) (n * 16 + e)
    digits-on e t f = go (dec_le (digits c.line).count (j - i))
      where
        turn : j + 1 - i ≡ suc (j - i)
        turn = omega (arith, h.starts)

        go : Dec ((digits c.line).count ≤ j - i) → InDigits c (j + 1) (n * 16 + e)
        go (yes g) = let z : i + (digits c.line).count ≡ j = omega (arith, h.before, h.starts) in
            false-true (sym (other_at c.line) ∙ ap (λ (k : ℕ). hex? (get_or xs k 0)) z ∙ t)
        go (no g) = record {
          starts = omega (arith, h.starts);
          before = omega (arith, h.starts);
          number = ap (λ (k : ℕ). k * 16 + e) h.number
              ∙ ap (λ (k : ℕ). hex_value_from 0 (take (j - i) (drop i xs)) * 16 + k)
              (f ∙ ap (λ (k : ℕ). hex_value (get_or xs k 0)) (sym place) ∙ ap hex_value (sym (get_or-drop i xs (j - i) 0)))
              ∙ sym (value_append 0 (take (j - i) (drop i xs)) (get_or (drop i xs) (j - i) 0 ∷ []))
              ∙ ap (hex_value_from 0) (sym (take-suc (drop i xs) (j - i) 0 (omega (arith, length-drop i xs, inside c.line))))
              ∙ ap (λ (k : ℕ). hex_value_from 0 (take k (drop i xs))) (sym turn);
        }

    pub digits-small : n ≤ v
    digits-small =
        let k : ℕ = j - i in
        let r : ℕ = (digits c.line).count - k in
        let e : k + r ≡ (digits c.line).count = omega (arith, h.before, h.starts) in
        let z : hex_value_from n (take r (drop k (drop i xs))) ≡ v =
        ap (λ (m : ℕ). hex_value_from m (take r (drop k (drop i xs)))) h.number
        ∙ sym (value_append 0 (take k (drop i xs)) (take r (drop k (drop i xs))))
        ∙ ap (hex_value_from 0) (sym (take-add k r (drop i xs)) ∙ ap (λ (m : ℕ). take m (drop i xs)) e ∙ front c.line (digits c.line).count (omega arith))
        ∙ (digits c.line).value in
        omega (arith, z, value_grows n (take r (drop k (drop i xs))))

-- ## The CR behind a line
pub line-to : {xs : List ℕ} {i w v j : ℕ} → ChunkAt xs i w v → FirstCr xs i j → j + 2 - i ≡ w
line-to {xs} {i} {w} {v} {j} c f = omega (arith, line-length c.line, f.starts, least, most)
  where
    n : ℕ
    n = length c.line.text

    within : i + n < length xs
    within = omega (arith, line-length c.line, c.line.inside)

    most : j ≤ i + n
    most = go (dec_le j (i + n))
      where
        go : Dec (j ≤ i + n) → j ≤ i + n
        go (yes h) = h
        go (no h) = absurd (f.none (i + n) (omega arith) (omega arith) (text-end c.line))

    least : n ≤ j - i
    least =
        let z : i + (j - i) ≡ j = omega (arith, f.starts) in
        before-cr c.line (j - i) (ap (λ (k : ℕ). get_or xs k 0) z ∙ f.here (omega (arith, most, within)))

pub no_cr-on : (xs : List ℕ) (i j : ℕ) → ((k : ℕ) → i ≤ k → k < j → get_or xs k 0 ≡ 13 → ⊥) → (get_or xs j 0 ≡ 13 → ⊥)
    → (k : ℕ) → i ≤ k → k < j + 1 → get_or xs k 0 ≡ 13 → ⊥
no_cr-on xs i j none here k h l e = go (dec_le j k)
  where
    go : Dec (j ≤ k) → ⊥
    go (yes g) = let z : k ≡ j = omega arith in here (ap (λ (m : ℕ). get_or xs m 0) (sym z) ∙ e)
    go (no g) = none k h (omega arith) e
