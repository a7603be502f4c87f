-- Hex digits: their values, runs of them, and digits two by two.
use mathlib.Core.Path.{◌≡◌, refl, sym, ◌∙◌, ap, ap₂, subst}
use mathlib.Core.Bool.{Bool, true, false, ◌&&◌, ◌||◌, cond}
use mathlib.Core.List.{List, [], ◌∷◌, ◌++◌}
use mathlib.Core.Logic.{◌⊎◌, inl, inr, ⊎_elim}
use mathlib.Core.Option.{Option, none, some}
use Prim.Native.Nat.{ℕ, max, zero, suc, ◌+◌, ◌-◌, ◌*◌, ◌/◌, ◌%◌, ◌^◌, ◌<◌, ◌≤◌}
use native.Mathlib.Nat.{mul-add-mod_self_right, mod-eq_of_lt}
use native.Mathlib.Numerals.{add-one}
use native.Mathlib.Omega.{arith}
use lib.Bits.{bit_and, bit_xor, and_block, xor_block, and_mask, xor_lt}
use lib.Dec.{leb, ltb}
use lib.ListN.{length, get_or, drop, drop_of_length-le, set, length-set}
use lib.Seq.{drop-cons}
use borrow.Author.Tests.{leb-true, ltb-true, ltb-false, le-leb, lt-leb, lt-ltb, le-ltb}
use Rattle.octets.specs.Bytes.{within, hex?, hex_value}
use Rattle.octets.proofs.Spans.{by_range}
use Rattle.numerals.specs.Numeral.{every}
use Rattle.numerals.proofs.Digits.{split, at_true, at-false}
use Rattle.copying.specs.helpers.Runs.{Front}
use Rattle.copying.proofs.Runs.{front-on, front-even}
use Rattle.lines.specs.Grammar.{DIGIT_LIMIT}
use Rattle.lines.specs.helpers.Pairs.{pairs}
use Rattle.std.specs.Prelude.{Some, None}
use Rattle.lines.specs.Reading.{byte_before, bytes_of, within_room, spelled, hex_answer, hex_output}

pub false-true : {A : Type 0} → false ≡ true → A
false-true e = let z : ◌≡◌ {A = ℕ} 0 1 = cc in absurd (omega arith)

left : (s t : Bool) → (s && t) ≡ true → s ≡ true
left true t e = refl
left false t e = e

right : (s t : Bool) → (s && t) ≡ true → t ≡ true
right true t e = e
right false t e = false-true e

either : (s t : Bool) → (s || t) ≡ true → (s ≡ true) ⊎ (t ≡ true)
either true t e = inl refl
either false t e = inr e

and_assoc : (s t u : Bool) → ((s && t) && u) ≡ (s && (t && u))
and_assoc true t u = refl
and_assoc false t u = refl

pub and-true : (s : Bool) → (s && true) ≡ s
and-true true = refl
and-true false = refl

pub and-false : (s : Bool) → (s && false) ≡ false
and-false true = refl
and-false false = refl

-- ## Values
low : (lo hi b : ℕ) → within lo hi b ≡ true → lo ≤ b
low lo hi b e = leb-true lo b (left (leb lo b) (leb b hi) e)

high : (lo hi b : ℕ) → within lo hi b ≡ true → b ≤ hi
high lo hi b e = leb-true b hi (right (leb lo b) (leb b hi) e)

digit_value : (b : ℕ) → b ≤ 57 → hex_value b ≡ b - 48
digit_value b h = at_true (leb b 57) (b - 48) (cond (leb b 70) (b - 55) (b - 87)) (le-leb b 57 h)

capital_value : (b : ℕ) → 57 < b → b ≤ 70 → hex_value b ≡ b - 55
capital_value b l h = at-false (leb b 57) (b - 48) (cond (leb b 70) (b - 55) (b - 87)) (lt-leb b 57 l)
    ∙ at_true (leb b 70) (b - 55) (b - 87) (le-leb b 70 h)

small-value : (b : ℕ) → 70 < b → hex_value b ≡ b - 87
small-value b l = at-false (leb b 57) (b - 48) (cond (leb b 70) (b - 55) (b - 87)) (lt-leb b 57 (omega arith))
    ∙ at-false (leb b 70) (b - 55) (b - 87) (lt-leb b 70 l)

pub value-small : (b : ℕ) → hex? b ≡ true → hex_value b < 16
unfolding hex?
value-small b e = ⊎_elim
    (λ (d : within 48 57 b ≡ true). omega (arith, low 48 57 b d, high 48 57 b d, digit_value b (high 48 57 b d)))
    (λ (l : (within 65 70 b || within 97 102 b) ≡ true). ⊎_elim
    (λ (d : within 65 70 b ≡ true). omega (arith, high 65 70 b d, capital_value b (omega (arith, low 65 70 b d)) (high 65 70 b d)))
    (λ (d : within 97 102 b ≡ true). omega (arith, high 97 102 b d, small-value b (omega (arith, low 97 102 b d))))
    (either (within 65 70 b) (within 97 102 b) l))
    (either (within 48 57 b) (within 65 70 b || within 97 102 b) e)

pub value-is : (b r : ℕ) → r ≡ cond (hex? b) (hex_value b) 16 → hex? b ≡ true → r ≡ hex_value b
value-is b r e t = e ∙ at_true (hex? b) (hex_value b) 16 t

-- the largest value so far tells whether all bytes are digits
module _ (b m r : ℕ) (e : r ≡ cond (hex? b) (hex_value b) 16) where
  above : hex? b ≡ false → r ≡ 16
  above f = e ∙ at-false (hex? b) (hex_value b) 16 f

  stopped : (n : ℕ) → hex? b ≡ false → 16 ≤ n → ltb n 16 ≡ (ltb m 16 && hex? b)
  stopped n f h = le-ltb n 16 h ∙ sym (ap (λ (t : Bool). ltb m 16 && t) f ∙ and-false (ltb m 16))

  most_raised : m < r → ltb r 16 ≡ (ltb m 16 && hex? b)
  most_raised h = split (hex? b)
      (λ t. let s : r < 16 = omega (arith, value-is b r e t, value-small b t) in
      lt-ltb r 16 s ∙ sym (ap₂ (λ (x y : Bool). x && y) (lt-ltb m 16 (omega arith)) t))
      (λ f. stopped r f (omega (arith, above f)))

  most-kept : r ≤ m → ltb m 16 ≡ (ltb m 16 && hex? b)
  most-kept h = split (hex? b)
      (λ t. sym (ap (λ (u : Bool). ltb m 16 && u) t ∙ and-true (ltb m 16)))
      (λ f. stopped m f (omega (arith, above f)))

  pub most-of-both : (n : ℕ) → n ≡ max r m → ltb n 16 ≡ (ltb m 16 && hex? b)
  most-of-both n is = split (ltb m r)
      (λ t. let h : m < r = ltb-true m r t in let k : n ≡ r = omega arith in ap (λ (i : ℕ). ltb i 16) k ∙ most_raised h)
      (λ t. let h : r ≤ m = ltb-false m r t in let k : n ≡ m = omega arith in ap (λ (i : ℕ). ltb i 16) k ∙ most-kept h)

-- ## Two digits in one word
-- the low four bits, and 9 more for a letter
abbrev by_bits : ℕ → ℕ
by_bits b = b % 16 + b / 64 % 2 * 9

-- of the byte with those bits turned over
abbrev turned : ℕ → ℕ
turned b = bit_xor b 79

value_by_bits : (b : ℕ) → b < 256 → hex? b ≡ true → by_bits (turned b) ≡ 24 - hex_value b
unfolding hex?
value_by_bits b h t =
    sym (at_true (hex? b) (by_bits (turned b)) 0 t)
    ∙ by_range (λ (n : ℕ). cond (hex? n) (by_bits (turned n)) 0) (λ (n : ℕ). cond (hex? n) (24 - hex_value n) 0) 0 256 refl b
    (omega arith) (omega arith)
    ∙ at_true (hex? b) (24 - hex_value b) 0 t

-- of both bytes of a word
abbrev pub both_by_bits : ℕ → ℕ
both_by_bits w = bit_and w 3855 + bit_and (w / 64) 257 * 9

module _ (w a b : ℕ) (ha : a < 256) (hb : b < 256) (e : w ≡ b * 2 ^ 8 + a) where
  low_bits : bit_and w 3855 ≡ b % 16 * 256 + a % 16
  low_bits =
      ap (λ (x : ℕ). bit_and x 3855) e ∙ and_block 8 b 15 a 15 (omega arith) (omega arith)
      ∙ ap₂ (λ (x y : ℕ). x * 256 + y) (and_mask b 4) (and_mask a 4)

  letter-bits : bit_and (w / 64) 257 ≡ b / 64 % 2 * 256 + a / 64 % 2
  letter-bits =
      let f : w / 64 ≡ b / 64 * 2 ^ 8 + (b % 64 * 4 + a / 64) = omega arith in
      let g : (b % 64 * 4 + a / 64) % 2 ≡ a / 64 % 2 = omega arith in
      ap (λ (x : ℕ). bit_and x 257) f ∙ and_block 8 (b / 64) 1 (b % 64 * 4 + a / 64) 1 (omega arith) (omega arith)
      ∙ ap₂ (λ (x y : ℕ). x * 256 + y) (and_mask (b / 64) 1) (and_mask (b % 64 * 4 + a / 64) 1 ∙ g)

  word_by_bits : both_by_bits w ≡ by_bits b * 256 + by_bits a
  word_by_bits = omega (arith, low_bits, letter-bits)

module _ (a b : ℕ) (ha : a < 256) (hb : b < 256) (t : hex? a ≡ true) (u : hex? b ≡ true) where
  short-is : both_by_bits (bit_xor (a + b * 256) 20303) ≡ (24 - hex_value b) * 256 + (24 - hex_value a)
  short-is =
      let e : a + b * 256 ≡ b * 2 ^ 8 + a = omega arith in
      let word : bit_xor (a + b * 256) 20303 ≡ turned b * 2 ^ 8 + turned a
      = ap (λ (x : ℕ). bit_xor x 20303) e ∙ xor_block 8 b 79 a 79 (omega arith) (omega arith) in
      word_by_bits (bit_xor (a + b * 256) 20303) (turned a) (turned b) (xor_lt 8 a 79 (omega arith) (omega arith))
      (xor_lt 8 b 79 (omega arith) (omega arith)) word
      ∙ ap₂ (λ (x y : ℕ). x * 256 + y) (value_by_bits b hb u) (value_by_bits a ha t)

  pub short-fits : both_by_bits (bit_xor (a + b * 256) 20303) ≤ 6168
  short-fits = omega (arith, short-is)

  pub values-are : 6168 - both_by_bits (bit_xor (a + b * 256) 20303) ≡ hex_value b * 256 + hex_value a
  values-are = omega (arith, short-is, value-small a t, value-small b u)

  pub values-fit : 6168 - both_by_bits (bit_xor (a + b * 256) 20303) ≤ 3855
  values-fit = omega (arith, values-are, value-small a t, value-small b u)

pub byte-of-word : {x : ℕ} (v w : ℕ) → x ≡ w * 256 + v → v < 16 → w < 16 → (x * 16 + x / 256) % 256 ≡ v * 16 + w
byte-of-word {x} v w e h k =
    let q : x / 256 ≡ w = omega arith in
    let s : x * 16 + x / 256 ≡ w * 16 * 256 + (v * 16 + w) = omega arith in
    ap (λ (n : ℕ). n % 256) s ∙ mul-add-mod_self_right (w * 16) 256 (v * 16 + w) ∙ mod-eq_of_lt (omega arith)

-- ## Runs
module _ (xs : List ℕ) (i : ℕ) (h : i < length xs) where
  next : drop i xs ≡ get_or xs i 0 ∷ drop (i + 1) xs
  next = drop-cons xs i 0 h ∙ ap (λ (k : ℕ). get_or xs i 0 ∷ drop k xs) (sym (add-one i))

  -- t tells whether all bytes before i pass the test, and u whether all before i + 1 do
  pub every-on : (p : ℕ → Bool) (t u : Bool) → u ≡ (t && p (get_or xs i 0)) → (t && every p (drop i xs)) ≡ every p xs
      → (u && every p (drop (i + 1) xs)) ≡ every p xs
  every-on p t u e k =
      let rest = every p (drop (i + 1) xs) in
      ap (λ (v : Bool). v && rest) e ∙ and_assoc t (p (get_or xs i 0)) rest
      ∙ ap (λ (v : Bool). t && v) (sym (ap (every p) next)) ∙ k

pub every-end : (p : ℕ → Bool) (xs : List ℕ) (i : ℕ) (t : Bool) → length xs ≤ i → (t && every p (drop i xs)) ≡ every p xs
    → t ≡ every p xs
every-end p xs i t h k =
    sym (and-true t) ∙ ap (λ (l : List ℕ). t && every p l) (sym (drop_of_length-le xs {i = i} h)) ∙ k

pub every-at : (p : ℕ → Bool) (xs : List ℕ) (i : ℕ) → every p xs ≡ true → i < length xs → p (get_or xs i 0) ≡ true
every-at p [] i e h = absurd (omega arith)
every-at p (x ∷ xs) zero e h = left (p x) (every p xs) e
every-at p (x ∷ xs) (suc i) e h = every-at p xs i (right (p x) (every p xs) e) (omega arith)

-- ## Two by two
pub pairs-length : (xs : List ℕ) (n : ℕ) → length xs ≡ 2 * n → length (pairs xs) ≡ n
pairs-length [] n e = omega arith
pairs-length (a ∷ []) n e = absurd (omega arith)
pairs-length (a ∷ b ∷ xs) zero e = absurd (omega arith)
pairs-length (a ∷ b ∷ xs) (suc n) e = ap suc (pairs-length xs n (omega arith))

pub pairs-at : (xs : List ℕ) (i : ℕ) → 2 * i + 1 < length xs
    → get_or (pairs xs) i 0 ≡ hex_value (get_or xs (2 * i) 0) * 16 + hex_value (get_or xs (2 * i + 1) 0)
pairs-at [] i h = absurd (omega arith)
pairs-at (a ∷ []) i h = absurd (omega arith)
pairs-at (a ∷ b ∷ xs) zero h = refl
pairs-at (a ∷ b ∷ xs) (suc i) h =
    let j : suc (suc (2 * i)) ≡ 2 * suc i = omega arith in
    let k : suc (suc (2 * i + 1)) ≡ 2 * suc i + 1 = omega arith in
    pairs-at xs i (omega arith)
    ∙ ap₂ (λ (m n : ℕ). hex_value (get_or (a ∷ b ∷ xs) m 0) * 16 + hex_value (get_or (a ∷ b ∷ xs) n 0)) j k

-- ## What a line spells
module _ (a b : ℕ) (xs : List ℕ) where
  pub pair-good : (hex? a && hex? b) ≡ true → bytes_of (a ∷ b ∷ xs) ≡ byte_before (hex_value a * 16 + hex_value b) (bytes_of xs)
  unfolding bytes_of
  pair-good e = at_true (hex? a && hex? b) (byte_before (hex_value a * 16 + hex_value b) (bytes_of xs)) none e

  pub pair_bad : (hex? a && hex? b) ≡ false → bytes_of (a ∷ b ∷ xs) ≡ none
  unfolding bytes_of
  pair_bad e = at-false (hex? a && hex? b) (byte_before (hex_value a * 16 + hex_value b) (bytes_of xs)) none e

even-some : (xs : List ℕ) (n : ℕ) → length xs ≡ 2 * n → every hex? xs ≡ true → bytes_of xs ≡ some (pairs xs)
unfolding bytes_of
even-some [] n l e = refl
even-some (a ∷ []) n l e = absurd (omega arith)
even-some (a ∷ b ∷ xs) zero l e = absurd (omega arith)
even-some (a ∷ b ∷ xs) (suc n) l e =
    let t : every hex? (b ∷ xs) ≡ true = right (hex? a) (every hex? (b ∷ xs)) e in
    pair-good a b xs (ap₂ (λ (s u : Bool). s && u) (left (hex? a) (every hex? (b ∷ xs)) e) (left (hex? b) (every hex? xs) t))
    ∙ ap (byte_before (hex_value a * 16 + hex_value b)) (even-some xs n (omega arith) (right (hex? b) (every hex? xs) t))

odd-none : (xs : List ℕ) (n : ℕ) → length xs ≡ 2 * n + 1 → bytes_of xs ≡ none
unfolding bytes_of
odd-none [] n l = absurd (omega arith)
odd-none (a ∷ []) n l = refl
odd-none (a ∷ b ∷ xs) zero l = absurd (omega arith)
odd-none (a ∷ b ∷ xs) (suc n) l = split (hex? a && hex? b)
    (λ t. pair-good a b xs t ∙ ap (byte_before (hex_value a * 16 + hex_value b)) (odd-none xs n (omega arith)))
    (pair_bad a b xs)

other_none : (xs : List ℕ) → every hex? xs ≡ false → bytes_of xs ≡ none
unfolding bytes_of
other_none [] e = false-true (sym e)
other_none (a ∷ []) e = refl
other_none (a ∷ b ∷ xs) e = split (hex? a && hex? b)
    (λ t. pair-good a b xs t
    ∙ ap (byte_before (hex_value a * 16 + hex_value b)) (other_none xs (later (hex? a) (hex? b) (every hex? xs) t e)))
    (pair_bad a b xs)
  where
    later : (s t u : Bool) → (s && t) ≡ true → (s && (t && u)) ≡ false → u ≡ false
    later true true u f g = g
    later true false u f g = false-true f
    later false t u f g = false-true f

module _ (xs : List ℕ) (room : ℕ) where
  pub too_many : DIGIT_LIMIT < length xs → spelled xs room ≡ none
  unfolding spelled
  too_many h = at_true (ltb DIGIT_LIMIT (length xs)) none (within_room room (bytes_of xs)) (lt-ltb DIGIT_LIMIT (length xs) h)

  few : length xs ≤ DIGIT_LIMIT → spelled xs room ≡ within_room room (bytes_of xs)
  unfolding spelled
  few h = at-false (ltb DIGIT_LIMIT (length xs)) none (within_room room (bytes_of xs)) (le-ltb DIGIT_LIMIT (length xs) h)

  pub odd : length xs ≤ DIGIT_LIMIT → (length xs % 2 ≡ 0 → ⊥) → spelled xs room ≡ none
  odd h f = few h ∙ ap (within_room room) (odd-none xs (length xs / 2) (omega arith))

  pub other : length xs ≤ DIGIT_LIMIT → every hex? xs ≡ false → spelled xs room ≡ none
  other h e = few h ∙ ap (within_room room) (other_none xs e)

  module _ (h : length xs ≤ DIGIT_LIMIT) (m : length xs % 2 ≡ 0) (e : every hex? xs ≡ true) where
    halves : length xs ≡ 2 * (length xs / 2)
    halves = omega arith

    pub half : length (pairs xs) ≡ length xs / 2
    half = pairs-length xs (length xs / 2) halves

    pub no_room : room < length xs / 2 → spelled xs room ≡ none
    no_room l = few h ∙ ap (within_room room) (even-some xs (length xs / 2) halves e)
        ∙ at_true (ltb room (length (pairs xs))) none (some (pairs xs)) (lt-ltb room (length (pairs xs)) (omega (arith, half)))

    pub good : length xs / 2 ≤ room → spelled xs room ≡ some (pairs xs)
    good l = few h ∙ ap (within_room room) (even-some xs (length xs / 2) halves e)
        ∙ at-false (ltb room (length (pairs xs))) none (some (pairs xs)) (le-ltb room (length (pairs xs)) (omega (arith, half)))

-- ## A loop over pairs
pub pair_is : (xs : List ℕ) (i j r : ℕ) → j ≡ 2 * i → j + 1 < length xs
    → r ≡ hex_value (get_or xs j 0) * 16 + hex_value (get_or xs (j + 1) 0) → get_or (pairs xs) i 0 ≡ r
pair_is xs i j r k h v =
    pairs-at xs i (omega arith) ∙ ap (λ (m : ℕ). hex_value (get_or xs m 0) * 16 + hex_value (get_or xs (m + 1) 0)) (sym k) ∙ sym v

-- the first k pairs are put
pub record Filling (line old out : List ℕ) (k : ℕ) : Type 0 where
  pub even : length out ≡ length old
  pub twice : length line ≡ 2 * length old
  pub count : length (pairs line) ≡ length old
  pub front : Front old (pairs line) out k

pub filling_start : {line old : List ℕ} → length line ≡ 2 * length old → Filling line old old 0
filling_start {line} {old} e = record {
  even = refl;
  twice = e;
  count = pairs-length line (length old) e;
  front = record { is = refl; within = omega arith };
}

module _ {line old out : List ℕ} {k : ℕ} (h : Filling line old out k) where
  pub filling_on : {b : ℕ} → k < length out → get_or (pairs line) k 0 ≡ b → Filling line old (set out k b) (k + 1)
  filling_on {b} lt e = record {
    even = length-set out k b ∙ h.even;
    twice = h.twice;
    count = h.count;
    front = subst (λ (c : ℕ). Front old (pairs line) (set out k c) (k + 1)) e
        (front-on (omega (arith, h.count)) h.front (omega (arith, h.even, h.count)));
  }

  pub filling_all : length out ≤ k → out ≡ pairs line
  filling_all ge = front-even (sym h.count) h.front (omega (arith, h.even, h.count))

-- ## What each answer has to show
pub bad_is : (xs : List ℕ) (old : List ℕ) → spelled xs (length old) ≡ none
    → (None ≡ hex_answer (spelled xs (length old))) × (old ≡ hex_output (spelled xs (length old)) old)
bad_is xs old e = (sym (ap hex_answer e), sym (ap (λ (o : Option (List ℕ)). hex_output o old) e))

pub good-is : (xs old part : List ℕ) (n : ℕ) → n ≡ length (pairs xs) → part ≡ pairs xs → spelled xs (length old) ≡ some (pairs xs)
    → (Some n ≡ hex_answer (spelled xs (length old))) × (part ++ drop n old ≡ hex_output (spelled xs (length old)) old)
good-is xs old part n k p e = (
  ap Some k ∙ sym (ap hex_answer e),
  ap₂ (λ (y : List ℕ) (m : ℕ). y ++ drop m old) p k ∙ sym (ap (λ (o : Option (List ℕ)). hex_output o old) e),
)
