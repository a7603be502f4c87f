-- Bytes compared as words of four.
use Rattle.std.proofs.Common.{◌≡◌, ℕ, zero, suc, ◌+◌, ◌-◌, ◌*◌, ◌<◌, ◌≤◌, true, List, length, get_or, take, drop, sym, ap, ◌∙◌, arith}
use Rattle.std.proofs.Common.{length-drop, length-take-le, get_or-drop, get_or-take, ext_get_or}
use native.Mathlib.Decide.{dec_le}
use Rattle.octets.specs.Same.{same?}
use Rattle.octets.proofs.SameBytes.{same_list}
use Rattle.chunked.specs.helpers.Passes.{SameAt, word_at}

-- ## A number has one way to be made of bytes
by_256 : (x y x' y' : ℕ) → x < 256 → x' < 256 → x + y * 256 ≡ x' + y' * 256 → (x ≡ x') × (y ≡ y')
by_256 x y x' y' h h' e = (omega arith, omega arith)

by_65536 : (x y x' y' : ℕ) → x < 65536 → x' < 65536 → x + y * 65536 ≡ x' + y' * 65536 → (x ≡ x') × (y ≡ y')
by_65536 x y x' y' h h' e = (omega arith, omega arith)

-- parts of one length that are the same
pub same-part : (xs : List ℕ) (i j n : ℕ) → same? (take (i + n - i) (drop i xs)) (take (j + n - j) (drop j xs)) ≡ true → SameAt xs i j n
same-part xs i j n s =
    let a : n ≡ i + n - i = omega arith in
    let b : j + n - j ≡ n = omega arith in
    ap (λ (k : ℕ). take k (drop i xs)) a
    ∙ same_list (take (i + n - i) (drop i xs)) (take (j + n - j) (drop j xs)) s
    ∙ ap (λ (k : ℕ). take k (drop j xs)) b

module _ (xs : List ℕ) (bytes : (k : ℕ) → get_or xs k 0 < 256) where
  four : (i j : ℕ) → word_at xs i ≡ word_at xs j → (k : ℕ) → k < 4 → get_or xs (i + k) 0 ≡ get_or xs (j + k) 0
  four i j e = go
    where
      halves : (get_or xs i 0 + get_or xs (i + 1) 0 * 256 ≡ get_or xs j 0 + get_or xs (j + 1) 0 * 256)
          × (get_or xs (i + 2) 0 + get_or xs (i + 3) 0 * 256 ≡ get_or xs (j + 2) 0 + get_or xs (j + 3) 0 * 256)
      halves = by_65536 _ _ _ _ (omega (arith, bytes i, bytes (i + 1))) (omega (arith, bytes j, bytes (j + 1))) e

      low : (get_or xs i 0 ≡ get_or xs j 0) × (get_or xs (i + 1) 0 ≡ get_or xs (j + 1) 0)
      low = by_256 _ _ _ _ (bytes i) (bytes j) halves.0

      high : (get_or xs (i + 2) 0 ≡ get_or xs (j + 2) 0) × (get_or xs (i + 3) 0 ≡ get_or xs (j + 3) 0)
      high = by_256 _ _ _ _ (bytes (i + 2)) (bytes (j + 2)) halves.1

      go : (k : ℕ) → k < 4 → get_or xs (i + k) 0 ≡ get_or xs (j + k) 0
      go zero h =
          let x : i + 0 ≡ i = omega arith in
          let y : j ≡ j + 0 = omega arith in
          ap (λ (n : ℕ). get_or xs n 0) x ∙ low.0 ∙ ap (λ (n : ℕ). get_or xs n 0) y
      go (suc zero) h = low.1
      go (suc (suc zero)) h = high.0
      go (suc (suc (suc zero))) h = high.1
      go (suc (suc (suc (suc k)))) h = absurd (omega arith)

  -- two words that reach from end to end
  pub by_words : (i j n : ℕ) → 4 ≤ n → n ≤ 8 → i + n ≤ length xs → j + n ≤ length xs → word_at xs i ≡ word_at xs j
      → word_at xs (i + (n - 4)) ≡ word_at xs (j + (n - 4)) → SameAt xs i j n
  by_words i j n least most hi hj e f = ext_get_or 0 (take n (drop i xs)) (take n (drop j xs)) (li ∙ sym lj) each
    where
      li : length (take n (drop i xs)) ≡ n
      li = length-take-le n (drop i xs) (omega (arith, length-drop i xs))

      lj : length (take n (drop j xs)) ≡ n
      lj = length-take-le n (drop j xs) (omega (arith, length-drop j xs))

      byte : (k : ℕ) → Dec (4 ≤ k) → k < n → get_or xs (i + k) 0 ≡ get_or xs (j + k) 0
      byte k (no h) lt = four i j e k (omega arith)
      byte k (yes h) lt =
          let x : i + k ≡ i + (n - 4) + (k - (n - 4)) = omega arith in
          let y : j + (n - 4) + (k - (n - 4)) ≡ j + k = omega arith in
          ap (λ (m : ℕ). get_or xs m 0) x ∙ four (i + (n - 4)) (j + (n - 4)) f (k - (n - 4)) (omega arith) ∙ ap (λ (m : ℕ). get_or xs m 0) y

      each : (k : ℕ) → k < length (take n (drop i xs)) → get_or (take n (drop i xs)) k 0 ≡ get_or (take n (drop j xs)) k 0
      each k h =
          let lt : k < n = omega (arith, li) in
          get_or-take n (drop i xs) k 0 lt ∙ get_or-drop i xs k 0 ∙ byte k (dec_le 4 k) lt
          ∙ sym (get_or-take n (drop j xs) k 0 lt ∙ get_or-drop j xs k 0)
