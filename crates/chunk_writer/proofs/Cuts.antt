-- How a body is cut, and how long its frame is.
use mathlib.Core.Path.{◌≡◌, refl, sym, ◌∙◌, ap, ap₂}
use mathlib.Core.List.{List, [], ◌∷◌, ◌++◌}
use Prim.Native.Nat.{ℕ, zero, suc, ◌+◌, ◌*◌, ◌/◌, ◌%◌, ◌^◌, ◌<◌, ◌≤◌}
use native.Mathlib.Nat.{suc-mul, div-add-mod', div-le_self, mod-lt, mul-le-mul}
use native.Mathlib.Omega.{arith}
use lib.ListN.{length, take, drop, length-append, length-drop, drop_of_length-le}
use lib.Seq.{take_all, length-take-le}
use Rattle.numerals.specs.Numeral.{numeral}
use Rattle.numerals.proofs.Digits.{numeral-length, width_bound}
use Rattle.chunk_writer.specs.Writing.{BODY_LIMIT, chunk, end, framed, chunks_in, chunks_of, frame}

steps-enough : (f g n : ℕ) (xs : List ℕ) → 0 < n → length xs ≤ f → length xs ≤ g → chunks_in f n xs ≡ chunks_in g n xs
unfolding chunks_in
steps-enough zero zero n [] p hf hg = refl
steps-enough zero (suc g) n [] p hf hg = refl
steps-enough (suc f) zero n [] p hf hg = refl
steps-enough (suc f) (suc g) n [] p hf hg = refl
steps-enough zero g n (b ∷ xs) p hf hg = absurd (omega arith)
steps-enough (suc f) zero n (b ∷ xs) p hf hg = absurd (omega arith)
steps-enough (suc f) (suc g) n (b ∷ xs) p hf hg =
    ap (λ (z : List (List ℕ)). take n (b ∷ xs) ∷ z)
    (steps-enough f g n (drop n (b ∷ xs)) p (omega (arith, length-drop n (b ∷ xs))) (omega (arith, length-drop n (b ∷ xs))))

pub cut-none : (n : ℕ) → chunks_of n [] ≡ []
unfolding chunks_of chunks_in
cut-none n = refl

-- the first piece is cut off
pub cut-some : (n : ℕ) (xs : List ℕ) → 0 < n → 0 < length xs → chunks_of n xs ≡ take n xs ∷ chunks_of n (drop n xs)
unfolding chunks_of chunks_in
cut-some n [] p h = absurd (omega arith)
cut-some n (b ∷ xs) p h =
    ap (λ (z : List (List ℕ)). take n (b ∷ xs) ∷ z)
    (steps-enough (length xs) (length (drop n (b ∷ xs))) n (drop n (b ∷ xs)) p (omega (arith, length-drop n (b ∷ xs))) (omega arith))

framed-none : framed [] ≡ end
unfolding framed
framed-none = refl

framed-some : (xs : List ℕ) (pieces : List (List ℕ)) → framed (xs ∷ pieces) ≡ chunk xs ++ framed pieces
unfolding framed
framed-some xs pieces = refl

pub frame-none : (n : ℕ) → frame [] n ≡ end
unfolding frame
frame-none n = ap framed (cut-none n) ∙ framed-none

pub frame-some : (n : ℕ) (xs : List ℕ) → 0 < n → 0 < length xs → frame xs n ≡ chunk (take n xs) ++ frame (drop n xs) n
unfolding frame
frame-some n xs p h = ap framed (cut-some n xs p h) ∙ framed-some (take n xs) (chunks_of n (drop n xs))

-- ## Lengths
pub chunk-length : (xs : List ℕ) → length (chunk xs) ≡ length (numeral 16 (length xs)) + length xs + 4
unfolding chunk
chunk-length xs =
    omega (
      arith,
      length-append (numeral 16 (length xs)) (13 ∷ 10 ∷ (xs ++ (13 ∷ 10 ∷ []))),
      length-append xs (13 ∷ 10 ∷ []),
    )

empty : (xs : List ℕ) → length xs ≡ 0 → xs ≡ []
empty [] h = refl
empty (x ∷ xs) h = absurd (omega arith)

module _ (n : ℕ) (pos : 0 < n) where
  -- a last chunk that is short, or none
  last_none : (xs : List ℕ) → length xs ≡ 0 → length (frame xs n) ≡ 5
  last_none xs h = ap (λ (z : List ℕ). length (frame z n)) (empty xs h) ∙ ap length (frame-none n)

  last-short : (xs : List ℕ) → 0 < length xs → length xs < n → length (frame xs n) ≡ length xs + 5 + (length (numeral 16 (length xs)) + 4)
  last-short xs h lt =
      ap length (frame-some n xs pos h
      ∙ ap₂ (λ (y z : List ℕ). chunk y ++ frame z n) (take_all n xs (omega arith)) (drop_of_length-le xs {i = n} (omega arith)))
      ∙ omega (arith, length-append (chunk xs) (frame [] n), chunk-length xs, ap length (frame-none n))

  -- full chunks, and what the rest takes
  full : (r more q : ℕ) → ((ys : List ℕ) → length ys ≡ r → length (frame ys n) ≡ r + 5 + more)
      → (xs : List ℕ) → length xs ≡ q * n + r → length (frame xs n) ≡ length xs + q * (length (numeral 16 n) + 4) + 5 + more
  full r more zero last xs h = omega (arith, last xs (omega arith))
  full r more (suc q) last xs h =
      let s : suc q * n ≡ q * n + n = suc-mul q n in
      let t : length (take n xs) ≡ n = length-take-le n xs (omega arith) in
      let d : length (drop n xs) ≡ q * n + r = omega (arith, length-drop n xs) in
      let w : length (numeral 16 (length (take n xs))) ≡ length (numeral 16 n) = ap (λ (k : ℕ). length (numeral 16 k)) t in
      ap length (frame-some n xs pos (omega arith))
      ∙ omega (
        arith,
        length-append (chunk (take n xs)) (frame (drop n xs) n),
        chunk-length (take n xs),
        full r more q last (drop n xs) d,
        suc-mul q (length (numeral 16 n) + 4),
      )

  whole_split : (xs : List ℕ) → length xs ≡ length xs / n * n + length xs % n
  whole_split xs = sym (div-add-mod' (length xs) n)

  pub frame-full : (xs : List ℕ) → length xs % n ≡ 0 → length (frame xs n) ≡ length xs + length xs / n * (length (numeral 16 n) + 4) + 5
  frame-full xs e =
      omega (arith, full (length xs % n) 0 (length xs / n) (λ ys h. omega (arith, last_none ys (h ∙ e))) xs (whole_split xs))

  pub frame-rest : (xs : List ℕ) → 0 < length xs % n → length (frame xs n)
      ≡ length xs + length xs / n * (length (numeral 16 n) + 4) + 5 + length (numeral 16 (length xs % n)) + 4
  frame-rest xs h =
      omega (
        arith,
        full (length xs % n) (length (numeral 16 (length xs % n)) + 4) (length xs / n)
            (λ ys e.
            omega (
              arith,
              last-short ys (omega arith) (omega (arith, mod-lt (length xs) {m = n} pos)),
              ap (λ (k : ℕ). length (numeral 16 k)) e,
            ))
            xs (whole_split xs),
      )

-- ## Lengths fit
pub hex_short : (n : ℕ) → n < 2 ^ 64 → length (numeral 16 n) ≤ 64
hex_short n h = omega (arith, numeral-length 16 n, width_bound 63 16 n (omega arith) h)

pub lines_fit : (len n w : ℕ) → len ≤ BODY_LIMIT → w ≤ 64 → len / n * (w + 4) ≤ BODY_LIMIT * 68
lines_fit len n w h k = mul-le-mul {n₁ = len / n} {m₁ = w + 4} {n₂ = BODY_LIMIT} {m₂ = 68} (omega (arith, div-le_self len n)) (omega arith)

pub rest-short : (len n : ℕ) → 0 < n → n < 2 ^ 64 → length (numeral 16 (len % n)) ≤ 64
rest-short len n p h = hex_short (len % n) (omega (arith, mod-lt len {m = n} p))
