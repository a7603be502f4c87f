-- The line of full chunks: made once, then put by a block whose end the data covers.
use mathlib.Core.Path.{◌≡◌, refl, sym, ◌∙◌, ap, ap₂}
use mathlib.Core.List.{List, [], ◌++◌, append_assoc}
use Prim.Native.Nat.{ℕ, ◌+◌, ◌-◌, ◌≤◌}
use native.Mathlib.Omega.{arith}
use lib.ListN.{length, take, drop, length-append}
use lib.Seq.{take-add, take_at, drop_at, take-append-le, drop-drop, drop-append-add, length-take-le}
use Rattle.grammar.specs.Text.{bytes}
use Rattle.numerals.specs.Numeral.{numeral, put}
use Rattle.text.specs.Placing.{placed, behind}
use Rattle.text.proofs.Placing.{placed-fits, placed-length, placed-placed, placed-front, puts_part, Put, put-none, put_then}
use Rattle.chunk_writer.specs.Writing.{chunk}
use Rattle.chunk_writer.specs.helpers.Lines.{LineOf}
use Rattle.chunk_writer.proofs.Cuts.{chunk-length}

-- xs is put over the end of a block of which w bytes stay
pub placed-over : (old : List ℕ) (at : ℕ) (block : List ℕ) (w : ℕ) (xs : List ℕ) → w ≤ length block → length block ≤ w + length xs
    → at + (w + length xs) ≤ length old
    → placed (placed old at block) (at + w) xs ≡ placed old at (take w block ++ xs)
placed-over old at block w xs h over l =
    placed-fits mid (at + w) xs (omega (arith, placed-length old at block))
    ∙ ap₂ (λ (y z : List ℕ). y ++ (xs ++ z)) front behind-all
    ∙ append_assoc (take at old) (take w block) (xs ++ drop (at + w + length xs) old)
    ∙ ap (λ (z : List ℕ). take at old ++ z) (sym (append_assoc (take w block) xs (drop (at + w + length xs) old)))
    ∙ ap (λ (i : ℕ). take at old ++ ((take w block ++ xs) ++ drop i old)) both
    ∙ sym (placed-fits old at (take w block ++ xs) (omega (arith, both)))
  where
    mid : List ℕ
    mid = placed old at block

    rest : List ℕ
    rest = drop (at + length block) old

    more : ℕ
    more = w + length xs - length block

    is : mid ≡ take at old ++ (block ++ rest)
    is = placed-fits old at block (omega arith)

    n : length (take at old) ≡ at
    n = length-take-le at old (omega arith)

    front : take (at + w) mid ≡ take at old ++ take w block
    front = ap (take (at + w)) is ∙ take-add at w (take at old ++ (block ++ rest))
        ∙ ap₂ (λ (y z : List ℕ). y ++ take w z) (take_at (take at old) (block ++ rest) at n) (drop_at (take at old) (block ++ rest) at n)
        ∙ ap (λ (z : List ℕ). take at old ++ z) (take-append-le w block rest h)

    reach : at + w + length xs ≡ length (take at old ++ block) + more
    reach = omega (arith, length-append (take at old) block, n)

    whole : at + length block + more ≡ at + w + length xs
    whole = omega arith

    behind-all : drop (at + w + length xs) mid ≡ drop (at + w + length xs) old
    behind-all = ap (drop (at + w + length xs)) (is ∙ sym (append_assoc (take at old) block rest))
        ∙ ap (λ (i : ℕ). drop i ((take at old ++ block) ++ rest)) reach
        ∙ drop-append-add (take at old ++ block) rest more ∙ drop-drop more (at + length block) old
        ∙ ap (λ (i : ℕ). drop i old) whole

    both : at + w + length xs ≡ at + length (take w block ++ xs)
    both = omega (arith, length-append (take w block) xs, length-take-le w block h)

-- a block of which the data covers the end, the data, CR LF
pub full_put : (old : List ℕ) (at : ℕ) (xs line : List ℕ) (w : ℕ) {l₁ l₂ l₃ : List ℕ} → at + (w + length xs + 2) ≤ length old
    → LineOf (length xs) line → w ≡ length (numeral 16 (length xs)) + 2 → 16 ≤ length xs → w ≤ 16
    → l₁ ≡ placed old at line → l₂ ≡ placed l₁ (at + w) xs → l₃ ≡ placed l₂ (at + w + length xs) (bytes "\r\n")
    → l₃ ≡ placed old at (chunk xs)
unfolding chunk
full_put old at xs line w {l₁} {l₂} {l₃} h f e long short e₁ e₂ e₃ =
    e₃
    ∙ ap (λ (z : List ℕ). placed z (at + w + length xs) crlf) two
    ∙ placed-placed old at ((size ++ crlf) ++ xs) (at + w + length xs) crlf
    (omega (arith, reach)) (omega (arith, reach))
    ∙ ap (placed old at) (append_assoc (size ++ crlf) xs crlf ∙ append_assoc size crlf (xs ++ crlf))
  where
    size : List ℕ
    size = numeral 16 (length xs)

    crlf : List ℕ
    crlf = bytes "\r\n"

    reach : length ((size ++ crlf) ++ xs) ≡ w + length xs
    reach = omega (arith, length-append (size ++ crlf) xs, length-append size crlf)

    front : take w line ≡ size ++ crlf
    front = ap (λ (k : ℕ). take k line) e ∙ f.front (omega arith)

    two : l₂ ≡ placed old at ((size ++ crlf) ++ xs)
    two = e₂ ∙ ap (λ (z : List ℕ). placed z (at + w) xs) e₁
        ∙ placed-over old at line w xs (omega (arith, f.size)) (omega (arith, f.size)) (omega arith)
        ∙ ap (λ (z : List ℕ). placed old at (z ++ xs)) front

-- the same, each put into a part of the bytes
abbrev into : ℕ → ℕ → List ℕ → List ℕ → List ℕ
into a e l part = take a l ++ (part ++ drop (e - a) (drop a l))

pub full-parts : (old : List ℕ) (at : ℕ) (xs line : List ℕ) (w : ℕ) {p₁ p₂ p₃ : List ℕ} → at + (w + length xs + 2) ≤ length old
    → LineOf (length xs) line → w ≡ length (numeral 16 (length xs)) + 2 → 16 ≤ length xs → w ≤ 16
    → p₁ ≡ put line (take (at + 16 - at) (drop at old))
    → p₂ ≡ put xs (take (at + w + length xs - (at + w)) (drop (at + w) (into at (at + 16) old p₁)))
    → p₃ ≡ put (bytes "\r\n") (take (at + w + length xs + 2 - (at + w + length xs)) (drop (at + w + length xs)
    (into (at + w) (at + w + length xs) (into at (at + 16) old p₁) p₂)))
    → (at + w + length xs + 2 ≡ at + length (chunk xs))
    × (into (at + w + length xs) (at + w + length xs + 2) (into (at + w) (at + w + length xs) (into at (at + 16) old p₁) p₂) p₃
    ≡ placed old at (chunk xs))
full-parts old at xs line w {p₁} {p₂} {p₃} h f e long short e₁ e₂ e₃ =
    let n : length (chunk xs) ≡ length (numeral 16 (length xs)) + length xs + 4 = chunk-length xs in
    let l₁ = into at (at + 16) old p₁ in
    let l₂ = into (at + w) (at + w + length xs) l₁ p₂ in
    let q₁ : l₁ ≡ placed old at line = (puts_part old at line p₁ (at + 16) (omega (arith, f.size)) (omega (arith, f.size)) e₁).1 in
    let k₁ : length l₁ ≡ length old = ap length q₁ ∙ placed-length old at line in
    let q₂ : l₂ ≡ placed l₁ (at + w) xs = (puts_part l₁ (at + w) xs p₂ (at + w + length xs) (omega arith) refl e₂).1 in
    let k₂ : length l₂ ≡ length old = ap length q₂ ∙ placed-length l₁ (at + w) xs ∙ k₁ in (
      omega arith,
      full_put old at xs line w h f e long short q₁ q₂
          (puts_part l₂ (at + w + length xs) (bytes "\r\n") p₃ (at + w + length xs + 2) (omega arith) refl e₃).1,
    )

pub line_made : (block : List ℕ) (n : ℕ) {l₁ l₂ : List ℕ} {p : ℕ} → length block ≡ 16
    → (p ≡ behind block 0 (numeral 16 n)) × (l₁ ≡ placed block 0 (numeral 16 n)) → l₂ ≡ placed l₁ p (bytes "\r\n") → LineOf n l₂
line_made block n {l₁} {l₂} {p} k e₁ e₂ = record {
  size = ap length e₂ ∙ placed-length l₁ p (bytes "\r\n") ∙ ap length e₁.1 ∙ placed-length block 0 (numeral 16 n) ∙ k;
  front = λ h. go h;
}
  where
    size : List ℕ
    size = numeral 16 n

    crlf : List ℕ
    crlf = bytes "\r\n"

    go : length size + 2 ≤ 16 → take (length size + 2) l₂ ≡ size ++ crlf
    go h =
        let p₁ : Put block 0 size l₁ p
        = put_then block 0 [] block 0 size l₁ p (put-none block 0 (omega arith)) (omega arith) e₁.0 e₁.1 in
        let p₂ : Put block 0 (size ++ crlf) l₂ (behind l₁ p crlf)
        = put_then block 0 size l₁ p crlf l₂ (behind l₁ p crlf) p₁ (omega arith) refl e₂ in
        ap (take (length size + 2)) (p₂.is ∙ placed-front block (size ++ crlf) (omega (arith, p₂.fits)))
        ∙ take_at (size ++ crlf) (drop (length (size ++ crlf)) block) (length size + 2) (length-append size crlf)
