-- A line gathered from a piece: what the buffer then has of it.
use mathlib.Core.Path.{◌≡◌, sym, ◌∙◌, ap, ap₂}
use mathlib.Core.Bool.{Bool, cond}
use mathlib.Core.List.{List, ◌++◌, append_assoc}
use Prim.Native.Nat.{ℕ, ◌+◌, ◌-◌, ◌<◌, ◌≤◌, min}
use native.Mathlib.Omega.{arith}
use lib.Dec.{leb, ltb}
use lib.ListN.{length, take, drop, length-append, length-take}
use lib.Seq.{take_all, take-take, take-append-le, take-append-add, length-take-le}
use borrow.Author.Tests.{leb-true, leb-false}
use Rattle.numerals.proofs.Digits.{split}
use Rattle.text.specs.Placing.{placed, behind}
use Rattle.text.proofs.Placing.{placed-fits, behind-fits}
use Rattle.lines.specs.Reading.{line_end, line_with, gathered_line, gathering}
use Rattle.lines.proofs.Ends.{end-within}

pub take-of-take : (m n : ℕ) (xs : List ℕ) → take m (take n xs) ≡ take (min n m) xs
take-of-take m n xs = split (leb m n)
    (λ t. let h : m ≤ n = leb-true m n t in
    let e : m ≡ min n m = omega arith in
    take-take m n xs h ∙ ap (λ (k : ℕ). take k xs) e)
    (λ t. let h : n < m = leb-false m n t in
    let e : n ≡ min n m = omega arith in
    take_all m (take n xs) (omega (arith, length-take n xs)) ∙ ap (λ (k : ℕ). take k xs) e)

pub take_clip : (n : ℕ) (xs : List ℕ) → take n xs ≡ take (min n (length xs)) xs
take_clip n xs = sym (take_all (length xs) (take n xs) (omega (arith, length-take n xs))) ∙ take-of-take (length xs) n xs

-- of a line only the first bytes count
pub clip_append : (c : ℕ) (xs ys : List ℕ) → take c (take c xs ++ ys) ≡ take c (xs ++ ys)
clip_append c xs ys = split (leb (length xs) c)
    (λ t. ap (λ (z : List ℕ). take c (z ++ ys)) (take_all c xs (leb-true (length xs) c t)))
    (λ t. let h : c < length xs = leb-false (length xs) c t in
    take-append-le c (take c xs) ys (omega (arith, length-take-le c xs (omega arith))) ∙ take-take c c xs (omega arith)
    ∙ sym (take-append-le c xs ys (omega arith)))

-- what `gather` reckons: where the piece's part of the line ends, where it goes in the buffer, and how much of it fits
pub record Fit (line : List ℕ) (held : ℕ) (piece : List ℕ) (end start count : ℕ) : Type 0 where
  pub ends : end ≡ line_end piece
  pub starts : start ≡ min held (length line)
  pub counts : count ≡ min end (length line - start)

pub fit : (line : List ℕ) (held : ℕ) (piece : List ℕ) {end start count : ℕ} → end ≡ line_end piece → start ≡ min held (length line)
    → count ≡ min end (length line - start) → Fit line held piece end start count
fit line held piece e s c = record { ends = e; starts = s; counts = c }

module _ {line : List ℕ} {held : ℕ} {piece : List ℕ} {end start count : ℕ} (f : Fit line held piece end start count) where
  pub part_length : length (take count piece) ≡ count
  part_length = length-take-le count piece (omega (arith, end-within piece))

  with_is : line_with line held piece ≡ take start line ++ take count piece
  unfolding line_with
  with_is =
      let n : length (take start line) ≡ start = length-take-le start line (omega (arith, f.starts)) in
      let c : length line ≡ length (take start line) + (length line - start) = omega arith in
      ap₂ (λ (x y : List ℕ). take (length line) (x ++ y)) (take_clip held line ∙ ap (λ (i : ℕ). take i line) (sym f.starts))
      (ap (λ (i : ℕ). take i piece) (sym f.ends))
      ∙ ap (λ (i : ℕ). take i (take start line ++ take end piece)) c
      ∙ take-append-add (take start line) (take end piece) (length line - start)
      ∙ ap (λ (x : List ℕ). take start line ++ x)
      (take-of-take (length line - start) end piece ∙ ap (λ (i : ℕ). take i piece) (sym f.counts))

  with_length : length (line_with line held piece) ≡ start + count
  with_length = ap length with_is
      ∙ omega (arith, length-append (take start line) (take count piece), length-take-le start line (omega arith), part_length)

  fits : start + length (take count piece) ≤ length line
  fits = omega (arith, part_length)

  holds : (r : ℕ) → r ≡ behind line start (take count piece) → r ≡ length (line_with line held piece)
  holds r p = p ∙ behind-fits line start (take count piece) fits ∙ omega (arith, part_length, with_length)

  gathers : (new : List ℕ) → new ≡ placed line start (take count piece)
      → new ≡ line_with line held piece ++ drop (length (line_with line held piece)) line
  gathers new w =
      let n : start + length (take count piece) ≡ length (line_with line held piece) = omega (arith, part_length, with_length) in
      w ∙ placed-fits line start (take count piece) fits
      ∙ sym (append_assoc (take start line) (take count piece) (drop (start + length (take count piece)) line))
      ∙ ap₂ (λ (x : List ℕ) (i : ℕ). x ++ drop i line) (sym with_is) n

  pub gathered-is : {r : ℕ} {new : List ℕ} → (r ≡ behind line start (take count piece)) × (new ≡ placed line start (take count piece))
      → (t : Bool) → ltb end (length piece) ≡ t
      → (record { taken = cond t (end + 1) end; held = r; ended = ltb end (length piece) } ≡ gathering line held piece)
      × (new ≡ gathered_line line held piece)
  unfolding gathering
  gathered-is {r} {new} put t e = (
    ap (λ (s : Bool). record { taken = cond s (end + 1) end; held = r; ended = ltb end (length piece) }) (sym e)
        ∙ ap₂ (λ (i k : ℕ). record { taken = cond (ltb i (length piece)) (i + 1) i; held = k; ended = ltb i (length piece) })
        f.ends (holds r put.0),
    gathers new put.1,
  )
