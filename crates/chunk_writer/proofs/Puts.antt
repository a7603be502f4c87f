-- What the writer's parts leave in the lent bytes: a number, a chunk, and the chunks so far.
use mathlib.Core.Path.{◌≡◌, refl, sym, ◌∙◌, ap, ap₂, subst}
use mathlib.Core.List.{List, [], ◌++◌, append_assoc}
use Prim.Native.Nat.{ℕ, ◌+◌, ◌<◌, ◌≤◌, min}
use native.Mathlib.Omega.{arith}
use lib.ListN.{length, take, drop, length-append, length-drop, drop_of_length-le}
use lib.Seq.{take-add, take_at, take_all, drop_at, drop-drop, drop-append-add, length-take-le}
use lib.Dec.{leb}
use borrow.Author.Tests.{leb-true, leb-false}
use Rattle.std.proofs.lemmas.List.{nil_from_length}
use Rattle.grammar.specs.Text.{bytes}
use Rattle.numerals.specs.Numeral.{numeral}
use Rattle.text.specs.Placing.{placed, behind}
use Rattle.numerals.proofs.Digits.{split as split-test}
use Rattle.text.proofs.Placing.{placed-fits, Put, put-none, put_then}
use Rattle.chunk_writer.specs.Writing.{chunk, end, frame}
use Rattle.chunk_writer.proofs.Cuts.{chunk-length, frame-none, frame-some}

-- a size, CR LF, the data, CR LF, one behind the other
pub chunk-put : (old : List ℕ) (o : ℕ) (xs : List ℕ) {l₁ l₂ l₃ l₄ : List ℕ} {a b c d : ℕ} → o + length (chunk xs) ≤ length old
    → (a ≡ behind old o (numeral 16 (length xs))) × (l₁ ≡ placed old o (numeral 16 (length xs)))
    → (b ≡ behind l₁ a (bytes "\r\n")) × (l₂ ≡ placed l₁ a (bytes "\r\n"))
    → (c ≡ behind l₂ b xs) × (l₃ ≡ placed l₂ b xs)
    → (d ≡ behind l₃ c (bytes "\r\n")) × (l₄ ≡ placed l₃ c (bytes "\r\n"))
    → (d ≡ o + length (chunk xs)) × (l₄ ≡ placed old o (chunk xs))
unfolding chunk
chunk-put old o xs {l₁} {l₂} {l₃} {l₄} {a} {b} {c} {d} h e₁ e₂ e₃ e₄ =
    (p₄.ends ∙ ap (λ (z : List ℕ). o + length z) whole, p₄.is ∙ ap (placed old o) whole)
  where
    size : List ℕ
    size = numeral 16 (length xs)

    crlf : List ℕ
    crlf = bytes "\r\n"

    p₁ : Put old o size l₁ a
    p₁ = put_then old o [] old o size l₁ a (put-none old o (omega arith)) (omega (arith, chunk-length xs)) e₁.0 e₁.1

    p₂ : Put old o (size ++ crlf) l₂ b
    p₂ = put_then old o size l₁ a crlf l₂ b p₁ (omega (arith, chunk-length xs)) e₂.0 e₂.1

    p₃ : Put old o ((size ++ crlf) ++ xs) l₃ c
    p₃ = put_then old o (size ++ crlf) l₂ b xs l₃ c p₂ (omega (arith, chunk-length xs, length-append size crlf)) e₃.0 e₃.1

    p₄ : Put old o (((size ++ crlf) ++ xs) ++ crlf) l₄ d
    p₄ = put_then old o ((size ++ crlf) ++ xs) l₃ c crlf l₄ d p₃
        (omega (arith, chunk-length xs, length-append size crlf, length-append (size ++ crlf) xs)) e₄.0 e₄.1

    whole : ((size ++ crlf) ++ xs) ++ crlf ≡ size ++ (crlf ++ (xs ++ crlf))
    whole = append_assoc (size ++ crlf) xs crlf ∙ append_assoc size crlf (xs ++ crlf)

-- at the front
pub placed-front : (old xs : List ℕ) → length xs ≤ length old → placed old 0 xs ≡ xs ++ drop (length xs) old
placed-front old xs h =
    let z : 0 + length xs ≡ length xs = omega arith in
    placed-fits old 0 xs (omega arith) ∙ ap (λ (k : ℕ). xs ++ drop k old) z

-- a cut behind the end is one at the end
cut-alike : (n k : ℕ) (xs : List ℕ) → k ≡ min n (length xs) → (take n xs ≡ take k xs) × (drop n xs ≡ drop k xs)
cut-alike n k xs e = split-test (leb n (length xs))
    (λ t. let z : n ≡ k = omega (arith, leb-true n (length xs) t) in (ap (λ (m : ℕ). take m xs) z, ap (λ (m : ℕ). drop m xs) z))
    (λ t. let lt : length xs < n = leb-false n (length xs) t in (
      take_all n xs (omega arith) ∙ sym (take_all k xs (omega arith)),
      drop_of_length-le xs {i = n} (omega arith) ∙ sym (drop_of_length-le xs {i = k} (omega arith)),
    ))

-- ## The chunks so far
-- the body is framed in o bytes as far as the rest, and what is still to come is the frame of the rest
pub record Framed (body : List ℕ) (n : ℕ) (old new rest : List ℕ) (o : ℕ) : Type 0 where
  pub reach : o ≤ length (frame body n)
  pub is : new ≡ take o (frame body n) ++ drop o old
  pub ahead : drop o (frame body n) ≡ frame rest n

pub framed-start : {body : List ℕ} {n : ℕ} {old rest : List ℕ} → rest ≡ body → Framed body n old old rest 0
framed-start {body} {n} e = record { reach = omega arith; is = refl; ahead = ap (λ (z : List ℕ). frame z n) (sym e) }

module _ {body : List ℕ} {n : ℕ} {old new rest : List ℕ} {o : ℕ} (fits : length (frame body n) ≤ length old)
    (h : Framed body n old new rest o) where
  begun : length (take o (frame body n)) ≡ o
  begun = length-take-le o (frame body n) h.reach

  framed-length : length new ≡ length old
  framed-length = omega (arith, ap length h.is, length-append (take o (frame body n)) (drop o old), begun, length-drop o old)

  -- the frame goes on with xs, which is written
  goes_on : (xs ys : List ℕ) → drop o (frame body n) ≡ xs ++ ys
      → (o + length xs ≤ length (frame body n)) × (drop (o + length xs) (frame body n) ≡ ys)
      × (placed new o xs ≡ take (o + length xs) (frame body n) ++ drop (o + length xs) old)
  goes_on xs ys e =
      let reaches : o + length xs ≤ length (frame body n)
      = omega (arith, ap length e, length-append xs ys, length-drop o (frame body n), h.reach) in (
        reaches,
        sym (drop-drop (length xs) o (frame body n)) ∙ ap (drop (length xs)) e ∙ drop_at xs ys (length xs) refl,
        placed-fits new o xs (omega (arith, framed-length))
            ∙ ap₂ (λ (y z : List ℕ). y ++ (xs ++ z))
            (ap (take o) h.is ∙ take_at (take o (frame body n)) (drop o old) o begun)
            (ap (drop (o + length xs)) h.is
            ∙ ap (λ (k : ℕ). drop (k + length xs) (take o (frame body n) ++ drop o old)) (sym begun)
            ∙ drop-append-add (take o (frame body n)) (drop o old) (length xs) ∙ drop-drop (length xs) o old)
            ∙ sym (append_assoc (take o (frame body n)) xs (drop (o + length xs) old))
            ∙ ap (λ (z : List ℕ). z ++ drop (o + length xs) old)
            (ap (λ (z : List ℕ). take o (frame body n) ++ z) (sym (ap (take (length xs)) e ∙ take_at xs ys (length xs) refl))
            ∙ sym (take-add o (length xs) (frame body n))),
      )

  -- the next part, and what is left behind it
  module _ (part more : List ℕ) (pos : 0 < n) (e : rest ≡ part ++ more) (size : length part ≡ min n (length rest)) (some : 0 < length rest) where
    piece : (take n rest ≡ part) × (drop n rest ≡ more)
    piece =
        let c = cut-alike n (length part) rest size in (
          c.0 ∙ ap (take (length part)) e ∙ take_at part more (length part) refl,
          c.1 ∙ ap (drop (length part)) e ∙ drop_at part more (length part) refl,
        )

    split : drop o (frame body n) ≡ chunk part ++ frame more n
    split = h.ahead ∙ frame-some n rest pos some ∙ ap₂ (λ (y z : List ℕ). chunk y ++ frame z n) piece.0 piece.1

    pub framed-fits : o + length (chunk part) ≤ length new
    framed-fits = omega (arith, (goes_on (chunk part) (frame more n) split).0, framed-length)

    pub framed-on : {new' : List ℕ} {o' : ℕ} → o' ≡ o + length (chunk part) → new' ≡ placed new o (chunk part) → Framed body n old new' more o'
    framed-on {new'} {o'} at wrote =
        let g = goes_on (chunk part) (frame more n) split in
        subst (λ (p : ℕ). Framed body n old new' more p) (sym at) record { reach = g.0; is = wrote ∙ g.2; ahead = g.1 }

  module _ (done : length rest ≡ 0) where
    last : drop o (frame body n) ≡ end ++ []
    last = h.ahead ∙ ap (λ (z : List ℕ). frame z n) (nil_from_length rest done) ∙ frame-none n

    pub framed-all : {new' : List ℕ} → new' ≡ placed new o end → new' ≡ placed old 0 (frame body n)
    framed-all {new'} wrote =
        let g = goes_on end [] last in
        let all : o + 5 ≡ length (frame body n) = omega (arith, ap length last, length-drop o (frame body n), h.reach) in
        wrote ∙ g.2 ∙ ap (λ (k : ℕ). take k (frame body n) ++ drop k old) all
        ∙ ap (λ (z : List ℕ). z ++ drop (length (frame body n)) old) (take_all (length (frame body n)) (frame body n) (omega arith))
        ∙ sym (placed-front old (frame body n) fits)
