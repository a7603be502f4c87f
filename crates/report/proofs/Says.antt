-- What is said of an answer and of a line, and that it is short.
use mathlib.Core.Path.{◌≡◌, refl, sym, ◌∙◌, ap, ap₂, subst}
use mathlib.Core.List.{List, [], ◌∷◌, ◌++◌, append_assoc}
use mathlib.Core.Option.{Option, none, some}
use Prim.Native.Nat.{ℕ, zero, suc, ◌+◌, ◌*◌, ◌/◌, ◌^◌, ◌<◌, ◌≤◌}
use native.Mathlib.Nat.{div-lt_iff_lt-mul, pow-suc}
use native.Mathlib.Omega.{arith}
use lib.Dec.{eqb, ltb}
use lib.ListN.{length, take, drop, length-append}
use lib.Seq.{length-take-le, take_all, take_at}
use borrow.Author.Tests.{ltb-true, ltb-false, eqb-true, eqb-false}
use Rattle.numerals.specs.Numeral.{numeral, width}
use Rattle.numerals.proofs.Digits.{split, width_small, width_large, width_bound, numeral-length}
use Rattle.text.specs.Placing.{placed, behind}
use Rattle.text.proofs.Placing.{Put, put-none, put_then, behind-fits}
use Rattle.framing.specs.declared.Whole.{Whole}
use Rattle.framing.specs.Answer.{Answer, whole, more, refused}
use Rattle.framing.specs.Grammar as G
use Rattle.framing.specs.Grammar.{Chunk, Chunks, Body, limits, chunked}
use Rattle.framing.specs.Demand.{Among, Malformed, Over}
use Rattle.framing.specs.Reading.{decode}
use Rattle.framing.proofs.Demands as Framing
use Rattle.framing.proofs.Ranks.{among_each}
use Rattle.lines.specs.Grammar.{DIGIT_LIMIT}
use Rattle.lines.specs.Reading.{spelled, hex_answer, hex_output}
use Rattle.std.specs.Prelude as P
use Rattle.std.specs.Prelude.{Some, None}
use Rattle.lines.proofs.Demands as Lines
use Rattle.lines.proofs.Hexes as Hexes
use Rattle.chunked.specs.declared.Answer.{Answer as Coded}
use Rattle.chunked.specs.Verdict.{verdict}
use Rattle.grammar.specs.Text.{bytes}
use Rattle.report.specs.Saying.{ROOM, numbers, said_answer, said_bytes, said}
use Rattle.report.specs.Calls.{LINE_LENGTH}

-- ## Text
pub numbers-length : (begin : List ℕ) (a b : ℕ)
    → length (numbers begin a b) ≡ length begin + length (numeral 10 a) + length (numeral 10 b) + 2
numbers-length begin a b = omega (
  arith,
  length-append begin (numeral 10 a ++ (32 ∷ (numeral 10 b ++ (10 ∷ [])))),
  length-append (numeral 10 a) (32 ∷ (numeral 10 b ++ (10 ∷ []))),
  length-append (numeral 10 b) (10 ∷ []),
)

-- a u64 has so few digits that their count can be added to a length
pub number_fits : (n : ℕ) → n < 2 ^ 64 → length (numeral 10 n) ≤ 64
number_fits n h = omega (arith, numeral-length 10 n, width_bound 63 10 n (omega arith) h)

pub two-put : (old : List ℕ) (at : ℕ) (begin : List ℕ) (a b : ℕ) (l₁ l₂ l₃ l₄ l₅ : List ℕ) (i j k l r : ℕ)
    → at + length (numbers begin a b) ≤ length old
    → (i ≡ behind old at begin) × (l₁ ≡ placed old at begin)
    → (j ≡ behind l₁ i (numeral 10 a)) × (l₂ ≡ placed l₁ i (numeral 10 a))
    → (k ≡ behind l₂ j (32 ∷ [])) × (l₃ ≡ placed l₂ j (32 ∷ []))
    → (l ≡ behind l₃ k (numeral 10 b)) × (l₄ ≡ placed l₃ k (numeral 10 b))
    → (r ≡ behind l₄ l (10 ∷ [])) × (l₅ ≡ placed l₄ l (10 ∷ []))
    → (r ≡ behind old at (numbers begin a b)) × (l₅ ≡ placed old at (numbers begin a b))
two-put old at begin a b l₁ l₂ l₃ l₄ l₅ i j k l r h e₁ e₂ e₃ e₄ e₅ = (
  p₅.ends ∙ ap (λ (z : List ℕ). at + length z) whole-text ∙ sym (behind-fits old at (numbers begin a b) h),
  p₅.is ∙ ap (placed old at) whole-text,
)
  where
    x : List ℕ
    x = numeral 10 a

    y : List ℕ
    y = numeral 10 b

    whole-text : (((begin ++ x) ++ (32 ∷ [])) ++ y) ++ (10 ∷ []) ≡ begin ++ (x ++ (32 ∷ (y ++ (10 ∷ []))))
    whole-text = append_assoc ((begin ++ x) ++ (32 ∷ [])) y (10 ∷ []) ∙ append_assoc (begin ++ x) (32 ∷ []) (y ++ (10 ∷ []))
        ∙ append_assoc begin x (32 ∷ (y ++ (10 ∷ [])))

    all : at + (length begin + length (numeral 10 a) + 1 + length (numeral 10 b) + 1) ≤ length old
    all = omega (arith, numbers-length begin a b)

    n₁ : length (begin ++ x) ≡ length begin + length (numeral 10 a)
    n₁ = length-append begin x

    n₂ : length ((begin ++ x) ++ (32 ∷ [])) ≡ length begin + length (numeral 10 a) + 1
    n₂ = omega (arith, length-append (begin ++ x) (32 ∷ []), n₁)

    n₃ : length (((begin ++ x) ++ (32 ∷ [])) ++ y) ≡ length begin + length (numeral 10 a) + 1 + length (numeral 10 b)
    n₃ = omega (arith, length-append ((begin ++ x) ++ (32 ∷ [])) y, n₂)

    p₁ : Put old at begin l₁ i
    p₁ = put_then old at [] old at begin l₁ i (put-none old at (omega (arith, all))) (omega (arith, all)) e₁.0 e₁.1

    p₂ : Put old at (begin ++ x) l₂ j
    p₂ = put_then old at begin l₁ i x l₂ j p₁ (omega (arith, all)) e₂.0 e₂.1

    p₃ : Put old at ((begin ++ x) ++ (32 ∷ [])) l₃ k
    p₃ = put_then old at (begin ++ x) l₂ j (32 ∷ []) l₃ k p₂ (omega (arith, all, n₁)) e₃.0 e₃.1

    p₄ : Put old at (((begin ++ x) ++ (32 ∷ [])) ++ y) l₄ l
    p₄ = put_then old at ((begin ++ x) ++ (32 ∷ [])) l₃ k y l₄ l p₃ (omega (arith, all, n₂)) e₄.0 e₄.1

    p₅ : Put old at ((((begin ++ x) ++ (32 ∷ [])) ++ y) ++ (10 ∷ [])) l₅ r
    p₅ = put_then old at (((begin ++ x) ++ (32 ∷ [])) ++ y) l₄ l (10 ∷ []) l₅ r p₄ (omega (arith, all, n₃)) e₅.0 e₅.1

-- one part alone
pub one-put : (old : List ℕ) (at : ℕ) (xs new : List ℕ) (r : ℕ) → at + length xs ≤ length old
    → r ≡ behind old at xs → new ≡ placed old at xs → (r ≡ at + length xs) × (new ≡ placed old at xs)
one-put old at xs new r h e w = ((put_then old at [] old at xs new r (put-none old at (omega arith)) (omega arith) e w).ends, w)

-- ## Short text
-- a number of at most j digits
decimal_short : (j n : ℕ) → n < 10 ^ suc j → width 10 n ≤ suc j
decimal_short zero n h = omega (arith, width_small 10 n (omega arith))
decimal_short (suc j) n h = split (ltb n 10)
    (λ e. omega (arith, width_small 10 n (ltb-true n 10 e)))
    (λ e. let lt : n < 10 ^ suc j * 10 = omega (arith, pow-suc 10 (suc j)) in
    let less : n / 10 < 10 ^ suc j = (div-lt_iff_lt-mul {k = 10} {x = n} {y = 10 ^ suc j} (omega arith)).1 lt in
    omega (arith, width_large 10 n (omega arith) (ltb-false n 10 e), decimal_short j (n / 10) less))

number_short : (n : ℕ) → n ≤ 16384 → length (numeral 10 n) ≤ 5
number_short n h = omega (arith, numeral-length 10 n, decimal_short 4 n (omega arith))

two-short : (begin : List ℕ) (a b : ℕ) → length begin ≡ 2 → a ≤ 16384 → b ≤ 16384 → length (numbers begin a b) ≤ 16
two-short begin a b e h k = omega (arith, number_short a h, number_short b k, numbers-length begin a b)

-- data is no longer than the body that carries it
chunk_data : {e x : List ℕ} → Chunk e x → length x ≤ length e
chunk_data (G.chunk {l = l} {x = x} h z m) =
    omega (arith, length-append l (13 ∷ 10 ∷ (x ++ (13 ∷ 10 ∷ []))), length-append x (13 ∷ 10 ∷ []))

chunks_data : {c d : List ℕ} → Chunks c d → length d ≤ length c
chunks_data G.none = omega arith
chunks_data (G.more {c = c} {d = d} {e = e} {x = x} cs k) =
    omega (arith, chunks_data cs, chunk_data k, length-append c e, length-append d x)

body_data : {f d : List ℕ} → Body f d → length d ≤ length f
body_data (G.body {c = c} {l = l} {t = t} cs h m) = omega (arith, chunks_data cs, length-append c (l ++ (13 ∷ 10 ∷ (t ++ (13 ∷ 10 ∷ [])))))

limit_number : (n : ℕ) → Among limits n → n < 100
limit_number n a = among_each (λ m. m < 100) limits n (omega arith) a

answer-short : (r : ℕ) (s : List ℕ) (a : Answer Whole) → length s ≤ 16384 → decode r s ≡ a → length (said_answer a) ≤ 16
unfolding said_answer
answer-short r s (whole w) h e =
    let b = ((Framing.whole r s w).0 e).1 in
    two-short (bytes "C ") w.taken w.length refl (omega (arith, b.inside, Framing.taken r s b))
    (omega (arith, b.inside, b.tells.joined, body_data b.body, length-take-le b.count s b.inside))
answer-short r s more h e = omega arith
answer-short r s (refused n p) h e = split (eqb n 1)
    (λ t. let f : decode r s ≡ refused 1 p = subst (λ (m : ℕ). decode r s ≡ refused m p) (eqb-true n 1 t) e in
    let w : Malformed (chunked limits) r s p = (Framing.malformed r s p).0 f in
    two-short (bytes "R ") n p refl (omega (arith, eqb-true n 1 t)) (omega (arith, w.reaches.inside)))
    (λ t. let w : Over (chunked limits) r s n p = (Framing.limit r s n p (eqb-false n 1 t)).0 e in
    two-short (bytes "R ") n p refl (omega (arith, limit_number n w.limit)) (omega (arith, w.reaches.inside)))

bytes-short : (l : List ℕ) (o : Option (List ℕ)) → spelled l ROOM ≡ o → length (said_bytes o) ≤ 16
unfolding said_bytes
bytes-short l none e = omega arith
bytes-short l (some ys) e = answer-short ROOM ys (decode ROOM ys) ((Lines.good l ys ROOM).0 e).2 refl

pub said-short : (l : List ℕ) → length (said l) ≤ 16
unfolding said
said-short l = bytes-short l (spelled l ROOM) refl

-- ## A long line is as its first bytes
pub said_clip : (l : List ℕ) → said (take LINE_LENGTH l) ≡ said l
unfolding said
said_clip l = split (ltb DIGIT_LIMIT (length l))
    (λ e. let h : DIGIT_LIMIT < length l = ltb-true DIGIT_LIMIT (length l) e in
    ap said_bytes (Hexes.too_many (take LINE_LENGTH l) ROOM (omega (arith, length-take-le LINE_LENGTH l (omega arith)))
    ∙ sym (Hexes.too_many l ROOM h)))
    (λ e. ap (λ (z : List ℕ). said_bytes (spelled z ROOM)) (take_all LINE_LENGTH l (omega (arith, ltb-false DIGIT_LIMIT (length l) e))))

-- ## What is said of a line
pub said_bad : (l : List ℕ) (r : P.Option ℕ) → r ≡ hex_answer (spelled l ROOM) → r ≡ None → said l ≡ bytes "X\n"
unfolding said said_bytes
said_bad l r e b = by (spelled l ROOM) (sym b ∙ e)
  where
    by : (o : Option (List ℕ)) → None ≡ hex_answer o → said_bytes o ≡ bytes "X\n"
    by none k = refl
    by (some ys) k = let z : ◌≡◌ {A = ℕ} 0 1 = cc in absurd (omega arith)

-- the bytes of a good line stand at the front of the frame
pub said-good : (l : List ℕ) (r : P.Option ℕ) (n : ℕ) (old new : List ℕ) → length old ≡ ROOM
    → r ≡ hex_answer (spelled l (length old)) → r ≡ Some n
    → new ≡ hex_output (spelled l (length old)) old
    → (n ≤ length new) × (said l ≡ said_answer (decode ROOM (take n new)))
unfolding said said_bytes
said-good l r n old new len e b w =
    by (spelled l ROOM) refl (sym b ∙ e ∙ ap (λ (k : ℕ). hex_answer (spelled l k)) len)
    (w ∙ ap (λ (k : ℕ). hex_output (spelled l k) old) len)
  where
    by : (o : Option (List ℕ)) → spelled l ROOM ≡ o → Some n ≡ hex_answer o → new ≡ hex_output o old
        → (n ≤ length new) × (said_bytes o ≡ said_answer (decode ROOM (take n new)))
    by none s k f = let z : ◌≡◌ {A = ℕ} 0 1 = cc in absurd (omega arith)
    by (some ys) s k f =
        let c : n ≡ length ys = cc in (
          omega (arith, ap length f, length-append ys (drop (length ys) old)),
          ap (λ (z : List ℕ). said_answer (decode ROOM z)) (sym (ap₂ take c f ∙ take_at ys (drop (length ys) old) (length ys) refl)),
        )

-- ## What each answer has to show
pub shows : (a : Coded) (v : Answer Whole) → verdict a ≡ v → (old : List ℕ) (at : ℕ) (xs new : List ℕ) (r : ℕ) → said_answer v ≡ xs
    → (r ≡ behind old at xs) × (new ≡ placed old at xs)
    → (r ≡ behind old at (said_answer (verdict a))) × (new ≡ placed old at (said_answer (verdict a)))
shows a v e old at xs new r s w =
    let z : xs ≡ said_answer (verdict a) = sym (ap said_answer e ∙ s) in
    (w.0 ∙ ap (behind old at) z, w.1 ∙ ap (placed old at) z)

pub said-whole : (w : Whole) → said_answer (whole w) ≡ numbers (bytes "C ") w.taken w.length
unfolding said_answer
said-whole w = refl

pub said_more : said_answer more ≡ bytes "M\n"
unfolding said_answer
said_more = refl

pub said-refused : (n p : ℕ) → said_answer (refused n p) ≡ numbers (bytes "R ") n p
unfolding said_answer
said-refused n p = refl

pub said-decoded : (l : List ℕ) (r : P.Option ℕ) (n : ℕ) (old new : List ℕ) (h : length old ≡ ROOM)
    (e : r ≡ hex_answer (spelled l (length old))) (b : r ≡ Some n)
    (w : new ≡ hex_output (spelled l (length old)) old) (room : ℕ) (v : Answer Whole)
    → room ≡ ROOM → v ≡ decode room (take n new) → said_answer v ≡ said l
said-decoded l r n old new h e b w room v k d =
    ap said_answer (d ∙ ap (λ (m : ℕ). decode m (take n new)) k) ∙ sym (said-good l r n old new h e b w).1

-- a text that is equal to the line's shows the line's
pub shows-line : (l xs old new : List ℕ) (at r : ℕ) → xs ≡ said l → (r ≡ at + length xs) × (new ≡ placed old at xs)
    → (r ≡ at + length (said l)) × (new ≡ placed old at (said l))
shows-line l xs old new at r e w = (w.0 ∙ ap (λ (y : List ℕ). at + length y) e, w.1 ∙ ap (placed old at) e)
