-- Chunks that are framed are a body by the grammar, and its data is their joined bytes.
use mathlib.Core.Path.{◌≡◌, refl, sym, ◌∙◌, ap, ap₂, subst}
use mathlib.Core.Bool.{Bool, true, false, ◌&&◌, ◌||◌}
use mathlib.Core.List.{List, [], ◌∷◌, ◌++◌, append_assoc, append-nil}
use Prim.Native.Nat.{ℕ, zero, suc, ◌+◌, ◌*◌, ◌<◌, ◌≤◌}
use native.Mathlib.Omega.{arith}
use lib.Dec.{ltb}
use lib.ListN.{length, take, drop, length-drop, take-append-drop}
use borrow.Author.Tests.{le-leb, ltb-true, ltb-false}
use Rattle.octets.specs.Bytes.{within, octet?, hex?, hex_value}
use Rattle.numerals.specs.Numeral.{glyph, numeral, value_from, every}
use Rattle.numerals.proofs.Digits.{split, glyph-below, glyph-above}
use Rattle.numerals.proofs.Demands as Numerals
use Rattle.framing.specs.Grammar as G
use Rattle.framing.specs.Grammar.{Many, Some, Size, Line, Chunk, Chunks, Body, hex_value_from}
use Rattle.grammar.specs.Text.{joined}
use Rattle.chunk_writer.specs.Writing.{chunk, end, framed, chunks_in, chunks_of}

-- ## Sizes
inside : (lo hi b : ℕ) → lo ≤ b → b ≤ hi → within lo hi b ≡ true
inside lo hi b h k = ap₂ (λ (s t : Bool). s && t) (le-leb lo b h) (le-leb b hi k)

first : (s t : Bool) → s ≡ true → (s || t) ≡ true
first s t e = ap (λ (z : Bool). z || t) e

second : (s t : Bool) → t ≡ true → (s || t) ≡ true
second true t e = refl
second false t e = e

digit_hex : (b : ℕ) → 48 ≤ b → b ≤ 57 → hex? b ≡ true
unfolding hex?
digit_hex b h k = first (within 48 57 b) (within 65 70 b || within 97 102 b) (inside 48 57 b h k)

capital_hex : (b : ℕ) → 65 ≤ b → b ≤ 70 → hex? b ≡ true
unfolding hex?
capital_hex b h k = second (within 48 57 b) (within 65 70 b || within 97 102 b)
    (first (within 65 70 b) (within 97 102 b) (inside 65 70 b h k))

glyph_hex : (d : ℕ) → d < 16 → hex? (glyph d) ≡ true
glyph_hex d h = split (ltb d 10)
    (λ e. digit_hex (glyph d) (omega (arith, glyph-below d (ltb-true d 10 e)))
    (omega (arith, glyph-below d (ltb-true d 10 e), ltb-true d 10 e)))
    (λ e. capital_hex (glyph d) (omega (arith, glyph-above d (ltb-false d 10 e), ltb-false d 10 e))
    (omega (arith, glyph-above d (ltb-false d 10 e))))

many : (p : ℕ → Bool) (xs : List ℕ) → every p xs ≡ true → Many p xs
many p [] h = G.none
many p (x ∷ xs) h = G.more (left (p x) (every p xs) h) (many p xs (right (p x) (every p xs) h))
  where
    left : (s t : Bool) → (s && t) ≡ true → s ≡ true
    left true t e = refl
    left false t e = e

    right : (s t : Bool) → (s && t) ≡ true → t ≡ true
    right true t e = e
    right false t e = let z : ◌≡◌ {A = ℕ} 0 1 = cc in absurd (omega arith)

pub size_many : (n : ℕ) → Many hex? (numeral 16 n)
size_many n = many hex? (numeral 16 n) (Numerals.digits_only hex? 16 n (omega arith) glyph_hex)

some : {p : ℕ → Bool} (xs : List ℕ) → 0 < length xs → Many p xs → Some p xs
some [] h m = absurd (omega arith)
some (x ∷ xs) h (G.more e m) = G.some e m

value-alike : (v : ℕ) (xs : List ℕ) → hex_value_from v xs ≡ value_from 16 v xs
value-alike v [] = refl
value-alike v (x ∷ xs) = value-alike (v * 16 + hex_value x) xs

pub size-value : (n : ℕ) → hex_value_from 0 (numeral 16 n) ≡ n
size-value n = value-alike 0 (numeral 16 n) ∙ Numerals.value 16 n (omega arith) (omega arith)

-- a size without leading zeros is one of the grammar's
pub size_is : (n : ℕ) → Size (numeral 16 n) n
size_is n = subst (Size (numeral 16 n)) (size-value n)
    (G.size (some (numeral 16 n) (Numerals.some_digit 16 n (omega arith)) (size_many n)))

line-is : (xs : List ℕ) (v : ℕ) → Size xs v → Line xs v
line-is xs v s = subst (λ (z : List ℕ). Line z v) (append-nil xs) (G.line s G.none)

pub chunk-is : (xs : List ℕ) → 0 < length xs → Many octet? xs → Chunk (chunk xs) xs
unfolding chunk
chunk-is xs h m = G.chunk (line-is (numeral 16 (length xs)) (length xs) (size_is (length xs))) h m

-- ## Frames
-- pieces of one byte or more
pub data Pieces : List (List ℕ) → Type 0 where
  none : Pieces []
  more : {xs : List ℕ} {pieces : List (List ℕ)} → 0 < length xs → Many octet? xs → Pieces pieces → Pieces (xs ∷ pieces)

end_line : Line (48 ∷ []) 0
unfolding hex?
end_line = line-is (48 ∷ []) 0 (G.size (G.some refl G.none))

chunks-then : {c d : List ℕ} (pieces : List (List ℕ)) → Chunks c d → Pieces pieces → Body (c ++ framed pieces) (d ++ joined pieces)
unfolding framed joined
chunks-then {c} {d} [] cs none = subst (Body (c ++ end)) (sym (append-nil d)) (G.body cs end_line G.none)
chunks-then {c} {d} (xs ∷ pieces) cs (more h m ps) =
    subst (λ (z : List ℕ). Body z (d ++ (xs ++ joined pieces))) (append_assoc c (chunk xs) (framed pieces))
    (subst (Body ((c ++ chunk xs) ++ framed pieces)) (append_assoc d xs (joined pieces))
    (chunks-then {c = c ++ chunk xs} {d = d ++ xs} pieces (G.more cs (chunk-is xs h m)) ps))

pub framed-body : (pieces : List (List ℕ)) → Pieces pieces → Body (framed pieces) (joined pieces)
framed-body pieces ps = chunks-then pieces G.none ps

-- ## Cuts
many_take : {p : ℕ → Bool} (n : ℕ) {xs : List ℕ} → Many p xs → Many p (take n xs)
many_take zero m = G.none
many_take (suc n) G.none = G.none
many_take (suc n) (G.more e m) = G.more e (many_take n m)

many_drop : {p : ℕ → Bool} (n : ℕ) {xs : List ℕ} → Many p xs → Many p (drop n xs)
many_drop zero m = m
many_drop (suc n) G.none = G.none
many_drop (suc n) (G.more e m) = many_drop n m

take-some : (n b : ℕ) (xs : List ℕ) → 0 < n → 0 < length (take n (b ∷ xs))
take-some zero b xs h = absurd (omega arith)
take-some (suc n) b xs h = omega arith

cut_pieces : (f n : ℕ) (xs : List ℕ) → 0 < n → Many octet? xs → Pieces (chunks_in f n xs)
unfolding chunks_in
cut_pieces zero n xs p m = none
cut_pieces (suc f) n [] p m = none
cut_pieces (suc f) n (b ∷ xs) p m = more (take-some n b xs p) (many_take n m) (cut_pieces f n (drop n (b ∷ xs)) p (many_drop n m))

cut-joined : (f n : ℕ) (xs : List ℕ) → 0 < n → length xs ≤ f → joined (chunks_in f n xs) ≡ xs
unfolding chunks_in joined
cut-joined zero n [] p h = refl
cut-joined zero n (b ∷ xs) p h = absurd (omega arith)
cut-joined (suc f) n [] p h = refl
cut-joined (suc f) n (b ∷ xs) p h =
    ap (λ (z : List ℕ). take n (b ∷ xs) ++ z) (cut-joined f n (drop n (b ∷ xs)) p (omega (arith, length-drop n (b ∷ xs))))
    ∙ take-append-drop n (b ∷ xs)

pub pieces_of : (n : ℕ) (xs : List ℕ) → 0 < n → Many octet? xs → Pieces (chunks_of n xs)
unfolding chunks_of
pieces_of n xs p m = cut_pieces (length xs) n xs p m

pub joined-cut : (n : ℕ) (xs : List ℕ) → 0 < n → joined (chunks_of n xs) ≡ xs
unfolding chunks_of
joined-cut n xs p = cut-joined (length xs) n xs p (omega arith)
