-- Lines of one or two digits; and that the bytes at a place have one line.
use Rattle.std.proofs.Common.{◌≡◌, ℕ, zero, suc, ◌+◌, ◌-◌, ◌*◌, ◌/◌, ◌<◌, ◌≤◌, true, false, cond, List, [], ◌∷◌, ◌++◌, length, get_or, take}
use Rattle.std.proofs.Common.{drop, sym, refl, ap, ◌∙◌, subst, ap₂, add-one, arith, length-append, length-drop, length-take-le, get_or-drop}
use Rattle.std.proofs.Common.{drop-cons, get_or-take, take_at}
use native.Mathlib.Decide.{dec_le}
use lib.Seq.{take-append_seam, get_or-append_seam}
use Rattle.octets.specs.Bytes.{hex?, hex_value}
use Rattle.octets.proofs.Bytes.{is_hex}
use Rattle.framing.specs.Grammar as G
use Rattle.framing.specs.declared.LinePos.{LinePos}
use Rattle.framing.specs.declared.LinePos.TheVariants.{First}
use Rattle.framing.specs.helpers.Machine.{next_line_pos, line_live, line_ends}
use Rattle.framing.proofs.Cases.{false-true, same_some}
use Rattle.framing.proofs.Lines.{line_run, line-sound, line_dead, line_no_cr, line-ends-live}
use Rattle.chunked.specs.helpers.Passes.{LineAt, CrlfAt, ChunkAt, HasSecond, SomeChunk, ChunksTo, no_chunk, chunk_then}

-- ## Lines of digits
pub size-some : (e : ℕ) {d n r : ℕ} → 0 < d → n ≤ 1 → (n ≡ 0 → r ≡ d) → (n ≡ 1 → r ≡ d * 16 + e) → 0 < r
size-some e {n = zero} h l one two = omega (arith, one refl)
size-some e {n = suc zero} h l one two = omega (arith, two refl)
size-some e {n = suc (suc n)} h l one two = absurd (omega arith)

module _ (xs : List ℕ) where
  pub after : (i : ℕ) → i < length xs → drop i xs ≡ get_or xs i 0 ∷ drop (i + 1) xs
  after i lt = drop-cons xs i 0 lt ∙ ap (λ (n : ℕ). get_or xs i 0 ∷ drop n xs) (sym (add-one i))

  crlf-front : (i : ℕ) → CrlfAt xs i → take 2 (drop i xs) ≡ 13 ∷ 10 ∷ []
  crlf-front i c =
      ap (take 2) (after i (omega (arith, c.inside)) ∙ ap (λ (z : List ℕ). get_or xs i 0 ∷ z) (after (i + 1) (omega (arith, c.inside))))
      ∙ ap (λ (b : ℕ). b ∷ get_or xs (i + 1) 0 ∷ []) c.cr
      ∙ ap (λ (b : ℕ). 13 ∷ b ∷ []) c.lf

  pub one_digit : {i : ℕ} → hex? (get_or xs i 0) ≡ true → CrlfAt xs (i + 1) → LineAt xs i 3 (hex_value (get_or xs i 0)) (13 ∷ 10 ∷ [])
  one_digit {i} h c =
      let b : ℕ = get_or xs i 0 in
      let e : 0 * 16 + hex_value b ≡ hex_value b = omega arith in
      record {
        inside = omega (arith, c.inside);
        text = b ∷ [];
        split = ap (take 3) (after i (omega (arith, c.inside))) ∙ ap (λ (z : List ℕ). b ∷ z) (crlf-front (i + 1) c);
        line = subst (G.Line (b ∷ [])) e (G.line (G.size (G.some h G.none)) G.none);
        short = omega arith;
      }

  pub two_digits : {i : ℕ} → hex? (get_or xs i 0) ≡ true → hex? (get_or xs (i + 1) 0) ≡ true → CrlfAt xs (i + 2)
      → LineAt xs i 4 (hex_value (get_or xs i 0) * 16 + hex_value (get_or xs (i + 1) 0)) (13 ∷ 10 ∷ [])
  two_digits {i} h k c =
      let b : ℕ = get_or xs i 0 in
      let d : ℕ = get_or xs (i + 1) 0 in
      let e : (0 * 16 + hex_value b) * 16 + hex_value d ≡ hex_value b * 16 + hex_value d = omega arith in
      let n : i + 1 + 1 ≡ i + 2 = omega arith in
      record {
        inside = omega (arith, c.inside);
        text = b ∷ d ∷ [];
        split = ap (take 4) (after i (omega (arith, c.inside)) ∙ ap (λ (z : List ℕ). b ∷ z) (after (i + 1) (omega (arith, c.inside))))
            ∙ ap (λ (m : ℕ). b ∷ d ∷ take 2 (drop m xs)) n
            ∙ ap (λ (z : List ℕ). b ∷ d ∷ z) (crlf-front (i + 2) c);
        line = subst (G.Line (b ∷ d ∷ [])) e (G.line (G.size (G.some h (G.more k G.none))) G.none);
        short = omega arith;
      }

  -- a line by the values of its digits, one or two, of which the first is known to be one
  pub line_by_digits : {i d e n r : ℕ} → hex? (get_or xs i 0) ≡ true → d ≡ hex_value (get_or xs i 0)
      → e ≡ cond (hex? (get_or xs (i + 1) 0)) (hex_value (get_or xs (i + 1) 0)) 16 → e * n ≤ 15 → n ≤ 1 → CrlfAt xs (i + (3 + n) - 2)
      → (n ≡ 0 → r ≡ d) → (n ≡ 1 → r ≡ d * 16 + e) → LineAt xs i (3 + n) r (13 ∷ 10 ∷ [])
  line_by_digits {i} {d} {e} {n = zero} h f g s l c one two =
      let p : i + (3 + 0) - 2 ≡ i + 1 = omega arith in
      subst (λ (v : ℕ). LineAt xs i 3 v (13 ∷ 10 ∷ [])) (sym (one refl ∙ f)) (one_digit h (subst (CrlfAt xs) p c))
  line_by_digits {i} {d} {e} {n = suc zero} h f g s l c one two =
      let p : i + (3 + 1) - 2 ≡ i + 2 = omega arith in
      let k : (hex? (get_or xs (i + 1) 0) ≡ true) × (e ≡ hex_value (get_or xs (i + 1) 0)) = is_hex (get_or xs (i + 1) 0) e g (omega arith) in
      subst (λ (v : ℕ). LineAt xs i 4 v (13 ∷ 10 ∷ [])) (sym (two refl ∙ ap₂ (λ (x y : ℕ). x * 16 + y) f k.1))
      (two_digits h k.0 (subst (CrlfAt xs) p c))
  line_by_digits {n = suc (suc n)} h f g s l c one two = absurd (omega arith)

  at_most : (e n : ℕ) → e / 16 + n ≡ 1 → n ≤ 1 → e * n ≤ 15
  at_most e zero s l = omega arith
  at_most e (suc zero) s l = omega arith
  at_most e (suc (suc n)) s l = absurd (omega arith)

  -- the same, by both values alone
  pub short-line : {i d e n r : ℕ} → d ≤ 15 → d ≡ cond (hex? (get_or xs i 0)) (hex_value (get_or xs i 0)) 16
      → e ≡ cond (hex? (get_or xs (i + 1) 0)) (hex_value (get_or xs (i + 1) 0)) 16 → e / 16 + n ≡ 1 → n ≤ 1 → CrlfAt xs (i + (3 + n) - 2)
      → (n ≡ 0 → r ≡ d) → (n ≡ 1 → r ≡ d * 16 + e) → LineAt xs i (3 + n) r (13 ∷ 10 ∷ [])
  short-line {i} {d} {e} {n} few f g s l c one two =
      let h : (hex? (get_or xs i 0) ≡ true) × (d ≡ hex_value (get_or xs i 0)) = is_hex (get_or xs i 0) d f few in
      line_by_digits h.0 h.1 g (at_most e n s l) l c one two

-- ## No line has a CR
dead-run : (p : LinePos) (l : List ℕ) → line_live p ≡ false → line_live (line_run p l) ≡ false
dead-run p [] h = h
dead-run p (b ∷ l) h = dead-run (next_line_pos p b) l (line_dead p b h)

no_cr-from : (p : LinePos) (l : List ℕ) → line_live (line_run p l) ≡ true → (k : ℕ) → k < length l → get_or l k 0 ≡ 13 → ⊥
no_cr-from p [] h k lt e = absurd (omega arith)
no_cr-from p (b ∷ l) h zero lt e =
    false-true (sym (dead-run (next_line_pos p b) l (ap (λ (z : ℕ). line_live (next_line_pos p z)) e ∙ line_no_cr p)) ∙ h)
no_cr-from p (b ∷ l) h (suc k) lt e = no_cr-from (next_line_pos p b) l h k (omega arith) e

no_cr : {l : List ℕ} {v : ℕ} → G.Line l v → (k : ℕ) → k < length l → get_or l k 0 ≡ 13 → ⊥
no_cr {l} {v} h = no_cr-from First l (line-ends-live (line_run First l) v (line-sound h))

-- ## The bytes of a line
module _ {xs : List ℕ} {i w v : ℕ} (l : LineAt xs i w v (13 ∷ 10 ∷ [])) where
  pub line-length : w ≡ length l.text + 2
  line-length =
      sym (length-take-le w (drop i xs) (omega (arith, length-drop i xs, l.inside)))
      ∙ ap length l.split
      ∙ length-append l.text (13 ∷ 10 ∷ [])

  line-byte : (k : ℕ) → k < w → get_or xs (i + k) 0 ≡ get_or (l.text ++ (13 ∷ 10 ∷ [])) k 0
  line-byte k lt =
      sym (get_or-take w (drop i xs) k 0 lt ∙ get_or-drop i xs k 0) ∙ ap (λ (z : List ℕ). get_or z k 0) l.split

  pub text-byte : (k : ℕ) → k < length l.text → get_or xs (i + k) 0 ≡ get_or l.text k 0
  text-byte k lt =
      line-byte k (omega (arith, line-length))
      ∙ sym (get_or-take (length l.text) (l.text ++ (13 ∷ 10 ∷ [])) k 0 lt)
      ∙ ap (λ (z : List ℕ). get_or z k 0) (take-append_seam l.text (13 ∷ 10 ∷ []))

  pub text-end : get_or xs (i + length l.text) 0 ≡ 13
  text-end = line-byte (length l.text) (omega (arith, line-length)) ∙ get_or-append_seam l.text 13 (10 ∷ []) 0

  -- a line ends before its first CR
  pub before-cr : (k : ℕ) → get_or xs (i + k) 0 ≡ 13 → length l.text ≤ k
  before-cr k e = go (dec_le (length l.text) k)
    where
      go : Dec (length l.text ≤ k) → length l.text ≤ k
      go (yes h) = h
      go (no h) = absurd (no_cr l.line k (omega arith) (sym (text-byte k (omega arith)) ∙ e))

module _ {xs : List ℕ} {i w v w' v' : ℕ} (l : LineAt xs i w v (13 ∷ 10 ∷ [])) (l' : LineAt xs i w' v' (13 ∷ 10 ∷ [])) where
  same_length : length l.text ≡ length l'.text
  same_length = omega (arith, before-cr l (length l'.text) (text-end l'), before-cr l' (length l.text) (text-end l))

  pub same_width : w ≡ w'
  same_width = omega (arith, line-length l, line-length l', same_length)

  same_text : l.text ≡ l'.text
  same_text =
      sym (take-append_seam l.text (13 ∷ 10 ∷ []))
      ∙ ap (take (length l.text)) (sym l.split ∙ ap (λ (n : ℕ). take n (drop i xs)) same_width ∙ l'.split)
      ∙ take_at l'.text (13 ∷ 10 ∷ []) (length l.text) (sym same_length)

  pub same_size : v ≡ v'
  same_size = same_some v v' (sym (line-sound l.line) ∙ ap (λ (z : List ℕ). line_ends (line_run First z)) same_text ∙ line-sound l'.line)

-- ## What the first bytes of a line must be
first_digit : {l : List ℕ} {v : ℕ} → G.Line l v → (0 < length l) × (hex? (get_or l 0 0) ≡ true)
first_digit (G.line (G.size (G.some h m)) x) = (omega arith, h)

-- behind one digit stand another, or a semicolon and a name, or nothing
second_digit : {l : List ℕ} {v : ℕ} → G.Line l v → length l ≡ 2 → hex? (get_or l 1 0) ≡ true
second_digit (G.line (G.size (G.some h (G.more k m))) x) e = k
second_digit (G.line (G.size (G.some h G.none)) G.none) e = absurd (omega arith)
second_digit (G.line (G.size (G.some h G.none)) (G.more (G.bare (G.some t n)) y)) e = absurd (omega arith)
second_digit (G.line (G.size (G.some h G.none)) (G.more (G.valued (G.some t n) z) y)) e = absurd (omega arith)

module _ {xs : List ℕ} {i w v : ℕ} (c : ChunkAt xs i w v) where
  pub start_digit : hex? (get_or xs i 0) ≡ true
  start_digit =
      let f : (0 < length c.line.text) × (hex? (get_or c.line.text 0 0) ≡ true) = first_digit c.line.line in
      let z : i ≡ i + 0 = omega arith in
      ap (λ (n : ℕ). hex? (get_or xs n 0)) z ∙ ap hex? (text-byte c.line 0 f.0) ∙ f.1

  pub enough : i + 6 ≤ length xs
  enough =
      omega (arith, c.end.inside, c.some, line-length c.line, (first_digit c.line.line).0)

  -- the chunk that stands there has that line
  pub known-line : {w' v' : ℕ} → LineAt xs i w' v' (13 ∷ 10 ∷ []) → ChunkAt xs i w' v'
  known-line {w'} {v'} l =
      subst (λ (n : ℕ). ChunkAt xs i n v') (same_width c.line l) (subst (ChunkAt xs i w) (same_size c.line l) c)

  trusted_one : CrlfAt xs (i + 1) → ChunkAt xs i 3 (hex_value (get_or xs i 0))
  trusted_one e = known-line (one_digit xs start_digit e)

  second : CrlfAt xs (i + 2) → (get_or xs (i + 1) 0 ≡ 13 → ⊥) → hex? (get_or xs (i + 1) 0) ≡ true
  second e other = ap hex? (text-byte c.line 1 (omega (arith, two))) ∙ second_digit c.line.line two
    where
      at_most : length c.line.text ≤ 2
      at_most = before-cr c.line 2 e.cr

      one : length c.line.text < 2 → i + length c.line.text ≡ i + 1
      one h = omega (arith, (first_digit c.line.line).0)

      two : length c.line.text ≡ 2
      two = go (dec_le 2 (length c.line.text))
        where
          go : Dec (2 ≤ length c.line.text) → length c.line.text ≡ 2
          go (yes h) = omega (arith, at_most)
          go (no h) = absurd (other (ap (λ (n : ℕ). get_or xs n 0) (sym (one (omega arith))) ∙ text-end c.line))

  -- by the digits' values, one or two
  pub short_trusted : {d e n r : ℕ} → HasSecond (get_or xs (i + 1) 0) n → CrlfAt xs (i + (3 + n) - 2)
      → (hex? (get_or xs i 0) ≡ true → d ≡ hex_value (get_or xs i 0)) → (hex? (get_or xs (i + 1) 0) ≡ true → e ≡ hex_value (get_or xs (i + 1) 0))
      → (n ≡ 0 → r ≡ d) → (n ≡ 1 → r ≡ d * 16 + e) → ChunkAt xs i (3 + n) r
  short_trusted {n = zero} s f a b one two =
      let p : i + (3 + 0) - 2 ≡ i + 1 = omega arith in
      subst (ChunkAt xs i 3) (sym (one refl ∙ a start_digit)) (trusted_one (subst (CrlfAt xs) p f))
  short_trusted {d = d} {e = e} {n = suc zero} s f a b one two =
      let p : i + (3 + 1) - 2 ≡ i + 2 = omega arith in
      let g : CrlfAt xs (i + 2) = subst (CrlfAt xs) p f in
      let h : hex? (get_or xs (i + 1) 0) ≡ true = second g (s.2 refl) in
      subst (ChunkAt xs i 4) (sym (two refl ∙ ap₂ (λ (x y : ℕ). x * 16 + y) (a start_digit) (b h))) (known-line (two_digits xs start_digit h g))
  short_trusted {n = suc (suc n)} s f a b one two = absurd (omega (arith, s.0))

-- ## The next of some chunks
module _ {xs : List ℕ} where
  pub some-chunk : {i j n : ℕ} → ChunksTo xs i j n → 0 < n → SomeChunk xs i
  some-chunk no_chunk h = absurd (omega arith)
  some-chunk (chunk_then {w = w} {v = v} c more) h = (w, v, c)

  pub next-chunk : {i j n : ℕ} → ChunksTo xs i j n → 0 < n → (w v : ℕ) → ChunkAt xs i w v → (m : ℕ) × (n ≡ v + m) × ChunksTo xs (i + w + v + 2) j m
  next-chunk no_chunk h w v d = absurd (omega arith)
  next-chunk {i} {j} (chunk_then {w = w'} {v = v'} {n = m} c more) h w v d =
      let e : w' ≡ w = same_width c.line d.line in
      let f : v' ≡ v = same_size c.line d.line in
      (m, ap (λ (k : ℕ). k + m) f, subst (λ (k : ℕ). ChunksTo xs k j m) (ap₂ (λ (x y : ℕ). i + x + y + 2) e f) more)
