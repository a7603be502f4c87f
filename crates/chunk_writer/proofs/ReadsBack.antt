-- The reader's machine goes over a frame without a verdict, up to the last byte.
use mathlib.Core.Path.{◌≡◌, refl, ◌∙◌, ap, ap₂, subst}
use mathlib.Core.Bool.{true, false}
use mathlib.Core.List.{List, [], ◌∷◌, ◌++◌, append_assoc}
use mathlib.Core.Option.{Option, none}
use Prim.Native.Nat.{ℕ, zero, suc, ◌+◌, ◌-◌, ◌*◌, ◌^◌, ◌<◌, ◌≤◌}
use native.Mathlib.Omega.{arith}
use lib.Dec.{eqb}
use lib.ListN.{length, length-append}
use borrow.Author.Tests.{ne_eqb}
use Rattle.octets.specs.Bytes.{octet?, hex?, hex_value}
use Rattle.numerals.specs.Numeral.{numeral}
use Rattle.numerals.proofs.Demands as Numerals
use Rattle.framing.specs.declared.LinePos.TheVariants.{First, Size}
use Rattle.framing.specs.declared.State.{State}
use Rattle.framing.specs.declared.State.TheVariants.{Line, LineFeed, Data, DataCr, DataLf, Trail, EndLf, Done}
use Rattle.framing.specs.Answer.{whole}
use Rattle.framing.specs.Grammar as G
use Rattle.framing.specs.Grammar.{Many, hex_value_from}
use Rattle.framing.specs.helpers.Scan.{Verdict, ended, stop, note, scan, answer}
use Rattle.framing.specs.helpers.Machine.{End, next_line_pos, line_ends, leave_line, trailer, step, tell}
use Rattle.framing.specs.Reading.{judge, decode}
use Rattle.framing.proofs.Turns as Turns
use Rattle.grammar.specs.Text.{joined}
use Rattle.chunk_writer.specs.Writing.{chunk, end, framed}
use Rattle.chunk_writer.proofs.Cuts.{hex_short}
use Rattle.chunk_writer.proofs.Bodies as Bodies
use Rattle.chunk_writer.proofs.Bodies.{Pieces, size_many, size-value}

-- ## Steps
hex_no_cr : (b : ℕ) → hex? b ≡ true → eqb b 13 ≡ false
hex_no_cr b h = ne_eqb b 13 (Turns.digit_no_cr b h)

step-first : (b t : ℕ) → hex? b ≡ true → step (Line First 0 t) b ≡ Line (Size (0 * 16 + hex_value b)) 1 t
unfolding step next_line_pos
step-first b t h = rw (hex_no_cr b h, h) refl

step-size : (v k t b : ℕ) → hex? b ≡ true → step (Line (Size v) k t) b ≡ Line (Size (v * 16 + hex_value b)) (suc k) t
unfolding step next_line_pos
step-size v k t b h = rw (hex_no_cr b h, h) refl

step-line-cr : (v k t : ℕ) → step (Line (Size v) k t) 13 ≡ LineFeed v t
unfolding step line_ends leave_line
step-line-cr v k t = refl

step_data : (m t b : ℕ) → octet? b ≡ true → step (Data (suc m) t) b ≡ Data m t
unfolding step
step_data m t b h = rw h refl

step-last : (t b : ℕ) → octet? b ≡ true → step (Data 0 t) b ≡ DataCr t
unfolding step
step-last t b h = rw h refl

-- ## Over some bytes
module _ (r : ℕ) where
  -- the machine goes from s to s', and no byte on the way gets a verdict
  abbrev Skips : State → List ℕ → State → Type 0
  Skips s xs s' = (i : ℕ) (ys : List ℕ) → scan step (judge r) s i (xs ++ ys) ≡ scan step (judge r) s' (i + length xs) ys

  stay : (s : State) → Skips s [] s
  stay s i ys =
      let e : i ≡ i + 0 = omega arith in
      ap (λ (j : ℕ). scan step (judge r) s j ys) e

  then : (s s' s'' : State) (xs ys : List ℕ) → Skips s xs s' → Skips s' ys s'' → Skips s (xs ++ ys) s''
  then s s' s'' xs ys f g i zs =
      let e : i + length xs + length ys ≡ i + length (xs ++ ys) = omega (arith, length-append xs ys) in
      ap (scan step (judge r) s i) (append_assoc xs ys zs) ∙ f i (ys ++ zs) ∙ g (i + length xs) zs
      ∙ ap (λ (j : ℕ). scan step (judge r) s'' j zs) e

  byte : (s s' s'' : State) (b : ℕ) (xs : List ℕ) → step s b ≡ s' → judge r s' ≡ none → Skips s' xs s'' → Skips s (b ∷ xs) s''
  byte s s' s'' b xs e q f i ys =
      let n : suc i + length xs ≡ i + suc (length xs) = omega arith in
      ap (λ (z : State). note i (judge r z) (scan step (judge r) z (suc i) (xs ++ ys))) e
      ∙ ap (λ (v : Option (Verdict End)). note i v (scan step (judge r) s' (suc i) (xs ++ ys))) q
      ∙ f (suc i) ys
      ∙ ap (λ (j : ℕ). scan step (judge r) s'' j ys) n

  grows : (v : ℕ) (ds : List ℕ) → v ≤ hex_value_from v ds
  grows v [] = omega arith
  grows v (d ∷ ds) = omega (arith, grows (v * 16 + hex_value d) ds)

  skip_digits : (ds : List ℕ) (v k t : ℕ) → Many hex? ds → k + length ds ≤ 1024 → t + hex_value_from v ds ≤ r
      → Skips (Line (Size v) k t) ds (Line (Size (hex_value_from v ds)) (k + length ds) t)
  skip_digits [] v k t m h l =
      let e : k ≡ k + 0 = omega arith in
      subst (λ (n : ℕ). Skips (Line (Size v) k t) [] (Line (Size v) n t)) e (stay (Line (Size v) k t))
  skip_digits (d ∷ ds) v k t (G.more e m) h l =
      let n : suc k + length ds ≡ k + suc (length ds) = omega arith in
      subst (λ (j : ℕ). Skips (Line (Size v) k t) (d ∷ ds) (Line (Size (hex_value_from v (d ∷ ds))) j t)) n
      (byte (Line (Size v) k t) (Line (Size (v * 16 + hex_value d)) (suc k) t)
      (Line (Size (hex_value_from v (d ∷ ds))) (suc k + length ds) t) d ds
      (step-size v k t d e) (Turns.size-quiet r (v * 16 + hex_value d) (suc k) t (λ z. omega arith) (omega (arith, grows (v * 16 + hex_value d) ds)))
      (skip_digits ds (v * 16 + hex_value d) (suc k) t m (omega arith) l))

  skip_size : (ds : List ℕ) (t : ℕ) → 0 < length ds → Many hex? ds → length ds ≤ 1024 → t + hex_value_from 0 ds ≤ r
      → Skips (Line First 0 t) ds (Line (Size (hex_value_from 0 ds)) (length ds) t)
  skip_size [] t z m h l = absurd (omega arith)
  skip_size (d ∷ ds) t z (G.more e m) h l =
      let n : 1 + length ds ≡ suc (length ds) = omega arith in
      subst (λ (j : ℕ). Skips (Line First 0 t) (d ∷ ds) (Line (Size (hex_value_from 0 (d ∷ ds))) j t)) n
      (byte (Line First 0 t) (Line (Size (0 * 16 + hex_value d)) 1 t) (Line (Size (hex_value_from 0 (d ∷ ds))) (1 + length ds) t) d ds
      (step-first d t e) (Turns.size-quiet r (0 * 16 + hex_value d) 1 t (λ z. omega arith) (omega (arith, grows (0 * 16 + hex_value d) ds)))
      (skip_digits ds (0 * 16 + hex_value d) 1 t m (omega arith) l))

  skip_data : (xs : List ℕ) (m t : ℕ) → Many octet? xs → length xs ≡ suc m → Skips (Data m t) xs (DataCr t)
  skip_data [] m t G.none h = absurd (omega arith)
  skip_data (b ∷ []) zero t (G.more e G.none) h = byte (Data 0 t) (DataCr t) (DataCr t) b [] (step-last t b e) (Turns.quiet_data_cr r t)
      (stay (DataCr t))
  skip_data (b ∷ []) (suc m) t (G.more e G.none) h = absurd (omega arith)
  skip_data (b ∷ c ∷ xs) zero t (G.more e (G.more e' ms)) h = absurd (omega arith)
  skip_data (b ∷ c ∷ xs) (suc m) t (G.more e (G.more e' ms)) h =
      byte (Data (suc m) t) (Data m t) (DataCr t) b (c ∷ xs) (step_data m t b e) (Turns.quiet_data r m t)
      (skip_data (c ∷ xs) m t (G.more e' ms) (omega arith))

  skip_chunk : (xs : List ℕ) (t : ℕ) → 0 < length xs → length xs < 2 ^ 64 → Many octet? xs → t + length xs ≤ r
      → Skips (Line First 0 t) (chunk xs) (Line First 0 (t + length xs))
  unfolding chunk
  skip_chunk xs t z small m l =
      let v : hex_value_from 0 (numeral 16 (length xs)) ≡ length xs = size-value (length xs) in
      then (Line First 0 t) (Line (Size (hex_value_from 0 (numeral 16 (length xs)))) (length (numeral 16 (length xs))) t)
      (Line First 0 (t + length xs))
      (numeral 16 (length xs)) (13 ∷ 10 ∷ (xs ++ (13 ∷ 10 ∷ [])))
      (skip_size (numeral 16 (length xs)) t (Numerals.some_digit 16 (length xs) (omega arith)) (size_many (length xs))
      (omega (arith, hex_short (length xs) small)) (omega arith))
      (byte (Line (Size (hex_value_from 0 (numeral 16 (length xs)))) (length (numeral 16 (length xs))) t) (LineFeed (length xs) t)
      (Line First 0 (t + length xs))
      13 (10 ∷ (xs ++ (13 ∷ 10 ∷ [])))
      (step-line-cr (hex_value_from 0 (numeral 16 (length xs))) (length (numeral 16 (length xs))) t ∙ ap (λ (w : ℕ). LineFeed w t) v)
      (Turns.quiet_feed r (length xs) t)
      (byte (LineFeed (length xs) t) (Data (length xs - 1) (t + length xs)) (Line First 0 (t + length xs)) 10 (xs ++ (13 ∷ 10 ∷ []))
      (Turns.feed_lf 10 (length xs) t refl ∙ Turns.enter_data (length xs) t z) (Turns.quiet_data r (length xs - 1) (t + length xs))
      (then (Data (length xs - 1) (t + length xs)) (DataCr (t + length xs)) (Line First 0 (t + length xs)) xs (13 ∷ 10 ∷ [])
      (skip_data xs (length xs - 1) (t + length xs) m (omega arith))
      (byte (DataCr (t + length xs)) (DataLf (t + length xs)) (Line First 0 (t + length xs)) 13 (10 ∷ []) (Turns.data_cr 13 (t + length xs) refl)
      (Turns.quiet_data_lf r (t + length xs))
      (byte (DataLf (t + length xs)) (Line First 0 (t + length xs)) (Line First 0 (t + length xs)) 10 [] (Turns.data_lf 10 (t + length xs) refl)
      (Turns.quiet-first r (t + length xs))
      (stay (Line First 0 (t + length xs))))))))

  zero_hex : hex? 48 ≡ true
  unfolding hex?
  zero_hex = refl

  skip_end : (t : ℕ) → t ≤ r → Skips (Line First 0 t) (48 ∷ 13 ∷ 10 ∷ 13 ∷ []) (EndLf t 0)
  skip_end t l =
      byte (Line First 0 t) (Line (Size 0) 1 t) (EndLf t 0) 48 (13 ∷ 10 ∷ 13 ∷ []) (step-first 48 t zero_hex)
      (Turns.size-quiet r 0 1 t (λ z. omega arith) (omega arith))
      (byte (Line (Size 0) 1 t) (LineFeed 0 t) (EndLf t 0) 13 (10 ∷ 13 ∷ []) (step-line-cr 0 1 t) (Turns.quiet_feed r 0 t)
      (byte (LineFeed 0 t) (Trail trailer.begin 0 t) (EndLf t 0) 10 (13 ∷ []) (Turns.feed_lf 10 0 t refl ∙ Turns.enter_last 0 t refl) (Turns.quiet-trailer r t)
      (byte (Trail trailer.begin 0 t) (EndLf t 0) (EndLf t 0) 13 [] (Turns.trail_close 13 trailer.begin 0 t refl) (Turns.quiet-end r t 0) (stay (EndLf t 0)))))

  scan-end : (t i : ℕ) → t ≤ r → scan step (judge r) (Line First 0 t) i end ≡ stop (i + 4) (ended (record { length = t; trailer = 0 }))
  scan-end t i l =
      skip_end t l i (10 ∷ [])
      ∙ ap (λ (z : State). note (i + 4) (judge r z) (scan step (judge r) z (suc (i + 4)) [])) (Turns.end-lf 10 t 0 refl)
      ∙ ap (λ (v : Option (Verdict End)). note (i + 4) v (scan step (judge r) (Done t 0) (suc (i + 4)) [])) (Turns.ended-done r t 0)

  scan-framed : (pieces : List (List ℕ)) (t i j : ℕ) → Pieces pieces → length (joined pieces) < 2 ^ 64 → t + length (joined pieces) ≤ r
      → i + length (framed pieces) ≡ suc j
      → scan step (judge r) (Line First 0 t) i (framed pieces) ≡ stop j (ended (record { length = t + length (joined pieces); trailer = 0 }))
  unfolding framed joined
  scan-framed [] t i j Bodies.none small l e =
      let n : i + 4 ≡ j = omega arith in
      let m : t ≡ t + 0 = omega arith in
      scan-end t i (omega arith) ∙ ap₂ (λ (k u : ℕ). stop k (ended (record { length = u; trailer = 0 }))) n m
  scan-framed (xs ∷ pieces) t i j (Bodies.more z m ps) small l e =
      let n : length (xs ++ joined pieces) ≡ length xs + length (joined pieces) = length-append xs (joined pieces) in
      let u : t + length xs + length (joined pieces) ≡ t + length (xs ++ joined pieces) = omega arith in
      skip_chunk xs t z (omega arith) m (omega arith) i (framed pieces)
      ∙ scan-framed pieces (t + length xs) (i + length (chunk xs)) j ps (omega arith) (omega arith)
      (omega (arith, length-append (chunk xs) (framed pieces)))
      ∙ ap (λ (k : ℕ). stop j (ended (record { length = k; trailer = 0 }))) u

  framed-some-byte : (pieces : List (List ℕ)) → 0 < length (framed pieces)
  unfolding framed
  framed-some-byte [] = omega arith
  framed-some-byte (xs ∷ pieces) = omega (arith, length-append (chunk xs) (framed pieces), framed-some-byte pieces)

  -- a frame of any pieces is read whole, without a trailer
  pub reads-framed : (pieces : List (List ℕ)) → Pieces pieces → length (joined pieces) < 2 ^ 64 → length (joined pieces) ≤ r
      → decode r (framed pieces) ≡ whole (tell (length (framed pieces)) (record { length = length (joined pieces); trailer = 0 }))
  unfolding judge decode answer
  reads-framed pieces ps small l =
      let some : 0 < length (framed pieces) = framed-some-byte pieces in
      let e : 0 + length (framed pieces) ≡ suc (length (framed pieces) - 1) = omega arith in
      let s : suc (length (framed pieces) - 1) ≡ length (framed pieces) = omega arith in
      let t : 0 + length (joined pieces) ≡ length (joined pieces) = omega arith in
      ap (answer tell) (scan-framed pieces 0 0 (length (framed pieces) - 1) ps small (omega arith) e) ∙ ap₂ (λ (n k : ℕ). whole (tell n (record { length = k; trailer = 0 }))) s t
