-- Lines by one or two digits and a tail: what stood behind the digits of a line that was read.
use Rattle.std.proofs.Common.{◌≡◌, ℕ, zero, suc, ◌+◌, ◌-◌, ◌*◌, ◌/◌, ◌≤◌, true, cond, List, [], ◌∷◌, length, get_or, take, drop, sym, refl}
use Rattle.std.proofs.Common.{ap, ◌∙◌, subst, ap₂, arith, length-append, length-drop, length-take-le, drop-drop, take-add, drop_at}
use native.Mathlib.Decide.{dec_le}
use lib.Seq.{drop-append-le}
use Rattle.octets.specs.Bytes.{hex?, hex_value}
use Rattle.octets.proofs.Bytes.{is_hex}
use Rattle.framing.specs.Grammar as G
use Rattle.framing.proofs.Cases.{false-true}
use Rattle.chunked.specs.helpers.Passes.{LineAt, SameAt}
use Rattle.chunked.specs.helpers.Tails.{TailAt, DigitsTo}
use Rattle.chunked.proofs.Short.{after, line-length}
use Rattle.chunked.proofs.Long.{digits, inside, digit_at, other_at}

-- ## The tail of a line
module _ {xs : List ℕ} {i w v j : ℕ} (l : LineAt xs i w v (13 ∷ 10 ∷ [])) (e : DigitsTo xs i j) where
  abbrev n : ℕ
  n = (digits l).count

  count-is : j - i ≡ n
  count-is = omega (arith, e.starts, least, most)
    where
      least : i + n ≤ j
      least = go (dec_le (i + n) j)
        where
          go : Dec (i + n ≤ j) → i + n ≤ j
          go (yes h) = h
          go (no h) =
              let z : i + (j - i) ≡ j = omega (arith, e.starts) in
              false-true (sym (e.stop (omega (arith, inside l))) ∙ ap (λ (k : ℕ). hex? (get_or xs k 0)) (sym z) ∙ digit_at l (j - i) (omega (arith, e.starts)))

      most : j ≤ i + n
      most = go (dec_le j (i + n))
        where
          go : Dec (j ≤ i + n) → j ≤ i + n
          go (yes h) = h
          go (no h) = false-true (sym (other_at l) ∙ e.each (i + n) (omega arith) (omega arith))

  -- no more digits than bytes
  pub digits-few : j - i + 2 ≤ w
  digits-few = omega (arith, count-is, (digits l).few, line-length l)

  pub tail_there : w - (j - i) ≤ 64 → TailAt xs j (w - (j - i))
  tail_there few =
      let m : ℕ = w - (j - i) in
      let a : i + n ≡ j = omega (arith, count-is, e.starts) in
      let b : n + m ≡ w = omega (arith, count-is, digits-few) in
      let k : n ≤ length l.text = (digits l).few in
      let z : length (take n (drop i xs)) ≡ n = length-take-le n (drop i xs) (omega (arith, length-drop i xs, inside l)) in
      record {
        inside = omega (arith, l.inside, a, b);
        text = drop n l.text;
        split = ap (λ (p : ℕ). take m (drop p xs)) (sym a)
            ∙ ap (take m) (sym (drop-drop n i xs))
            ∙ sym (drop_at (take n (drop i xs)) (take m (drop n (drop i xs))) n z)
            ∙ ap (drop n) (sym (take-add n m (drop i xs)) ∙ ap (λ (p : ℕ). take p (drop i xs)) b ∙ l.split)
            ∙ drop-append-le n l.text (13 ∷ 10 ∷ []) k;
        extensions = (digits l).behind;
        few = few;
      }

-- ## Digits before a tail
module _ {xs : List ℕ} {k m : ℕ} (t : TailAt xs k m) where
  tail_length : length t.text + 2 ≡ m
  tail_length =
      sym (length-append t.text (13 ∷ 10 ∷ []))
      ∙ ap length (sym t.split)
      ∙ length-take-le m (drop k xs) (omega (arith, length-drop k xs, t.inside))

  one-before : {i : ℕ} → hex? (get_or xs i 0) ≡ true → SameAt xs k (i + 1) m → i + 1 + m ≤ length xs
      → LineAt xs i (1 + m) (hex_value (get_or xs i 0)) (13 ∷ 10 ∷ [])
  one-before {i} h same enough =
      let b : ℕ = get_or xs i 0 in
      let e : 0 * 16 + hex_value b ≡ hex_value b = omega arith in
      let s : 1 + m ≡ suc m = omega arith in
      record {
        inside = omega arith;
        text = b ∷ t.text;
        split = ap (λ (q : ℕ). take q (drop i xs)) s
            ∙ ap (take (suc m)) (after xs i (omega arith))
            ∙ ap (λ (z : List ℕ). b ∷ z) (sym same ∙ t.split);
        line = subst (G.Line (b ∷ t.text)) e (G.line (G.size (G.some h G.none)) t.extensions);
        short = omega (arith, tail_length, t.few);
      }

  two-before : {i : ℕ} → hex? (get_or xs i 0) ≡ true → hex? (get_or xs (i + 1) 0) ≡ true → SameAt xs k (i + 2) m → i + 2 + m ≤ length xs
      → LineAt xs i (2 + m) (hex_value (get_or xs i 0) * 16 + hex_value (get_or xs (i + 1) 0)) (13 ∷ 10 ∷ [])
  two-before {i} h g same enough =
      let b : ℕ = get_or xs i 0 in
      let d : ℕ = get_or xs (i + 1) 0 in
      let e : (0 * 16 + hex_value b) * 16 + hex_value d ≡ hex_value b * 16 + hex_value d = omega arith in
      let p : i + 1 + 1 ≡ i + 2 = omega arith in
      let s : 2 + m ≡ suc (suc m) = omega arith in
      record {
        inside = omega arith;
        text = b ∷ d ∷ t.text;
        split = ap (λ (q : ℕ). take q (drop i xs)) s
            ∙ ap (take (suc (suc m))) (after xs i (omega arith) ∙ ap (λ (z : List ℕ). b ∷ z) (after xs (i + 1) (omega arith)))
            ∙ ap (λ (q : ℕ). b ∷ d ∷ take m (drop q xs)) p
            ∙ ap (λ (z : List ℕ). b ∷ d ∷ z) (sym same ∙ t.split);
        line = subst (G.Line (b ∷ d ∷ t.text)) e (G.line (G.size (G.some h (G.more g G.none))) t.extensions);
        short = omega (arith, tail_length, t.few);
      }

  -- a line by the values of its digits, of which the second is one or not
  pub tailed : {i d e r : ℕ} (n : ℕ) → n ≡ 1 - e / 16 → hex? (get_or xs i 0) ≡ true → d ≡ hex_value (get_or xs i 0)
      → e ≡ cond (hex? (get_or xs (i + 1) 0)) (hex_value (get_or xs (i + 1) 0)) 16 → SameAt xs k (i + 1 + n) m → i + (1 + n + m) ≤ length xs
      → (n ≡ 0 → r ≡ d) → (n ≡ 1 → r ≡ d * 16 + e) → LineAt xs i (1 + n + m) r (13 ∷ 10 ∷ [])
  tailed {i} zero s h f g same enough one two =
      let p : i + 1 + 0 ≡ i + 1 = omega arith in
      subst (λ (v : ℕ). LineAt xs i (1 + m) v (13 ∷ 10 ∷ [])) (sym (one refl ∙ f))
      (one-before h (subst (λ (q : ℕ). SameAt xs k q m) p same) (omega arith))
  tailed {i} {e = e} (suc zero) s h f g same enough one two =
      let p : i + 1 + 1 ≡ i + 2 = omega arith in
      let j : (hex? (get_or xs (i + 1) 0) ≡ true) × (e ≡ hex_value (get_or xs (i + 1) 0)) = is_hex (get_or xs (i + 1) 0) e g (omega arith) in
      subst (λ (v : ℕ). LineAt xs i (2 + m) v (13 ∷ 10 ∷ [])) (sym (two refl ∙ ap₂ (λ (x y : ℕ). x * 16 + y) f j.1))
      (two-before h j.0 (subst (λ (q : ℕ). SameAt xs k q m) p same) (omega arith))
  tailed (suc (suc n)) s h f g same enough one two = absurd (omega arith)
