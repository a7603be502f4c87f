-- A number above its limit stays above it: as far as more of the text is read, no number grows smaller.
use Rattle.std.proofs.Common.{◌≡◌, ℕ, zero, suc, ◌-◌, ◌<◌, ◌≤◌, Bool, true, false, cond, ◌&&◌, ◌||◌, T, ltb, ◌⊎◌, List, [], ◌∷◌, length, take, sym, refl, ap, ◌∙◌, subst, inl, inr, true≢false, append-nil, arith, take_all, ltb-false, ltb-true, le-ltb, lt-ltb}
use mathlib.Core.Option.{none, some}
use Rattle.grammar.specs.Grammar.{Part, Parses}
use Rattle.grammar.specs.Reading.{Rules, SoFar, Passes, Sound, above, parts_before}
use Rattle.grammar.specs.helpers.Derivative.{live}
use Rattle.grammar.specs.helpers.Checks.{fresh?}
use Rattle.grammar.specs.helpers.Slices.{Slices}
use Rattle.grammar.proofs.Deterministic.{deterministic?}
use Rattle.grammar.proofs.Demands.{one_beginning, unbroken_unpassed}
use Rattle.grammar.proofs.Slices.{slices}
use Rattle.grammar.proofs.Pieces.{slice-within}
use Rattle.octets.specs.Numbers.{grow, number_after, number, above?, number_limit}

grows : (n m : ℕ) (t : List ℕ) → number_after n (take m t) ≤ number_after n (take (suc m) t)
grows n zero [] = omega arith
grows n zero (b ∷ t) = omega arith
grows n (suc m) [] = omega arith
grows n (suc m) (b ∷ t) = grows (grow n b) m t

either : (x y z w v : Bool) → (y ≡ true → w ≡ true) → (z ≡ true → v ≡ true) → ((x && y) || z) ≡ true → ((x && w) || v) ≡ true
either true true z w v f g e = rw (f refl)
either true false z true v f g e = refl
either true false z false v f g e = g e
either false y z w v f g e = g e

later-one : (x v : Bool) → v ≡ true → (x || v) ≡ true
later-one true v e = refl
later-one false v e = e

module _ {L : Type 0} (number? : L → Bool) (limit : ℕ) where
  above_stays : (n : ℕ) (ps : List (Part L)) → above? number? limit (parts_before n ps) ≡ true
      → above? number? limit (parts_before (suc n) ps) ≡ true
  above_stays n [] e = e
  above_stays n (c ∷ ps) e = go (ltb c.start n) (ltb c.start (suc n)) refl refl (above_stays n ps) e
    where
      upto : ℕ → Part L
      upto m = record { label = c.label; start = c.start; text = take (m - c.start) c.text }

      higher : c.start < n → ltb limit (number (take (n - c.start) c.text)) ≡ true
          → ltb limit (number (take (suc n - c.start) c.text)) ≡ true
      higher h a =
          let d : suc (n - c.start) ≡ suc n - c.start = omega arith in
          let g = grows 0 (n - c.start) c.text in
          let f = ap (λ (m : ℕ). number (take m c.text)) d in
          lt-ltb limit (number (take (suc n - c.start) c.text)) (omega (arith, ltb-true limit (number (take (n - c.start) c.text)) a))

      go : (x y : Bool) → ltb c.start n ≡ x → ltb c.start (suc n) ≡ y
          → (above? number? limit (parts_before n ps) ≡ true → above? number? limit (parts_before (suc n) ps) ≡ true)
          → above? number? limit (cond x (upto n ∷ parts_before n ps) (parts_before n ps)) ≡ true
          → above? number? limit (cond y (upto (suc n) ∷ parts_before (suc n) ps) (parts_before (suc n) ps)) ≡ true
      go true true f g r e =
          either (number? c.label) (ltb limit (number (take (n - c.start) c.text))) (above? number? limit (parts_before n ps))
          (ltb limit (number (take (suc n - c.start) c.text))) (above? number? limit (parts_before (suc n) ps))
          (higher (ltb-true c.start n f)) r e
      go true false f g r e = absurd (omega (arith, ltb-true c.start n f, ltb-false c.start (suc n) g))
      go false true f g r e =
          later-one (number? c.label && ltb limit (number (take (suc n - c.start) c.text))) (above? number? limit (parts_before (suc n) ps)) (r e)
      go false false f g r e = r e

  -- a limit on numbers stays passed
  pub number_stays : (k : ℕ) (ps : List (Part L)) → number_limit number? limit k (parts_before (suc k) ps) ≡ some above
      → number_limit number? limit (suc k) (parts_before (suc (suc k)) ps) ≡ some above
  number_stays k ps e = rw (above_stays (suc k) ps (passed (above? number? limit (parts_before (suc k) ps)) e))
    where
      passed : (x : Bool) → cond x (some above) none ≡ some above → x ≡ true
      passed true e = refl
      passed false e = let z : ◌≡◌ {A = ℕ} 0 1 = cc in absurd (omega arith)

-- ## A well-formed text whose numbers are at most the limit breaks no limit

-- digits only make a number larger
pub digits-grow : (n : ℕ) (t : List ℕ) → n ≤ number_after n t
digits-grow n [] = omega arith
digits-grow n (b ∷ t) = omega (arith, digits-grow (grow n b) t)

take-smaller : (n m : ℕ) (t : List ℕ) → number_after n (take m t) ≤ number_after n t
take-smaller n zero [] = omega arith
take-smaller n zero (b ∷ t) = omega (arith, digits-grow n (b ∷ t))
take-smaller n (suc m) [] = omega arith
take-smaller n (suc m) (b ∷ t) = take-smaller (grow n b) m t

both_false : (x y z : Bool) → ((x && y) || z) ≡ false → (x ≡ true → y ≡ false) × (z ≡ false)
both_false true true z e = absurd (true≢false e)
both_false true false z e = (λ f. refl, e)
both_false false y z e = (λ f. absurd (true≢false (sym f)), e)

none_left : (x y z : Bool) → (x ≡ true → y ≡ false) → z ≡ false → ((x && y) || z) ≡ false
none_left true y z f e = rw (f refl) e
none_left false y z f e = e

either_true : (x y : Bool) → (x || y) ≡ true → (x ≡ true) ⊎ (y ≡ true)
either_true true y e = inl refl
either_true false y e = inr e

second-true : (x y : Bool) → (x && y) ≡ true → y ≡ true
second-true true y e = e
second-true false y e = absurd (true≢false (sym e))

module _ {L : Type 0} (number? : L → Bool) (limit : ℕ) where
  above_before : (n : ℕ) (ps : List (Part L)) → above? number? limit ps ≡ false → above? number? limit (parts_before n ps) ≡ false
  above_before n [] e = refl
  above_before n (c ∷ ps) e =
      let w = both_false (number? c.label) (ltb limit (number c.text)) (above? number? limit ps) e in
      go (ltb c.start n) w.0 (above_before n ps w.1)
    where
      go : (x : Bool) → (number? c.label ≡ true → ltb limit (number c.text) ≡ false) → above? number? limit (parts_before n ps) ≡ false
          → above? number? limit (cond x (record { label = c.label; start = c.start; text = take (n - c.start) c.text } ∷ parts_before n ps) (parts_before n ps)) ≡ false
      go true f g =
          none_left (number? c.label) (ltb limit (number (take (n - c.start) c.text))) (above? number? limit (parts_before n ps))
          (λ h. le-ltb limit (number (take (n - c.start) c.text)) (omega (arith, ltb-false limit (number c.text) (f h), take-smaller 0 (n - c.start) c.text))) g
      go false f g = g

  none_before : (ps : List (Part L)) → parts_before 0 ps ≡ []
  none_before [] = refl
  none_before (c ∷ ps) = rw (le-ltb c.start 0 (omega arith)) (none_before ps)

  -- a number above the limit is so in all of the text
  above-whole : (s : List ℕ) (ps : List (Part L)) → Slices 0 s ps → above? number? limit ps ≡ true
      → above? number? limit (parts_before (length s) ps) ≡ true
  above-whole s [] w e = e
  above-whole s (c ∷ ps) w e =
      go (ltb c.start (length s)) refl
      (either_true (number? c.label && ltb limit (number c.text)) (above? number? limit ps) e)
      (above-whole s ps w.1)
    where
      some_digit : (t : List ℕ) → ltb limit (number t) ≡ true → 0 < length t
      some_digit [] f = absurd (omega (arith, ltb-true limit 0 f))
      some_digit (b ∷ t) f = omega arith

      go : (x : Bool) → ltb c.start (length s) ≡ x
          → ((number? c.label && ltb limit (number c.text)) ≡ true) ⊎ (above? number? limit ps ≡ true)
          → (above? number? limit ps ≡ true → above? number? limit (parts_before (length s) ps) ≡ true)
          → above? number? limit (cond x (record { label = c.label; start = c.start; text = take (length s - c.start) c.text } ∷ parts_before (length s) ps) (parts_before (length s) ps)) ≡ true
      go true f (inl g) k =
          let all = take_all (length s - c.start) c.text (omega (arith, slice-within s c w.0)) in
          rw (all, g)
      go true f (inr g) k = later-one (number? c.label && ltb limit (number (take (length s - c.start) c.text))) (above? number? limit (parts_before (length s) ps)) (k g)
      go false f (inl g) k =
          let digit = some_digit c.text (second-true (number? c.label) (ltb limit (number c.text)) g) in
          absurd (omega (arith, ltb-false c.start (length s) f, slice-within s c w.0))
      go false f (inr g) k = k g

  module _ {A : Type 0} (r : Rules L A) (lives : T (live r.grammar)) (fresh : T (fresh? r.grammar)) (one_way : T (deterministic? r.grammar))
      (is : (k : ℕ) (ps : List (Part L)) → r.limit k ps ≡ number_limit number? limit k ps) where
    pub number-sound : (s : List ℕ) (ps : List (Part L)) → Parses r.grammar 0 s ps → above? number? limit ps ≡ false → Sound r s (length s)
    number-sound s ps m e k l h b =
        let qs = b.1.0 in
        let same = one_beginning r lives fresh one_way s ps m (suc k) (omega arith) qs b.1.1 in
        let quiet : number_limit number? limit k (parts_before (suc k) ps) ≡ none = rw (above_before (suc k) ps e) in
        none-some (sym quiet ∙ sym (ap (number_limit number? limit k) same) ∙ sym (is k qs) ∙ b.1.2)
      where
        none-some : none ≡ some l → ⊥
        none-some f = let z : ◌≡◌ {A = ℕ} 0 1 = cc in omega arith

    -- ## And one that breaks no limit has no number above it

    pub number-within : (s : List ℕ) (ps : List (Part L)) → Parses r.grammar 0 s ps → Sound r s (length s) → above? number? limit ps ≡ false
    number-within s ps m sound = go (above? number? limit ps) refl
      where
        split : take (length s) s ≡ s
        split = take_all (length s) s (omega arith)

        begun : SoFar r (take (length s) s) (parts_before (length s) ps)
        begun = (
          [],
          ps,
          tt,
          subst (λ (t : List ℕ). Parses r.grammar 0 t ps) (sym (append-nil (take (length s) s) ∙ split)) m,
          ap (λ (t : List ℕ). parts_before (length t) ps) (sym split),
        )

        passes : (n : ℕ) → n ≡ length s → above? number? limit (parts_before n ps) ≡ true → Passes r s above n
        passes zero e f = absurd (true≢false (sym f ∙ ap (above? number? limit) (none_before ps)))
        passes (suc k) e f = (
          parts_before (suc k) ps,
          subst (λ (n : ℕ). SoFar r (take n s) (parts_before n ps)) (sym e) begun,
          is k (parts_before (suc k) ps) ∙ rw f,
        )

        go : (t : Bool) → above? number? limit ps ≡ t → t ≡ false
        go false e = refl
        go true e =
            let whole = above-whole s ps (slices r.grammar 0 s ps fresh m) e in
            absurd (unbroken_unpassed r s (length s) sound (omega arith) (length s) above (omega arith) (passes (length s) refl whole))
