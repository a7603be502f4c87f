-- A text of a class and of escapes, as a part that has begun, against its grammar.
use Rattle.std.proofs.Common.{◌≡◌, ℕ, zero, suc, ◌+◌, ◌<◌, ◌≤◌, Bool, true, false, eqb, ltb, List, [], ◌∷◌, ◌++◌, Ok, Err, length, get_or, sym, refl, ap, ◌∙◌, subst, true≢false, arith, ltb-false, ltb-true, ne_eqb}
use mathlib.Core.Option.{none}
use Rattle.grammar.specs.Grammar.{Class, Part, Grammar, void, byte, ◌⨾◌, rest, grown}
use Rattle.grammar.specs.helpers.Derivative.{live, deriv, ends, then, seq, during}
use Rattle.grammar.specs.Reading.{Rules, Verdict, refused}
use Rattle.grammar.specs.helpers.Judge.{held}
use Rattle.grammar.specs.helpers.Checks.{ahead}
use Rattle.grammar.specs.helpers.Scans.{slice, from}
use Rattle.grammar.proofs.Scans.{slice_snoc, part-goes-on, part-ends, part-fails, part-cut_off}
use Rattle.octets.specs.Bytes.{hex?}
use Rattle.octets.specs.declared.Refusal.{Refusal}
use Rattle.octets.specs.Reading.{number_of, place_of}
use Rattle.octets.specs.Classes.{HEX}
use Rattle.http_url.specs.Grammar.{Name, text_of}
use Rattle.http_url.specs.helpers.Scan.{Hexes, Stretch, empty as nothing, character, escape as escaped, Found}

-- what is left inside an escape
abbrev one_digit : Class → Grammar Name
one_digit c = byte HEX ⨾ text_of c

abbrev two_digits : Class → Grammar Name
two_digits c = byte HEX ⨾ byte HEX ⨾ text_of c

module _ (c : Class) (no_percent : c.has 37 ≡ false) where
  percent_apart : (b : ℕ) → c.has b ≡ true → eqb b 37 ≡ false
  percent_apart b e = ne_eqb b 37 (λ z. true≢false (sym e ∙ ap c.has z ∙ no_percent))

  text-character : (j b : ℕ) → c.has b ≡ true → deriv (text_of c) j b ≡ text_of c
  text-character j b e = rw (e, percent_apart b e)

  text_percent : (j b : ℕ) → b ≡ 37 → deriv (text_of c) j b ≡ two_digits c
  text_percent j b e = rw (e, no_percent)

  text-other : (j b : ℕ) → c.has b ≡ false → (b ≡ 37 → ⊥) → deriv (text_of c) j b ≡ void
  text-other j b e f = rw (e, ne_eqb b 37 f)

  first_digit : (j b : ℕ) → hex? b ≡ true → deriv (two_digits c) j b ≡ one_digit c
  first_digit j b e = rw e

  no_first_digit : (j b : ℕ) → hex? b ≡ false → deriv (two_digits c) j b ≡ void
  no_first_digit j b e = rw e

  second_digit : (j b : ℕ) → hex? b ≡ true → deriv (one_digit c) j b ≡ text_of c
  second_digit j b e = rw e

  no_second_digit : (j b : ℕ) → hex? b ≡ false → deriv (one_digit c) j b ≡ void
  no_second_digit j b e = rw e

-- a stretch does not go backwards
pub stretch_up : (p : ℕ → Bool) (s : List ℕ) (i e : ℕ) → Stretch p s i e → i ≤ e
stretch_up p s i e nothing = omega arith
stretch_up p s i e (character {e = f} w at q) = omega (arith, stretch_up p s i f w)
stretch_up p s i e (escaped {e = f} w at q d) = omega (arith, stretch_up p s i f w)

-- The part k begins at the place a; g follows it, and begins with no byte of the text. No limit is broken in it.
module _ {A : Type 0} (r : Rules Name A) (s : List ℕ) (cs : List (Part Name)) (k : Name) (a : ℕ) (c : Class) (no_percent : c.has 37 ≡ false)
    (g : Grammar Name) (l : live g ≡ true) (h : held g ≡ []) (apart : (j b : ℕ) → c.has b ≡ true → deriv g j b ≡ void)
    (apart-percent : (j b : ℕ) → b ≡ 37 → deriv g j b ≡ void)
    (quiet : (n : ℕ) (t : List ℕ) → r.limit n (cs ++ record { label = k; start = a; text = t } ∷ []) ≡ none) where
  -- the part as far as the place j
  abbrev pub upto : ℕ → Part Name
  upto j = record { label = k; start = a; text = slice s a j }

  -- and x left of it
  abbrev pub reading : ℕ → Grammar Name → Verdict A
  reading j x = from r s (ahead cs (then (rest (upto j) x) g)) j

  grown-on : (j : ℕ) → a ≤ j → j < length s → grown (upto j) (get_or s j 0 ∷ []) ≡ upto (j + 1)
  grown-on j p q = ap (λ (t : List ℕ). record { label = k; start = a; text = t }) (sym (slice_snoc s a j p q))

  -- a byte of the part, behind which y is left
  step : (j : ℕ) (x y : Grammar Name) → a ≤ j → j < length s → deriv x j (get_or s j 0) ≡ y → live y ≡ true → held y ≡ []
      → seq (during (upto j) (ends x j)) (deriv g j (get_or s j 0)) ≡ void → reading j x ≡ reading (j + 1) y
  step j x y p at d m n o =
      part-goes-on r s cs g l (upto j) x j h y at d m n o (quiet j (slice s a j ++ (get_or s j 0 ∷ [])))
      ∙ ap (λ (u : Part Name). from r s (ahead cs (then (rest u y) g)) (j + 1)) (grown-on j p at)

  step-character : (j : ℕ) → a ≤ j → j < length s → c.has (get_or s j 0) ≡ true → reading j (text_of c) ≡ reading (j + 1) (text_of c)
  step-character j p at e =
      step j (text_of c) (text_of c) p at (text-character c no_percent j (get_or s j 0) e) refl refl (dead (deriv g j (get_or s j 0)) (apart j (get_or s j 0) e))
    where
      dead : (x : Grammar Name) → x ≡ void → seq (rest (upto j) Grammar.empty) x ≡ void
      dead x z = rw z

  module _ (j : ℕ) (p : a ≤ j) (at : j < length s) (e : get_or s j 0 ≡ 37) where
    step_percent : reading j (text_of c) ≡ reading (j + 1) (two_digits c)
    step_percent =
        step j (text_of c) (two_digits c) p at (text_percent c no_percent j (get_or s j 0) e) refl refl (dead (deriv g j (get_or s j 0)) (apart-percent j (get_or s j 0) e))
      where
        dead : (x : Grammar Name) → x ≡ void → seq (rest (upto j) Grammar.empty) x ≡ void
        dead x z = rw z

    step-first : j + 1 < length s → hex? (get_or s (j + 1) 0) ≡ true → reading (j + 1) (two_digits c) ≡ reading ((j + 1) + 1) (one_digit c)
    step-first q f = step (j + 1) (two_digits c) (one_digit c) (omega arith) q (first_digit c no_percent (j + 1) (get_or s (j + 1) 0) f) refl refl refl

    step-second : (j + 1) + 1 < length s → hex? (get_or s ((j + 1) + 1) 0) ≡ true → reading ((j + 1) + 1) (one_digit c) ≡ reading (((j + 1) + 1) + 1) (text_of c)
    step-second q f =
        step ((j + 1) + 1) (one_digit c) (text_of c) (omega arith) q (second_digit c no_percent ((j + 1) + 1) (get_or s ((j + 1) + 1) 0) f) refl refl refl

    step-escape : Hexes s (j + 1) 2 → reading j (text_of c) ≡ reading (j + 3) (text_of c)
    step-escape w =
        let z : j + 3 ≡ ((j + 1) + 1) + 1 = omega arith in
        let x : (j + 1) + 0 ≡ j + 1 = omega arith in
        step_percent
        ∙ step-first (omega (arith, w.within)) (subst (λ (n : ℕ). hex? (get_or s n 0) ≡ true) x (w.are 0 (omega arith)))
        ∙ step-second (omega (arith, w.within)) (w.are 1 (omega arith))
        ∙ ap (λ (n : ℕ). reading n (text_of c)) (sym z)

    -- fewer than two hex digits
    breaks-first : Hexes s (j + 1) 0 → reading j (text_of c) ≡ refused 1 (j + 1)
    breaks-first w = step_percent ∙ go (ltb (j + 1) (length s)) refl
      where
        x : (j + 1) + 0 ≡ j + 1
        x = omega arith

        go : (t : Bool) → ltb (j + 1) (length s) ≡ t → reading (j + 1) (two_digits c) ≡ refused 1 (j + 1)
        go true f =
            let q = ltb-true (j + 1) (length s) f in
            part-fails r s cs g l (upto (j + 1)) (two_digits c) (j + 1) q
            (no_first_digit c no_percent (j + 1) (get_or s (j + 1) 0) (subst (λ (n : ℕ). hex? (get_or s n 0) ≡ false) x (w.stops (omega arith) (omega arith)))) refl
        go false f = part-cut_off r s cs g l (upto (j + 1)) (two_digits c) (j + 1) (ltb-false (j + 1) (length s) f) refl

    breaks-second : Hexes s (j + 1) 1 → reading j (text_of c) ≡ refused 1 ((j + 1) + 1)
    breaks-second w =
        step_percent ∙ step-first (omega (arith, w.within)) (subst (λ (n : ℕ). hex? (get_or s n 0) ≡ true) x (w.are 0 (omega arith)))
        ∙ go (ltb ((j + 1) + 1) (length s)) refl
      where
        x : (j + 1) + 0 ≡ j + 1
        x = omega arith

        go : (t : Bool) → ltb ((j + 1) + 1) (length s) ≡ t → reading ((j + 1) + 1) (one_digit c) ≡ refused 1 ((j + 1) + 1)
        go true f =
            let q = ltb-true ((j + 1) + 1) (length s) f in
            part-fails r s cs g l (upto ((j + 1) + 1)) (one_digit c) ((j + 1) + 1) q
            (no_second_digit c no_percent ((j + 1) + 1) (get_or s ((j + 1) + 1) 0) (w.stops (omega arith) q)) refl
        go false f = part-cut_off r s cs g l (upto ((j + 1) + 1)) (one_digit c) ((j + 1) + 1) (ltb-false ((j + 1) + 1) (length s) f) refl

    breaks_off : (n : ℕ) → Hexes s (j + 1) n → n < 2 → reading j (text_of c) ≡ refused 1 ((j + 1) + n)
    breaks_off zero w q =
        let x : (j + 1) + 0 ≡ j + 1 = omega arith in
        breaks-first w ∙ ap (refused 1) (sym x)
    breaks_off (suc zero) w q = breaks-second w
    breaks_off (suc (suc n)) w q = absurd (omega arith)

  walk : (i : ℕ) → a ≤ i → (e : ℕ) → Stretch c.has s i e → reading i (text_of c) ≡ reading e (text_of c)
  walk i p e nothing = refl
  walk i p e (character {e = f} w at q) = walk i p f w ∙ step-character f (omega (arith, stretch_up c.has s i f w)) at q
  walk i p e (escaped {e = f} w at q d) = walk i p f w ∙ step-escape f (omega (arith, stretch_up c.has s i f w)) at q d

  -- the text that stands at i ends at e
  pub text-ends : (i e : ℕ) → a ≤ i → Found c.has s i (Ok e)
      → reading i (text_of c) ≡ from r s (ahead (cs ++ upto e ∷ []) g) e
  text-ends i e p w =
      walk i p e w.0
      ∙ part-ends r s cs g l (upto e) (text_of c) e (λ at. text-other c no_percent e (get_or s e 0) (w.2 at) (w.3 at)) refl refl

  -- or breaks off
  pub text-breaks : (i : ℕ) (x : Refusal) → a ≤ i → Found c.has s i (Err x) → reading i (text_of c) ≡ refused (number_of x) (place_of x)
  text-breaks i x p w =
      walk i p w.0 w.3
      ∙ breaks_off w.0 (omega (arith, stretch_up c.has s i w.0 w.3)) w.4 w.5 w.1 w.6 w.7 ∙ ap (λ (z : Refusal). refused (number_of z) (place_of z)) (sym w.2)
