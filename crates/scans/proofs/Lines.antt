-- The law of a line: single bytes and numbers of so many digits, one behind the other, against a text and its shape.
use Rattle.std.proofs.Common.{◌≡◌, ℕ, zero, suc, ◌+◌, ◌<◌, ◌≤◌, Bool, true, false, cond, not, ◌&&◌, T, eqb, ltb, ◌⊎◌, List, [], ◌∷◌, ◌++◌, length, get_or, drop, sym, refl, ap, ◌∙◌, inl, inr, append_assoc, append-nil, add-one, arith, drop_of_length-le, drop-cons, ltb-false, ltb-true}
use mathlib.Core.Option.{none}
use Rattle.grammar.specs.Grammar.{Part, Grammar, void, empty, byte, ◌⨾◌, part, rest, just, grown, T-left, T-right}
use Rattle.grammar.specs.helpers.Derivative.{live, nullable, deriv, ends, then, seq, during}
use Rattle.grammar.specs.Reading.{Rules, refused}
use Rattle.grammar.specs.helpers.Judge.{held}
use Rattle.grammar.specs.helpers.Checks.{ahead}
use Rattle.grammar.specs.helpers.Scans.{slice, from}
use Rattle.grammar.proofs.Shapes.{alt-void, seq-void, byte_step}
use Rattle.grammar.proofs.Scans.{Follows, nothing, blank, solid, follows, dead-live, slice-none, slice_snoc, same-judge, during_alone}
use Rattle.grammar.proofs.Scans.{part-begins, part-ends, part-goes-on, part-fails, part-cut_off, first-is, first-not, first-none}
use Rattle.octets.specs.Bytes.{digit?}
use Rattle.octets.specs.Classes.{DIGIT}
use Rattle.octets.specs.helpers.Shapes.{fitting}

module _ {L : Type 0} where
  -- so many digits
  abbrev pub n_digits : ℕ → Grammar L
  n_digits zero = empty
  n_digits (suc zero) = byte DIGIT
  n_digits (suc (suc n)) = byte DIGIT ⨾ n_digits (suc n)

module _ (L : Type 0) where
  digits-live : (n : ℕ) → live (n_digits {L = L} n) ≡ true
  digits-live zero = refl
  digits-live (suc zero) = refl
  digits-live (suc (suc n)) = digits-live (suc n)

  digits-held : (n : ℕ) → held (n_digits {L = L} n) ≡ []
  digits-held zero = refl
  digits-held (suc zero) = refl
  digits-held (suc (suc n)) = digits-held (suc n)

  digits_null : (n : ℕ) → nullable (n_digits {L = L} (suc n)) ≡ false
  digits_null zero = refl
  digits_null (suc n) = refl

  digits-ends : (n i : ℕ) → ends (n_digits {L = L} (suc n)) i ≡ void
  digits-ends zero i = refl
  digits-ends (suc n) i = refl

  digits-deriv : (n i b : ℕ) → deriv (n_digits {L = L} (suc n)) i b ≡ cond (digit? b) (n_digits n) void
  digits-deriv zero i b = refl
  digits-deriv (suc n) i b = byte_step DIGIT i b (n_digits (suc n))

-- a byte as it is, or a number of n + 1 digits
pub data Item (L : Type 0) : Type 0 where
  is : (b : ℕ) → T (ltb b 256) → Item L
  num : L → ℕ → Item L

abbrev pub zeros : ℕ → List ℕ → List ℕ
zeros zero w = w
zeros (suc n) w = 48 ∷ zeros n w

module _ {L : Type 0} where
  abbrev pub line : List (Item L) → Grammar L → Grammar L
  line [] g = g
  line (is b p ∷ xs) g = byte (just b p) ⨾ line xs g
  line (num l n ∷ xs) g = part l (n_digits (suc n)) ⨾ line xs g

  abbrev pub shape : List (Item L) → List ℕ
  shape [] = []
  shape (is b p ∷ xs) = b ∷ shape xs
  shape (num l n ∷ xs) = zeros (suc n) (shape xs)

  -- no byte of a line stands for a digit
  abbrev pub sound : List (Item L) → Bool
  sound [] = true
  sound (is b p ∷ xs) = not (eqb b 48) && sound xs
  sound (num l n ∷ xs) = sound xs

  -- the place behind a line at i, and its parts
  abbrev pub over : List (Item L) → ℕ → ℕ
  over [] i = i
  over (is b p ∷ xs) i = over xs (i + 1)
  over (num l n ∷ xs) i = over xs (i + suc n)

  abbrev pub parts : List ℕ → List (Item L) → ℕ → List (Part L)
  parts s [] i = []
  parts s (is b p ∷ xs) i = parts s xs (i + 1)
  parts s (num l n ∷ xs) i = record { label = l; start = i; text = slice s i (i + suc n) } ∷ parts s xs (i + suc n)

  line-live : (xs : List (Item L)) (g : Grammar L) → live g ≡ true → live (line xs g) ≡ true
  line-live [] g l = l
  line-live (is b p ∷ xs) g l = line-live xs g l
  line-live (num k n ∷ xs) g l = rw (digits-live L (suc n)) (line-live xs g l)

  line-held : (xs : List (Item L)) (g : Grammar L) → held g ≡ [] → held (line xs g) ≡ []
  line-held [] g h = h
  line-held (is b p ∷ xs) g h = line-held xs g h
  line-held (num k n ∷ xs) g h = line-held xs g h

module _ {L A : Type 0} (r : Rules L A) (s : List ℕ) (quiet : (n : ℕ) (ps : List (Part L)) → r.limit n ps ≡ none) where
  here : (i : ℕ) → i < length s → drop i s ≡ get_or s i 0 ∷ drop (i + 1) s
  here i at = drop-cons s i 0 at ∙ ap (λ (n : ℕ). get_or s i 0 ∷ drop n s) (sym (add-one i))

  -- a part and then g, with or without what says nothing
  part_then : (cs : List (Part L)) (k : L) (x g : Grammar L) → live g ≡ true → (i : ℕ)
      → from r s (ahead cs (part k x ⨾ g)) i ≡ from r s (ahead cs (then (part k x) g)) i
  part_then cs k x g l i = go (follows g)
    where
      go : Follows g → from r s (ahead cs (part k x ⨾ g)) i ≡ from r s (ahead cs (then (part k x) g)) i
      go (nothing e) = dead-live g e l
      go (blank e) =
          rw e
          (same-judge r s cs (part k x ⨾ empty) (part k x) i (λ at. byte-same (get_or s i 0)) (and_one (nullable x))
          (during_alone (record { label = k; start = i; text = [] }) (ends x i)))
        where
          and_one : (a : Bool) → (a && true) ≡ a
          and_one true = refl
          and_one false = refl

          byte-same : (b : ℕ) → deriv (part k x ⨾ empty) i b ≡ deriv (part k x) i b
          byte-same b = rw (seq-void (ends (part k x) i), alt-void (seq (deriv (part k x) i b) empty)) (during_alone (record { label = k; start = i; text = b ∷ [] }) (deriv x i b))
      go (solid f) = rw (f (part k x))

  -- ## A number that has begun

  module _ (cs : List (Part L)) (k : L) (g : Grammar L) (l : live g ≡ true) (h : held g ≡ []) (w : List ℕ) (j : ℕ) where
    abbrev upto : ℕ → Part L
    upto i = record { label = k; start = j; text = slice s j i }

    abbrev Digits : ℕ → ℕ → Type 0
    Digits m i =
        ((fitting (zeros m w) (drop i s) ≡ m + fitting w (drop (i + m) s))
        × (from r s (ahead cs (then (rest (upto i) (n_digits m)) g)) i ≡ from r s (ahead (cs ++ upto (i + m) ∷ []) g) (i + m)))
        ⊎ ((n : ℕ) × (n < m) × (fitting (zeros m w) (drop i s) ≡ n) × (from r s (ahead cs (then (rest (upto i) (n_digits m)) g)) i ≡ refused 1 (i + n)))

    still : (i : ℕ) → i ≡ i + 0
    still i = omega arith

    digits-read : (m i : ℕ) → j ≤ i → Digits m i
    digits-read zero i a =
        inl (
          sym (zero-plus (fitting w (drop (i + 0) s)) ∙ ap (λ (n : ℕ). fitting w (drop n s)) (sym (still i))),
          part-ends r s cs g l (upto i) empty i (λ at. refl) refl refl ∙ ap (λ (n : ℕ). from r s (ahead (cs ++ upto n ∷ []) g) n) (still i),
        )
      where
        zero-plus : (n : ℕ) → 0 + n ≡ n
        zero-plus n = omega arith
    digits-read (suc m) i a = go (ltb i (length s)) refl (digits-read m (i + 1) (omega arith))
      where
        go : (x : Bool) → ltb i (length s) ≡ x → Digits m (i + 1) → Digits (suc m) i
        go false e later =
            let end = ltb-false i (length s) e in
            inr (
              0,
              omega arith,
              ap (fitting (zeros (suc m) w)) (drop_of_length-le s end),
              part-cut_off r s cs g l (upto i) (n_digits (suc m)) i end (digits_null L m) ∙ ap (refused 1) (still i),
            )
        go true e later = digit (digit? (get_or s i 0)) refl later
          where
            at : i < length s
            at = ltb-true i (length s) e

            grows : grown (upto i) (get_or s i 0 ∷ []) ≡ upto (i + 1)
            grows = ap (λ (t : List ℕ). record { label = k; start = j; text = t }) (sym (slice_snoc s j i a at))

            digit : (d : Bool) → digit? (get_or s i 0) ≡ d → Digits m (i + 1) → Digits (suc m) i
            digit false f later =
                inr (
                  0,
                  omega arith,
                  ap (fitting (zeros (suc m) w)) (here i at) ∙ rw f,
                  part-fails r s cs g l (upto i) (n_digits (suc m)) i at (digits-deriv L m i (get_or s i 0) ∙ rw f) (digits-ends L m i) ∙ ap (refused 1) (still i),
                )
            digit true f later = next later
              where
                on : from r s (ahead cs (then (rest (upto i) (n_digits (suc m))) g)) i ≡ from r s (ahead cs (then (rest (upto (i + 1)) (n_digits m)) g)) (i + 1)
                on =
                    part-goes-on r s cs g l (upto i) (n_digits (suc m)) i h (n_digits m) at (digits-deriv L m i (get_or s i 0) ∙ rw f) (digits-live L m) (digits-held L m)
                    (ap (λ (y : Grammar L). seq (during (upto i) y) (deriv g i (get_or s i 0))) (digits-ends L m i)) (quiet i (cs ++ grown (upto i) (get_or s i 0 ∷ []) ∷ []))
                    ∙ ap (λ (p : Part L). from r s (ahead cs (then (rest p (n_digits m)) g)) (i + 1)) grows

                counts : fitting (zeros (suc m) w) (drop i s) ≡ suc (fitting (zeros m w) (drop (i + 1) s))
                counts = ap (fitting (zeros (suc m) w)) (here i at) ∙ rw f

                z : i + 1 + m ≡ i + suc m
                z = omega arith

                next : Digits m (i + 1) → Digits (suc m) i
                next (inl p) =
                    inl (
                      counts ∙ ap suc p.0 ∙ ap (λ (n : ℕ). suc (m + fitting w (drop n s))) z ∙ suc-plus m (fitting w (drop (i + suc m) s)),
                      on ∙ p.1 ∙ ap (λ (n : ℕ). from r s (ahead (cs ++ upto n ∷ []) g) n) z,
                    )
                  where
                    suc-plus : (a b : ℕ) → suc (a + b) ≡ suc a + b
                    suc-plus a b = omega arith
                next (inr p) =
                    let y : i + 1 + p.0 ≡ i + suc p.0 = omega arith in
                    inr (suc p.0, omega (arith, p.1), counts ∙ ap suc p.2, on ∙ p.3 ∙ ap (refused 1) y)

  -- ## A line

  abbrev pub Lined : List (Part L) → List (Item L) → Grammar L → ℕ → Type 0
  Lined cs xs g i =
      (fitting (shape xs) (drop i s) ≡ length (shape xs) → from r s (ahead cs (line xs g)) i ≡ from r s (ahead (cs ++ parts s xs i) g) (over xs i))
      × (fitting (shape xs) (drop i s) < length (shape xs) → from r s (ahead cs (line xs g)) i ≡ refused 1 (i + fitting (shape xs) (drop i s)))

  zeros-length : (n : ℕ) (w : List ℕ) → length (zeros n w) ≡ n + length w
  zeros-length zero w = zero-plus (length w)
    where
      zero-plus : (n : ℕ) → n ≡ 0 + n
      zero-plus n = omega arith
  zeros-length (suc n) w = ap suc (zeros-length n w) ∙ suc-plus n (length w)
    where
      suc-plus : (a b : ℕ) → suc (a + b) ≡ suc a + b
      suc-plus a b = omega arith

  pub line_reads : (xs : List (Item L)) (g : Grammar L) → T (sound xs) → live g ≡ true → held g ≡ [] → (cs : List (Part L)) (i : ℕ)
      → Lined cs xs g i
  line_reads [] g v l h cs i = (λ e. ap (λ (ps : List (Part L)). from r s (ahead ps g) i) (sym (append-nil cs)), λ e. absurd (omega arith))
  line_reads (is b p ∷ xs) g v l h cs i =
      go (ltb i (length s)) refl (line_reads xs g (T-right (not (eqb b 48)) (sound xs) v) l h cs (i + 1))
    where
      still' : i ≡ i + 0
      still' = omega arith

      itself : eqb b 48 ≡ false
      itself = not_so (eqb b 48) (T-left (not (eqb b 48)) (sound xs) v)
        where
          not_so : (t : Bool) → T (not t) → t ≡ false
          not_so true h = absurd h
          not_so false h = refl

      go : (x : Bool) → ltb i (length s) ≡ x → Lined cs xs g (i + 1) → Lined cs (is b p ∷ xs) g i
      go false e later =
          let end = ltb-false i (length s) e in
          let none-fits : fitting (b ∷ shape xs) (drop i s) ≡ 0 = ap (fitting (b ∷ shape xs)) (drop_of_length-le s end) in
          (λ f. absurd (omega arith), λ f. first-none r s cs (just b p) (line xs g) (line-live xs g l) i end ∙ ap (refused 1) (still' ∙ ap (λ (n : ℕ). i + n) (sym none-fits)))
      go true e later = same (eqb (get_or s i 0) b) refl later
        where
          at : i < length s
          at = ltb-true i (length s) e

          same : (t : Bool) → eqb (get_or s i 0) b ≡ t → Lined cs xs g (i + 1) → Lined cs (is b p ∷ xs) g i
          same false f later =
              let none-fits : fitting (b ∷ shape xs) (drop i s) ≡ 0 = ap (fitting (b ∷ shape xs)) (here i at) ∙ rw (itself, f) in
              (λ q. absurd (omega arith), λ q. first-not r s cs (just b p) (line xs g) (line-live xs g l) i at f ∙ ap (refused 1) (still' ∙ ap (λ (n : ℕ). i + n) (sym none-fits)))
          same true f later =
              let counts : fitting (b ∷ shape xs) (drop i s) ≡ suc (fitting (shape xs) (drop (i + 1) s)) = ap (fitting (b ∷ shape xs)) (here i at) ∙ rw (itself, f) in
              let on = first-is r s cs (just b p) (line xs g) (line-live xs g l) i at f (quiet i (cs ++ held (line xs g))) in
              let y : i + 1 + fitting (shape xs) (drop (i + 1) s) ≡ i + fitting (b ∷ shape xs) (drop i s) = omega arith in
              (λ q. on ∙ later.0 (omega arith), λ q. on ∙ later.1 (omega arith) ∙ ap (refused 1) y)
  line_reads (num k n ∷ xs) g v l h cs i =
      go (digits-read cs k (line xs g) (line-live xs g l) (line-held xs g h) (shape xs) i (suc n) i (omega arith))
      (line_reads xs g v l h (cs ++ record { label = k; start = i; text = slice s i (i + suc n) } ∷ []) (i + suc n))
    where
      begun : from r s (ahead cs (part k (n_digits (suc n)) ⨾ line xs g)) i
          ≡ from r s (ahead cs (then (rest (record { label = k; start = i; text = slice s i i }) (n_digits (suc n))) (line xs g))) i
      begun =
          part_then cs k (n_digits (suc n)) (line xs g) (line-live xs g l) i
          ∙ part-begins r s cs (line xs g) (line-live xs g l) k (n_digits (suc n)) i
          ∙ ap (λ (t : List ℕ). from r s (ahead cs (then (rest (record { label = k; start = i; text = t }) (n_digits (suc n))) (line xs g))) i) (sym (slice-none s i))

      len : length (shape (num k n ∷ xs)) ≡ suc n + length (shape xs)
      len = zeros-length (suc n) (shape xs)

      go : Digits cs k (line xs g) (line-live xs g l) (line-held xs g h) (shape xs) i (suc n) i
          → Lined (cs ++ record { label = k; start = i; text = slice s i (i + suc n) } ∷ []) xs g (i + suc n) → Lined cs (num k n ∷ xs) g i
      go (inl p) later =
          let y : i + suc n + fitting (shape xs) (drop (i + suc n) s) ≡ i + fitting (zeros (suc n) (shape xs)) (drop i s) = omega (arith, p.0) in (
            λ q. begun ∙ p.1 ∙ later.0 (omega (arith, p.0, len))
                ∙ ap (λ (ps : List (Part L)). from r s (ahead ps g) (over xs (i + suc n)))
                (append_assoc cs (record { label = k; start = i; text = slice s i (i + suc n) } ∷ []) (parts s xs (i + suc n))),
            λ q. begun ∙ p.1 ∙ later.1 (omega (arith, p.0, len)) ∙ ap (refused 1) y,
          )
      go (inr p) later =
          (λ q. absurd (omega (arith, p.1, p.2, len)), λ q. begun ∙ p.3 ∙ ap (refused 1) (ap (λ (m : ℕ). i + m) (sym p.2)))
