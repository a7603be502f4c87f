-- Shapes and tables of names, as the loops of the code walk them.
use Prim.Native.Nat.{ℕ, zero, suc, ◌+◌, ◌*◌, ◌/◌, ◌≤◌, ◌<◌, min}
use native.Mathlib.Omega.{arith}
use native.Mathlib.Numerals.{add-one}
use borrow.Author.Tests.{leb-true, leb-false, ne_eqb, eq-eqb, lt-ltb, le-ltb}
use mathlib.Core.Path.{◌≡◌, refl, sym, ap, ap₂, ◌∙◌}
use mathlib.Core.Bool.{Bool, true, false, cond, ◌&&◌}
use mathlib.Core.List.{List, [], ◌∷◌, ◌++◌}
use lib.Dec.{eqb, leb}
use Rattle.std.specs.Ordering.{nat_cmp, ord_max}
use Rattle.std.proofs.lemmas.Grind.{common_steps}
use lib.ListN.{length, get_or, drop, drop_of_length-le, length-drop}
use lib.Seq.{drop-cons}
use Rattle.grammar.specs.helpers.Scans.{slice}
use Rattle.grammar.proofs.Scans.{slice-none, slice_snoc}
use Rattle.octets.specs.Numbers.{number}
use Rattle.std.specs.Prelude.{Some, None, Ok, Err}
use Rattle.grammar.specs.helpers.Words.{begins}
use Rattle.date.specs.Names.{month_names, first_name}
use Rattle.date.specs.helpers.Scan.{numbered, tail_of, month_then}
use Rattle.grammar.specs.helpers.Words.{larger}
use Rattle.octets.specs.helpers.Shapes.{stands_for, fitting}
use Rattle.date.specs.helpers.Shapes.{longest}

next-drop : (xs : List ℕ) (i : ℕ) → i < length xs → drop i xs ≡ get_or xs i 0 ∷ drop (i + 1) xs
next-drop xs i at = drop-cons xs i 0 at ∙ ap (λ (n : ℕ). get_or xs i 0 ∷ drop n xs) (sym (add-one i))

-- ## Shapes

fit_none : (w : List ℕ) → fitting w [] ≡ 0
fit_none [] = refl
fit_none (a ∷ w) = refl

module _ (w s : List ℕ) (i : ℕ) where
  -- one of them is at its end
  pub fit-out : min (length w) (length s) ≤ i → fitting (drop i w) (drop i s) ≡ 0
  fit-out h = go (leb (length w) i) refl
    where
      go : (t : Bool) → leb (length w) i ≡ t → fitting (drop i w) (drop i s) ≡ 0
      go true e = rw (drop_of_length-le w (leb-true (length w) i e))
      go false e = ap (fitting (drop i w)) (drop_of_length-le s (omega (arith, h, leb-false (length w) i e))) ∙ fit_none (drop i w)

pub fit_bound : (w t : List ℕ) → fitting w t ≤ length w
fit_bound [] t = omega arith
fit_bound (a ∷ w) [] = omega arith
fit_bound (a ∷ w) (b ∷ t) = go (stands_for a b) (fit_bound w t)
  where
    go : (x : Bool) → fitting w t ≤ length w → cond x (suc (fitting w t)) 0 ≤ suc (length w)
    go true h = omega arith
    go false h = omega arith

pub fit-inside : (w t : List ℕ) → fitting w t ≤ length t
fit-inside [] t = omega arith
fit-inside (a ∷ w) [] = omega arith
fit-inside (a ∷ w) (b ∷ t) = go (stands_for a b) (fit-inside w t)
  where
    go : (x : Bool) → fitting w t ≤ length t → cond x (suc (fitting w t)) 0 ≤ suc (length t)
    go true h = omega arith
    go false h = omega arith

-- ## Three bytes

-- the three bytes at n, and then ys
abbrev pub three_at : List ℕ → ℕ → List ℕ → List ℕ
three_at xs n ys = get_or xs n 0 ∷ get_or xs (n + 1) 0 ∷ get_or xs (n + 2) 0 ∷ ys

pub three : (xs : List ℕ) (n : ℕ) → n + 3 ≤ length xs → drop n xs ≡ three_at xs n (drop (n + 3) xs)
three xs n h =
    let a : n + 1 + 1 ≡ n + 2 = omega arith in
    let b : n + 2 + 1 ≡ n + 3 = omega arith in
    next-drop xs n (omega arith)
    ∙ ap (λ (l : List ℕ). get_or xs n 0 ∷ l) (next-drop xs (n + 1) (omega arith))
    ∙ ap (λ (k : ℕ). get_or xs n 0 ∷ get_or xs (n + 1) 0 ∷ drop k xs) a
    ∙ ap (λ (l : List ℕ). get_or xs n 0 ∷ get_or xs (n + 1) 0 ∷ l) (next-drop xs (n + 2) (omega arith))
    ∙ ap (λ (k : ℕ). three_at xs n (drop k xs)) b

few-names : (xs t : List ℕ) (n : ℕ) → length xs < 3 → (first_name n xs t ≡ 0) × (longest xs t ≡ 0)
unfolding first_name
few-names [] t n h = (refl, refl)
few-names (a ∷ []) t n h = (refl, refl)
few-names (a ∷ b ∷ []) t n h = (refl, refl)
few-names (a ∷ b ∷ c ∷ xs) t n h = absurd (omega arith)

and-false : (x : Bool) → x && false ≡ false
and-false true = refl
and-false false = refl

short-begins : (a b c : ℕ) (t : List ℕ) → length t < 3 → begins (a ∷ b ∷ c ∷ []) t ≡ false
short-begins a b c [] h = refl
short-begins a b c (x ∷ []) h = and-false (eqb x a)
short-begins a b c (x ∷ y ∷ []) h = rw (and-false (eqb y b)) (and-false (eqb x a))
short-begins a b c (x ∷ y ∷ z ∷ t) h = absurd (omega arith)

short-name : (xs t : List ℕ) (n : ℕ) → length t < 3 → first_name n xs t ≡ 0
unfolding first_name
short-name [] t n h = refl
short-name (a ∷ []) t n h = refl
short-name (a ∷ b ∷ []) t n h = refl
short-name (a ∷ b ∷ c ∷ xs) t n h = rw (short-begins a b c t h) (short-name xs t (suc n) h)

-- a name's number is at most that of the last name
pub number_bound : (n : ℕ) (xs t : List ℕ) → 3 * first_name (suc n) xs t ≤ 3 * n + length xs
unfolding first_name
number_bound n [] t = omega arith
number_bound n (a ∷ []) t = omega arith
number_bound n (a ∷ b ∷ []) t = omega arith
number_bound n (a ∷ b ∷ c ∷ xs) t = go (begins (a ∷ b ∷ c ∷ []) t) (first_name (suc (suc n)) xs t) (number_bound (suc n) xs t)
  where
    go : (x : Bool) (m : ℕ) → 3 * m ≤ 3 * suc n + length xs → 3 * cond x (suc n) m ≤ 3 * n + length (a ∷ b ∷ c ∷ xs)
    go true m h = omega arith
    go false m h = omega arith

-- ## The search for a name

module _ (names s : List ℕ) (at : ℕ) where
  pub no_name : length (drop at s) < 3 → 0 ≡ first_name 1 names (drop at s)
  no_name h = sym (short-name names (drop at s) 1 h)

  -- the first k names do not agree
  abbrev pub Passed : ℕ → Type 0
  Passed k = (k ≤ length names / 3) × (first_name 1 names (drop at s) ≡ first_name (suc k) (drop (3 * k) names) (drop at s))

  -- the first j bytes of the name behind them agree
  abbrev pub Agrees : ℕ → ℕ → Type 0
  Agrees k j = (i : ℕ) → i < j → get_or s (at + i) 0 ≡ get_or names (3 * k + i) 0

  pub all-passed : (k : ℕ) → Passed k → length names / 3 ≤ k → 0 ≡ first_name 1 names (drop at s)
  all-passed k p h = sym (p.1 ∙ (few-names (drop (3 * k) names) (drop at s) (suc k) (omega (arith, length-drop (3 * k) names))).0)

  module _ (long : at + 3 ≤ length s) (k : ℕ) (low : k < length names / 3) where
    -- the answer, where the name agrees or not
    abbrev answer : Bool → ℕ
    answer x = cond x (suc k) (first_name (suc (suc k)) (drop (3 * k + 3) names) (drop at s))

    here : first_name (suc k) (drop (3 * k) names) (drop at s) ≡ answer (begins (three_at names (3 * k) []) (three_at s at (drop (at + 3) s)))
    unfolding first_name
    here =
        ap (λ (l : List ℕ). first_name (suc k) l (drop at s)) (three names (3 * k) (omega arith))
        ∙ ap (λ (t : List ℕ). answer (begins (three_at names (3 * k) []) t)) (three s at long)

    zero-place : (n : ℕ) → n + 0 ≡ n
    zero-place n = omega arith

    differ : (j : ℕ) → j < 3 → (get_or s (at + j) 0 ≡ get_or names (3 * k + j) 0 → ⊥)
        → begins (three_at names (3 * k) []) (three_at s at (drop (at + 3) s)) ≡ false
    differ zero h e = rw (ne_eqb (get_or s at 0) (get_or names (3 * k) 0) first)
      where
        first : get_or s at 0 ≡ get_or names (3 * k) 0 → ⊥
        first q = e (ap (λ (n : ℕ). get_or s n 0) (zero-place at) ∙ q ∙ ap (λ (n : ℕ). get_or names n 0) (sym (zero-place (3 * k))))
    differ (suc zero) h e = rw (ne_eqb (get_or s (at + 1) 0) (get_or names (3 * k + 1) 0) e) (and-false (eqb (get_or s at 0) (get_or names (3 * k) 0)))
    differ (suc (suc zero)) h e =
        rw (ne_eqb (get_or s (at + 2) 0) (get_or names (3 * k + 2) 0) e, and-false (eqb (get_or s (at + 1) 0) (get_or names (3 * k + 1) 0)))
        (and-false (eqb (get_or s at 0) (get_or names (3 * k) 0)))
    differ (suc (suc (suc j))) h e = absurd (omega arith)

    pub passed-one : Passed k → (j : ℕ) → j < 3 → (get_or s (at + j) 0 ≡ get_or names (3 * k + j) 0 → ⊥) → Passed (k + 1)
    passed-one p j h e =
        let z : 3 * k + 3 ≡ 3 * (k + 1) = omega arith in (
          omega arith,
          p.1 ∙ here ∙ ap answer (differ j h e)
              ∙ ap (λ (n : ℕ). first_name (suc (suc k)) (drop n names) (drop at s)) z
              ∙ ap (λ (n : ℕ). first_name (suc n) (drop (3 * (k + 1)) names) (drop at s)) (sym (add-one k)),
        )

    pub found_here : Passed k → (j : ℕ) → 3 ≤ j → Agrees k j → k + 1 ≡ first_name 1 names (drop at s)
    found_here p j h e = add-one k ∙ sym (p.1 ∙ here ∙ ap answer yes)
      where
        one : get_or s at 0 ≡ get_or names (3 * k) 0
        one = ap (λ (n : ℕ). get_or s n 0) (sym (zero-place at)) ∙ e 0 (omega arith) ∙ ap (λ (n : ℕ). get_or names n 0) (zero-place (3 * k))

        yes : begins (three_at names (3 * k) []) (three_at s at (drop (at + 3) s)) ≡ true
        yes =
            rw (eq-eqb (get_or s at 0) (get_or names (3 * k) 0) one, eq-eqb (get_or s (at + 1) 0) (get_or names (3 * k + 1) 0) (e 1 (omega arith)))
            (rw (eq-eqb (get_or s (at + 2) 0) (get_or names (3 * k + 2) 0) (e 2 (omega arith))))

-- ## The longest beginning of a name

pub larger-none : (m : ℕ) → larger m 0 ≡ m
larger-none zero = refl
larger-none (suc m) = refl

larger-right : (m n : ℕ) → m ≤ n → larger m n ≡ n
larger-right zero n h = refl
larger-right (suc m) zero h = absurd (omega arith)
larger-right (suc m) (suc n) h = ap suc (larger-right m n (omega arith))

larger-left : (m n : ℕ) → n ≤ m → larger m n ≡ m
larger-left zero n h = omega arith
larger-left (suc m) zero h = refl
larger-left (suc m) (suc n) h = ap suc (larger-left m n (omega arith))

pub larger-max : (m n : ℕ) → ord_max nat_cmp m n ≡ larger m n
larger-max m n = grind (arith, common_steps, larger-right, larger-left)

larger_assoc : (a b c : ℕ) → larger (larger a b) c ≡ larger a (larger b c)
larger_assoc zero b c = refl
larger_assoc (suc a) zero c = refl
larger_assoc (suc a) (suc b) zero = refl
larger_assoc (suc a) (suc b) (suc c) = ap suc (larger_assoc a b c)

larger_bound : (m n k : ℕ) → m ≤ k → n ≤ k → larger m n ≤ k
larger_bound zero n k a b = b
larger_bound (suc m) zero k a b = a
larger_bound (suc m) (suc n) zero a b = absurd (omega arith)
larger_bound (suc m) (suc n) (suc k) a b = suc_le (larger_bound m n k (omega arith) (omega arith))
  where
    suc_le : larger m n ≤ k → suc (larger m n) ≤ suc k
    suc_le h = omega arith

pub longest_bound : (names t : List ℕ) → longest names t ≤ 3
longest_bound [] t = omega arith
longest_bound (a ∷ []) t = omega arith
longest_bound (a ∷ b ∷ []) t = omega arith
longest_bound (a ∷ b ∷ c ∷ names) t =
    larger_bound (fitting (a ∷ b ∷ c ∷ []) t) (longest names t) 3 (fit_bound (a ∷ b ∷ c ∷ []) t) (longest_bound names t)

longest_three : (name rest t : List ℕ) → length name ≡ 3 → longest (name ++ rest) t ≡ larger (fitting name t) (longest rest t)
longest_three [] rest t h = absurd (omega (arith, h))
longest_three (a ∷ []) rest t h = absurd (omega (arith, h))
longest_three (a ∷ b ∷ []) rest t h = absurd (omega (arith, h))
longest_three (a ∷ b ∷ c ∷ []) rest t h = refl
longest_three (a ∷ b ∷ c ∷ d ∷ name) rest t h = absurd (omega (arith, h))

-- the rest of a table, behind names of which best is the longest beginning; the longest of all is m
pub longest-end : (rest t : List ℕ) (best m : ℕ) → larger best (longest rest t) ≡ m → length rest < 3 → best ≡ m
longest-end rest t best m inv h = sym (larger-none best) ∙ ap (larger best) (sym (few-names rest t 0 h).1) ∙ inv

pub longest-on : (name rest more t : List ℕ) (best n b m : ℕ) → larger best (longest rest t) ≡ m → rest ≡ name ++ more → length name ≡ 3
    → n ≡ fitting name t → b ≡ ord_max nat_cmp best n → larger b (longest more t) ≡ m
longest-on name rest more t best n b m inv r h e d =
    ap (λ (x : ℕ). larger x (longest more t)) (d ∙ larger-max best n ∙ ap (larger best) e)
    ∙ larger_assoc best (fitting name t) (longest more t)
    ∙ ap (larger best) (sym (longest_three name more t h) ∙ ap (λ (l : List ℕ). longest l t) (sym r))
    ∙ inv

-- ## Numbers

module _ (s : List ℕ) (at : ℕ) where
  pub two-slice : at + 2 ≤ length s → slice s at (at + 2) ≡ get_or s at 0 ∷ get_or s (at + 1) 0 ∷ []
  two-slice h =
      let e : at + 1 + 1 ≡ at + 2 = omega arith in
      ap (slice s at) (sym e) ∙ slice_snoc s at (at + 1) (omega arith) (omega arith)
      ∙ ap (λ (l : List ℕ). l ++ (get_or s (at + 1) 0 ∷ [])) (slice_snoc s at at (omega arith) (omega arith) ∙ ap (λ (l : List ℕ). l ++ (get_or s at 0 ∷ [])) (slice-none s at))

module _ (s : List ℕ) (at : ℕ) where
  pub four-number : at + 4 ≤ length s → (a b : ℕ) → a ≡ number (slice s at (at + 2)) → b ≡ number (slice s (at + 2) (at + 2 + 2))
      → a * 100 + b ≡ number (slice s at (at + 4))
  four-number h a b p q =
      let x = p ∙ ap number (two-slice s at (omega arith)) in
      let y = q ∙ ap number (two-slice s (at + 2) (omega arith)) in
      sum a b x y ∙ sym (ap number four-slice)
    where
      three_on : at + 2 + 1 ≡ at + 3
      three_on = omega arith

      four-on : at + 3 + 1 ≡ at + 4
      four-on = omega arith

      four-slice : slice s at (at + 4) ≡ get_or s at 0 ∷ get_or s (at + 1) 0 ∷ get_or s (at + 2) 0 ∷ get_or s (at + 2 + 1) 0 ∷ []
      four-slice =
          ap (slice s at) (sym four-on) ∙ slice_snoc s at (at + 3) (omega arith) (omega arith)
          ∙ ap (λ (l : List ℕ). l ++ (get_or s (at + 3) 0 ∷ []))
          (ap (slice s at) (sym three_on) ∙ slice_snoc s at (at + 2) (omega arith) (omega arith) ∙ ap (λ (l : List ℕ). l ++ (get_or s (at + 2) 0 ∷ [])) (two-slice s at (omega arith)))
          ∙ ap (λ (n : ℕ). get_or s at 0 ∷ get_or s (at + 1) 0 ∷ get_or s (at + 2) 0 ∷ get_or s n 0 ∷ []) (sym three_on)

      sum : (a b : ℕ) → a ≡ number (get_or s at 0 ∷ get_or s (at + 1) 0 ∷ []) → b ≡ number (get_or s (at + 2) 0 ∷ get_or s (at + 2 + 1) 0 ∷ [])
          → a * 100 + b ≡ number (get_or s at 0 ∷ get_or s (at + 1) 0 ∷ get_or s (at + 2) 0 ∷ get_or s (at + 2 + 1) 0 ∷ [])
      sum a b x y = omega arith

-- ## A month and what follows it

pub numbered-none : (n : ℕ) → None ≡ numbered n → n ≡ 0
numbered-none zero e = refl
numbered-none (suc n) e = absurd (let z : ◌≡◌ {A = ℕ} 0 1 = cc in omega arith)

pub numbered-some : (n k : ℕ) → Some k ≡ numbered n → (k ≡ n) × (k ≡ 0 → ⊥)
numbered-some zero k e = absurd (let z : ◌≡◌ {A = ℕ} 0 1 = cc in omega arith)
numbered-some (suc n) k e = let d : k ≡ suc n = cc in (d, λ z. omega arith)

module _ (w s : List ℕ) (at m n : ℕ) (month : m ≡ first_name 1 month_names (drop at s)) where
  pub no_month : m ≡ 0 → n ≡ longest month_names (drop at s) → Err (at + n) ≡ month_then w s at
  unfolding month_then
  no_month z e =
      ap (λ (k : ℕ). Err (at + k)) e
      ∙ ap (λ (k : ℕ). tail_of s at (length w) k (fitting w (drop (at + 3) s))) (sym z ∙ month)

  module _ (h : m ≡ 0 → ⊥) (fit : n ≡ fitting w (drop (at + 3) s)) where
    found-month : tail_of s at (length w) m n ≡ month_then w s at
    unfolding month_then
    found-month = ap₂ (tail_of s at (length w)) month fit

    pub shape-stops : n < length w → Err (at + 3 + n) ≡ month_then w s at
    shape-stops l =
        let e : tail_of s at (length w) m n ≡ Err (at + 3 + n) = rw (ne_eqb m 0 h, lt-ltb n (length w) l) in
        sym e ∙ found-month

    module _ (l : length w ≤ n) where
      pub text-goes-on : at + 3 + n < length s → Err (at + 3 + n) ≡ month_then w s at
      text-goes-on f =
          let e : tail_of s at (length w) m n ≡ Err (at + 3 + n) = rw (ne_eqb m 0 h, le-ltb n (length w) l, lt-ltb (at + 3 + n) (length s) f) in
          sym e ∙ found-month

      pub month-is : length s ≤ at + 3 + n → Ok m ≡ month_then w s at
      month-is f =
          let e : tail_of s at (length w) m n ≡ Ok m = rw (ne_eqb m 0 h, le-ltb n (length w) l, le-ltb (at + 3 + n) (length s) f) in
          sym e ∙ found-month
