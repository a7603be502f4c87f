-- Bytes at a place, and bytes that are put one behind the other.
use mathlib.Core.Path.{◌≡◌, sym, ◌∙◌, ap, ap₂}
use mathlib.Core.List.{List, [], ◌++◌, append_assoc, append-nil}
use Prim.Native.Nat.{ℕ, ◌+◌, ◌-◌, ◌<◌, ◌≤◌}
use native.Mathlib.Omega.{arith}
use lib.Dec.{leb}
use lib.ListN.{length, take, drop, length-append, length-drop, drop_of_length-le, take-append-drop}
use lib.Seq.{take_at, take_all, drop-drop, drop-append-add, length-take-le}
use borrow.Author.Tests.{le-leb, lt-leb, leb-true, leb-false}
use Rattle.numerals.specs.Numeral as Numeral
use Rattle.numerals.proofs.Digits.{split, at_true, at-false, put-fits, put-short}
use Rattle.copying.proofs.Runs.{put_all}
use Rattle.text.specs.Placing.{placed, behind}

module _ (old : List ℕ) (at : ℕ) (xs : List ℕ) where
  pub placed-fits : at + length xs ≤ length old → placed old at xs ≡ take at old ++ (xs ++ drop (at + length xs) old)
  unfolding placed
  placed-fits h =
      at_true (leb (at + length xs) (length old)) (take at old ++ (xs ++ drop (at + length xs) old)) old
      (le-leb (at + length xs) (length old) h)

  pub placed-short : length old < at + length xs → placed old at xs ≡ old
  unfolding placed
  placed-short h =
      at-false (leb (at + length xs) (length old)) (take at old ++ (xs ++ drop (at + length xs) old)) old
      (lt-leb (at + length xs) (length old) h)

  pub behind-fits : at + length xs ≤ length old → behind old at xs ≡ at + length xs
  unfolding behind
  behind-fits h = at_true (leb (at + length xs) (length old)) (at + length xs) at (le-leb (at + length xs) (length old) h)

  pub behind-short : length old < at + length xs → behind old at xs ≡ at
  unfolding behind
  behind-short h = at-false (leb (at + length xs) (length old)) (at + length xs) at (lt-leb (at + length xs) (length old) h)

  pub placed-length : length (placed old at xs) ≡ length old
  placed-length = split (leb (at + length xs) (length old))
      (λ e. let h : at + length xs ≤ length old = leb-true (at + length xs) (length old) e in
      ap length (placed-fits h)
      ∙ omega (
        arith,
        length-append (take at old) (xs ++ drop (at + length xs) old),
        length-append xs (drop (at + length xs) old),
        length-take-le at old (omega arith),
        length-drop (at + length xs) old,
      ))
      (λ e. ap length (placed-short (leb-false (at + length xs) (length old) e)))

  -- what has to be shown where xs does not fit
  pub puts_nothing : length old < at + length xs → (at ≡ behind old at xs) × (old ≡ placed old at xs)
  puts_nothing h = (sym (behind-short h), sym (placed-short h))

  -- and where it does: a part of its length was lent, and xs is there now
  pub puts_all : (part : List ℕ) (e : ℕ) → at + length xs ≤ length old → e ≡ at + length xs → part ≡ xs
      → (e ≡ behind old at xs) × (take at old ++ (part ++ drop (e - at) (drop at old)) ≡ placed old at xs)
  puts_all part e h n p =
      let k : at + (e - at) ≡ at + length xs = omega arith in (
        n ∙ sym (behind-fits h),
        ap₂ (λ (y z : List ℕ). take at old ++ (y ++ z)) p (drop-drop (e - at) at old ∙ ap (λ (i : ℕ). drop i old) k) ∙ sym (placed-fits h),
      )

  -- or was put there
  pub puts_part : (part : List ℕ) (e : ℕ) → at + length xs ≤ length old → e ≡ at + length xs
      → part ≡ Numeral.put xs (take (e - at) (drop at old))
      → (e ≡ behind old at xs) × (take at old ++ (part ++ drop (e - at) (drop at old)) ≡ placed old at xs)
  puts_part part e h n p =
      let l : length (take (e - at) (drop at old)) ≡ length xs =
      length-take-le (e - at) (drop at old) (omega (arith, length-drop at old)) ∙ omega arith in
      puts_all part e h n (p ∙ put_all (take (e - at) (drop at old)) xs l)

-- what is put behind what was put is put together with it
pub placed-placed : (old : List ℕ) (at : ℕ) (xs : List ℕ) (p : ℕ) (ys : List ℕ) → at + (length xs + length ys) ≤ length old
    → p ≡ at + length xs
    → placed (placed old at xs) p ys ≡ placed old at (xs ++ ys)
placed-placed old at xs p ys h e =
    let n : length (placed old at xs) ≡ length old = placed-length old at xs in
    let both : at + length xs + length ys ≡ at + length (xs ++ ys) = omega (arith, length-append xs ys) in
    placed-fits (placed old at xs) p ys (omega arith)
    ∙ ap (λ (z : List ℕ). take p z ++ (ys ++ drop (p + length ys) z)) (placed-fits old at xs (omega arith) ∙ sym (append_assoc (take at old) xs rest))
    ∙ ap₂ (λ (y z : List ℕ). y ++ (ys ++ z)) (take_at begun rest p reach)
    (ap (λ (i : ℕ). drop (i + length ys) (begun ++ rest)) (sym reach) ∙ drop-append-add begun rest (length ys) ∙ drop-drop (length ys) (at + length xs) old)
    ∙ append_assoc (take at old) xs (ys ++ drop (at + length xs + length ys) old)
    ∙ ap (λ (z : List ℕ). take at old ++ z) (sym (append_assoc xs ys (drop (at + length xs + length ys) old)))
    ∙ ap (λ (i : ℕ). take at old ++ ((xs ++ ys) ++ drop i old)) both
    ∙ sym (placed-fits old at (xs ++ ys) (omega (arith, length-append xs ys)))
  where
    rest : List ℕ
    rest = drop (at + length xs) old

    begun : List ℕ
    begun = take at old ++ xs

    reach : length begun ≡ p
    reach = omega (arith, length-append (take at old) xs, length-take-le at old (omega arith))

-- a number put at the front of the part from `at` on
pub puts_front : (old part : List ℕ) (at : ℕ) (xs : List ℕ) → at ≤ length old → part ≡ Numeral.put xs (take (length old - at) (drop at old))
    → take at old ++ (part ++ drop (length old - at) (drop at old)) ≡ placed old at xs
puts_front old part at xs h e = ap₂ (λ (y z : List ℕ). take at old ++ (y ++ z)) (e ∙ ap (Numeral.put xs) all) none
    ∙ ap (λ (z : List ℕ). take at old ++ z) (append-nil (Numeral.put xs (drop at old)))
    ∙ split (leb (at + length xs) (length old))
    (λ t. let k : at + length xs ≤ length old = leb-true (at + length xs) (length old) t in
    ap (λ (z : List ℕ). take at old ++ z)
    (put-fits xs (drop at old) (omega (arith, length-drop at old)) ∙ ap (λ (z : List ℕ). xs ++ z) (drop-drop (length xs) at old))
    ∙ sym (placed-fits old at xs k))
    (λ t. let k : length old < at + length xs = leb-false (at + length xs) (length old) t in
    ap (λ (z : List ℕ). take at old ++ z) (put-short xs (drop at old) (omega (arith, length-drop at old))) ∙ take-append-drop at old
    ∙ sym (placed-short old at xs k))
  where
    all : take (length old - at) (drop at old) ≡ drop at old
    all = take_all (length old - at) (drop at old) (omega (arith, length-drop at old))

    none : drop (length old - at) (drop at old) ≡ []
    none = drop_of_length-le (drop at old) {i = length old - at} (omega (arith, length-drop at old))

-- at the front
pub placed-front : (old xs : List ℕ) → length xs ≤ length old → placed old 0 xs ≡ xs ++ drop (length xs) old
placed-front old xs h = placed-fits old 0 xs (omega arith) ∙ ap (λ (n : ℕ). xs ++ drop n old) nought
  where
    nought : 0 + length xs ≡ length xs
    nought = omega arith

-- ## Several, one behind the other
-- xs is put at `at`, all in all, and p is behind it
pub record Put (old : List ℕ) (at : ℕ) (xs new : List ℕ) (p : ℕ) : Type 0 where
  pub fits : at + length xs ≤ length old
  pub is : new ≡ placed old at xs
  pub ends : p ≡ at + length xs

pub put-none : (old : List ℕ) (at : ℕ) → at ≤ length old → Put old at [] old at
put-none old at h = record {
  fits = omega arith;
  is = sym (placed-fits old at [] (omega arith) ∙ ap (λ (i : ℕ). take at old ++ drop i old) nought ∙ take-append-drop at old);
  ends = sym nought;
}
  where
    nought : at + 0 ≡ at
    nought = omega arith

pub put_then : (old : List ℕ) (at : ℕ) (xs new : List ℕ) (p : ℕ) (ys new' : List ℕ) (p' : ℕ) → Put old at xs new p
    → at + (length xs + length ys) ≤ length old → p' ≡ behind new p ys → new' ≡ placed new p ys → Put old at (xs ++ ys) new' p'
put_then old at xs new p ys new' p' h l e w =
    let n : length (xs ++ ys) ≡ length xs + length ys = length-append xs ys in
    let k : length new ≡ length old = ap length h.is ∙ placed-length old at xs in
    record {
      fits = omega arith;
      is = w ∙ ap (λ (z : List ℕ). placed z p ys) h.is ∙ placed-placed old at xs p ys l h.ends;
      ends = e ∙ behind-fits new p ys (omega (arith, h.ends)) ∙ omega (arith, h.ends);
    }

-- nothing put, and two texts put one behind the other, as one text that fits
module _ (old : List ℕ) (at : ℕ) (xs : List ℕ) (h : at + length xs ≤ length old) where
  pub puts_none : xs ≡ [] → (at ≡ behind old at xs) × (old ≡ placed old at xs)
  puts_none e =
      let w = put-none old at (omega arith) in
      (w.ends ∙ ap (λ (l : List ℕ). at + length l) (sym e) ∙ sym (behind-fits old at xs h), w.is ∙ ap (placed old at) (sym e))

  pub puts_two : (ys l₁ zs l₂ : List ℕ) (p₁ p₂ : ℕ) → xs ≡ ys ++ zs → p₁ ≡ behind old at ys → l₁ ≡ placed old at ys
      → p₂ ≡ behind l₁ p₁ zs → l₂ ≡ placed l₁ p₁ zs → (p₂ ≡ behind old at xs) × (l₂ ≡ placed old at xs)
  puts_two ys l₁ zs l₂ p₁ p₂ e e₁ w₁ e₂ w₂ =
      let n : length xs ≡ length ys + length zs = ap length e ∙ length-append ys zs in
      let one = put_then old at [] old at ys l₁ p₁ (put-none old at (omega arith)) (omega arith) e₁ w₁ in
      let two = put_then old at ys l₁ p₁ zs l₂ p₂ one (omega arith) e₂ w₂ in
      (two.ends ∙ ap (λ (l : List ℕ). at + length l) (sym e) ∙ sym (behind-fits old at xs h), two.is ∙ ap (placed old at) (sym e))

-- at the front, where the whole fits
pub front_fits : (xs ys old : List ℕ) → length (xs ++ ys) ≤ length old → length xs ≤ length old
front_fits xs ys old h = omega (arith, length-append xs ys)

pub front-then : (old xs new : List ℕ) (p : ℕ) (ys new' : List ℕ) (p' : ℕ) → Put old 0 xs new p → length (xs ++ ys) ≤ length old
    → p' ≡ behind new p ys → new' ≡ placed new p ys → Put old 0 (xs ++ ys) new' p'
front-then old xs new p ys new' p' h l = put_then old 0 xs new p ys new' p' h (omega (arith, length-append xs ys))

-- what comes next fits as well
pub room-behind : (old xs new : List ℕ) (p : ℕ) (ys : List ℕ) → Put old 0 xs new p → length (xs ++ ys) ≤ length old → p + length ys ≤ length new
room-behind old xs new p ys h l = omega (arith, h.ends, ap length h.is, placed-length old 0 xs, length-append xs ys)

-- what a number put there has to show, where it fits and where it does not
module _ (old part : List ℕ) (at k : ℕ) (xs : List ℕ) (h : at ≤ length old) (n : k ≡ length xs)
    (e : part ≡ Numeral.put xs (take (length old - at) (drop at old))) where
  pub number_short : length old - at < k
      → (at ≡ behind old at xs) × (take at old ++ (part ++ drop (length old - at) (drop at old)) ≡ placed old at xs)
  number_short l = (sym (behind-short old at xs (omega arith)), puts_front old part at xs h e)

  pub number_fits : k ≤ length old - at
      → (at + k ≡ behind old at xs) × (take at old ++ (part ++ drop (length old - at) (drop at old)) ≡ placed old at xs)
  number_fits l = (ap (λ (i : ℕ). at + i) n ∙ sym (behind-fits old at xs (omega arith)), puts_front old part at xs h e)
