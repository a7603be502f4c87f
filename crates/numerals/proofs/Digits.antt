-- Laws of digits and their count: how a numeral goes on from that of n / base.
use mathlib.Core.Path.{◌≡◌, refl, sym, ◌∙◌, ap, ap₂, subst}
use mathlib.Core.Bool.{Bool, true, false, cond}
use mathlib.Core.List.{List, [], ◌∷◌, ◌++◌, append_assoc, append-nil}
use Prim.Native.Nat.{ℕ, zero, suc, ◌+◌, ◌-◌, ◌*◌, ◌/◌, ◌%◌, ◌^◌, ◌<◌, ◌≤◌}
use native.Mathlib.Nat.{div-lt_self, div-lt_iff_lt-mul, mod-eq_of_lt, pow-suc, mul-le-mul_left}
use native.Mathlib.Omega.{arith}
use lib.Dec.{ltb, leb}
use lib.ListN.{length, get_or, take, drop, set, length-append, length-drop, drop_of_length-le}
use lib.Seq.{take-suc, take_at, take-take, take_all, drop-cons, set_at, length-take-le, get_or_at, get_or-take}
use borrow.Author.Tests.{lt-ltb, le-ltb, ltb-true, ltb-false, le-leb, lt-leb}
use Rattle.numerals.specs.Numeral.{glyph, digits, width_in, width, numeral, put}

-- by the two cases of a test
pub split : (t : Bool) {P : Type 0} → (t ≡ true → P) → (t ≡ false → P) → P
split true f g = f refl
split false f g = g refl

pub at_true : {A : Type 0} (t : Bool) (x y : A) → t ≡ true → cond t x y ≡ x
at_true t x y e = ap (λ (z : Bool). cond z x y) e

pub at-false : {A : Type 0} (t : Bool) (x y : A) → t ≡ false → cond t x y ≡ y
at-false t x y e = ap (λ (z : Bool). cond z x y) e

-- ## The count
in_small : (f base n : ℕ) → n < base → width_in f base n ≡ 1
unfolding width_in
in_small zero base n h = refl
in_small (suc f) base n h = at_true (ltb n base) 1 (suc (width_in f base (n / base))) (lt-ltb n base h)

in_large : (f base n : ℕ) → base ≤ n → width_in (suc f) base n ≡ suc (width_in f base (n / base))
unfolding width_in
in_large f base n h = at-false (ltb n base) 1 (suc (width_in f base (n / base))) (le-ltb n base h)

pub smaller : (base n : ℕ) → 2 ≤ base → base ≤ n → n / base < n
smaller base n b h = div-lt_self {n = n} {k = base} (omega arith) (omega arith)

steps-enough : (f g base n : ℕ) → 2 ≤ base → n ≤ f → n ≤ g → width_in f base n ≡ width_in g base n
steps-enough zero g base n b hf hg = in_small 0 base n (omega arith) ∙ sym (in_small g base n (omega arith))
steps-enough (suc f) zero base n b hf hg = in_small (suc f) base n (omega arith) ∙ sym (in_small 0 base n (omega arith))
steps-enough (suc f) (suc g) base n b hf hg = split (ltb n base)
    (λ e. in_small (suc f) base n (ltb-true n base e) ∙ sym (in_small (suc g) base n (ltb-true n base e)))
    (λ e. let le : base ≤ n = ltb-false n base e in
    in_large f base n le
    ∙ ap suc (steps-enough f g base (n / base) b (omega (arith, smaller base n b le)) (omega (arith, smaller base n b le)))
    ∙ sym (in_large g base n le))

pub width_small : (base n : ℕ) → n < base → width base n ≡ 1
unfolding width
width_small base n h = in_small n base n h

pub width_large : (base n : ℕ) → 2 ≤ base → base ≤ n → width base n ≡ suc (width base (n / base))
unfolding width
width_large base zero b h = absurd (omega arith)
width_large base (suc n) b h =
    in_large n base (suc n) h
    ∙ ap suc (steps-enough n (suc n / base) base (suc n / base) b (omega (arith, smaller base (suc n) b h)) (omega arith))

pub width_some : (base n : ℕ) → 2 ≤ base → 0 < width base n
width_some base n b = split (ltb n base)
    (λ e. omega (arith, width_small base n (ltb-true n base e)))
    (λ e. omega (arith, width_large base n b (ltb-false n base e)))

-- a number below 2 ^ j has at most j digits
pub width_bound : (j base n : ℕ) → 2 ≤ base → n < 2 ^ suc j → width base n ≤ suc j
width_bound zero base n b h = omega (arith, width_small base n (omega arith))
width_bound (suc j) base n b h = split (ltb n base)
    (λ e. omega (arith, width_small base n (ltb-true n base e)))
    (λ e. let le : base ≤ n = ltb-false n base e in
    let lt : n < 2 ^ suc j * base = omega (arith, pow-suc 2 (suc j), mul-le-mul_left (2 ^ suc j) b) in
    let less = (div-lt_iff_lt-mul {k = base} {x = n} {y = 2 ^ suc j} (omega arith)).1 lt in
    omega (arith, width_large base n b le, width_bound j base (n / base) b less))

-- a number below 10 ^ k has at most k digits
pub width-below : (j n : ℕ) → n < 10 ^ suc j → width 10 n ≤ suc j
width-below zero n h = omega (arith, width_small 10 n (omega arith))
width-below (suc j) n h = split (ltb n 10)
    (λ e. omega (arith, width_small 10 n (ltb-true n 10 e)))
    (λ e. let less : n / 10 < 10 ^ suc j = omega (arith, pow-suc 10 (suc j)) in
    omega (arith, width_large 10 n (omega arith) (ltb-false n 10 e), width-below j (n / 10) less))

-- ## The digits
pub digits-length : (base k n : ℕ) → length (digits base k n) ≡ k
unfolding digits
digits-length base zero n = refl
digits-length base (suc k) n =
    omega (arith, length-append (digits base k (n / base)) (glyph (n % base) ∷ []), digits-length base k (n / base))

digits-suc : (base k n : ℕ) → digits base (suc k) n ≡ digits base k (n / base) ++ (glyph (n % base) ∷ [])
unfolding digits
digits-suc base k n = refl

digits-zero : (base n : ℕ) → digits base 0 n ≡ []
unfolding digits
digits-zero base n = refl

pub numeral-length : (base n : ℕ) → length (numeral base n) ≡ width base n
unfolding numeral
numeral-length base n = digits-length base (width base n) n

pub numeral-small : (base n : ℕ) → n < base → numeral base n ≡ glyph n ∷ []
unfolding numeral
numeral-small base n h =
    ap (λ (k : ℕ). digits base k n) (width_small base n h)
    ∙ digits-suc base 0 n
    ∙ ap (λ (z : List ℕ). z ++ (glyph (n % base) ∷ [])) (digits-zero base (n / base))
    ∙ ap (λ (d : ℕ). glyph d ∷ []) (mod-eq_of_lt {n = n} {m = base} h)

pub numeral_large : (base n : ℕ) → 2 ≤ base → base ≤ n → numeral base n ≡ numeral base (n / base) ++ (glyph (n % base) ∷ [])
unfolding numeral
numeral_large base n b h = ap (λ (k : ℕ). digits base k n) (width_large base n b h) ∙ digits-suc base (width base (n / base)) n

-- from n / base to n
pub by_digits : (base : ℕ) → 2 ≤ base → (P : ℕ → Type 0) → ((n : ℕ) → n < base → P n) → ((n : ℕ) → base ≤ n → P (n / base) → P n) → (n : ℕ)
    → P n
by_digits base b P small large n = go n n (omega arith)
  where
    go : (steps n : ℕ) → n ≤ steps → P n
    go zero n h = small n (omega arith)
    go (suc steps) n h = split (ltb n base) (λ e. small n (ltb-true n base e))
        (λ e. large n (ltb-false n base e) (go steps (n / base) (omega (arith, smaller base n b (ltb-false n base e)))))

-- ## A loop that puts digits from the last one on
-- the digits from place i on are written, and `rest` has those before it
pub record LastDigits (base n : ℕ) (old new : List ℕ) (i rest : ℕ) : Type 0 where
  pub within : i ≤ length old
  pub is : new ≡ take i old ++ drop i (digits base (length old) n)
  pub ahead : take i (digits base (length old) n) ≡ digits base i rest

pub last_none : (base n : ℕ) (old : List ℕ) → LastDigits base n old old (length old) n
last_none base n old = record {
  within = omega arith;
  is = sym (ap₂ (λ (y z : List ℕ). y ++ z) (take_all (length old) old (omega arith))
      (drop_of_length-le (digits base (length old) n) {i = length old} (omega (arith, digits-length base (length old) n)))
      ∙ append-nil old);
  ahead = take_all (length old) (digits base (length old) n) (omega (arith, digits-length base (length old) n));
}

pub last-all : (base n : ℕ) (old new : List ℕ) (i rest : ℕ) → i ≤ 0 → LastDigits base n old new i rest → new ≡ digits base (length old) n
last-all base n old new zero rest e h = h.is
last-all base n old new (suc i) rest e h = absurd (omega arith)

module _ (base n : ℕ) (old new : List ℕ) where
  pub last-length : (i rest : ℕ) → LastDigits base n old new i rest → length new ≡ length old
  last-length i rest h =
      let all : List ℕ = digits base (length old) n in
      omega (
        arith,
        h.within,
        ap length h.is,
        length-append (take i old) (drop i (digits base (length old) n)),
        length-take-le i old h.within,
        length-drop i (digits base (length old) n),
        digits-length base (length old) n,
      )

  last_one : (j rest : ℕ) → LastDigits base n old new (suc j) rest → LastDigits base n old (set new j (glyph (rest % base))) j (rest / base)
  last_one j rest h = record {
    within = omega (arith, h.within);
    is = ap (λ (z : List ℕ). set z j g) (h.is ∙ ap (λ (z : List ℕ). z ++ drop (suc j) all) (take-suc old j 0 h.within)
        ∙ append_assoc (take j old) (get_or old j 0 ∷ []) (drop (suc j) all))
        ∙ set_at (take j old) (get_or old j 0) (drop (suc j) all) g j (length-take-le j old (omega (arith, h.within)))
        ∙ ap (λ (b : ℕ). take j old ++ (b ∷ drop (suc j) all)) (sym last)
        ∙ ap (λ (z : List ℕ). take j old ++ z) (sym (drop-cons all j 0 (omega (arith, h.within, digits-length base (length old) n))));
    ahead = sym (take-take j (suc j) all (omega arith)) ∙ ap (take j) front ∙ take_at before (g ∷ []) j (digits-length base j (rest / base));
  }
    where
      all : List ℕ
      all = digits base (length old) n

      g : ℕ
      g = glyph (rest % base)

      before : List ℕ
      before = digits base j (rest / base)

      front : take (suc j) all ≡ before ++ (g ∷ [])
      front = h.ahead ∙ digits-suc base j rest

      last : get_or all j 0 ≡ g
      last = sym (get_or-take (suc j) all j 0 (omega arith)) ∙ ap (λ (z : List ℕ). get_or z j 0) front
          ∙ get_or_at before g [] 0 j (digits-length base j (rest / base))

  pub last_on : (i rest : ℕ) → 0 < i → LastDigits base n old new i rest
      → LastDigits base n old (set new (i - 1) (glyph (rest % base))) (i - 1) (rest / base)
  last_on zero rest z h = absurd (omega arith)
  last_on (suc j) rest z h =
      let e : j ≡ suc j - 1 = omega arith in
      subst (λ (k : ℕ). LastDigits base n old (set new k (glyph (rest % base))) k (rest / base)) e (last_one j rest h)

-- ## What stands in the lent bytes
pub put-fits : (xs old : List ℕ) → length xs ≤ length old → put xs old ≡ xs ++ drop (length xs) old
unfolding put
put-fits xs old h = at_true (leb (length xs) (length old)) (xs ++ drop (length xs) old) old (le-leb (length xs) (length old) h)

pub put-short : (xs old : List ℕ) → length old < length xs → put xs old ≡ old
unfolding put
put-short xs old h = at-false (leb (length xs) (length old)) (xs ++ drop (length xs) old) old (lt-leb (length xs) (length old) h)

pub glyph-below : (d : ℕ) → d < 10 → glyph d ≡ 48 + d
unfolding glyph
glyph-below d h = at_true (ltb d 10) (48 + d) (65 + (d - 10)) (lt-ltb d 10 h)

pub glyph-above : (d : ℕ) → 10 ≤ d → glyph d ≡ 55 + d
unfolding glyph
glyph-above d h = at-false (ltb d 10) (48 + d) (65 + (d - 10)) (le-ltb d 10 h) ∙ omega arith

-- the digits, put into a part of the lent bytes
pub put-part : (base n k : ℕ) (old part : List ℕ) → k ≡ length (numeral base n) → k ≤ length old
    → part ≡ digits base (length (take k old)) n
    → part ++ drop k old ≡ put (numeral base n) old
unfolding numeral
put-part base n k old part e h p =
    let w : k ≡ width base n = e ∙ digits-length base (width base n) n in
    ap₂ (λ (y : List ℕ) (i : ℕ). y ++ drop i old)
    (p ∙ ap (λ (i : ℕ). digits base i n) (length-take-le k old h ∙ w)) e
    ∙ sym (put-fits (numeral base n) old (omega arith))
