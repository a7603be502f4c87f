-- Days counted from the lengths of years and months, against the formulas of the code.
use Prim.Native.Nat.{ℕ, zero, suc, ◌+◌, ◌-◌, ◌*◌, ◌/◌, ◌%◌, ◌≤◌, ◌<◌}
use native.Mathlib.Omega.{arith}
use native.Mathlib.Nat.{pos_of_ne-zero, add-zero}
use borrow.Author.Tests.{eqb-true, eqb-false, leb-true, leb-false, le-leb, lt-leb, ltb-true, ltb-false, lt-ltb, le-ltb}
use mathlib.Core.Path.{◌≡◌, refl, sym, ap, subst, ◌∙◌}
use mathlib.Core.Bool.{Bool, true, false, cond, ◌&&◌, ◌||◌, not}
use mathlib.Core.List.{List, [], ◌∷◌}
use lib.Dec.{T, leb, ltb, eqb, leb→le, eqb→eq}
use lib.ListN.{get_or}
use Rattle.calendar.specs.Gregorian.{leap?, year_length, lengths, days_of_years, days_of_months}
use Rattle.calendar.specs.Instants.{last_within, years_before}

T-left : (a b : Bool) → T (a && b) → T a
T-left true b p = tt
T-left false b p = p

T-right : (a b : Bool) → T (a && b) → T b
T-right true b p = p
T-right false b p = absurd p

pub nonzero : (x : ℕ) → eqb x 0 ≡ false → 0 < x
nonzero x e = pos_of_ne-zero (eqb-false x 0 e)

-- ## Years

-- the days of the first n years, without a count
abbrev pub days_formula : ℕ → ℕ
days_formula n = 365 * n + (n + 1582) / 4 + (n + 1582) / 400 - (n + 1582) / 100 - 383

-- a quotient grows just where the remainder starts again
quotients : (n : ℕ)
    → (0 < (1583 + n) % 4 → (suc n + 1582) / 4 ≡ (n + 1582) / 4) × ((1583 + n) % 4 ≡ 0 → (suc n + 1582) / 4 ≡ (n + 1582) / 4 + 1)
quotients n = (λ h. omega arith, λ h. omega arith)

quotients_100 : (n : ℕ)
    → (0 < (1583 + n) % 100 → (suc n + 1582) / 100 ≡ (n + 1582) / 100) × ((1583 + n) % 100 ≡ 0 → (suc n + 1582) / 100 ≡ (n + 1582) / 100 + 1)
quotients_100 n = (λ h. omega arith, λ h. omega arith)

quotients_400 : (n : ℕ)
    → (0 < (1583 + n) % 400 → (suc n + 1582) / 400 ≡ (n + 1582) / 400) × ((1583 + n) % 400 ≡ 0 → (suc n + 1582) / 400 ≡ (n + 1582) / 400 + 1)
quotients_400 n = (λ h. omega arith, λ h. omega arith)

-- a multiple of 400 is one of 100, and that one of 4
not_100 : (n : ℕ) → 0 < (1583 + n) % 4 → 0 < (1583 + n) % 100
not_100 n h = omega arith

not_400 : (n : ℕ) → 0 < (1583 + n) % 100 → 0 < (1583 + n) % 400
not_400 n h = omega arith

pub enough : (n : ℕ) → (n + 1582) / 100 + 383 ≤ 365 * n + (n + 1582) / 4 + (n + 1582) / 400
enough zero = leb→le (1582 / 100 + 383) (1582 / 4 + 1582 / 400) tt
enough (suc n) = omega arith

-- the sum, over any quotients
sums : (n q h f q' h' f' d : ℕ) → h + 383 ≤ 365 * n + q + f → 365 * suc n + q' + f' + h ≡ d + 365 * n + q + f + h'
    → 365 * n + q + f - h - 383 + d ≡ 365 * suc n + q' + f' - h' - 383
sums n q h f q' h' f' d l e = omega arith

formula_step : (n : ℕ) → days_formula n + year_length (leap? (1583 + n)) ≡ days_formula (suc n)
unfolding leap?
formula_step n = go (eqb ((1583 + n) % 4) 0) (eqb ((1583 + n) % 100) 0) (eqb ((1583 + n) % 400) 0) refl refl refl
  where
    with_days : (d : ℕ)
        → 365 * suc n + (suc n + 1582) / 4 + (suc n + 1582) / 400 + (n + 1582) / 100 ≡ d + 365 * n + (n + 1582) / 4 + (n + 1582) / 400 + (suc n + 1582) / 100
        → days_formula n + d ≡ days_formula (suc n)
    with_days d = sums n ((n + 1582) / 4) ((n + 1582) / 100) ((n + 1582) / 400) ((suc n + 1582) / 4) ((suc n + 1582) / 100) ((suc n + 1582) / 400) d (enough n)

    total : (q h f q' h' f' i j k d : ℕ) → q' ≡ q + i → h' ≡ h + j → f' ≡ f + k → d + j ≡ 365 + i + k
        → 365 * suc n + q' + f' + h ≡ d + 365 * n + q + f + h'
    total q h f q' h' f' i j k d x y z w = omega arith

    with_growth : (i j k d : ℕ) → (suc n + 1582) / 4 ≡ (n + 1582) / 4 + i → (suc n + 1582) / 100 ≡ (n + 1582) / 100 + j
        → (suc n + 1582) / 400 ≡ (n + 1582) / 400 + k → d + j ≡ 365 + i + k → days_formula n + d ≡ days_formula (suc n)
    with_growth i j k d x y z w =
        with_days d (total ((n + 1582) / 4) ((n + 1582) / 100) ((n + 1582) / 400) ((suc n + 1582) / 4) ((suc n + 1582) / 100) ((suc n + 1582) / 400) i j k d x y z w)

    none : (x y : ℕ) → x ≡ y → x ≡ y + 0
    none x y e = omega arith

    no_4 : 0 < (1583 + n) % 4 → (suc n + 1582) / 4 ≡ (n + 1582) / 4 + 0
    no_4 h = none ((suc n + 1582) / 4) ((n + 1582) / 4) ((quotients n).0 h)

    no_100 : 0 < (1583 + n) % 100 → (suc n + 1582) / 100 ≡ (n + 1582) / 100 + 0
    no_100 h = none ((suc n + 1582) / 100) ((n + 1582) / 100) ((quotients_100 n).0 h)

    no_400 : 0 < (1583 + n) % 400 → (suc n + 1582) / 400 ≡ (n + 1582) / 400 + 0
    no_400 h = none ((suc n + 1582) / 400) ((n + 1582) / 400) ((quotients_400 n).0 h)

    go : (a b c : Bool) → eqb ((1583 + n) % 4) 0 ≡ a → eqb ((1583 + n) % 100) 0 ≡ b → eqb ((1583 + n) % 400) 0 ≡ c
        → days_formula n + cond (a && (not b || c)) 366 365 ≡ days_formula (suc n)
    go false b c p q r =
        let x = nonzero ((1583 + n) % 4) p in
        with_growth 0 0 0 365 (no_4 x) (no_100 (not_100 n x)) (no_400 (not_400 n (not_100 n x))) refl
    go true false c p q r =
        let y = nonzero ((1583 + n) % 100) q in
        with_growth 1 0 0 366 ((quotients n).1 (eqb-true ((1583 + n) % 4) 0 p)) (no_100 y) (no_400 (not_400 n y)) refl
    go true true false p q r =
        with_growth 1 1 0 365 ((quotients n).1 (eqb-true ((1583 + n) % 4) 0 p)) ((quotients_100 n).1 (eqb-true ((1583 + n) % 100) 0 q))
        (no_400 (nonzero ((1583 + n) % 400) r)) refl
    go true true true p q r =
        with_growth 1 1 1 366 ((quotients n).1 (eqb-true ((1583 + n) % 4) 0 p)) ((quotients_100 n).1 (eqb-true ((1583 + n) % 100) 0 q))
        ((quotients_400 n).1 (eqb-true ((1583 + n) % 400) 0 r)) refl

pub days_formula-counts : (n : ℕ) → days_of_years n ≡ days_formula n
unfolding days_of_years
days_formula-counts zero = refl
days_formula-counts (suc n) = ap (λ (k : ℕ). k + year_length (leap? (1583 + n))) (days_formula-counts n) ∙ formula_step n

pub days-step : (n : ℕ) → days_of_years n ≤ days_of_years (suc n)
unfolding days_of_years
days-step n = omega arith

-- ## The last of a growing count

module _ (f : ℕ → ℕ) (x k : ℕ) (grows : (i j : ℕ) → i ≤ j → f i ≤ f j) (low : f k ≤ x) (high : x < f (suc k)) where
  pub last-is : (n : ℕ) → k ≤ n → last_within f n x ≡ k
  last-is zero h = omega arith
  last-is (suc n) h = go (leb (suc n) k) refl (last-is n)
    where
      go : (t : Bool) → leb (suc n) k ≡ t → (k ≤ n → last_within f n x ≡ k) → cond (leb (f (suc n)) x) (suc n) (last_within f n x) ≡ k
      go true e r =
          let d : suc n ≡ k = omega (arith, leb-true (suc n) k e) in
          rw (le-leb (f (suc n)) x (rw d low)) d
      go false e r =
          let d : k ≤ n = omega (arith, leb-false (suc n) k e) in
          rw (lt-leb (f (suc n)) x (omega (arith, grows (suc k) (suc n) (omega arith)))) (r d)

pub grows_on : (f : ℕ → ℕ) → ((n : ℕ) → f n ≤ f (suc n)) → (i j : ℕ) → i ≤ j → f i ≤ f j
grows_on f up i j h = climb (j - i) j (omega arith)
  where
    climb : (m j : ℕ) → i + m ≡ j → f i ≤ f j
    climb zero j e =
        let d : i ≡ j = omega arith in
        rw d (omega arith)
    climb (suc m) j e = next (climb m (i + m) refl) (up (i + m))
      where
        next : f i ≤ f (i + m) → f (i + m) ≤ f (suc (i + m)) → f i ≤ f j
        next a b =
            let d : suc (i + m) ≡ j = omega arith in
            omega (arith, ap f d)

-- where k does not pass the test, the last within is looked for below it
pub last-before : (f : ℕ → ℕ) (x k : ℕ) → 0 < k → x < f k → last_within f k x ≡ last_within f (k - 1) x
last-before f x zero h l = absurd (omega arith)
last-before f x (suc k) h l =
    let e : suc k - 1 ≡ k = omega arith in
    rw (lt-leb (f (suc k)) x l, e)

-- ## Years before a day

-- of the hundredth years up to one, at least twelve are not leap years
centuries : (n : ℕ) → (n + 1582) / 400 + 12 ≤ (n + 1582) / 100
centuries n = twelve ((n + 1582) / 100) ((n + 1582) / 400) fifteen quarter
  where
    fifteen : 15 ≤ (n + 1582) / 100
    fifteen = omega arith

    quarter : 4 * ((n + 1582) / 400) ≤ (n + 1582) / 100
    quarter = omega arith

    twelve : (c f : ℕ) → 15 ≤ c → 4 * f ≤ c → f + 12 ≤ c
    twelve c f a b = omega arith

few-days : (n q c f : ℕ) → f + 12 ≤ c → 4 * q ≤ n + 1582 → 4 * (365 * n + q + f - c - 383) ≤ 1461 * n + 2
few-days n q c f h k = omega arith

module _ (d : ℕ) (in_range : d < 3074246) where
  abbrev guess : ℕ
  guess = d * 4 / 1461

  guess_low : days_of_years (d * 4 / 1461) ≤ d
  guess_low = below (d * 4 / 1461) (omega arith)
    where
      fourth : (n : ℕ) → 4 * ((n + 1582) / 4) ≤ n + 1582
      fourth n = omega arith

      below : (n : ℕ) → 1461 * n ≤ d * 4 → days_of_years n ≤ d
      below n h =
          rw (days_formula-counts n)
          (quarter (365 * n + (n + 1582) / 4 + (n + 1582) / 400 - (n + 1582) / 100 - 383)
          (few-days n ((n + 1582) / 4) ((n + 1582) / 100) ((n + 1582) / 400) (centuries n) (fourth n)))
        where
          quarter : (x : ℕ) → 4 * x ≤ 1461 * n + 2 → x ≤ d
          quarter x k = omega arith

  guess_high : d < days_of_years (suc (suc (d * 4 / 1461)))
  guess_high = omega (arith, days_formula-counts (suc (suc (d * 4 / 1461))))

  pub years-next : days_of_years (d * 4 / 1461 + 1) ≤ d → d * 4 / 1461 + 1 ≡ years_before d
  years-next h =
      let e : d * 4 / 1461 + 1 ≡ suc (d * 4 / 1461) = omega arith in
      e ∙ sym (last-is days_of_years d (suc (d * 4 / 1461)) (grows_on days_of_years days-step) (rw e at h) guess_high 8416 (last_year-next (suc (d * 4 / 1461)) (rw e at h)))
    where
      last_year-next : (n : ℕ) → days_of_years n ≤ d → n ≤ 8416
      last_year-next n h = go (leb n 8416) refl
        where
          go : (t : Bool) → leb n 8416 ≡ t → n ≤ 8416
          go true e = leb-true n 8416 e
          go false e = absurd (omega (arith, days_formula-counts 8417, grows_on days_of_years days-step 8417 n (leb-false n 8416 e)))

  pub years-same : d < days_of_years (d * 4 / 1461 + 1) → d * 4 / 1461 ≡ years_before d
  years-same h =
      let e : d * 4 / 1461 + 1 ≡ suc (d * 4 / 1461) = omega arith in
      sym (last-is days_of_years d (d * 4 / 1461) (grows_on days_of_years days-step) guess_low (rw e at h) 8416 (omega arith))

-- ## Months

-- a test that holds of every number below n
abbrev every : ℕ → (ℕ → Bool) → Bool
every zero p = true
every (suc n) p = p n && every n p

every-at : (n : ℕ) (p : ℕ → Bool) → T (every n p) → (k : ℕ) → k < n → T (p k)
every-at zero p t k h = absurd (omega arith)
every-at (suc n) p t k h = go (ltb k n) refl (every-at n p (T-right (p n) (every n p) t) k)
  where
    go : (b : Bool) → ltb k n ≡ b → (k < n → T (p k)) → T (p k)
    go true e r = r (ltb-true k n e)
    go false e r =
        let d : n ≡ k = omega (arith, ltb-false k n e) in
        subst (λ (i : ℕ). T (p i)) d (T-left (p n) (every n p) t)

-- the days before each month of a common year
abbrev pub before : List ℕ
before = 0 ∷ 31 ∷ 59 ∷ 90 ∷ 120 ∷ 151 ∷ 181 ∷ 212 ∷ 243 ∷ 273 ∷ 304 ∷ 334 ∷ []

pub before-counts : (leap : Bool) (k : ℕ) → k < 12 → get_or before k 0 + cond (leap && ltb 1 k) 1 0 ≡ days_of_months leap k
before-counts true k h =
    eqb→eq (get_or before k 0 + cond (ltb 1 k) 1 0) (days_of_months true k)
    (every-at 12 (λ i. eqb (get_or before i 0 + cond (ltb 1 i) 1 0) (days_of_months true i)) tt k h)
before-counts false k h =
    eqb→eq (get_or before k 0 + 0) (days_of_months false k) (every-at 12 (λ i. eqb (get_or before i 0 + 0) (days_of_months false i)) tt k h)

pub lengths-small : (k : ℕ) → k < 12 → get_or lengths k 0 ≤ 31
lengths-small k h = leb→le (get_or lengths k 0) 31 (every-at 12 (λ i. leb (get_or lengths i 0) 31) tt k h)

module _ (leap : Bool) (k : ℕ) (h : k < 12) where
  more-days : (t : Bool) (n : ℕ) → leap && ltb 1 k ≡ t → n ≡ cond t 1 0 → get_or before k 0 + n ≡ days_of_months leap k
  more-days t n e d = ap (λ (x : ℕ). get_or before k 0 + x) (d ∙ ap (λ (u : Bool). cond u 1 0) (sym e)) ∙ before-counts leap k h

  pub before-later : leap ≡ true → 1 < k → get_or before k 0 + 1 ≡ days_of_months leap k
  before-later e l = more-days true 1 (rw (e, lt-ltb 1 k l)) refl

  pub before-early : leap ≡ true → k ≤ 1 → get_or before k 0 ≡ days_of_months leap k
  before-early e l = sym (add-zero (get_or before k 0)) ∙ more-days false 0 (rw (e, le-ltb 1 k l)) refl

  pub before-common : leap ≡ false → get_or before k 0 ≡ days_of_months leap k
  before-common e = sym (add-zero (get_or before k 0)) ∙ more-days false 0 (rw e) refl

-- ## What holds of the last of a count

module _ (f : ℕ → ℕ) (x : ℕ) where
  pub last_bound : (n : ℕ) → last_within f n x ≤ n
  last_bound zero = omega arith
  last_bound (suc n) = go (leb (f (suc n)) x) (last_bound n)
    where
      go : (t : Bool) → last_within f n x ≤ n → cond t (suc n) (last_within f n x) ≤ suc n
      go true r = omega arith
      go false r = omega arith

  pub last_low : f 0 ≤ x → (n : ℕ) → f (last_within f n x) ≤ x
  last_low h zero = h
  last_low h (suc n) = go (leb (f (suc n)) x) refl (last_low h n)
    where
      go : (t : Bool) → leb (f (suc n)) x ≡ t → f (last_within f n x) ≤ x → f (cond t (suc n) (last_within f n x)) ≤ x
      go true e r = leb-true (f (suc n)) x e
      go false e r = r

  pub last_high : (n : ℕ) → x < f (suc n) → x < f (suc (last_within f n x))
  last_high zero h = h
  last_high (suc n) h = go (leb (f (suc n)) x) refl (last_high n)
    where
      go : (t : Bool) → leb (f (suc n)) x ≡ t → (x < f (suc n) → x < f (suc (last_within f n x))) → x < f (suc (cond t (suc n) (last_within f n x)))
      go true e r = h
      go false e r = r (leb-false (f (suc n)) x e)
