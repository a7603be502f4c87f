-- Decimal numbers under a limit and a cap: whoever caps a number reads all its digits, and what they come to is told by the reading that
-- looks for the limit.
use Rattle.std.proofs.Common.{◌≡◌, ℕ, suc, ◌+◌, ◌<◌, ◌≤◌, Bool, true, false, cond, eqb, ltb, ◌↔◌, List, [], ◌∷◌, length, drop, sym, refl, ap, ◌∙◌, true≢false, arith, ltb-true, le-ltb, lt-ltb, ne_eqb}
use borrow.Author.Tests.{eqb-false}
use mathlib.Core.Option.{Option, none, some}
use Rattle.grammar.specs.helpers.Scans.{slice}
use Rattle.octets.specs.Bytes.{digit?}
use Rattle.octets.specs.Numbers.{grow, number_after, number, Capped, capped_number}
use Rattle.scans.specs.declared.Decimal.TheVariants.{Number, Missing}
use Rattle.scans.specs.helpers.Runs.{run, run_end}
use Rattle.scans.specs.helpers.Decimals.{later, passing, decimal_of, decimal_at, with_cap, capped_at}
use Rattle.scans.proofs.Runs.{run-some, run-slice}

-- ## What a cap means

module _ (limit cap n : ℕ) where
  pub capped-within : n ≤ limit → capped_number limit cap n ≡ record { value = n; capped = false }
  capped-within h = rw (le-ltb limit n h)

  pub capped-beyond : limit < n → capped_number limit cap n ≡ record { value = cap; capped = true }
  capped-beyond h = rw (lt-ltb limit n h)

  -- the mark says that the number is above the limit, and nothing else
  pub capped_exactly : ((capped_number limit cap n).capped ≡ true) ↔ (limit < n)
  capped_exactly = (λ e. go (ltb limit n) refl e, λ h. ap (λ (c : Capped). c.capped) (capped-beyond h))
    where
      told : Bool → Capped
      told x = cond x (record { value = cap; capped = true }) (record { value = n; capped = false })

      go : (x : Bool) → ltb limit n ≡ x → (told x).capped ≡ true → limit < n
      go true f e = ltb-true limit n f
      go false f e = absurd (true≢false (sym e))

-- ## The law, over the limit and the cap

-- digits behind a number do not make it smaller
no_smaller : (n : ℕ) (t : List ℕ) → n ≤ number_after n t
no_smaller n [] = omega arith
no_smaller n (b ∷ t) = omega (arith, no_smaller (grow n b) t)

abbrev passed : Option ℕ → Bool
passed none = false
passed (some k) = true

-- a digit passes the limit just where the number is above it
passes-above : (limit n : ℕ) (t : List ℕ) → ltb limit n ≡ false → ltb limit (number_after n t) ≡ passed (passing limit n t)
passes-above limit n [] e = e
passes-above limit n (b ∷ t) e = go (ltb limit (grow n b)) refl (passes-above limit (grow n b) t)
  where
    still : (o : Option ℕ) → passed o ≡ passed (later o)
    still none = refl
    still (some k) = refl

    go : (x : Bool) → ltb limit (grow n b) ≡ x
        → (ltb limit (grow n b) ≡ false → ltb limit (number_after (grow n b) t) ≡ passed (passing limit (grow n b) t))
        → ltb limit (number_after (grow n b) t) ≡ passed (cond x (some 0) (later (passing limit (grow n b) t)))
    go true f r =
        lt-ltb limit (number_after (grow n b) t) (omega (arith, ltb-true limit (grow n b) f, no_smaller (grow n b) t))
    go false f r = r f ∙ still (passing limit (grow n b) t)

-- What the reading under a limit answers is, with a cap in place of what passes the limit, the number of all the digits under both.
pub caps : (limit cap : ℕ) (s : List ℕ) (i : ℕ) → with_cap cap (decimal_at limit s i) ≡ capped_at limit cap s i
unfolding decimal_at
caps limit cap s i = go (passing limit 0 here) refl
  where
    here : List ℕ
    here = run digit? (drop i s)

    above : ltb limit (number here) ≡ passed (passing limit 0 here)
    above = passes-above limit 0 here (le-ltb limit 0 (omega arith))

    unpassed : (x : Bool) → ltb limit (number here) ≡ false
        → with_cap cap (cond x Missing (Number (number here) (i + length here)))
        ≡ cond x none (some (capped_number limit cap (number here), i + length here))
    unpassed true e = refl
    unpassed false e = rw e

    -- no digit passes a limit where there is none
    digits : (t : List ℕ) (k : ℕ) → passing limit 0 t ≡ some k → eqb (i + length t) i ≡ false
    digits [] k e = let z : ◌≡◌ {A = ℕ} 0 1 = cc in absurd (omega arith)
    digits (b ∷ t) k e = ne_eqb (i + suc (length t)) i (λ f. omega arith)

    go : (o : Option ℕ) → passing limit 0 here ≡ o → with_cap cap (decimal_of o i here) ≡ capped_at limit cap s i
    go none e = unpassed (eqb (i + length here) i) (above ∙ ap passed e)
    go (some k) e = rw (digits here k e, above ∙ ap passed e)

-- What it says of the digits.
module _ (limit cap : ℕ) (s : List ℕ) (i : ℕ) where
  pub record IsCapped (c : Capped) (e : ℕ) : Type 0 where
    pub some : i < e
    pub end : e ≡ run_end digit? s i
    pub is : capped_number limit cap (number (slice s i e)) ≡ c

  pub capped-of : (c : Capped) (e : ℕ) → capped_at limit cap s i ≡ some (c, e) → IsCapped c e
  capped-of c e d = go (eqb (run_end digit? s i) i) refl d
    where
      worth : List ℕ → Capped
      worth t = capped_number limit cap (number t)

      here : List ℕ
      here = run digit? (drop i s)

      answer : Bool → Option (Capped × ℕ)
      answer x = cond x none (some (worth here, run_end digit? s i))

      go : (x : Bool) → eqb (run_end digit? s i) i ≡ x → answer x ≡ some (c, e) → IsCapped c e
      go true f q = let z : ◌≡◌ {A = ℕ} 0 1 = cc in absurd (omega arith)
      go false f q =
          let both : ◌≡◌ {A = Capped × ℕ} (worth here, run_end digit? s i) (c, e) = cc in
          let a : run_end digit? s i ≡ e = ap (λ (x : Capped × ℕ). x.1) both in
          let b : worth here ≡ c = ap (λ (x : Capped × ℕ). x.0) both in
          record {
            some = omega (arith, run-some digit? s i (eqb-false (run_end digit? s i) i f));
            end = sym a;
            is = ap (λ (n : ℕ). worth (slice s i n)) (sym a) ∙ ap worth (run-slice digit? s i) ∙ b;
          }
