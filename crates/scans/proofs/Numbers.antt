-- Decimal numbers under a limit, a digit at a time.
use Rattle.std.proofs.Common.{◌≡◌, ℕ, suc, ◌+◌, ◌<◌, ◌≤◌, true, false, ltb, List, ◌∷◌, length, get_or, drop, sym, refl, ap, ◌∙◌, add-one, arith, drop_of_length-le, drop-cons}
use mathlib.Core.Option.{Option, none, some}
use Rattle.octets.specs.Bytes.{digit?}
use Rattle.octets.specs.Numbers.{grow, number_after}
use Rattle.scans.specs.declared.Decimal.{Decimal}
use Rattle.scans.specs.declared.Decimal.TheVariants.{Above}
use Rattle.scans.specs.helpers.Runs.{run, run_end}
use Rattle.scans.specs.helpers.Decimals.{later, passing, number_from, decimal_of, decimal_at}

-- the same with the number n in front, whose digits begin at z
abbrev decimal_with : Option ℕ → ℕ → ℕ → ℕ → List ℕ → Decimal
decimal_with none z n i t = number_from (number_after n t) z (i + length t)
decimal_with (some k) z n i t = Above (i + k) (i + length t)

abbrev pub decimal_from : ℕ → ℕ → ℕ → List ℕ → ℕ → Decimal
decimal_from limit z n s i = decimal_with (passing limit n (run digit? (drop i s))) z n i (run digit? (drop i s))

pub decimal_start : (limit : ℕ) (s : List ℕ) (i : ℕ) → decimal_from limit i 0 s i ≡ decimal_at limit s i
unfolding decimal_at
decimal_start limit s i = go (passing limit 0 (run digit? (drop i s)))
  where
    go : (o : Option ℕ) → decimal_with o i 0 i (run digit? (drop i s)) ≡ decimal_of o i (run digit? (drop i s))
    go none = refl
    go (some k) = refl

-- a place further on
shifted : (o : Option ℕ) (z n i : ℕ) (b : ℕ) (t : List ℕ) → decimal_with (later o) z n i (b ∷ t) ≡ decimal_with o z (grow n b) (i + 1) t
shifted none z n i b t =
    let e : i + suc (length t) ≡ (i + 1) + length t = omega arith in
    ap (number_from (number_after (grow n b) t) z) e
shifted (some k) z n i b t =
    let e : i + suc k ≡ (i + 1) + k = omega arith in
    let f : i + suc (length t) ≡ (i + 1) + length t = omega arith in
    cc

module _ (limit z n : ℕ) (s : List ℕ) (i : ℕ) where
  still : i + 0 ≡ i
  still = omega arith

  pub decimal_out : length s ≤ i → decimal_from limit z n s i ≡ number_from n z i
  decimal_out h = rw (drop_of_length-le s h) (ap (number_from n z) still)

  module _ (at : i < length s) where
    pub decimal_stop : digit? (get_or s i 0) ≡ false → decimal_from limit z n s i ≡ number_from n z i
    decimal_stop e = rw (drop-cons s i 0 at, e) (ap (number_from n z) still)

    module _ (d : digit? (get_or s i 0) ≡ true) where
      pub decimal_above : ltb limit (grow n (get_or s i 0)) ≡ true → decimal_from limit z n s i ≡ Above i (run_end digit? s i)
      decimal_above a =
          rw (drop-cons s i 0 at, d, a) (ap (λ (k : ℕ). Above k (i + suc (length (run digit? (drop (suc i) s))))) (omega arith))

      pub decimal_next : ltb limit (grow n (get_or s i 0)) ≡ false
          → decimal_from limit z (grow n (get_or s i 0)) s (i + 1) ≡ decimal_from limit z n s i
      decimal_next a =
          rw (drop-cons s i 0 at, d, a)
          (ap (λ (k : ℕ). decimal_with (passing limit m (run digit? (drop k s))) z m (i + 1) (run digit? (drop k s))) (add-one i)
          ∙ sym (shifted (passing limit m t) z n i (get_or s i 0) t))
        where
          m : ℕ
          m = grow n (get_or s i 0)

          t : List ℕ
          t = run digit? (drop (suc i) s)
