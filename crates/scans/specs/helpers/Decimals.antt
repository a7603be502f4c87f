-- A run of digits under a limit, and under a limit and a cap: what `read_decimal` answers, and what its callers make of it.
use Rattle.std.specs.Prelude.{ℕ, suc, ◌+◌, true, false, cond, List, [], ◌∷◌, length, drop, ◌==◌, nat_lt}
use Rattle.std.proofs.Math.Option.{Option, none, some}
use Rattle.octets.specs.Bytes.{digit?}
use Rattle.octets.specs.Numbers.{grow, number, Capped, capped_number}
use Rattle.scans.specs.declared.Decimal.{Decimal}
use Rattle.scans.specs.declared.Decimal.TheVariants.{Number, Above, Missing}
use Rattle.scans.specs.helpers.Runs.{run, run_end}

abbrev pub later : Option ℕ → Option ℕ
later none = none
later (some k) = some (suc k)

-- how many of the digits s stand before the one with which the number n, s behind it, passes the limit
abbrev pub passing : (limit n : ℕ) → List ℕ → Option ℕ
passing limit n [] = none
passing limit n (b ∷ s) = cond (nat_lt limit (grow n b)) (some 0) (later (passing limit (grow n b) s))

-- the digits from i to e make the number v
abbrev pub number_from : (v i e : ℕ) → Decimal
number_from v i e = cond (e == i) Missing (Number v e)

abbrev pub decimal_of : Option ℕ → ℕ → List ℕ → Decimal
decimal_of none i s = number_from (number s) i (i + length s)
decimal_of (some k) i s = Above (i + k) (i + length s)

-- the run of digits that stands at i in s, under a limit
unfoldable pub decimal_at : ℕ → List ℕ → ℕ → Decimal
decimal_at limit s i = decimal_of (passing limit 0 (run digit? (drop i s))) i (run digit? (drop i s))

-- the run of digits that stands at i in s, under a limit and a cap: its number and the place behind it; none without a digit
abbrev pub capped_at : (limit cap : ℕ) → List ℕ → ℕ → Option (Capped × ℕ)
capped_at limit cap s i =
    cond (run_end digit? s i == i) none (some (capped_number limit cap (number (run digit? (drop i s))), run_end digit? s i))

-- an answer of the reading under a limit, with the cap for a number that passes it
abbrev pub with_cap : (cap : ℕ) → Decimal → Option (Capped × ℕ)
with_cap cap (Number v e) = some (record { value = v; capped = false }, e)
with_cap cap (Above p e) = some (record { value = cap; capped = true }, e)
with_cap cap Missing = none
