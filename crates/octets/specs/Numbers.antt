-- Decimal numbers: what digits mean, when a number is above its limit, and what stands for it where it is capped. The largest length.
use Rattle.std.specs.Prelude.{ℕ, ◌+◌, ◌-◌, ◌*◌, Bool, true, false, cond, ◌&&◌, ◌||◌, List, [], ◌∷◌, nat_lt}
use Prim.Native.Char.{code}
use Rattle.std.proofs.Math.Option.{Option, none, some}
use Rattle.grammar.specs.Grammar.{Part}
use Rattle.grammar.specs.Reading.{Limit, above}

-- the number n with the digit b behind it
abbrev pub grow : ℕ → ℕ → ℕ
grow n b = n * 10 + (b - code "0")

-- the number that n makes with the digits s behind it
abbrev pub number_after : ℕ → List ℕ → ℕ
number_after n [] = n
number_after n (b ∷ s) = number_after (grow n b) s

-- the number that digits are; leading zeros are ignored
abbrev pub number : List ℕ → ℕ
number s = number_after 0 s

-- ## Limits on numbers: row 2

-- a part that is a number, as far as it is read, is above the limit
abbrev pub above? : {L : Type 0} → (L → Bool) → ℕ → List (Part L) → Bool
above? number? limit [] = false
above? number? limit (c ∷ ps) = (number? c.label && nat_lt limit (number c.text)) || above? number? limit ps

-- the limit is passed where a number is above it, and so broken by the digit with which the first one is: "the digit that passes it"
abbrev pub number_limit : {L : Type 0} → (L → Bool) → ℕ → ℕ → List (Part L) → Option Limit
number_limit number? limit k ps = cond (above? number? limit ps) (some above) none

-- ## Caps on numbers

-- a number, or the cap that stands for one above its limit; the mark says which
pub record Capped : Type 0 where
  pub value : ℕ
  pub capped : Bool

-- what the number n is under a limit and a cap
abbrev pub capped_number : (limit cap n : ℕ) → Capped
capped_number limit cap n = cond (nat_lt limit n) (record { value = cap; capped = true }) (record { value = n; capped = false })

-- "2^63-1": the largest length of an entity, and the cap of the numbers in byte ranges (document 02, request (iv))
abbrev pub length_limit : ℕ
length_limit = 9223372036854775807
