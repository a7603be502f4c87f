-- How far a name agrees with those of a list, letter case ignored: the names that agree with it so far, as bits, and how many bytes it
-- has; both in one number. For any list of names.
use Rattle.std.specs.Prelude.{Bool, false, cond, ◌&&◌, List, [], ◌∷◌, ◌++◌, ℕ, zero, suc, ◌+◌, ◌*◌, ◌/◌, ◌%◌, eqb}
use Rattle.grammar.specs.Grammar.{lower}
use Rattle.grammar.specs.Text.{bytes}

abbrev pub small : List ℕ → List ℕ
small [] = []
small (b ∷ f) = lower b ∷ small f

-- a name as it is compared: in small letters, with the colon behind it
unfoldable pub texts : List (List ℕ) → List (List ℕ)
texts [] = []
texts (f ∷ fs) = (small f ++ bytes ":") ∷ texts fs

-- the byte at k is b, letter case ignored
abbrev pub has : List ℕ → ℕ → ℕ → Bool
has [] k b = false
has (c ∷ f) zero b = eqb (lower b) c
has (c ∷ f) (suc k) b = has f k b

abbrev pub odd : ℕ → Bool
odd m = eqb (m % 2) 1

abbrev pub bit : Bool → ℕ
bit x = cond x 1 0

-- every name is still in
abbrev pub every : List (List ℕ) → ℕ
every [] = 0
every (f ∷ fs) = 1 + 2 * every fs

-- those among m that go on with b behind k bytes; the first name is the lowest bit
unfoldable pub going_on : List (List ℕ) → ℕ → ℕ → ℕ → ℕ
going_on [] m k b = 0
going_on (f ∷ fs) m k b = bit (odd m && has f k b) + 2 * going_on fs (m / 2) k b

-- both as one number, the bits lowest
abbrev pub width : List (List ℕ) → ℕ
width names = suc (every names)

abbrev pub bits : List (List ℕ) → ℕ → ℕ
bits names c = c % width names

abbrev pub count : List (List ℕ) → ℕ → ℕ
count names c = c / width names

-- those that go on with b, of the names in such a number
abbrev pub staying : List (List ℕ) → ℕ → ℕ → ℕ
staying names c b = going_on (texts names) (bits names c) (count names c) b
