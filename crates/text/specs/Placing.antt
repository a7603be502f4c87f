-- Bytes put at a place of lent bytes, where they fit. Definitions alone.
use Rattle.std.specs.Prelude.{ℕ, ◌+◌, Bool, cond, List, ◌++◌, leb, length, take, drop}

abbrev pub fits : List ℕ → ℕ → List ℕ → Bool
fits old at xs = leb (at + length xs) (length old)

-- the lent bytes afterwards: as they were where xs does not fit
unfoldable pub placed : List ℕ → ℕ → List ℕ → List ℕ
placed old at xs = cond (fits old at xs) (take at old ++ (xs ++ drop (at + length xs) old)) old

-- the place behind what was put
unfoldable pub behind : List ℕ → ℕ → List ℕ → ℕ
behind old at xs = cond (fits old at xs) (at + length xs) at
