-- Runs of bytes that the code passes over at once. Definitions for the contracts of the helpers.
use Rattle.std.specs.Prelude.{◌≡◌, true, false, List, [], ◌∷◌, ℕ, ◌+◌, ◌≤◌, length, take}
use Rattle.text.specs.Placing.{placed}
use Rattle.transition.specs.Moving.{possible}
use Rattle.pieces.specs.Grammar.{FRAMED_LIMIT}
use Rattle.pieces.specs.Reading.{listed, over?, advance, gathered, filled}
use Rattle.pieces.specs.declared.Pieces.{Pieces}

-- the numbers of a state are such as calls lead to
pub record Sound (s : Pieces) : Type 0 where
  pub stands : possible s.room s.position ≡ true
  pub within : s.taken ≤ FRAMED_LIMIT
  pub lists : listed s.refused ≡ true

-- and the body goes on
pub record Going (s : Pieces) (old : List ℕ) : Type 0 where
  pub sound : Sound s
  pub going : over? s ≡ false
  pub lent : length old ≡ s.room

-- r is the state behind the first `count` of the bytes, among which no data is taken
pub record Ran (s : Pieces) (bytes : List ℕ) (r : Pieces) : Type 0 where
  pub count : ℕ
  pub inside : count ≤ length bytes
  pub taken : r.taken ≡ s.taken + count
  pub state : r ≡ advance s (take count bytes)
  pub none : gathered s (take count bytes) ≡ []

-- r is the state, and `new` the output, behind the first `count` of the bytes
pub record Passed (s : Pieces) (bytes old : List ℕ) (r : Pieces) (new : List ℕ) : Type 0 where
  pub count : ℕ
  pub inside : count ≤ length bytes
  pub taken : r.taken ≡ s.taken + count
  pub state : r ≡ advance s (take count bytes)
  pub wrote : new ≡ placed old (filled s.position) (gathered s (take count bytes))

-- the next byte is no data that is taken
abbrev pub Idle : Pieces → Type 0
Idle s = (b : ℕ) → gathered s (b ∷ []) ≡ []
