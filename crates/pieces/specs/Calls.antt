-- Calls one after the other, each on the state that the one before left. Definitions alone.
use Rattle.std.specs.Prelude.{not, ◌&&◌, cond, List, [], ◌∷◌, ◌++◌, ℕ, zero, suc, ◌+◌, eqb, length, take, drop}
use Rattle.pieces.specs.declared.Pieces.{Pieces}
use Rattle.pieces.specs.Reading.{state_after, taken_by, output_after}

-- `len` is the length of the output that is lent
pub record Call : Type 0 where
  pub piece : List ℕ
  pub quota : ℕ
  pub len : ℕ

-- the state behind the calls
unfoldable pub after : Pieces → List Call → Pieces
after s [] = s
after s (c ∷ cs) = after (state_after s c.piece c.quota c.len) cs

-- the output behind them, which is "as the last call left it"; a call with another length is lent another output
unfoldable pub output : Pieces → List Call → List ℕ → List ℕ
output s [] old = old
output s (c ∷ cs) old =
    output (state_after s c.piece c.quota c.len) cs
    (cond (eqb c.len (length old)) (output_after s c.piece c.quota old) old)

-- what they took
unfoldable pub taken_in : Pieces → List Call → ℕ
taken_in s [] = 0
taken_in s (c ∷ cs) = taken_by s c.piece c.quota c.len + taken_in (state_after s c.piece c.quota c.len) cs

-- the bytes that they offer: of each piece as many as its quota; none where the call is refusal 9
abbrev pub offer : ℕ → Call → List ℕ
offer room c = cond (not (eqb c.quota 0) && eqb c.len room) (take c.quota c.piece) []

unfoldable pub offers : ℕ → List Call → List ℕ
offers room [] = []
offers room (c ∷ cs) = offer room c ++ offers room cs

-- "its input is all bytes taken so far and the refused byte, if it met one": how many these are, in each state
abbrev pub met : Pieces → ℕ
met s = cond (eqb s.refused 0) s.taken (suc s.taken)

-- the state behind k calls with that quota, each of which gets all the bytes that still wait
unfoldable pub waiting : ℕ → ℕ → Pieces → List ℕ → Pieces
waiting quota zero s xs = s
waiting quota (suc k) s xs = waiting quota k (state_after s xs quota s.room) (drop (taken_by s xs quota s.room) xs)
