-- What writers answer, and what they leave in the lent output.
use Rattle.std.specs.Prelude.{ℕ, Bool, cond, List, ◌++◌, length, drop, nat_lt}
use Rattle.grammar.specs.Reading as G
use Rattle.grammar.specs.Reading.{Verdict}
use Rattle.grammar.specs.Refusals.{OUT_OF_RANGE, OUTPUT_TOO_SHORT}

-- "they write at the front of the output, keep the rest"; a refusal writes nothing
abbrev pub output : Verdict ℕ → List ℕ → List ℕ → List ℕ
output (G.value n) text old = text ++ drop (length text) old
output (G.refused n p) text old = old

-- the answer of a writer of that text in a room: 9 for an argument outside its range, then 8 for a short output, each at place 0
abbrev pub writing : Bool → List ℕ → ℕ → Verdict ℕ
writing outside text room =
    cond outside (G.refused OUT_OF_RANGE 0) (cond (nat_lt room (length text)) (G.refused OUTPUT_TOO_SHORT 0) (G.value (length text)))
