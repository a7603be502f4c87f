-- The theorems of qvalues: what a customer reads.
use Prim.Native.Nat.{ℕ, ◌≤◌}
use mathlib.Core.Path.{◌≡◌}
use mathlib.Core.Logic.{◌↔◌}
use mathlib.Core.List.{List}
use lib.Dec.{T}
use Rattle.grammar.specs.Reading.{Verdict, value, Answers, reads}
use Rattle.grammar.specs.helpers.Judge.{header}
use Rattle.grammar.proofs.Deterministic.{deterministic?}
use Rattle.grammar.proofs.Demands.{answered_exactly}
use Rattle.octets.specs.Bytes.{digit?}
use Rattle.qvalue.specs.Grammar.{qvalue, largest, rules}
use Rattle.qvalue.proofs.Values.{at_most_one}

one_way : T (deterministic? qvalue)
unfolding digit?
one_way = tt

-- What `read` answers (its promise is `header rules s`): the thousandths of a well-formed text, or the refusal of the row that applies
-- first (13, then 1 behind the longest beginning that some continuation makes well-formed), and nothing else.
pub reading : (s : List ℕ) (v : Verdict ℕ) → (header rules s ≡ v) ↔ Answers rules s v
reading = answered_exactly rules tt tt one_way

-- "Result in thousandths, 0 to 1000."
pub in_range : (s : List ℕ) (q : ℕ) → header rules s ≡ value q → q ≤ largest
in_range s q h = by_parts q ((reading s (value q)).0 h)
  where
    by_parts : (q : ℕ) → Answers rules s (value q) → q ≤ largest
    by_parts q (reads {ps} l p sound f) = at_most_one s ps p
