-- The theorems of the writer of qvalues: what a customer reads. What `header rules` answers is the theorem `reading` of qvalue.
use Prim.Native.Nat.{ℕ, ◌≤◌}
use Prim.Native.Char.{code}
use native.Mathlib.Omega.{arith}
use borrow.Author.Tests.{le-ltb}
use mathlib.Core.Path.{◌≡◌, refl, ap, ◌∙◌}
use mathlib.Core.List.{List, [], ◌∷◌}
use lib.Dec.{ltb}
use lib.ListN.{length, take}
use Rattle.grammar.specs.Reading.{value, Answers, reads}
use Rattle.grammar.specs.Text.{bytes}
use Rattle.grammar.specs.helpers.Judge.{header}
use Rattle.octets.specs.Bytes.{digit?}
use Rattle.octets.proofs.Spans.{by_range}
use Rattle.octets.proofs.Writing.{stands_in_front}
use Rattle.qvalue.specs.Grammar.{largest, rules}
use Rattle.qvalue.proofs.Demands.{reading}
use Rattle.qvalue_writer.specs.Writing.{text_length, qvalue_text, qvalue_writing, qvalue_output}
use Rattle.qvalue_writer.proofs.Shortest.{shortest_text}

-- What the writer gives reads back: for each of the 1,001 values.
pub reads-back : (q : ℕ) → q ≤ largest → header rules (qvalue_text q) ≡ value q
unfolding digit? text_length qvalue_text
reads-back q h = by_range (λ q. header rules (qvalue_text q)) value 0 1001 refl q (omega arith) (omega arith)

-- It does so from the lent output: where that holds the text, the answer is the text's length, and that many bytes of the output read as
-- the thousandths, whatever stood there before.
pub reads-back-from : (q : ℕ) (old : List ℕ) → q ≤ largest → length (qvalue_text q) ≤ length old
    → (qvalue_writing q (length old) ≡ value (length (qvalue_text q)))
    × (header rules (take (length (qvalue_text q)) (qvalue_output q old)) ≡ value q)
reads-back-from q old h room =
    let w = stands_in_front (ltb largest q) (qvalue_text q) old (le-ltb largest q h) room in
    (w.0, ap (header rules) w.1 ∙ reads-back q h)

-- "The writer gives the shortest form": no text that is read as q is shorter.
pub shortest : (s : List ℕ) (q : ℕ) → header rules s ≡ value q → length (qvalue_text q) ≤ length s
shortest s q h = by_parts q ((reading s (value q)).0 h)
  where
    by_parts : (q : ℕ) → Answers rules s (value q) → length (qvalue_text q) ≤ length s
    by_parts q (reads {ps} l p sound f) = shortest_text s ps p

-- "500 is `0.5`, 0 is `0`, 1000 is `1`"
pub examples : (qvalue_text 500 ≡ bytes "0.5") × (qvalue_text 0 ≡ code "0" ∷ []) × (qvalue_text 1000 ≡ code "1" ∷ [])
unfolding text_length qvalue_text
examples = (refl, refl, refl)
