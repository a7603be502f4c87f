-- Document 01's numbers and document 02's values for each case of the answer.
use Rattle.std.specs.Prelude.{ℕ, ◌≡◌, cond, List, [], leb, take, Option, Some, None, Result, Ok, Err}
use Rattle.grammar.specs.Refusals.{OUT_OF_RANGE}
use Rattle.grammar.specs.Reading as G
use Rattle.grammar.specs.Reading.{Verdict}
use Rattle.grammar.specs.helpers.Judge.{header}
use Rattle.octets.specs.Numbers.{length_limit}
use Rattle.octets.specs.Reading.{number_of, place_of}
use Rattle.octets.specs.Tables.{padded}
use Rattle.octets.specs.declared.Refusal.{Refusal}
use Rattle.ranges.specs.declared.Range.{Range}
use Rattle.ranges.specs.declared.Ranges as Table
use Rattle.ranges.specs.Meaning.{Ranges, satisfiable, unsatisfiable}
use Rattle.ranges.specs.Grammar.{element_limit, rules}

-- the answer to s in an entity of n bytes: "An entity length above it is refusal 9, first of all."
abbrev pub reading : ℕ → List ℕ → Verdict Ranges
reading n s = cond (leb n length_limit) (header (rules n s) s) (G.refused OUT_OF_RANGE 0)

abbrev pub verdict : Result (Option Table.Ranges) Refusal → Verdict Ranges
verdict (Ok (Some t)) = G.value (satisfiable t.count (take t.count t.entries))
verdict (Ok None) = G.value unsatisfiable
verdict (Err r) = G.refused (number_of r) (place_of r)

-- "Unused entries of a returned table are zero."
abbrev pub unused : Range
unused = record { first = 0; last = 0 }

abbrev pub filled : List Range → List Range
filled rs = padded unused element_limit rs

-- the table of an answer: where there are no ranges, all of it is unused
abbrev pub entries : Result (Option Table.Ranges) Refusal → List Range
entries (Ok (Some t)) = t.entries
entries (Ok None) = filled []
entries (Err r) = filled []

-- and that of what is asked for
abbrev pub table_of : Verdict Ranges → List Range
table_of (G.value (satisfiable count rs)) = filled rs
table_of (G.value unsatisfiable) = filled []
table_of (G.refused n p) = filled []

-- the whole answer to s
abbrev pub Answered : ℕ → List ℕ → Result (Option Table.Ranges) Refusal → Type 0
Answered n s r = (verdict r ≡ reading n s) × (entries r ≡ table_of (reading n s))
