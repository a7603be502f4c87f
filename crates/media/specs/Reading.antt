-- Document 01's numbers and values for each case of the answers.
use Rattle.std.specs.Prelude.{ℕ, ◌≡◌, false, List, [], Result, Ok, Err, take}
use Rattle.grammar.specs.Reading as G
use Rattle.grammar.specs.Reading.{Verdict}
use Rattle.grammar.specs.helpers.Judge.{header}
use Rattle.octets.specs.Tables.{padded}
use Rattle.media.specs.declared.Parameter.{Parameter}
use Rattle.media.specs.declared.Media.{Media as MediaRead}
use Rattle.octets.specs.declared.Refusal.{Refusal}
use Rattle.octets.specs.Reading.{number_of, place_of}
use Rattle.media.specs.Grammar.{parameter_limit, Media, rules}

-- the entries of the table that are used
abbrev pub read_already : MediaRead → List Parameter
read_already m = take m.names.count m.parameters

abbrev pub verdict : Result MediaRead Refusal → Verdict Media
verdict (Ok m) = G.value (record { names = m.names; table = read_already m })
verdict (Err r) = G.refused (number_of r) (place_of r)

-- "Unused entries of a returned table are zero."
abbrev pub unused : Parameter
unused = record { start = 0; length = 0; value_start = 0; value_length = 0; quoted = false }

abbrev pub filled : List Parameter → List Parameter
filled ps = padded unused parameter_limit ps

-- the table beside an answer: all of it is unused where the input was refused
abbrev pub table_of : Verdict Media → List Parameter
table_of (G.value m) = filled m.table
table_of (G.refused n p) = filled []

-- the table of an answer; of a refusal, the one that stands beside it for C
abbrev pub table_in : Result MediaRead Refusal → List Parameter
table_in (Ok m) = m.parameters
table_in (Err r) = filled []

-- the whole answer to s
abbrev pub Answered : List ℕ → Result MediaRead Refusal → Type 0
Answered s r = (verdict r ≡ header rules s) × (table_in r ≡ table_of (header rules s))
