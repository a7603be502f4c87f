-- Document 01's numbers and values for each case of a comparison: "a refusal says which it was".
use Rattle.std.specs.Prelude.{Result, Ok, Err}
use Rattle.grammar.specs.Comparing.{Comparison, outcome, refused_at}
use Rattle.octets.specs.declared.PairRefusal.{PairRefusal}
use Rattle.octets.specs.declared.PairRefusal.TheVariants.{First, Second}
use Rattle.octets.specs.Reading.{number_of, place_of}

abbrev pub comparison : {T : Type 0} → Result T PairRefusal → Comparison T
comparison (Ok v) = outcome v
comparison (Err (First r)) = refused_at 1 (number_of r) (place_of r)
comparison (Err (Second r)) = refused_at 2 (number_of r) (place_of r)
