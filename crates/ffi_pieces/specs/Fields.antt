-- Which field of a struct is what.
use Rattle.std.specs.Prelude.{ℕ, cond, eqb}
use Rattle.grammar.specs.Refusals.{OUT_OF_RANGE}
use Rattle.framing.specs.declared.Whole.{Whole}
use Rattle.framing.specs.Answer.{Answer}
use Rattle.position_numbers.specs.declared.Numbers.{Numbers}
use Rattle.position_numbers.specs.Numbers.{numbers_of, place_of}
use Rattle.pieces.specs.declared.Pieces.{Pieces}
use Rattle.pieces.specs.Reading.{filled}
use Rattle.ffi.specs.Fields.{body_fields}
use Rattle.ffi_pieces.specs.declared.QzPieces.{QzPieces}
use Rattle.ffi_pieces.specs.declared.QzFed.{QzFed}

-- ## A state
abbrev pub pieces_fields : Pieces → QzPieces
pieces_fields s = record {
  position = (numbers_of s.position).position;
  part = (numbers_of s.position).part;
  name = (numbers_of s.position).name;
  size = (numbers_of s.position).size;
  length = (numbers_of s.position).length;
  total = (numbers_of s.position).total;
  taken = s.taken;
  room = s.room;
  refused = s.refused;
}

-- and back
abbrev numbers : QzPieces → Numbers
numbers q = record {
  position = q.position;
  part = q.part;
  name = q.name;
  size = q.size;
  length = q.length;
  total = q.total;
}

abbrev pub pieces_of : QzPieces → Pieces
pieces_of q = record {
  position = place_of (numbers q);
  taken = q.taken;
  room = q.room;
  refused = q.refused;
}

-- ## A call
-- what C keeps for the next one: behind an invalid call, what it handed over
abbrev pub handed : QzPieces → Pieces → ℕ → QzPieces
handed q s n = cond (eqb n OUT_OF_RANGE) q (pieces_fields s)

-- the next state, how many bytes it took, how many bytes of data are written, the answer
abbrev pub fed_fields : QzPieces → Pieces → ℕ → Answer Whole → QzFed
fed_fields q s n a =
    record { pieces = handed q s (body_fields a).number; took = n; written = filled s.position; body = body_fields a }
