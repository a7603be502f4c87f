-- Bodies that are read in pieces, by request (i): those of document 01 with one limit more.
use Rattle.std.specs.Prelude.{ℕ}
use Rattle.grammar.specs.Refusals.{FRAMED_TOO_LONG}
use Rattle.framing.specs.declared.Whole.{Whole}
use Rattle.framing.specs.Grammar.{chunked, limits}
use Rattle.framing.specs.Demand.{Format, capped}

-- "A framed body may have 1,099,511,627,776 bytes"
abbrev pub FRAMED_LIMIT : ℕ
FRAMED_LIMIT = 1099511627776

-- "the byte after that is new refusal 14, last in the order at one byte"
abbrev pub in_pieces : Format Whole
in_pieces = capped FRAMED_TOO_LONG FRAMED_LIMIT (chunked limits)
