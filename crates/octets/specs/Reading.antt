-- Document 01's numbers, places and values for each case of an answer.
use Rattle.std.specs.Prelude.{ℕ, Result, Ok, Err}
use Rattle.grammar.specs.Reading as G
use Rattle.grammar.specs.Reading.{Verdict, value_limit}
use Rattle.grammar.specs.Refusals.{MALFORMED, NUMBER_ABOVE_LIMIT, NO_SUCH_DATE, WRONG_DAY_NAME, LINE_TOO_LONG, TRAILER_TOO_LONG}
use Rattle.grammar.specs.Refusals.{BODY_TOO_LARGE, OUTPUT_TOO_SHORT, OUT_OF_RANGE, TOO_MANY_PARAMETERS, REPEATED_ATTRIBUTE}
use Rattle.grammar.specs.Refusals.{COMMENT_TOO_DEEP, VALUE_TOO_LONG, FRAMED_TOO_LONG, FORBIDDEN_FIELD}
use Rattle.octets.specs.declared.Refusal.{Refusal}
use Rattle.octets.specs.declared.Refusal.TheVariants.{Malformed, NumberAboveLimit, NoSuchDate, WrongDayName, LineTooLong, TrailerTooLong}
use Rattle.octets.specs.declared.Refusal.TheVariants.{BodyTooLarge, OutputTooShort, OutOfRange, TooManyParameters, RepeatedAttribute}
use Rattle.octets.specs.declared.Refusal.TheVariants.{CommentTooDeep, ValueTooLong, FramedTooLong, ForbiddenField}

-- document 01's number of each refusal
abbrev pub number_of : Refusal → ℕ
number_of (Malformed p) = MALFORMED
number_of (NumberAboveLimit p) = NUMBER_ABOVE_LIMIT
number_of NoSuchDate = NO_SUCH_DATE
number_of WrongDayName = WRONG_DAY_NAME
number_of (LineTooLong p) = LINE_TOO_LONG
number_of (TrailerTooLong p) = TRAILER_TOO_LONG
number_of (BodyTooLarge p) = BODY_TOO_LARGE
number_of OutputTooShort = OUTPUT_TOO_SHORT
number_of OutOfRange = OUT_OF_RANGE
number_of (TooManyParameters p) = TOO_MANY_PARAMETERS
number_of (RepeatedAttribute p) = REPEATED_ATTRIBUTE
number_of (CommentTooDeep p) = COMMENT_TOO_DEEP
number_of ValueTooLong = VALUE_TOO_LONG
number_of (FramedTooLong p) = FRAMED_TOO_LONG
number_of (ForbiddenField p) = FORBIDDEN_FIELD

-- and its place
abbrev pub place_of : Refusal → ℕ
place_of (Malformed p) = p
place_of (NumberAboveLimit p) = p
place_of NoSuchDate = 0
place_of WrongDayName = 0
place_of (LineTooLong p) = p
place_of (TrailerTooLong p) = p
place_of (BodyTooLarge p) = p
place_of OutputTooShort = 0
place_of OutOfRange = 0
place_of (TooManyParameters p) = p
place_of (RepeatedAttribute p) = p
place_of (CommentTooDeep p) = p
place_of ValueTooLong = value_limit
place_of (FramedTooLong p) = p
place_of (ForbiddenField p) = p

-- the value, or the refusal's number and place
abbrev pub verdict : {T : Type 0} → Result T Refusal → Verdict T
verdict (Ok v) = G.value v
verdict (Err r) = G.refused (number_of r) (place_of r)
