-- Document 01, "Refusal numbers", and those of document 02, by name; the code has the same names in octets.
use Rattle.std.specs.Prelude.{ℕ}

abbrev pub MALFORMED : ℕ
MALFORMED = 1

abbrev pub NUMBER_ABOVE_LIMIT : ℕ
NUMBER_ABOVE_LIMIT = 2

abbrev pub NO_SUCH_DATE : ℕ
NO_SUCH_DATE = 3

abbrev pub WRONG_DAY_NAME : ℕ
WRONG_DAY_NAME = 4

abbrev pub LINE_TOO_LONG : ℕ
LINE_TOO_LONG = 5

abbrev pub TRAILER_TOO_LONG : ℕ
TRAILER_TOO_LONG = 6

abbrev pub BODY_TOO_LARGE : ℕ
BODY_TOO_LARGE = 7

abbrev pub OUTPUT_TOO_SHORT : ℕ
OUTPUT_TOO_SHORT = 8

abbrev pub OUT_OF_RANGE : ℕ
OUT_OF_RANGE = 9

abbrev pub TOO_MANY_PARAMETERS : ℕ
TOO_MANY_PARAMETERS = 10

abbrev pub REPEATED_ATTRIBUTE : ℕ
REPEATED_ATTRIBUTE = 11

abbrev pub COMMENT_TOO_DEEP : ℕ
COMMENT_TOO_DEEP = 12

abbrev pub VALUE_TOO_LONG : ℕ
VALUE_TOO_LONG = 13

abbrev pub FRAMED_TOO_LONG : ℕ
FRAMED_TOO_LONG = 14

abbrev pub FORBIDDEN_FIELD : ℕ
FORBIDDEN_FIELD = 15
