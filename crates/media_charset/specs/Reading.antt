-- Document 01's numbers and values for each case of the answer.
use Rattle.std.specs.Prelude.{Result, Ok, Err}
use Rattle.grammar.specs.Reading as G
use Rattle.grammar.specs.Reading.{Verdict}
use Rattle.octets.specs.declared.Refusal.{Refusal}
use Rattle.octets.specs.Reading.{number_of, place_of}
use Rattle.media_charset.specs.declared.Charset.{Charset}
use Rattle.media_charset.specs.declared.Charset.TheVariants as C
use Rattle.media_charset.specs.Charset.{Effective, stated, latin_1, no_charset}

-- the charset; `charset_text` gives each in bytes
abbrev pub effective : Charset → Effective
effective (C.Stated a n q) = stated a n q
effective C.Latin1 = latin_1
effective C.NotStated = no_charset

abbrev pub charset_verdict : Result Charset Refusal → Verdict Effective
charset_verdict (Ok c) = G.value (effective c)
charset_verdict (Err r) = G.refused (number_of r) (place_of r)
