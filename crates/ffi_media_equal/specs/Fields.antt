-- Which field of a struct is what.
use Rattle.std.specs.Prelude.{ℕ, Bool, false}
use Rattle.grammar.specs.Reading.{Verdict, value, refused}
use Rattle.media_charset.specs.Charset.{Effective, stated, latin_1, no_charset}
use Rattle.ffi_media_equal.specs.declared.QzCharset.{QzCharset}

abbrev pub charset_read : (kind start length : ℕ) (quoted : Bool) → QzCharset
charset_read kind start length quoted =
    record { number = 0; place = 0; kind = kind; start = start; length = length; quoted = quoted }

abbrev pub charset_fields : Verdict Effective → QzCharset
charset_fields (value no_charset) = charset_read 0 0 0 false
charset_fields (value (stated start size quoted)) = charset_read 1 start size quoted
charset_fields (value latin_1) = charset_read 2 0 0 false
charset_fields (refused n p) = record { number = n; place = p; kind = 0; start = 0; length = 0; quoted = false }
