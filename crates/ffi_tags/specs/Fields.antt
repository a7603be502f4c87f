-- Which field of a struct is what.
use Rattle.std.specs.Prelude.{false}
use Rattle.grammar.specs.Reading.{Verdict, value, refused}
use Rattle.language.specs.declared.Tag as Language
use Rattle.etag.specs.declared.Tag as Etag
use Rattle.ffi_tags.specs.declared.QzLanguage.{QzLanguage}
use Rattle.ffi_tags.specs.declared.QzTag.{QzTag}

abbrev pub language_fields : Verdict Language.Tag → QzLanguage
language_fields (value v) = record { number = 0; place = 0; parts = v.parts; primary = v.primary_length }
language_fields (refused n p) = record { number = n; place = p; parts = 0; primary = 0 }

abbrev pub etag_fields : Verdict Etag.Tag → QzTag
etag_fields (value v) = record { number = 0; place = 0; weak = v.weak; start = v.start; length = v.length }
etag_fields (refused n p) = record { number = n; place = p; weak = false; start = 0; length = 0 }
