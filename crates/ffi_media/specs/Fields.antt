-- Which field of a struct is what.
use Rattle.std.specs.Prelude.{List, map}
use Rattle.grammar.specs.Reading.{Verdict, value, refused}
use Rattle.media.specs.declared.Parameter.{Parameter}
use Rattle.media.specs.Grammar.{Media}
use Rattle.media.specs.Reading.{table_of}
use Rattle.ffi_media.specs.declared.QzParameter.{QzParameter}
use Rattle.ffi_media.specs.declared.QzMedia.{QzMedia}

abbrev pub parameter_fields : Parameter → QzParameter
parameter_fields p = record {
  start = p.start;
  length = p.length;
  value_start = p.value_start;
  value_length = p.value_length;
  quoted = p.quoted;
}

abbrev pub with_table : Verdict Media → List QzParameter → QzMedia
with_table (value m) entries =
    let n = m.names in
    record {
      number = 0;
      place = 0;
      type_start = n.type_start;
      type_length = n.type_length;
      subtype_start = n.subtype_start;
      subtype_length = n.subtype_length;
      count = n.count;
      parameters = entries;
    }
with_table (refused n p) entries =
    record {
      number = n;
      place = p;
      type_start = 0;
      type_length = 0;
      subtype_start = 0;
      subtype_length = 0;
      count = 0;
      parameters = entries;
    }

abbrev pub media_fields : Verdict Media → QzMedia
media_fields v = with_table v (map parameter_fields (table_of v))
