-- Which field of a struct is what.
use Rattle.std.specs.Prelude.{true, false, List, map}
use Rattle.grammar.specs.Reading.{Verdict, value, refused}
use Rattle.ranges.specs.declared.Range.{Range}
use Rattle.ranges.specs.Meaning.{Ranges, satisfiable, unsatisfiable}
use Rattle.ranges.specs.Reading.{table_of}
use Rattle.ffi_ranges.specs.declared.QzRange.{QzRange}
use Rattle.ffi_ranges.specs.declared.QzRanges.{QzRanges}

abbrev pub range_fields : Range → QzRange
range_fields r = record { first = r.first; last = r.last }

abbrev pub with_table : Verdict Ranges → List QzRange → QzRanges
with_table (value (satisfiable n rs)) entries =
    record { number = 0; place = 0; unsatisfiable = false; count = n; ranges = entries }
with_table (value unsatisfiable) entries =
    record { number = 0; place = 0; unsatisfiable = true; count = 0; ranges = entries }
with_table (refused n p) entries =
    record { number = n; place = p; unsatisfiable = false; count = 0; ranges = entries }

abbrev pub ranges_fields : Verdict Ranges → QzRanges
ranges_fields v = with_table v (map range_fields (table_of v))
