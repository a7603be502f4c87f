-- Which field of a struct is what.
use Rattle.std.specs.Prelude.{ℕ, false}
use Rattle.grammar.specs.Reading.{Verdict, value, refused}
use Rattle.delta.specs.declared.Seconds.{Seconds}
use Rattle.ffi_numbers.specs.declared.QzSeconds.{QzSeconds}
use Rattle.ffi_numbers.specs.declared.QzQvalue.{QzQvalue}

abbrev pub seconds_fields : Verdict Seconds → QzSeconds
seconds_fields (value v) = record { number = 0; place = 0; value = v.value; capped = v.capped }
seconds_fields (refused n p) = record { number = n; place = p; value = 0; capped = false }

abbrev pub thousandths_fields : Verdict ℕ → QzQvalue
thousandths_fields (value q) = record { number = 0; place = 0; value = q }
thousandths_fields (refused n p) = record { number = n; place = p; value = 0 }
