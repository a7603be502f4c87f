-- Which field of a struct is what.
use Rattle.std.specs.Prelude.{pos}
use Rattle.grammar.specs.Reading.{Verdict, value, refused}
use Rattle.date.specs.declared.Date.{Date}
use Rattle.ffi_dates.specs.declared.QzDate.{QzDate}

abbrev pub date_fields : Verdict Date → QzDate
date_fields (value d) =
    let f = d.fields in
    record {
      number = 0;
      place = 0;
      seconds = d.seconds;
      year = f.year;
      month = f.month;
      day = f.day;
      hour = f.hour;
      minute = f.minute;
      second = f.second;
    }
date_fields (refused n p) =
    record { number = n; place = p; seconds = pos 0; year = 0; month = 0; day = 0; hour = 0; minute = 0; second = 0 }
