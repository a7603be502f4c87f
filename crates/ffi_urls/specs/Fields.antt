-- Which field of a struct is what.
use Rattle.std.specs.Prelude.{true, false, Option, Some, None}
use Rattle.grammar.specs.Reading.{Verdict, value, refused}
use Rattle.http_url.specs.declared.Span.{Span}
use Rattle.http_url.specs.declared.Url.{Url}
use Rattle.ffi_urls.specs.declared.QzSpan.{QzSpan}
use Rattle.ffi_urls.specs.declared.QzPart.{QzPart}
use Rattle.ffi_urls.specs.declared.QzUrl.{QzUrl}

abbrev pub span_fields : Span → QzSpan
span_fields s = record { start = s.start; length = s.length }

abbrev pub absent : QzPart
absent = record { present = false; start = 0; length = 0 }

abbrev pub part_fields : Option Span → QzPart
part_fields None = absent
part_fields (Some s) = record { present = true; start = s.start; length = s.length }

abbrev pub url_fields : Verdict Url → QzUrl
url_fields (value u) =
    record {
      number = 0;
      place = 0;
      host = span_fields u.host;
      port = u.port;
      path = part_fields u.path;
      query = part_fields u.query;
    }
url_fields (refused n p) =
    record { number = n; place = p; host = record { start = 0; length = 0 }; port = 0; path = absent; query = absent }
