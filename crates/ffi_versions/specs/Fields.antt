-- Which field of a struct is what.
use Rattle.std.specs.Prelude.{ℕ}
use Rattle.std.specs.declared.cmp.Ordering.{Ordering}
use Rattle.std.specs.declared.cmp.Ordering.TheVariants.{Less, Equal, Greater}
use Rattle.grammar.specs.Reading.{Verdict, value, refused}
use Rattle.grammar.specs.Comparing.{Comparison, outcome, refused_at}
use Rattle.version.specs.declared.Version.{Version}
use Rattle.ffi_versions.specs.declared.QzVersion.{QzVersion}
use Rattle.ffi_versions.specs.declared.QzOrder.{QzOrder}

abbrev pub version_fields : Verdict Version → QzVersion
version_fields (value v) = record { number = 0; place = 0; major = v.major; minor = v.minor }
version_fields (refused n p) = record { number = n; place = p; major = 0; minor = 0 }

abbrev pub order_number : Ordering → ℕ
order_number Less = 0
order_number Equal = 1
order_number Greater = 2

abbrev pub order_fields : Comparison Ordering → QzOrder
order_fields (outcome o) = record { number = 0; place = 0; which = 0; order = order_number o }
order_fields (refused_at w n p) = record { number = n; place = p; which = w; order = 0 }
