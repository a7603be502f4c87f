-- The order of versions; the versions that have names.
use Rattle.std.specs.Prelude.{ℕ, cond, ltb}
use Rattle.std.specs.declared.cmp.Ordering.{Ordering}
use Rattle.std.specs.declared.cmp.Ordering.TheVariants.{Less, Equal, Greater}
use Rattle.version.specs.declared.Version.{Version}

-- by major, then minor, as numbers
abbrev pub precedence : Version → Version → Ordering
precedence v w =
    cond (ltb v.major w.major) Less (cond (ltb w.major v.major) Greater
    (cond (ltb v.minor w.minor) Less (cond (ltb w.minor v.minor) Greater Equal)))

-- "Version 1.1 and version 1.0 are named constants of the version itself": what the constants are
abbrev pub numbered : ℕ → ℕ → Version
numbered a b = record { major = a; minor = b }

abbrev pub http_1_1 : Version
http_1_1 = numbered 1 1

abbrev pub http_1_0 : Version
http_1_0 = numbered 1 0
