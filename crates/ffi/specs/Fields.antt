-- Which field of a struct is what.
use Rattle.std.specs.Prelude.{ℕ, Bool, false}
use Rattle.grammar.specs.Reading.{Verdict, value, refused}
use Rattle.grammar.specs.Comparing.{Comparison, outcome, refused_at}
use Rattle.framing.specs.declared.Whole.{Whole}
use Rattle.framing.specs.Answer as Body
use Rattle.ffi.specs.declared.QzSame.{QzSame}
use Rattle.ffi.specs.declared.QzWritten.{QzWritten}
use Rattle.ffi.specs.declared.QzBody.{QzBody}

abbrev pub same_fields : Comparison Bool → QzSame
same_fields (outcome b) = record { number = 0; place = 0; which = 0; same = b }
same_fields (refused_at w n p) = record { number = n; place = p; which = w; same = false }

abbrev pub written_fields : Verdict ℕ → QzWritten
written_fields (value n) = record { number = 0; place = 0; length = n }
written_fields (refused n p) = record { number = n; place = p; length = 0 }

-- of a body that is not whole nothing is told
abbrev unended : ℕ → ℕ → ℕ → QzBody
unended s n p = record { state = s; number = n; place = p; taken = 0; length = 0; trailer_start = 0; trailer_length = 0 }

abbrev pub body_fields : Body.Answer Whole → QzBody
body_fields (Body.whole w) = record {
  state = 0;
  number = 0;
  place = 0;
  taken = w.taken;
  length = w.length;
  trailer_start = w.trailer_start;
  trailer_length = w.trailer_length;
}
body_fields Body.more = unended 1 0 0
body_fields (Body.refused n p) = unended 2 n p
