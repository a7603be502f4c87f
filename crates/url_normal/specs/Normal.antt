-- The normal form of a URL. The words quoted are those of request (x) of document 02: "lower-case scheme and host, no port 80, other ports
-- without leading zeros, `/` for an absent path, unneeded escapes removed, other escapes as they were".
use Rattle.std.specs.Prelude.{ℕ, false, cond, List, [], ◌++◌, eqb, ltb, length}
use Rattle.std.proofs.Math.Option.{Option, none, some}
use Rattle.grammar.specs.Reading.{value_limit, Verdict, value, refused}
use Rattle.grammar.specs.Refusals.{VALUE_TOO_LONG}
use Rattle.grammar.specs.Text.{bytes}
use Rattle.grammar.specs.helpers.Judge.{header}
use Rattle.octets.specs.Writing.{output, writing}
use Rattle.numerals.specs.Numeral.{numeral}
use Rattle.http_url.specs.Grammar.{scheme, default_port}
use Rattle.url_equal.specs.Meaning.{Page, pages}

-- "no port 80, other ports without leading zeros"
abbrev pub port_form : ℕ → List ℕ
port_form n = cond (eqb n default_port) [] (bytes ":" ++ numeral 10 n)

-- an empty query keeps its `?`
abbrev pub query_form : Option (List ℕ) → List ℕ
query_form none = []
query_form (some t) = bytes "?" ++ t

-- What a URL means has its host in lower case, never an absent path, and no escape that is not needed: so its normal form is that, written.
abbrev pub normal : Page → List ℕ
normal p = scheme ++ p.host ++ port_form p.port ++ p.path ++ query_form p.query

-- "A normal form of 8,193 bytes is refusal 13 at 8,192"
abbrev pub within_limit : List ℕ → Verdict (List ℕ)
within_limit t = cond (ltb value_limit (length t)) (refused VALUE_TOO_LONG value_limit) (value t)

-- the refusals of reading come first
abbrev pub of_page : Verdict Page → Verdict (List ℕ)
of_page (value p) = within_limit (normal p)
of_page (refused n p) = refused n p

abbrev pub normal_form : List ℕ → Verdict (List ℕ)
normal_form s = of_page (header pages s)

-- ## The answer in a room, and the lent output afterwards

-- "A short output is refusal 8, after any other."
abbrev pub answer_in_room : Verdict (List ℕ) → ℕ → Verdict ℕ
answer_in_room (value t) room = writing false t room
answer_in_room (refused n p) room = refused n p

abbrev pub output_after : Verdict (List ℕ) → List ℕ → List ℕ
output_after (value t) old = output (writing false t (length old)) t old
output_after (refused n p) old = old

abbrev pub normal_writing : List ℕ → ℕ → Verdict ℕ
normal_writing s room = answer_in_room (normal_form s) room

abbrev pub normal_output : List ℕ → List ℕ → List ℕ
normal_output s old = output_after (normal_form s) old
