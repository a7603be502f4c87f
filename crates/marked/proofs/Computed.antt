-- The marked cases, kind by kind: each is computed.
use mathlib.Core.Path.{refl}
use mathlib.Core.List.{List, [], ◌∷◌, ◌++◌}
use lib.ListN.{take, drop}
use Rattle.grammar.specs.Grammar.{lower}
use Rattle.octets.specs.Bytes.{digit?, letter?, hex?, token?}
use Rattle.calendar.specs.Gregorian.{leap?, days_of_years, date?, time?}
use Rattle.calendar.specs.Instants.{seconds_of}
use Rattle.date.specs.Years.{full_year}
use Rattle.date.specs.Grammar.{fault_of}
use Rattle.http_url.specs.Bytes.{host?, unreserved?, path?, query?}
use Rattle.framing.specs.helpers.Machine.{next_line_pos, line_live, line_ends, leave_line, enter_chunk, step, live, done, past_room}
use Rattle.framing.specs.helpers.Scan.{answer}
use Rattle.framing.specs.Reading.{judge, decode}
use Rattle.marked.specs.Cases.{Case, All, table}

pub versions : All (take 3 table)
unfolding lower digit?
versions = (refl, (refl, (refl, tt)))

pub dates : All (take 4 (drop 3 table))
unfolding digit? leap? days_of_years date? time? seconds_of full_year fault_of
dates = (refl, (refl, (refl, (refl, tt))))

pub qvalues : All (take 2 (drop 7 table))
unfolding digit?
qvalues = (refl, (refl, tt))

pub urls : All (take 1 (drop 9 table))
unfolding lower digit? letter? hex? host? unreserved? path? query?
urls = (refl, tt)

pub bodies : All (drop 10 table)
unfolding digit? hex? token? next_line_pos line_live line_ends leave_line enter_chunk step live done past_room answer judge decode
bodies = (refl, (refl, tt))

pub both : (xs ys : List Case) → All xs → All ys → All (xs ++ ys)
both [] ys p q = q
both (c ∷ xs) ys p q = (p.0, both xs ys p.1 q)
