-- The machine for trailer lines, the closing CR LF left out. Definitions alone.
use Rattle.std.specs.Prelude.{Bool, true, false, cond, List, ℕ, suc, ◌+◌, ◌*◌, eqb}
use Prim.Native.Char.{code}
use Rattle.octets.specs.Bytes.{token?, content?}
use Rattle.framing.specs.Grammar.{forbidden}
use Rattle.framing.specs.helpers.Names.{texts, every, going_on, width, count, staying}
use Rattle.framing.specs.helpers.Scan.{Part}
use Rattle.framing.specs.declared.TrailPos.{TrailPos}

-- ## Lines, whatever their names are
pub data TrailPlace : Type 0 where
  LineStart : TrailPlace
  Name : TrailPlace
  Value : TrailPlace
  Lf : TrailPlace
  Dead : TrailPlace

abbrev pub trail_step : TrailPlace → ℕ → TrailPlace
trail_step LineStart b = cond (token? b) Name Dead
trail_step Name b = cond (token? b) Name (cond (eqb b (code ":")) Value Dead)
trail_step Value b = cond (content? b) Value (cond (eqb b (code "\r")) Lf Dead)
trail_step Lf b = cond (eqb b (code "\n")) LineStart Dead
trail_step Dead b = Dead

abbrev pub trail_live : TrailPlace → Bool
trail_live LineStart = true
trail_live Name = true
trail_live Value = true
trail_live Lf = true
trail_live Dead = false

abbrev pub trail_ends : TrailPlace → Bool
trail_ends LineStart = true
trail_ends Name = false
trail_ends Value = false
trail_ends Lf = false
trail_ends Dead = false

abbrev pub plain : Part TrailPlace
plain = record { begin = LineStart; next = trail_step; ends = trail_ends; alive = trail_live }

-- ## What the body's machine remembers of it
-- in a name how far it agrees with forbidden ones; the place among trailer lines is the plain one

abbrev pub TrailerAt : Type 0
TrailerAt = TrailPos

abbrev pub place : TrailerAt → TrailPlace
place TrailPos.LineStart = LineStart
place (TrailPos.Name c) = Name
place TrailPos.Value = Value
place TrailPos.Forbidden = Value
place TrailPos.Lf = Lf
place TrailPos.Dead = Dead

-- in a name of k bytes, with which those in m agree
abbrev pub in_name : List (List ℕ) → ℕ → ℕ → TrailerAt
in_name names m k = cond (eqb m 0) (TrailPos.Name 0) (TrailPos.Name (m + width names * k))

-- behind a colon, with which those in m agree
abbrev pub place_behind_name : ℕ → TrailerAt
place_behind_name m = cond (eqb m 0) TrailPos.Value TrailPos.Forbidden

abbrev pub in_value : ℕ → TrailerAt
in_value b = cond (content? b) TrailPos.Value (cond (eqb b (code "\r")) TrailPos.Lf TrailPos.Dead)

-- for any list of names
abbrev pub named_step : List (List ℕ) → TrailerAt → ℕ → TrailerAt
named_step names TrailPos.LineStart b = cond (token? b) (in_name names (going_on (texts names) (every names) 0 b) 1) TrailPos.Dead
named_step names (TrailPos.Name c) b =
    cond (token? b) (in_name names (staying names c b) (suc (count names c)))
    (cond (eqb b (code ":")) (place_behind_name (staying names c b)) TrailPos.Dead)
named_step names TrailPos.Value b = in_value b
named_step names TrailPos.Forbidden b = in_value b
named_step names TrailPos.Lf b = cond (eqb b (code "\n")) TrailPos.LineStart TrailPos.Dead
named_step names TrailPos.Dead b = TrailPos.Dead

abbrev pub named : List (List ℕ) → Part TrailerAt
named names = record {
  begin = TrailPos.LineStart;
  next = named_step names;
  ends = λ p. trail_ends (place p);
  alive = λ p. trail_live (place p);
}

abbrev pub trailer : Part TrailerAt
trailer = named forbidden

-- the byte that led there was the colon of a forbidden name
abbrev pub at_forbidden : TrailerAt → Bool
at_forbidden TrailPos.LineStart = false
at_forbidden (TrailPos.Name c) = false
at_forbidden TrailPos.Value = false
at_forbidden TrailPos.Forbidden = true
at_forbidden TrailPos.Lf = false
at_forbidden TrailPos.Dead = false
