-- What a call on a state gives, and which bytes it writes: definitions that compute, by steps of one byte each.
-- `demands` in proofs/Demands.antt shows what these come to over the grammar, for every sequence of calls.
use Rattle.std.specs.Prelude.{Bool, true, false, not, ◌&&◌, cond, List, [], ◌∷◌, ℕ, suc, ◌-◌, eqb, leb, length, take}
use Rattle.std.proofs.Math.Option.{Option, none, some}
use Rattle.grammar.specs.Refusals.{OUT_OF_RANGE, MALFORMED, LINE_TOO_LONG, TRAILER_TOO_LONG, BODY_TOO_LARGE}
use Rattle.grammar.specs.Refusals.{FORBIDDEN_FIELD, FRAMED_TOO_LONG}
use Rattle.text.specs.Placing.{placed}
use Rattle.framing.specs.Answer.{Answer, whole, more, refused}
use Rattle.framing.specs.declared.Whole.{Whole}
use Rattle.framing.specs.declared.State.{State}
use Rattle.framing.specs.declared.State.TheVariants.{Line, LineFeed, Data, DataCr, DataLf, Trail, EndLf, Done, Dead}
use Rattle.framing.specs.helpers.Machine.{End, machine, step, emit, done, tell, start}
use Rattle.framing.specs.helpers.Scan.{Machine, Verdict, ended, refusal, Counted, counted, out, judge_by}
use Rattle.transition.specs.Moving.{possible}
use Rattle.pieces.specs.Grammar.{FRAMED_LIMIT, in_pieces}
use Rattle.pieces.specs.declared.Pieces.{Pieces}

-- the machine for chunked bodies, counting its bytes
abbrev pub counting : Machine End (Counted State)
counting = counted FRAMED_TOO_LONG FRAMED_LIMIT machine

-- before the first byte
abbrev pub begun : ℕ → Pieces
begun room = record { position = start; taken = 0; room = room; refused = 0 }

-- ## One step
-- the verdict on the next byte
abbrev pub judged : Pieces → ℕ → Option (Verdict End)
judged s b =
    judge_by counting tell in_pieces.limits s.room (record { count = suc s.taken; at = step s.position b })

-- it is taken, unless it is refused
abbrev pub heed : Option (Verdict End) → Pieces → ℕ → Pieces
heed none s b = record { position = step s.position b; taken = suc s.taken; room = s.room; refused = 0 }
heed (some (ended e)) s b = record { position = step s.position b; taken = suc s.taken; room = s.room; refused = 0 }
heed (some (refusal n)) s b = record { position = s.position; taken = s.taken; room = s.room; refused = n }

unfoldable pub next : Pieces → ℕ → Pieces
next s b = heed (judged s b) s b

-- ## The answer so far
abbrev pub unrefused : Option End → ℕ → Answer Whole
unrefused none taken = more
unrefused (some e) taken = whole (tell taken e)

unfoldable pub answer_of : Pieces → Answer Whole
answer_of s = cond (eqb s.refused 0) (unrefused (done s.position) s.taken) (refused s.refused s.taken)

abbrev pub over : Answer Whole → Bool
over (whole w) = true
over more = false
over (refused n p) = true

-- the body is whole, or was refused
abbrev pub over? : Pieces → Bool
over? s = over (answer_of s)

-- ## Bytes one after the other
-- the state behind as many of them as it takes
unfoldable pub advance : Pieces → List ℕ → Pieces
advance s [] = s
advance s (b ∷ xs) = cond (over? s) s (advance (next s b) xs)

-- "it takes": its steps, one for each byte
unfoldable pub steps : Pieces → List ℕ → ℕ
steps s [] = 0
steps s (b ∷ xs) = cond (over? s) 0 (cond (eqb (next s b).refused 0) (suc (steps (next s b) xs)) 0)

-- the data among the bytes that it takes
abbrev pub gathered : Pieces → List ℕ → List ℕ
gathered s xs = out step emit s.position (take (steps s xs) xs)

-- ## From the start, on all of the bytes
abbrev pub decode : ℕ → List ℕ → Answer Whole
decode room xs = answer_of (advance (begun room) xs)

abbrev pub decoded : ℕ → List ℕ → List ℕ
decoded room xs = gathered (begun room) xs

-- how many bytes of data stand in front of a position
unfoldable pub filled : State → ℕ
filled (Line p k t) = t
filled (LineFeed v t) = t
filled (Data m t) = t - suc m
filled (DataCr t) = t
filled (DataLf t) = t
filled (Trail p k t) = t
filled (EndLf t n) = t
filled (Done t n) = t
filled Dead = 0

-- ## Calls
-- 0, or a refusal that a body can get
abbrev pub listed : ℕ → Bool
listed n =
    cond (eqb n 0) true (cond (eqb n MALFORMED) true (cond (eqb n LINE_TOO_LONG) true (cond (eqb n TRAILER_TOO_LONG) true
    (cond (eqb n BODY_TOO_LARGE) true (cond (eqb n FORBIDDEN_FIELD) true (eqb n FRAMED_TOO_LONG))))))

-- "another output length or a quota of 0 is refusal 9"; so is a state that no calls lead to, by its numbers
unfoldable pub valid : Pieces → ℕ → ℕ → Bool
valid s quota len =
    not (eqb quota 0) && (eqb len s.room && (leb s.taken FRAMED_LIMIT && (listed s.refused && possible s.room s.position)))

module _ (s : Pieces) (piece : List ℕ) (quota : ℕ) where
  -- the bytes that are offered: "what lies beyond the quota doesn't count"
  abbrev pub offered : List ℕ
  offered = take quota piece

  abbrev pub state_after : ℕ → Pieces
  state_after len = cond (valid s quota len) (advance s offered) s

  abbrev pub taken_by : ℕ → ℕ
  taken_by len = cond (valid s quota len) (steps s offered) 0

  abbrev pub answered : ℕ → Answer Whole
  answered len = cond (valid s quota len) (answer_of (advance s offered)) (refused OUT_OF_RANGE 0)

  abbrev pub output_after : List ℕ → List ℕ
  output_after old = cond (valid s quota (length old)) (placed old (filled s.position) (gathered s offered)) old
