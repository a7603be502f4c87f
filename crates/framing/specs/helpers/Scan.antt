-- A machine that takes one byte at a time: its run over a list, and its first verdict on the way. For any machine, any limits, and
-- whatever is told of a whole body.
use Rattle.std.specs.Prelude.{◌≡◌, Bool, cond, List, [], ◌∷◌, ◌++◌, ℕ, suc, ◌≤◌, eqb, take}
use Rattle.std.proofs.Math.Option.{Option, none, some}
use Rattle.grammar.specs.Refusals.{MALFORMED}
use Rattle.framing.specs.Answer.{Answer, whole, more, refused}

-- a machine for a part of a body: where it begins, its step, where the part may end, and where it can still be completed
pub record Part (P : Type 0) : Type 0 where
  pub begin : P
  pub next : P → ℕ → P
  pub ends : P → Bool
  pub alive : P → Bool

-- S are its states, E is what a state knows of a body that has ended
pub record Machine (E S : Type 0) : Type 0 where
  pub start : S
  pub step : S → ℕ → S
  -- the data that a byte is
  pub emit : S → ℕ → List ℕ
  -- a continuation leads to an end
  pub live : S → Bool
  pub done : S → Option E
  -- in that room, the byte that led to the state broke the limit of that number
  pub broke : ℕ → ℕ → S → Bool

-- ## A machine that counts its bytes, with a limit of that number on them
pub record Counted (S : Type 0) : Type 0 where
  pub count : ℕ
  pub at : S

abbrev pub counted : {E S : Type 0} → ℕ → ℕ → Machine E S → Machine E (Counted S)
counted number most machine = record {
  start = record { count = 0; at = machine.start };
  step = λ s b. record { count = suc s.count; at = machine.step s.at b };
  emit = λ s b. machine.emit s.at b;
  live = λ s. machine.live s.at;
  done = λ s. machine.done s.at;
  broke = λ room n s. cond (eqb n number) (eqb s.count (suc most)) (machine.broke room n s.at);
}

-- ## Verdicts

-- the body ended; or the refusal of that number
pub data Verdict (E : Type 0) : Type 0 where
  ended : E → Verdict E
  refusal : ℕ → Verdict E

-- the limit of the lowest rank that passes the test
abbrev pub first : (ℕ → Bool) → List ℕ → Option ℕ
first test [] = none
first test (n ∷ ls) = cond (test n) (some n) (first test ls)

-- a live state: a broken limit, then the body's end
abbrev pub verdict_of : {E : Type 0} → Option ℕ → Option E → Option (Verdict E)
verdict_of (some n) _ = some (refusal n)
verdict_of none (some e) = some (ended e)
verdict_of none none = none

-- a state, by whether it is live, which body ended there, and which limit the byte that led to it broke
abbrev pub judged_by : {E : Type 0} → Bool → Option E → Option ℕ → Option (Verdict E)
judged_by live done over = cond live (verdict_of over done) (some (refusal MALFORMED))

-- no verdict to the end of the input, or one at a place
pub data Found (J : Type 0) : Type 0 where
  going : Found J
  stop : ℕ → J → Found J

abbrev pub note : {J : Type 0} → ℕ → Option J → Found J → Found J
note i none r = r
note i (some v) r = stop i v

module _ {S : Type 0} (step : S → ℕ → S) where
  -- the state after the bytes
  abbrev pub run : S → List ℕ → S
  run s [] = s
  run s (b ∷ xs) = run (step s b) xs

  -- what the bytes give on the way
  abbrev pub out : (S → ℕ → List ℕ) → S → List ℕ → List ℕ
  out emit s [] = []
  out emit s (b ∷ xs) = emit s b ++ out emit (step s b) xs

module _ {S J : Type 0} (step : S → ℕ → S) (judge : S → Option J) where
  -- no state is judged in the first n bytes
  abbrev pub Quiet : S → List ℕ → ℕ → Type 0
  Quiet s xs n = (i : ℕ) → i ≤ n → judge (run step s (take i xs)) ≡ none

  -- the first state on the way that is judged, with the place of the byte that led to it; i is the place of the next byte
  abbrev pub scan : S → ℕ → List ℕ → Found J
  scan s i [] = going
  scan s i (b ∷ xs) = note i (judge (step s b)) (scan (step s b) (suc i) xs)

-- `tell` says what is told of a body of that many bytes
unfoldable pub answer : {E W : Type 0} → (ℕ → E → W) → Found (Verdict E) → Answer W
answer tell going = more
answer tell (stop i (ended e)) = whole (tell (suc i) e)
answer tell (stop i (refusal n)) = refused n i

-- the data of a whole body; of fewer bytes what `early` says
unfoldable pub written : {E : Type 0} → (List ℕ → List ℕ) → (List ℕ → List ℕ) → Found (Verdict E) → List ℕ → List ℕ
written early data_of going xs = early xs
written early data_of (stop i (ended e)) xs = data_of (take (suc i) xs)
written early data_of (stop i (refusal n)) xs = early (take i xs)

-- of no bytes anything
abbrev pub nothing : List ℕ → List ℕ
nothing xs = []

-- a reader of bodies: a machine, what it tells of a whole body, its limits in their order at one byte, and the room
module _ {E S W : Type 0} (machine : Machine E S) (tell : ℕ → E → W) (limits : List ℕ) (room : ℕ) where
  -- the limit of the lowest rank that the byte which led to a state broke
  abbrev pub over_by : S → Option ℕ
  over_by s = first (λ n. machine.broke room n s) limits

  abbrev pub judge_by : S → Option (Verdict E)
  judge_by s = judged_by (machine.live s) (machine.done s) (over_by s)

  abbrev pub find_by : List ℕ → Found (Verdict E)
  find_by xs = scan machine.step judge_by machine.start 0 xs

  abbrev pub decode_by : List ℕ → Answer W
  decode_by xs = answer tell (find_by xs)

  abbrev pub decoded_by : (List ℕ → List ℕ) → List ℕ → List ℕ
  decoded_by early xs = written early (out machine.step machine.emit machine.start) (find_by xs) xs
