-- The answer to a header value, computed byte by byte. Promises cite `header`, and yet none of this has to be believed: by
-- `answered_exactly` (proofs/Demands.antt) it is the answer that `Answers` asks for, and no other is.
use Rattle.std.specs.Prelude.{ℕ, suc, Bool, cond, List, [], ◌∷◌, ◌++◌, ltb, length}
use Rattle.std.proofs.Math.Option.{Option, none, some}
use Rattle.grammar.specs.Grammar.{Part, Grammar, void, empty, byte, ◌⨾◌, ◌∣◌, star, part, rest, nest}
use Rattle.grammar.specs.helpers.Derivative.{live, nullable, deriv, ends}
use Rattle.grammar.specs.Refusals.{MALFORMED, VALUE_TOO_LONG}
use Rattle.grammar.specs.Reading.{value_limit, Limit, Fault, limit_number, fault_number, Rules, Verdict, value, refused}

-- the parts that have begun, in what is left of a grammar
abbrev pub held : {L : Type 0} → Grammar L → List (Part L)
held void = []
held empty = []
held (byte c) = []
held (g ⨾ h) = held g ++ held h
held (g ∣ h) = held g
held (star g) = []
held (part l g) = []
held (rest c g) = c ∷ held g
held (nest o c l m g r n) = held r

-- a limit that is broken at i refuses; otherwise it goes on
abbrev pub unless : {A : Type 0} → Option Limit → ℕ → Verdict A → Verdict A
unless none i on = on
unless (some l) i on = refused (limit_number l) i

abbrev pub turn : {A : Type 0} → Bool → Option Limit → ℕ → Verdict A → Verdict A
turn alive broken i on = cond alive (unless broken i on) (refused MALFORMED i)

-- the parts of a whole text: a fault, or their value
abbrev pub unless_fault : {A : Type 0} → Option Fault → A → Verdict A
unless_fault none v = value v
unless_fault (some f) v = refused (fault_number f) 0

module _ {L A : Type 0} (r : Rules L A) where
  abbrev pub finished : List (Part L) → Verdict A
  finished ps = unless_fault (r.fault ps) (r.value ps)

  -- s stands at the place i, and g is left of the grammar
  abbrev pub judge : Grammar L → List ℕ → ℕ → Verdict A
  judge g [] i = cond (nullable g) (finished (held (ends g i))) (refused MALFORMED i)
  judge g (b ∷ s) i = turn (live (deriv g i b)) (r.limit i (held (deriv g i b))) i (judge (deriv g i b) s (suc i))

  abbrev pub header : List ℕ → Verdict A
  header s = cond (ltb value_limit (length s)) (refused VALUE_TOO_LONG value_limit) (judge r.grammar s 0)
