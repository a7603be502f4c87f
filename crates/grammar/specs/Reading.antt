-- What reading a header value must answer: document 01, "Refusal numbers", over any grammar, limits, faults and values.
use Rattle.std.specs.Prelude.{ℕ, zero, suc, ◌-◌, ◌≤◌, ◌<◌, ◌≡◌, cond, List, [], ◌∷◌, ◌++◌, T, ltb, length, take}
use Rattle.std.proofs.Math.Option.{Option, none, some}
use Rattle.grammar.specs.Grammar.{Part, Grammar, Parses, bytes?}
use Rattle.grammar.specs.Beginnings.{Matches, Longest}
use Rattle.grammar.specs.Refusals.{MALFORMED, NUMBER_ABOVE_LIMIT, NO_SUCH_DATE, WRONG_DAY_NAME}
use Rattle.grammar.specs.Refusals.{TOO_MANY_PARAMETERS, REPEATED_ATTRIBUTE, COMMENT_TOO_DEEP, VALUE_TOO_LONG}

-- A header value has at most 8,192 bytes.
abbrev pub value_limit : ℕ
value_limit = 8192

-- The limits that a byte breaks: a number above its limit, more than 16 parameters or byte ranges, an attribute repeated, a comment nested
-- too deep. And, where parts are judged once they have ended (Endings.antt), a part that does not fit, which is malformed.
pub data Limit : Type 0 where
  above crowded repeated deep unfit : Limit

-- The faults of a well-formed value as a whole: no such date or time, a day name that disagrees with the date.
pub data Fault : Type 0 where
  no-such-date wrong-day : Fault

-- their numbers; 13 is none of them, and 1 only that of a part that does not fit
abbrev pub limit_number : Limit → ℕ
limit_number above = NUMBER_ABOVE_LIMIT
limit_number crowded = TOO_MANY_PARAMETERS
limit_number repeated = REPEATED_ATTRIBUTE
limit_number deep = COMMENT_TOO_DEEP
limit_number unfit = MALFORMED

abbrev pub fault_number : Fault → ℕ
fault_number no-such-date = NO_SUCH_DATE
fault_number wrong-day = WRONG_DAY_NAME

-- A kind of header value: what is well-formed; the limit that is passed at the byte at the place k, the parts through it being ps; the
-- fault of the parts of a whole text; what they mean.
pub record Rules (L A : Type 0) : Type 0 where
  pub grammar : Grammar L
  pub limit : (k : ℕ) (ps : List (Part L)) → Option Limit
  pub fault : (ps : List (Part L)) → Option Fault
  pub value : (ps : List (Part L)) → A

-- The parts that have begun before the place n, as far as they stand before it.
abbrev pub parts_before : {L : Type 0} → ℕ → List (Part L) → List (Part L)
parts_before n [] = []
parts_before n (c ∷ ps) =
    cond (ltb c.start n)
    (record { label = c.label; start = c.start; text = take (n - c.start) c.text } ∷ parts_before n ps)
    (parts_before n ps)

module _ {L A : Type 0} (r : Rules L A) where
  -- some continuation makes the beginning p well-formed, and ps are the parts as far as p holds them
  abbrev pub SoFar : List ℕ → List (Part L) → Type 0
  SoFar p ps =
      (t : List ℕ) × (qs : List (Part L)) × T (bytes? t) × Parses r.grammar 0 (p ++ t) qs × (ps ≡ parts_before (length p) qs)

  -- the first n bytes of s have a continuation, and with the last of them the limit l is passed
  abbrev pub Passes : List ℕ → Limit → ℕ → Type 0
  Passes s l zero = ⊥
  Passes s l (suc k) = (ps : List (Part L)) × SoFar (take (suc k) s) ps × (r.limit k ps ≡ some l)

  -- the byte at the place k breaks the limit l: with it the limit is passed, and without it it is not
  abbrev pub Breaks : List ℕ → Limit → ℕ → Type 0
  Breaks s l k = (k < length s) × Passes s l (suc k) × (Passes s l k → ⊥)

  -- no byte before the place n breaks a limit
  abbrev pub Sound : List ℕ → ℕ → Type 0
  Sound s n = (k : ℕ) (l : Limit) → k < n → Breaks s l k → ⊥

  -- a limit that stays passed, as one on a number does: with each later byte it is passed too
  abbrev pub Stays : Limit → Type 0
  Stays l =
      (k : ℕ) (ps : List (Part L)) → r.limit k (parts_before (suc k) ps) ≡ some l
      → r.limit (suc k) (parts_before (suc (suc k)) ps) ≡ some l

-- an answer: the value, or the number and the place of a refusal
pub data Verdict (A : Type 0) : Type 0 where
  value : A → Verdict A
  refused : (number place : ℕ) → Verdict A

-- The answer to a header value. "Order for header values: 13; then the lowest place among 1, 2, 10, 11, 12; then, on a well-formed date, 3,
-- then 4."
pub data Answers {L A : Type 0} (r : Rules L A) (s : List ℕ) : Verdict A → Type 0 where
  too_long : value_limit < length s → Answers r s (refused VALUE_TOO_LONG value_limit)
  malformed : {p : ℕ} → length s ≤ value_limit → (Matches r.grammar s → ⊥) → Longest r.grammar s p → Sound r s p
      → Answers r s (refused MALFORMED p)
  breaks : {l : Limit} {p : ℕ} → length s ≤ value_limit → Breaks r s l p → Sound r s p → Answers r s (refused (limit_number l) p)
  faulty : {ps : List (Part L)} {f : Fault} → length s ≤ value_limit → Parses r.grammar 0 s ps → Sound r s (length s)
      → r.fault ps ≡ some f → Answers r s (refused (fault_number f) 0)
  reads : {ps : List (Part L)} → length s ≤ value_limit → Parses r.grammar 0 s ps → Sound r s (length s)
      → r.fault ps ≡ none → Answers r s (value (r.value ps))
