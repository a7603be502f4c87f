-- Two kinds of header values that differ in what their parts mean: in the values alone, or in faults and values.
use Prim.Native.Nat.{ℕ}
use mathlib.Core.Path.{◌≡◌, refl, ap, ◌∙◌}
use mathlib.Core.List.{List}
use mathlib.Core.Option.{Option}
use lib.Dec.{T}
use Rattle.grammar.specs.Grammar.{Part, Parses}
use Rattle.grammar.specs.Reading.{Fault, Rules, Verdict, value, refused, Answers, too_long, malformed, breaks, faulty, reads}
use Rattle.grammar.specs.helpers.Derivative.{live}
use Rattle.grammar.specs.helpers.Judge.{header}
use Rattle.grammar.specs.helpers.Checks.{fresh?}
use Rattle.grammar.proofs.Deterministic.{deterministic?}
use Rattle.grammar.proofs.Demands.{answered_exactly}

-- the same kind with another value
abbrev pub revalued : {L A B : Type 0} → Rules L A → (List (Part L) → B) → Rules L B
revalued r f = record { grammar = r.grammar; limit = r.limit; fault = r.fault; value = f }

module _ {L A B : Type 0} (r : Rules L A) (f : List (Part L) → B) (some : T (live r.grammar)) (fresh : T (fresh? r.grammar))
    (one_way : T (deterministic? r.grammar)) (s : List ℕ) where
  -- the answer of the other kind, where r's is v
  abbrev pub Alike : Verdict A → Type 0
  Alike (value v) = (ps : List (Part L)) × (r.value ps ≡ v) × Parses r.grammar 0 s ps × (header (revalued r f) s ≡ value (f ps))
  Alike (refused n p) = header (revalued r f) s ≡ refused n p

  other : (v : Verdict B) → Answers (revalued r f) s v → header (revalued r f) s ≡ v
  other v = (answered_exactly (revalued r f) some fresh one_way s v).1

  from-answer : (v : Verdict A) → Answers r s v → Alike v
  from-answer v (too_long h) = other (refused 13 8192) (too_long h)
  from-answer v (malformed {p = p} h m w z) = other (refused 1 p) (malformed h m w z)
  from-answer v (breaks {l = l} {p = p} h b z) = other _ (breaks h b z)
  from-answer v (faulty {f = g} h m z e) = other _ (faulty h m z e)
  from-answer v (reads {ps = ps} h m z e) = (ps, refl, m, other (value (f ps)) (reads h m z e))

  pub answered-alike : (v : Verdict A) → header r s ≡ v → Alike v
  answered-alike v e = from-answer v ((answered_exactly r some fresh one_way s v).0 e)

-- the same kind with another fault and another value
abbrev pub remeant : {L A : Type 0} → Rules L A → (List (Part L) → Option Fault) → (List (Part L) → A) → Rules L A
remeant r f w = record { grammar = r.grammar; limit = r.limit; fault = f; value = w }

-- Where both make the same of the parts of s, if it has any, the answer is the same.
module _ {L A : Type 0} (r : Rules L A) (f : List (Part L) → Option Fault) (w : List (Part L) → A) (some : T (live r.grammar))
    (fresh : T (fresh? r.grammar)) (one_way : T (deterministic? r.grammar)) (s : List ℕ)
    (same : (ps : List (Part L)) → Parses r.grammar 0 s ps → (f ps ≡ r.fault ps) × (w ps ≡ r.value ps)) where
  remeant-is : (v : Verdict A) → Answers (remeant r f w) s v → header (remeant r f w) s ≡ v
  remeant-is v = (answered_exactly (remeant r f w) some fresh one_way s v).1

  as_asked : (v : Verdict A) → Answers r s v → header (remeant r f w) s ≡ v
  as_asked v (too_long h) = remeant-is (refused 13 8192) (too_long h)
  as_asked v (malformed {p = p} h m l z) = remeant-is (refused 1 p) (malformed h m l z)
  as_asked v (breaks h b z) = remeant-is _ (breaks h b z)
  as_asked v (faulty {ps = ps} h m z e) = remeant-is _ (faulty h m z ((same ps m).0 ∙ e))
  as_asked v (reads {ps = ps} h m z e) = remeant-is (value (w ps)) (reads h m z ((same ps m).0 ∙ e)) ∙ ap value (same ps m).1

  pub same_meaning : header (remeant r f w) s ≡ header r s
  same_meaning = as_asked (header r s) ((answered_exactly r some fresh one_way s (header r s)).0 refl)
