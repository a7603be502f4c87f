-- Parts that are judged once they have ended: what the answer does not depend on. Where nothing is judged, the judgement is as if it were
-- not there; and what follows a part only matters in that it does not go on with it.
use Prim.Native.Nat.{ℕ, suc, ◌+◌, ◌≤◌, ◌<◌}
use native.Mathlib.Omega.{arith}
use mathlib.Core.Path.{◌≡◌, refl, ap, ◌∙◌}
use mathlib.Core.Logic.{◌↔◌}
use mathlib.Core.Bool.{Bool, true, false, cond, ◌&&◌}
use mathlib.Core.List.{List, [], ◌∷◌, ◌++◌}
use mathlib.Core.Option.{Option, none, some}
use lib.Dec.{ltb, eqb}
use lib.ListN.{length, drop, length-append}
use lib.Seq.{drop-append-le}
use Rattle.grammar.specs.Grammar.{Part, Grammar, past}
use Rattle.grammar.specs.Refusals.{MALFORMED, VALUE_TOO_LONG}
use Rattle.grammar.specs.Reading.{value_limit, Limit, Fault, no-such-date, wrong-day, unfit, Rules, Verdict, refused}
use Rattle.grammar.specs.Endings.{Judgement, stops, ended, judging}
use Rattle.grammar.specs.helpers.Derivative.{live, nullable, deriv, ends}
use Rattle.grammar.specs.helpers.Judge.{held, turn, unless_fault, judge, header}
use Rattle.grammar.proofs.Loop.{header-short}

module _ {L A : Type 0} (j : Judgement L) (r : Rules L A) where
  -- ## Nothing is judged

  module _ (fits : (ps : List (Part L)) → j.misfit ps ≡ false) (s : List ℕ) where
    limit-kept : (k : ℕ) (ps : List (Part L)) → (judging j r s).limit k ps ≡ r.limit k ps
    limit-kept k ps = rw (fits ps) (go (ended j s k ps))
      where
        go : (x : Bool) → cond (x && false) (some unfit) (r.limit k ps) ≡ r.limit k ps
        go true = refl
        go false = refl

    judge-kept : (g : Grammar L) (t : List ℕ) (i : ℕ) → judge (judging j r s) g t i ≡ judge r g t i
    judge-kept g [] i = refl
    judge-kept g (b ∷ t) i =
        let h = deriv g i b in
        ap (λ (y : Option Limit). turn (live h) y i (judge (judging j r s) h t (suc i))) (limit-kept i (held h))
        ∙ ap (turn (live h) (r.limit i (held h)) i) (judge-kept h t (suc i))

    pub nothing-judged : header (judging j r s) s ≡ header r s
    nothing-judged = ap (cond (ltb value_limit (length s)) (refused VALUE_TOO_LONG value_limit)) (judge-kept r.grammar s 0)

-- ## Malformed at a byte before the place i is not what is found from i on

no_fault-malformed : {A : Type 0} (f : Option Fault) (v : A) (k : ℕ) → unless_fault f v ≡ refused MALFORMED k → ⊥
no_fault-malformed none v k e = let z : ◌≡◌ {A = ℕ} 0 1 = cc in omega arith
no_fault-malformed (some no-such-date) v k e = let z : ◌≡◌ {A = ℕ} 3 1 = cc in omega arith
no_fault-malformed (some wrong-day) v k e = let z : ◌≡◌ {A = ℕ} 4 1 = cc in omega arith

same_place : {A : Type 0} (m n i k : ℕ) → ◌≡◌ {A = Verdict A} (refused m i) (refused n k) → i ≡ k
same_place m n i k e = cc

module _ {L A : Type 0} (r : Rules L A) (k : ℕ) where
  no_earlier : (g : Grammar L) (t : List ℕ) (i : ℕ) → judge r g t i ≡ refused MALFORMED k → i ≤ k
  no_earlier g [] i = go (nullable g)
    where
      ps : List (Part L)
      ps = held (ends g i)

      go : (x : Bool) → cond x (unless_fault (r.fault ps) (r.value ps)) (refused MALFORMED i) ≡ refused MALFORMED k → i ≤ k
      go true e = absurd (no_fault-malformed (r.fault ps) (r.value ps) k e)
      go false e = omega (arith, same_place {A = A} MALFORMED MALFORMED i k e)
  no_earlier g (b ∷ t) i = go (live h) (r.limit i (held h)) (judge r h t (suc i)) (no_earlier h t (suc i))
    where
      h : Grammar L
      h = deriv g i b

      go : (x : Bool) (y : Option Limit) (v : Verdict A) → (v ≡ refused MALFORMED k → suc i ≤ k) → turn x y i v ≡ refused MALFORMED k
          → i ≤ k
      go true none v later e = omega (arith, later e)
      go true (some l) v later e = omega (arith, same_place {A = A} _ MALFORMED i k e)
      go false y v later e = omega (arith, same_place {A = A} MALFORMED MALFORMED i k e)

-- ## What follows does not go on with the part

-- at a byte both break off, or both go on
turn-both : {A : Type 0} (x : Bool) (y : Option Limit) (i : ℕ) (v w z : Verdict A) → (v ≡ z) ↔ (w ≡ z)
    → (turn x y i v ≡ z) ↔ (turn x y i w ≡ z)
turn-both true none i v w z both = both
turn-both true (some l) i v w z both = (λ e. e, λ e. e)
turn-both false y i v w z both = (λ e. e, λ e. e)

module _ {L A : Type 0} (j : Judgement L) (r : Rules L A) (p u : List ℕ) (off : (c : Part L) → stops j c u ≡ true) where
  -- behind each byte of p, its last one too, u changes nothing
  same-stops : (c : Part L) (t : List ℕ) → stops j c (t ++ u) ≡ stops j c t
  same-stops c [] = off c
  same-stops c (b ∷ t) = refl

  same_ended : (i : ℕ) → i < length p → (ps : List (Part L)) → ended j (p ++ u) i ps ≡ ended j p i ps
  same_ended i h [] = refl
  same_ended i h (c ∷ []) =
      ap (λ (x : Bool). eqb (past c.start c.text) (suc i) && x)
      (ap (stops j c) (drop-append-le (suc i) p u h) ∙ same-stops c (drop (suc i) p))
  same_ended i h (c ∷ d ∷ ps) = same_ended i h (d ∷ ps)

  same-limit : (i : ℕ) → i < length p → (ps : List (Part L)) → (judging j r (p ++ u)).limit i ps ≡ (judging j r p).limit i ps
  same-limit i h ps = ap (λ (x : Bool). cond (x && j.misfit ps) (some unfit) (r.limit i ps)) (same_ended i h ps)

  module _ (k : ℕ) (at : k < length p) where
    -- t is what is left of p at the place i
    same-refusal : (g : Grammar L) (t : List ℕ) (i : ℕ) → i + length t ≡ length p
        → (judge (judging j r p) g t i ≡ refused MALFORMED k) ↔ (judge (judging j r (p ++ u)) g (t ++ u) i ≡ refused MALFORMED k)
    same-refusal g [] i e = (
      λ q. absurd (omega (arith, no_earlier (judging j r p) k g [] i q)),
      λ q. absurd (omega (arith, no_earlier (judging j r (p ++ u)) k g u i q)),
    )
    same-refusal g (b ∷ t) i e =
        let h = deriv g i b in
        rw (same-limit i (omega arith) (held h))
        (turn-both (live h) ((judging j r p).limit i (held h)) i (judge (judging j r p) h t (suc i))
        (judge (judging j r (p ++ u)) h (t ++ u) (suc i)) (refused MALFORMED k) (same-refusal h t (suc i) (omega arith)))

    pub both-refused : length (p ++ u) ≤ value_limit
        → (header (judging j r p) p ≡ refused MALFORMED k) ↔ (header (judging j r (p ++ u)) (p ++ u) ≡ refused MALFORMED k)
    both-refused short =
        rw (header-short (judging j r p) p (omega (arith, length-append p u)), header-short (judging j r (p ++ u)) (p ++ u) short)
        (same-refusal r.grammar p 0 (omega arith))
