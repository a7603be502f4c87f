-- The theorems of header values, for any kind of them: what a customer reads. Document 01, "Refusal numbers".
use Prim.Native.Nat.{ℕ, zero, suc, ◌≤◌}
use native.Mathlib.Omega.{arith}
use mathlib.Core.Path.{◌≡◌, refl, sym, ◌∙◌}
use mathlib.Core.Logic.{◌↔◌}
use mathlib.Core.Bool.{Bool, true, false, cond}
use mathlib.Core.List.{List, ◌++◌}
use mathlib.Core.Option.{none, some}
use lib.Dec.{T}
use lib.ListN.{length, take}
use Rattle.grammar.specs.Grammar.{Part, Grammar, Parses}
use Rattle.grammar.specs.Beginnings.{Longest}
use Rattle.grammar.specs.Refusals.{MALFORMED, OUT_OF_RANGE}
use Rattle.grammar.specs.Reading.{value_limit, Rules, Limit, parts_before, SoFar, Passes, Breaks, Sound, Stays}
use Rattle.grammar.specs.Reading.{Verdict, refused, Answers}
use Rattle.grammar.specs.Endings.{Judgement, stops, judging}
use Rattle.grammar.specs.Arguments.{Asked, out_of_range, in_range}
use Rattle.grammar.specs.helpers.Derivative.{live, reach}
use Rattle.grammar.specs.helpers.Judge.{header}
use Rattle.grammar.specs.helpers.Checks.{fresh?}
use Rattle.grammar.proofs.Exact as Exact
use Rattle.grammar.proofs.Places as Places
use Rattle.grammar.proofs.Follows as Follows
use Rattle.grammar.proofs.Deterministic.{deterministic?, deterministic_steady}
use Rattle.grammar.proofs.Reach.{reach-longest}

-- "The place of 1 is the length of the longest beginning that some continuation, limits aside, makes well-formed": it is computed.
pub longest-live : {L : Type 0} (g : Grammar L) → T (live g) → (s : List ℕ) → Longest g s (reach g 0 s)
longest-live g l s = reach-longest g s l

module _ {L A : Type 0} (r : Rules L A) where
  -- The place of row 2 is "the digit that passes it", and so with each limit: the byte behind one that breaks it does not break it again.
  pub broken_once : (s : List ℕ) (l : Limit) (k : ℕ) → Breaks r s l k → Breaks r s l (suc k) → ⊥
  broken_once s l k here behind = behind.2 here.1

  -- And a limit that is passed has such a byte: where none before the place n breaks a limit, none is passed so far.
  pub unbroken_unpassed : (s : List ℕ) (n : ℕ) → Sound r s n → n ≤ length s → (k : ℕ) (l : Limit) → k ≤ n → Passes r s l k → ⊥
  unbroken_unpassed s n sound within zero l h passed = passed
  unbroken_unpassed s n sound within (suc k) l h passed =
      sound k l (omega arith) (omega arith, passed, unbroken_unpassed s n sound within k l (omega arith))

  -- A kind without limits: no byte breaks one.
  pub unlimited : ((k : ℕ) (ps : List (Part L)) → r.limit k ps ≡ none) → (s : List ℕ) (n : ℕ) → Sound r s n
  unlimited quiet s n k l h b = let z : ◌≡◌ {A = ℕ} 0 1 = none-some (sym (quiet k b.1.0) ∙ b.1.2) in omega arith
    where
      none-some : none ≡ some l → ◌≡◌ {A = ℕ} 0 1
      none-some e = cc

-- For a grammar that passes three checks, each computed: it has a text, no part of it has begun, and no text can be read in two ways.
module _ {L A : Type 0} (r : Rules L A)
    (lives : T (live r.grammar)) (fresh : T (fresh? r.grammar)) (one_way : T (deterministic? r.grammar)) where
  -- "Each refusal is given exactly when its row applies and no earlier one does": the computed answer is v just where v is asked for.
  pub answered_exactly : (s : List ℕ) (v : Verdict A) → (header r s ≡ v) ↔ Answers r s v
  answered_exactly s v = Exact.answers r fresh (deterministic_steady r.grammar fresh one_way) lives s v

  -- one answer is asked for, and no second one
  pub one_answer : (s : List ℕ) (v w : Verdict A) → Answers r s v → Answers r s w → v ≡ w
  one_answer s v w = Exact.only r fresh (deterministic_steady r.grammar fresh one_way) s v w

  -- a well-formed text has its parts in one way only
  pub one_parse : (s : List ℕ) (ps qs : List (Part L)) → Parses r.grammar 0 s ps → Parses r.grammar 0 s qs → ps ≡ qs
  one_parse s ps qs = Exact.one_parse r fresh (deterministic_steady r.grammar fresh one_way) s ps qs

  -- and so has each beginning of it: the parts of the whole, as far as it holds them
  pub one_beginning : (s : List ℕ) (qs : List (Part L)) → Parses r.grammar 0 s qs → (n : ℕ) → n ≤ length s → (ps : List (Part L))
      → SoFar r (take n s) ps → ps ≡ parts_before n qs
  one_beginning = Places.begun_with r fresh (deterministic_steady r.grammar fresh one_way)

  -- A limit that stays passed is broken at one place, the one that its row names.
  pub one_place : (l : Limit) → Stays r l → (s : List ℕ) (j k : ℕ) → Breaks r s l j → Breaks r s l k → j ≡ k
  one_place l stays = Places.one_place r fresh (deterministic_steady r.grammar fresh one_way) l stays

  -- The same where parts are judged once they have ended, at their last byte. The rules of the kind are those for the value s.
  pub judged_exactly : (j : Judgement L) (s : List ℕ) (v : Verdict A) → (header (judging j r s) s ≡ v) ↔ Answers (judging j r s) s v
  judged_exactly j s = Exact.answers (judging j r s) fresh (deterministic_steady r.grammar fresh one_way) lives s

-- That judgement, for any grammar.
module _ {L A : Type 0} (j : Judgement L) (r : Rules L A) where
  -- A kind in which every part fits is answered as without it.
  pub nothing-judged : ((ps : List (Part L)) → j.misfit ps ≡ false) → (s : List ℕ) → header (judging j r s) s ≡ header r s
  nothing-judged = Follows.nothing-judged j r

  -- "malformed at its last digit, whatever follows" (document 02, request (iv)): whether a value p is malformed at its last byte does not
  -- depend on what follows, be it nothing or a text u that goes on with no part.
  pub whatever_follows : (p u : List ℕ) (k : ℕ) → suc k ≡ length p → ((c : Part L) → stops j c u ≡ true) → length (p ++ u) ≤ value_limit
      → (header (judging j r p) p ≡ refused MALFORMED k) ↔ (header (judging j r (p ++ u)) (p ++ u) ≡ refused MALFORMED k)
  whatever_follows p u k e off = Follows.both-refused j r p u off k (omega arith)

-- "argument outside its range", before anything is read: over any test of the argument and whatever reading answers within its range.
pub asked_exactly : {A : Type 0} (InRange : Type 0) (Answer : Verdict A → Type 0) (test : Bool) → (test ≡ true → InRange)
    → (test ≡ false → InRange → ⊥) → (w : Verdict A) → ((v : Verdict A) → (w ≡ v) ↔ Answer v)
    → (v : Verdict A) → (cond test w (refused OUT_OF_RANGE 0) ≡ v) ↔ Asked InRange Answer v
asked_exactly InRange Answer true yes-in no-in w exact v = (λ e. in_range (yes-in refl) ((exact v).0 e), λ a. go v a)
  where
    go : (x : Verdict _) → Asked InRange Answer x → w ≡ x
    go x (out_of_range o) = absurd (o (yes-in refl))
    go x (in_range {v = y} i a) = (exact y).1 a
asked_exactly InRange Answer false yes-in no-in w exact v = (λ e. rw (← e) (out_of_range (no-in refl)), λ a. go v a)
  where
    go : (x : Verdict _) → Asked InRange Answer x → refused OUT_OF_RANGE 0 ≡ x
    go x (out_of_range o) = refl
    go x (in_range i a) = absurd (no-in refl i)
