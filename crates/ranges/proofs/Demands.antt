-- The theorems of byte ranges: what a customer reads. The words quoted are those of request (iv) of document 02.
use Prim.Native.Nat.{ℕ, suc, ◌-◌, ◌≤◌, ◌<◌}
use native.Mathlib.Omega.{arith}
use borrow.Author.Tests.{leb-true, leb-false, le-leb}
use mathlib.Core.Path.{◌≡◌, refl, sym, ap, subst, ◌∙◌}
use mathlib.Core.Logic.{inl, ◌↔◌}
use mathlib.Core.Bool.{Bool, true, false, ◌&&◌, not}
use mathlib.Core.List.{List, [], ◌∷◌, ◌++◌}
use lib.Dec.{leb}
use lib.ListN.{length, length-append}
use Rattle.grammar.specs.Grammar.{Part, Parses}
use Rattle.grammar.specs.Refusals.{MALFORMED}
use Rattle.grammar.specs.Reading.{value_limit, Limit, Passes, Sound, Verdict, value, refused, Answers, reads}
use Rattle.grammar.specs.Endings.{stops}
use Rattle.grammar.specs.Arguments.{Asked, in_range}
use Rattle.grammar.specs.helpers.Judge.{header}
use Rattle.grammar.proofs.Demands as Kinds
use Rattle.grammar.proofs.Demands.{judged_exactly, asked_exactly, one_parse, unbroken_unpassed}
use Rattle.octets.specs.Numbers.{number, length_limit}
use Rattle.ranges.specs.declared.Element.{Element}
use Rattle.ranges.specs.declared.Element.TheVariants.{Closed}
use Rattle.ranges.specs.declared.Range.{Range}
use Rattle.ranges.specs.Meaning.{Selects, Forward, Covers, Some, Each, InEntity, Served}
use Rattle.ranges.specs.Meaning.{resolved, Ranges, satisfiable, unsatisfiable, answer, ranges_in}
use Rattle.ranges.specs.Grammar.{Name, byte_ranges, capped, sign?, elements, plain_rules, forward, NoDigit, rules}
use Rattle.ranges.specs.Parts.{InTurn}
use Rattle.ranges.specs.Reading.{reading}
use Rattle.ranges.proofs.Backward.{refused-behind, refused-last}
use Rattle.ranges.proofs.Exact.{one_way, all-forward, all-few, none_passed, all_fit}
use Rattle.ranges.proofs.Meaning.{covered, each_in, serves}
use Rattle.ranges.proofs.Parts.{standing}

-- What `read` answers (its promise is `Answered n s r`): the ranges of a well-formed set, or the refusal of the row that applies first (9,
-- then 13, then the lowest place among 1 and 10), and nothing else. A last below its first is one of the rules for s (`forward`).
pub answers : (n : ℕ) (s : List ℕ) (v : Verdict Ranges) → (reading n s ≡ v) ↔ Asked (n ≤ 9223372036854775807) (Answers (rules n s) s) v
answers n s =
    asked_exactly (n ≤ length_limit) (Answers (rules n s) s) (leb n length_limit) (leb-true n length_limit)
    (λ e h. absurd (omega (arith, leb-false n length_limit e))) (header (rules n s) s)
    (judged_exactly (plain_rules n) tt tt one_way forward s)

-- what follows p does not change that p is malformed at its last byte
whatever_follows : (n : ℕ) (p u : List ℕ) (k : ℕ) → n ≤ length_limit → suc k ≡ length p → NoDigit u → length (p ++ u) ≤ value_limit
    → header (rules n p) p ≡ refused MALFORMED k → reading n (p ++ u) ≡ refused MALFORMED k
whatever_follows n p u k small e off short q =
    rw (le-leb n length_limit small) ((Kinds.whatever_follows forward (plain_rules n) p u k e (stopped u off) short).0 q)
  where
    stopped : (t : List ℕ) → NoDigit t → (c : Part Name) → stops forward c t ≡ true
    stopped [] o c = refl
    stopped (b ∷ t) o c = rw o (go (not (sign? c.label)))
      where
        go : (x : Bool) → not (x && false) ≡ true
        go true = refl
        go false = refl

-- "A last below its first, once its digits end, is malformed at its last digit, whatever follows.": p is a well-formed set whose last
-- element, behind fewer than 16 others without that fault, is backward, and u is whatever follows, no digit more.
pub backward-refused : (n : ℕ) (p u : List ℕ) (ps : List (Part Name)) (xs : List Element) (first last : ℕ) → n ≤ 9223372036854775807
    → Parses byte_ranges 0 p ps → elements capped ps ≡ xs ++ Closed first last ∷ [] → last < first → Each Forward xs → length xs < 16
    → NoDigit u → length (p ++ u) ≤ value_limit → reading n (p ++ u) ≡ refused MALFORMED (length p - 1)
backward-refused n p u ps xs first last small parse is below all few off short =
    whatever_follows n p u (length p - 1) small (refused-behind n p ps parse xs first last is below all few) off short
    ((judged_exactly (plain_rules n) tt tt one_way forward p (refused MALFORMED (length p - 1))).1
    (refused-last n p ps parse xs first last is below all few (omega (arith, length-append p u))))

-- A well-formed set has two parts for each element: first and last, or sign and suffix.
pub parts_in_turn : (s : List ℕ) (ps : List (Part Name)) → Parses byte_ranges 0 s ps → InTurn ps
parts_in_turn s ps p = (standing s ps p).turns

-- A set that is read, and its parts.
module _ (n : ℕ) (s : List ℕ) (v : Ranges) (e : reading n s ≡ value v) (ps : List (Part Name)) (p : Parses byte_ranges 0 s ps) where
  read_is : (n ≤ length_limit) × (v ≡ answer (resolved n (elements capped ps)))
  read_is = asked v ((answers n s (value v)).0 e)
    where
      parts : (w : Ranges) → Answers (rules n s) s (value w) → w ≡ answer (resolved n (elements capped ps))
      parts w (reads {ps = qs} l q sound f) =
          ap (λ (rs : List (Part Name)). answer (resolved n (elements capped rs))) (one_parse (plain_rules n) tt tt one_way s qs ps q p)

      asked : (w : Ranges) → Asked (n ≤ length_limit) (Answers (rules n s) s) (value w)
          → (n ≤ length_limit) × (w ≡ answer (resolved n (elements capped ps)))
      asked w (in_range i a) = (i, parts w a)

  -- The table is the resolved elements in order.
  pub resolves : v ≡ answer (resolved n (elements capped ps))
  resolves = read_is.1

  ranges_are : ranges_in v ≡ resolved n (elements capped ps)
  ranges_are = ap ranges_in resolves ∙ same (resolved n (elements capped ps))
    where
      same : (rs : List Range) → ranges_in (answer rs) ≡ rs
      same [] = refl
      same (r ∷ rs) = refl

  -- "a last beyond the end is cut, a longer suffix is the whole entity, an empty range is left out", "The order sent is kept.": each
  -- element as RFC 2616 means it, numbers as sent, is left out or has a range of its own, in order.
  pub in_order : Served n (elements number ps) (ranges_in v)
  in_order = subst (Served n (elements number ps)) (sym ranges_are) (serves n read_is.0 ps)

  -- Each byte of the entity is in some range of the answer exactly when it is in some element as RFC 2616 means it, numbers as sent.
  pub every_byte : (at : ℕ) → Some (λ r. Covers r at) (ranges_in v) ↔ Some (λ x. Selects n x at) (elements number ps)
  every_byte = covered in_order

  -- Each range lies in the entity and is not empty.
  pub in_entity : Each (InEntity n) (ranges_in v)
  in_entity = each_in in_order

  -- How many, never none; "none left" exactly where no byte is asked for.
  pub how_many : (count : ℕ) (rs : List Range) → v ≡ satisfiable count rs → (count ≡ length rs) × (0 < count)
  how_many count rs e = go (resolved n (elements capped ps)) (sym resolves ∙ e)
    where
      go : (us : List Range) → answer us ≡ satisfiable count rs → (count ≡ length rs) × (0 < count)
      go [] f = let z : ◌≡◌ {A = ℕ} 0 1 = cc in absurd (omega arith)
      go (u ∷ us) f =
          let m : suc (length us) ≡ count = cc in
          let l : u ∷ us ≡ rs = cc in
          (sym m ∙ ap length l, omega arith)

  pub none_left : (v ≡ unsatisfiable) ↔ ((at : ℕ) → Some (λ x. Selects n x at) (elements number ps) → ⊥)
  none_left = (
    λ e at h. subst (λ (w : Ranges). Some (λ r. Covers r at) (ranges_in w)) e ((every_byte at).1 h),
    λ none. go (resolved n (elements capped ps)) resolves ranges_are none,
  )
    where
      go : (us : List Range) → v ≡ answer us → ranges_in v ≡ us → ((at : ℕ) → Some (λ x. Selects n x at) (elements number ps) → ⊥)
          → v ≡ unsatisfiable
      go [] e f none = e
      go (u ∷ us) e f none =
          let here = subst (Each (InEntity n)) f in_entity in
          absurd (none u.first
          ((every_byte u.first).0 (subst (Some (λ r. Covers r u.first)) (sym f) (inl (omega arith, here.0.0)))))

-- "up to 16", "A last below its first .. is malformed": a well-formed set is read exactly when it has at most 16 elements and no last,
-- capped, is below its first, capped.
module _ (n : ℕ) (s : List ℕ) (small : n ≤ 9223372036854775807) (short : length s ≤ value_limit)
    (ps : List (Part Name)) (p : Parses byte_ranges 0 s ps) where
  sound_so : (v : Ranges) → Answers (rules n s) s (value v) → Sound (rules n s) s (length s)
  sound_so v (reads l q sound f) = sound

  header_is : reading n s ≡ header (rules n s) s
  header_is = rw (le-leb n length_limit small)

  pub read_exactly : ((v : Ranges) × (reading n s ≡ value v)) ↔ ((length (elements capped ps) ≤ 16) × Each Forward (elements capped ps))
  read_exactly = (to, back)
    where
      exact : (v : Verdict Ranges) → (header (rules n s) s ≡ v) ↔ Answers (rules n s) s v
      exact = judged_exactly (plain_rules n) tt tt one_way forward s

      to : ((v : Ranges) × (reading n s ≡ value v)) → (length (elements capped ps) ≤ 16) × Each Forward (elements capped ps)
      to r =
          let sound = sound_so r.0 ((exact (value r.0)).0 (sym header_is ∙ r.1)) in
          let unpassed = unbroken_unpassed (rules n s) s (length s) sound (omega arith) in
          (all-few n s ps p unpassed, all-forward n s ps p unpassed)

      quiet : (length (elements capped ps) ≤ 16) × Each Forward (elements capped ps) → (k : ℕ) (l : Limit) → k ≤ length s
          → Passes (rules n s) s l k → ⊥
      quiet r = none_passed n s ps p r.0 (length s) (omega arith) (all_fit n s ps p r.1)

      back : (length (elements capped ps) ≤ 16) × Each Forward (elements capped ps) → (v : Ranges) × (reading n s ≡ value v)
      back r = (
        (rules n s).value ps,
        header_is ∙ (exact (value ((rules n s).value ps))).1
            (reads short p (λ k l h b. quiet r (suc k) l (omega (arith, b.0)) b.1) refl),
      )
