-- The table that is filled, and the whole answer.
use Prim.Native.Nat.{ℕ, ◌+◌, ◌-◌, ◌≤◌, ◌<◌}
use native.Mathlib.Omega.{arith}
use borrow.Author.Tests.{lt-ltb, le-ltb, le-leb}
use mathlib.Core.Path.{◌≡◌, sym, ap, ap₂, subst, ◌∙◌}
use mathlib.Core.Bool.{Bool, true, false, cond}
use mathlib.Core.List.{List, [], ◌∷◌, ◌++◌, append-nil, append_assoc}
use lib.Dec.{ltb}
use lib.ListN.{length, take, set, length-append}
use Rattle.std.specs.Prelude.{Some, None, Ok, Err}
use Rattle.grammar.specs.Grammar.{Grammar}
use Rattle.grammar.specs.Reading.{value, refused}
use Rattle.grammar.specs.helpers.Judge.{header}
use Rattle.octets.specs.Numbers.{length_limit}
use Rattle.octets.specs.Reading.{number_of, place_of}
use Rattle.octets.specs.declared.Refusal.{Refusal}
use Rattle.octets.proofs.Entries.{padded-take, padded-set}
use Rattle.ranges.specs.declared.Element.{Element}
use Rattle.ranges.specs.declared.Range.{Range}
use Rattle.ranges.specs.Meaning.{begin, end, kept, resolved, satisfiable, answer}
use Rattle.ranges.specs.Grammar.{Name, others, element_limit, elements, capped, rules}
use Rattle.ranges.specs.Reading.{reading, unused, filled, table_of, Answered}
use Rattle.ranges.specs.helpers.Scan.{FoundBefore, Found, Read}
use Rattle.ranges.proofs.Scan.{left-none, left-some, no_more, element_missing}

-- ## One element more

resolved_append : (n : ℕ) (xs : List Element) (x : Element) → resolved n (xs ++ x ∷ []) ≡ resolved n xs ++ kept (begin n x) (end n x)
resolved_append n [] x = append-nil (kept (begin n x) (end n x))
resolved_append n (y ∷ xs) x =
    ap (λ (rs : List Range). kept (begin n y) (end n y) ++ rs) (resolved_append n xs x)
    ∙ sym (append_assoc (kept (begin n y) (end n y)) (resolved n xs) (kept (begin n x) (end n x)))

kept-few : (b e : ℕ) → length (kept b e) ≤ 1
kept-few b e = go (ltb b e)
  where
    go : (x : Bool) → length {A = Range} (cond x (record { first = b; last = e - 1 } ∷ []) []) ≤ 1
    go true = omega arith
    go false = omega arith

resolved-few : (n : ℕ) (xs : List Element) → length (resolved n xs) ≤ length xs
resolved-few n [] = omega arith
resolved-few n (x ∷ xs) =
    omega (arith, length-append (kept (begin n x) (end n x)) (resolved n xs), kept-few (begin n x) (end n x), resolved-few n xs)

-- the ranges of the elements before the place i are the first entries of the table t, and no others are used
pub record Filling (n : ℕ) (s : List ℕ) (t : List Range) (count seen i : ℕ) : Type 0 where
  pub read : List Element
  pub found : Found n s read i
  pub number : length read ≡ seen
  pub is : t ≡ filled (resolved n read)
  pub counted : count ≡ length (resolved n read)

module _ {n : ℕ} {s : List ℕ} {t : List Range} {count seen i : ℕ} (w : Filling n s t count seen i) where
  module _ {x : Element} {e : ℕ} (r : Read n s w.read i x e) where
    pub room : length w.read < element_limit
    room = omega (arith, r.found.before.few, length-append w.read (x ∷ []))

    pub filling_few : count < element_limit
    filling_few = omega (arith, w.counted, resolved-few n w.read, room)

    pub filling_counted : seen < element_limit
    filling_counted = omega (arith, w.number, room)

    next-found : Found n s (w.read ++ x ∷ []) e
    next-found =
        subst (λ (g : Grammar Name). FoundBefore n s g (w.read ++ x ∷ []) e)
        (sym (left-some (length (w.read ++ x ∷ [])) (λ z. absurd (omega (arith, length-append w.read (x ∷ [])))))) r.found

    next-number : length (w.read ++ x ∷ []) ≡ seen + 1
    next-number = length-append w.read (x ∷ []) ∙ ap (λ (m : ℕ). m + 1) w.number

    module _ {b f m : ℕ} {u : List Range} (begins : b ≡ begin n x) (ends : f ≡ end n x) where
      -- a range that is not empty
      pub filling_kept : b < f → u ≡ set t count (record { first = b; last = f - 1 }) → m ≡ count + 1 → Filling n s u m (seen + 1) e
      filling_kept h table number =
          let one : resolved n (w.read ++ x ∷ []) ≡ resolved n w.read ++ record { first = b; last = f - 1 } ∷ [] =
          resolved_append n w.read x ∙ rw (← begins, ← ends, lt-ltb b f h) in
          record {
            read = w.read ++ x ∷ [];
            found = next-found;
            number = next-number;
            is = table ∙ ap₂ (λ (v : List Range) (k : ℕ). set v k (record { first = b; last = f - 1 })) w.is w.counted
                ∙ padded-set unused element_limit (resolved n w.read) (record { first = b; last = f - 1 })
                (omega (arith, resolved-few n w.read, room))
                ∙ ap filled (sym one);
            counted = number ∙ ap (λ (k : ℕ). k + 1) w.counted
                ∙ sym (length-append (resolved n w.read) (record { first = b; last = f - 1 } ∷ [])) ∙ ap length (sym one);
          }

      -- an empty one is left out
      pub filling_left-out : f ≤ b → u ≡ t → m ≡ count → Filling n s u m (seen + 1) e
      filling_left-out h table number =
          let same : resolved n (w.read ++ x ∷ []) ≡ resolved n w.read =
          resolved_append n w.read x ∙ rw (← begins, ← ends, le-ltb b f h) (append-nil (resolved n w.read)) in
          record {
            read = w.read ++ x ∷ [];
            found = next-found;
            number = next-number;
            is = table ∙ w.is ∙ ap filled (sym same);
            counted = number ∙ w.counted ∙ ap length (sym same);
          }

  -- ## The end

  module _ (small : n ≤ length_limit) where
    reading-is : reading n s ≡ header (rules n s) s
    reading-is = rw (le-leb n length_limit small)

    pub none_read : seen ≡ 0 → length s ≤ i → reading n s ≡ refused 1 i
    none_read z h =
        reading-is
        ∙ element_missing n s (subst (λ (g : Grammar Name). FoundBefore n s g w.read i) (left-none (length w.read) (w.number ∙ z)) w.found) h

    module _ (some : seen ≡ 0 → ⊥) (h : length s ≤ i) where
      behind : FoundBefore n s others w.read i
      behind =
          subst (λ (g : Grammar Name). FoundBefore n s g w.read i) (left-some (length w.read) (λ z. some (sym w.number ∙ z))) w.found

      elements-are : elements capped behind.before.parts ≡ w.read
      elements-are =
          ap (elements capped) (sym (append-nil behind.before.parts)) ∙ behind.before.extends [] ∙ append-nil w.read

      all_read : reading n s ≡ value (answer (resolved n w.read))
      all_read = reading-is ∙ no_more n s behind h ∙ ap (λ (xs : List Element). value (answer (resolved n xs))) elements-are

      pub told_none : count ≡ 0 → Answered n s (Ok None)
      told_none z = go (resolved n w.read) (sym z ∙ w.counted) all_read
        where
          go : (rs : List Range) → 0 ≡ length rs → reading n s ≡ value (answer rs) → Answered n s (Ok None)
          go [] l e = (sym e, sym (ap table_of e))
          go (r ∷ rs) l e = absurd (omega arith)

      pub told_some : (count ≡ 0 → ⊥) → Answered n s (Ok (Some (record { count = count; entries = t })))
      told_some z = go (resolved n w.read) w.counted (resolved-few n w.read) all_read w.is
        where
          go : (rs : List Range) → count ≡ length rs → length rs ≤ length w.read → reading n s ≡ value (answer rs) → t ≡ filled rs
              → Answered n s (Ok (Some (record { count = count; entries = t })))
          go [] l few e f = absurd (z l)
          go (r ∷ rs) l few e f = (
            ap (λ (k : ℕ). value (satisfiable k (take k t))) l
                ∙ ap (λ (u : List Range). value (satisfiable (length (r ∷ rs)) u))
                (ap (take (length (r ∷ rs))) f ∙ padded-take unused element_limit (r ∷ rs) (omega (arith, w.found.before.few)))
                ∙ sym e,
            f ∙ sym (ap table_of e),
          )

pub refused-answer : (n : ℕ) (s : List ℕ) (r : Refusal) → reading n s ≡ refused (number_of r) (place_of r) → Answered n s (Err r)
refused-answer n s r e = (sym e, sym (ap table_of e))

-- a step that stopped has the answer
pub refused-found : (n : ℕ) (s : List ℕ) (r : Refusal) → n ≤ length_limit → header (rules n s) s ≡ refused (number_of r) (place_of r)
    → Answered n s (Err r)
refused-found n s r small e = refused-answer n s r (rw (le-leb n length_limit small) e)
