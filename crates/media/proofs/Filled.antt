-- The table that is filled, and the whole answer.
use Prim.Native.Nat.{ℕ, ◌+◌, ◌≤◌, ◌<◌}
use native.Mathlib.Omega.{arith}
use mathlib.Core.Path.{◌≡◌, sym, ap, ap₂, subst, ◌∙◌}
use mathlib.Core.List.{List, [], ◌∷◌, ◌++◌, append-nil}
use lib.ListN.{length, take, set}
use Rattle.grammar.specs.Reading.{value, refused}
use Rattle.grammar.specs.helpers.Judge.{header}
use Rattle.octets.proofs.Entries.{padded-take, padded-set}
use Rattle.media.specs.declared.MediaType.{MediaType}
use Rattle.media.specs.declared.Parameter.{Parameter}
use Rattle.std.specs.Prelude.{Ok, Err}
use Rattle.octets.specs.declared.Refusal.{Refusal}
use Rattle.octets.specs.Reading.{number_of, place_of}
use Rattle.media.specs.Grammar.{entries, kind, rules, parameter_limit}
use Rattle.media.specs.Reading.{unused, filled, table_of, Answered}
use Rattle.media.specs.helpers.Scan.{counted, Found, Read}
use Rattle.media.proofs.Scan.{counted_in, no_more}

-- the parameters before the place i are the first entries of the table t, and no others are used
pub record Filling (s : List ℕ) (m : MediaType) (t : List Parameter) (i : ℕ) : Type 0 where
  pub table : List Parameter
  pub found : Found s m table i
  pub is : t ≡ filled table

module _ {s : List ℕ} {m : MediaType} {t : List Parameter} {i : ℕ} (w : Filling s m t i) where
  entries-are : take m.count t ≡ w.table
  entries-are =
      ap₂ take (sym (counted_in w.found.before)) w.is ∙ padded-take unused parameter_limit w.table w.found.before.few

  pub filling_found : Found s m (take m.count t) i
  filling_found = subst (λ (ps : List Parameter). Found s m ps i) (sym entries-are) w.found

  module _ {p : Parameter} {e : ℕ} (r : Read s m (take m.count t) i p e) where
    room : length w.table < parameter_limit
    room = subst (λ (ps : List Parameter). length ps < parameter_limit) entries-are r.room

    pub filling_few : m.count < parameter_limit
    filling_few = omega (arith, room, counted_in w.found.before)

    pub filling_next : Filling s (counted m (m.count + 1)) (set t m.count p) e
    filling_next = record {
      table = w.table ++ p ∷ [];
      found = subst (λ (ps : List Parameter). Found s (counted m (m.count + 1)) (ps ++ p ∷ []) e) entries-are r.found;
      is = ap₂ (λ (u : List Parameter) (n : ℕ). set u n p) w.is (sym (counted_in w.found.before))
          ∙ padded-set unused parameter_limit w.table p room;
    }

  -- the text ends there
  others-are : entries w.found.before.others ≡ w.table
  others-are =
      ap entries (sym (append-nil w.found.before.others)) ∙ w.found.before.extends [] ∙ append-nil w.table

  names-are : kind w.found.before.first w.found.before.second (length (entries w.found.before.others)) ≡ m
  names-are = ap (λ (ps : List Parameter). kind w.found.before.first w.found.before.second (length ps)) others-are ∙ w.found.before.kinds

  pub filled-answer : length s ≤ i → Answered s (Ok (record { names = m; parameters = t }))
  filled-answer h =
      let e : header rules s ≡ value (record { names = m; table = w.table }) =
      no_more w.found h ∙ ap₂ (λ (n : MediaType) (ps : List Parameter). value (record { names = n; table = ps })) names-are others-are in
      (ap (λ (ps : List Parameter). value (record { names = m; table = ps })) entries-are ∙ sym e, w.is ∙ sym (ap table_of e))

pub refused-answer : (s : List ℕ) (r : Refusal) → header rules s ≡ refused (number_of r) (place_of r) → Answered s (Err r)
refused-answer s r e = (sym e, sym (ap table_of e))
