-- The reader's scans against the grammar: the first part, and behind a part the end, or a hyphen and the next part.
use Prim.Native.Nat.{ℕ, ◌+◌, ◌-◌, ◌≤◌, ◌<◌, min}
use native.Mathlib.Omega.{arith}
use borrow.Author.Tests.{ne_eqb, eq-eqb, ltb-true, ltb-false}
use mathlib.Core.Path.{◌≡◌, refl, sym, ap, ap₂, ◌∙◌}
use mathlib.Core.Bool.{Bool, true, false, cond, true≢false}
use mathlib.Core.List.{List, [], ◌∷◌, ◌++◌}
use lib.Dec.{ltb}
use lib.ListN.{length, get_or, length-append}
use Rattle.grammar.specs.Grammar.{Part, void, ◌⨾◌, part}
use Rattle.grammar.specs.helpers.Derivative.{deriv}
use Rattle.grammar.specs.Reading.{value, refused}
use Rattle.grammar.specs.helpers.Checks.{ahead}
use Rattle.grammar.specs.helpers.Judge.{header}
use Rattle.grammar.specs.helpers.Scans.{slice, from}
use Rattle.grammar.proofs.Loop.{header-short}
use Rattle.grammar.proofs.Scans.{goes_on, stops_at}
use Rattle.grammar.proofs.Pieces.{slice-length}
use Rattle.grammar.proofs.Repeats.{Short, part-one-up-to, part-one-up-to-none, may_end}
use Rattle.octets.specs.Bytes.{letter?}
use Rattle.octets.specs.Classes.{LETTER}
use Rattle.scans.specs.helpers.Runs.{run_end}
use Rattle.scans.proofs.Runs.{run_is}
use Rattle.language.specs.Grammar.{Name, primary, subtag, letters, subtags, length_of_primary, rules}
use Rattle.language.specs.helpers.Scan.{part_end, Behind}

-- ## The place behind a part

hyphen_no_letter : letter? 45 ≡ false
unfolding letter?
hyphen_no_letter = refl

-- no letter begins what follows a part
apart : (j b : ℕ) → letter? b ≡ true → deriv subtags j b ≡ void
apart j b d = rw (ne_eqb b 45 (λ e. true≢false (sym d ∙ ap letter? e ∙ hyphen_no_letter)))

pub part-short : (s : List ℕ) (i : ℕ) → i ≤ length s → Short letter? s 8 i (part_end s i)
unfolding part_end
part-short s i h = go (ltb 8 (run_end letter? s i - i)) refl
  where
    go : (x : Bool) → ltb 8 (run_end letter? s i - i) ≡ x → Short letter? s 8 i (cond x (i + 8) (run_end letter? s i))
    go true e =
        let w = run_is letter? s i h in
        let z = ltb-true 8 (run_end letter? s i - i) e in
        record {
          ordered = omega arith;
          within = omega (arith, w.within);
          few = omega arith;
          inside = λ k a b. w.inside k a (omega arith);
          stops = λ a b. absurd (omega arith);
        }
    go false e =
        let w = run_is letter? s i h in
        let z = ltb-false 8 (run_end letter? s i - i) e in
        record { ordered = w.ordered; within = w.within; few = omega (arith, w.ordered); inside = w.inside; stops = λ a b. w.stops a }

pub part-least : (s : List ℕ) (i e : ℕ) → e ≡ run_end letter? s i → i + min (e - i) 8 ≡ part_end s i
unfolding part_end
part-least s i e d = go (ltb 8 (run_end letter? s i - i)) refl
  where
    go : (x : Bool) → ltb 8 (run_end letter? s i - i) ≡ x → i + min (e - i) 8 ≡ cond x (i + 8) (run_end letter? s i)
    go true f = omega (arith, ltb-true 8 (run_end letter? s i - i) f)
    go false f = omega (arith, ltb-false 8 (run_end letter? s i - i) f)

-- ## The parts

module _ (s : List ℕ) (short : length s ≤ 8192) where
  pub primary-none : part_end s 0 ≡ 0 → header rules s ≡ refused 1 0
  primary-none h =
      header-short rules s short
      ∙ part-one-up-to-none rules s [] primary LETTER subtags refl refl apart 0 (part_end s 0) 7 (part-short s 0 (omega arith)) (omega arith)

  pub primary-reads : (part_end s 0 ≡ 0 → ⊥) → Behind s 1 (part_end s 0) (part_end s 0)
  primary-reads h =
      let w = part-short s 0 (omega arith) in
      record {
        tags = record { label = primary; start = 0; text = slice s 0 (part_end s 0) } ∷ [];
        within = w.within;
        some = omega arith;
        few = omega arith;
        count = refl;
        long = slice-length s 0 (part_end s 0) (omega arith) w.within ∙ omega arith;
        reads = header-short rules s short
            ∙ part-one-up-to rules s [] primary LETTER subtags refl refl apart 0 (part_end s 0) 7 w (omega arith) (λ n a b. refl);
      }

first-kept : (ps : List (Part Name)) (p : Part Name) → 0 < length ps → length_of_primary (ps ++ p ∷ []) ≡ length_of_primary ps
first-kept [] p h = absurd (omega arith)
first-kept (a ∷ ps) p h = refl

module _ (s : List ℕ) (n f i : ℕ) (w : Behind s n f i) where
  pub tag-reads : length s ≤ i → header rules s ≡ value (record { parts = n; primary_length = f })
  tag-reads h =
      w.reads ∙ may_end rules s w.tags subtags i h refl refl ∙ ap₂ (λ (x y : ℕ). value (record { parts = x; primary_length = y })) w.count w.long

  module _ (at : i < length s) where
    pub hyphen_not : (get_or s i 0 ≡ 45 → ⊥) → header rules s ≡ refused 1 i
    hyphen_not h = w.reads ∙ stops_at rules s w.tags subtags i at (rw (ne_eqb (get_or s i 0) 45 h))

    module _ (h : get_or s i 0 ≡ 45) where
      joined : header rules s ≡ from rules s (ahead w.tags (part subtag letters ⨾ subtags)) (i + 1)
      joined = w.reads ∙ goes_on rules s w.tags subtags i (part subtag letters ⨾ subtags) at (rw (eq-eqb (get_or s i 0) 45 h)) refl refl

      run : Short letter? s 8 (i + 1) (part_end s (i + 1))
      run = part-short s (i + 1) (omega arith)

      pub subtag-none : part_end s (i + 1) ≡ i + 1 → header rules s ≡ refused 1 (i + 1)
      subtag-none e =
          joined
          ∙ part-one-up-to-none rules s w.tags subtag LETTER subtags refl refl apart (i + 1) (part_end s (i + 1)) 7 run (omega arith)

      pub subtag-reads : (part_end s (i + 1) ≡ i + 1 → ⊥) → Behind s (n + 1) f (part_end s (i + 1))
      subtag-reads e =
          let more : i + 1 < part_end s (i + 1) = omega (arith, run.ordered) in
          let p : Part Name = record { label = subtag; start = i + 1; text = slice s (i + 1) (part_end s (i + 1)) } in
          record {
            tags = w.tags ++ p ∷ [];
            within = run.within;
            some = omega arith;
            few = omega (arith, w.few);
            count = length-append w.tags (p ∷ []) ∙ ap (λ (k : ℕ). k + 1) w.count;
            long = first-kept w.tags p (omega (arith, w.count, w.some)) ∙ w.long;
            reads = joined
                ∙ part-one-up-to rules s w.tags subtag LETTER subtags refl refl apart (i + 1) (part_end s (i + 1)) 7 run more (λ k a b. refl);
          }
