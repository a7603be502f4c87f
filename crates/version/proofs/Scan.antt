-- The reader's scans against the grammar: the name, the major number, the point, the minor number, the end.
use Prim.Native.Nat.{ℕ, ◌+◌, ◌≤◌, ◌<◌}
use Prim.Native.Char.{code}
use native.Mathlib.Omega.{arith}
use borrow.Author.Tests.{ne_eqb, eq-eqb, ltb-false}
use mathlib.Core.Path.{◌≡◌, refl, ap, ap₂, ◌∙◌}
use mathlib.Core.Bool.{Bool, true, false, cond, ◌||◌}
use mathlib.Core.List.{List, [], ◌∷◌, ◌++◌}
use mathlib.Core.Option.{none, some}
use lib.Dec.{ltb}
use lib.ListN.{length, get_or}
use Rattle.grammar.specs.Grammar.{Part, void, empty, byte, part, plus, just}
use Rattle.grammar.specs.helpers.Derivative.{deriv}
use Rattle.grammar.specs.Reading.{above, value, refused}
use Rattle.grammar.specs.helpers.Checks.{ahead}
use Rattle.grammar.specs.helpers.Judge.{header}
use Rattle.grammar.specs.helpers.Scans.{slice, from}
use Rattle.grammar.proofs.Shapes.{byte_step}
use Rattle.grammar.proofs.Loop.{header-short}
use Rattle.grammar.proofs.Scans.{first-is, first-not, first-none, ends-well, goes_too_far}
use Rattle.octets.specs.Bytes.{digit?}
use Rattle.octets.specs.Classes.{DIGIT}
use Rattle.octets.specs.Numbers.{number}
use Rattle.octets.proofs.Bytes.{digit_low}
use Rattle.scans.specs.declared.Decimal.TheVariants.{Number, Above, Missing}
use Rattle.scans.specs.helpers.Words.{agreeing}
use Rattle.scans.specs.helpers.Decimals.{decimal_at}
use Rattle.scans.proofs.Runs.{run_is}
use Rattle.scans.proofs.Scans.{number_of, number_fits, number-reads, number_missing, number-passes, number-limits, word-reads}
use Rattle.scans.proofs.Words.{word-whole, word-inside}
use Rattle.version.specs.Grammar.{Name, major, minor, http, numbers, largest, rules}
use Rattle.version.specs.helpers.Scan.{point_and_minor, major_part, AfterMajor}

-- no digit begins what follows the major number
point-apart : (j b : ℕ) → digit? b ≡ true → deriv point_and_minor j b ≡ void
point-apart j b d =
    byte_step (just (code ".") tt) j b (part minor (plus (byte DIGIT)))
    ∙ rw (ne_eqb b (code ".") (λ e. absurd (omega (arith, digit_low b d))))

-- all of the name stands there
pub name-is : (s : List ℕ) → 5 ≤ agreeing http s → agreeing http s ≡ 5
name-is s h = word-whole http s h

pub name-inside : (s : List ℕ) → agreeing http s ≡ 5 → 5 ≤ length s
name-inside s h = word-inside http s h

module _ (s : List ℕ) (short : length s ≤ 8192) where
  -- the name
  pub name-not : agreeing http s < 5 → header rules s ≡ refused 1 (agreeing http s)
  name-not h =
      header-short rules s short ∙ (word-reads rules s [] (λ n. refl) numbers refl refl http tt 0).1 h ∙ ap (refused 1) (omega arith)

  module _ (h : agreeing http s ≡ 5) (long : 5 ≤ length s) where
    named : header rules s ≡ from rules s numbers 5
    named = header-short rules s short ∙ (word-reads rules s [] (λ n. refl) numbers refl refl http tt 0).0 h

    limits : (n : ℕ) (t : List ℕ)
        → rules.limit n ([] ++ record { label = major; start = 5; text = t } ∷ []) ≡ cond (ltb largest (number t)) (some above) none
    limits = number-limits (λ l. true) largest [] refl major 5 refl

    pub major_missing : decimal_at largest s 5 ≡ Missing → header rules s ≡ refused 1 5
    major_missing d = named ∙ number_missing rules s [] major point_and_minor refl refl point-apart 5 long largest d

    pub major-passes : (p e : ℕ) → decimal_at largest s 5 ≡ Above p e → header rules s ≡ refused 2 p
    major-passes p e d = named ∙ number-passes rules s [] major point_and_minor refl refl point-apart 5 long largest limits p e d

    pub major-reads : (v e : ℕ) → decimal_at largest s 5 ≡ Number v e → AfterMajor s v e
    major-reads v e d =
        let w = number_of largest s 5 v e d in
        record {
          within = omega (arith, w.end, (run_is digit? s 5 long).within);
          is = w.is;
          small = number_fits largest s 5 v e w;
          reads = named ∙ number-reads rules s [] major point_and_minor refl refl point-apart 5 long largest limits v e d;
        }

-- behind the major number
module _ (s : List ℕ) (n e : ℕ) (a : AfterMajor s n e) where
  abbrev cs : List (Part Name)
  cs = major_part s e ∷ []

  below : rules.limit e cs ≡ none
  below = number-limits (λ l. true) largest [] refl major 5 refl e (slice s 5 e) ∙ rw a.small

  pub point-none : length s ≤ e → header rules s ≡ refused 1 e
  point-none h = a.reads ∙ first-none rules s cs (just (code ".") tt) (part minor (plus (byte DIGIT))) refl e h

  module _ (at : e < length s) where
    pub point-not : (get_or s e 0 ≡ code "." → ⊥) → header rules s ≡ refused 1 e
    point-not h =
        a.reads ∙ first-not rules s cs (just (code ".") tt) (part minor (plus (byte DIGIT))) refl e at (ne_eqb (get_or s e 0) (code ".") h)

    module _ (h : get_or s e 0 ≡ code ".") where
      pointed : header rules s ≡ from rules s (ahead cs (part minor (plus (byte DIGIT)))) (e + 1)
      pointed =
          a.reads ∙ first-is rules s cs (just (code ".") tt) (part minor (plus (byte DIGIT))) refl e at
          (eq-eqb (get_or s e 0) (code ".") h) below

      apart : (j b : ℕ) → digit? b ≡ true → deriv {L = Name} empty j b ≡ void
      apart j b d = refl

      inside : e + 1 ≤ length s
      inside = omega arith

      minor-limits : (k : ℕ) (t : List ℕ)
          → rules.limit k (cs ++ record { label = minor; start = e + 1; text = t } ∷ []) ≡ cond (ltb largest (number t)) (some above) none
      minor-limits = number-limits (λ l. true) largest cs (or_one a.small) minor (e + 1) refl
        where
          or_one : {x : Bool} → x ≡ false → (x || false) ≡ false
          or_one f = rw f

      pub minor_missing : decimal_at largest s (e + 1) ≡ Missing → header rules s ≡ refused 1 (e + 1)
      minor_missing d = pointed ∙ number_missing rules s cs minor empty refl refl apart (e + 1) inside largest d

      pub minor-passes : (p f : ℕ) → decimal_at largest s (e + 1) ≡ Above p f → header rules s ≡ refused 2 p
      minor-passes p f d = pointed ∙ number-passes rules s cs minor empty refl refl apart (e + 1) inside largest minor-limits p f d

      module _ (v f : ℕ) (d : decimal_at largest s (e + 1) ≡ Number v f) where
        abbrev both : List (Part Name)
        both = cs ++ record { label = minor; start = e + 1; text = slice s (e + 1) f } ∷ []

        read-on : header rules s ≡ from rules s (ahead both empty) f
        read-on = pointed ∙ number-reads rules s cs minor empty refl refl apart (e + 1) inside largest minor-limits v f d

        pub version-goes-on : f < length s → header rules s ≡ refused 1 f
        version-goes-on h = read-on ∙ goes_too_far rules s both f h

        pub minor-small : v ≤ 65535
        minor-small =
            let w = number_of largest s (e + 1) v f d in
            omega (arith, ltb-false largest (number (slice s (e + 1) f)) (number_fits largest s (e + 1) v f w), w.is)

        pub version-reads : length s ≤ f → header rules s ≡ value (record { major = n; minor = v })
        version-reads h =
            read-on ∙ ends-well rules s both f h
            ∙ ap₂ (λ (x y : ℕ). value (record { major = x; minor = y })) a.is (number_of largest s (e + 1) v f d).is

pub major-small : (s : List ℕ) (n e : ℕ) → AfterMajor s n e → n ≤ 65535
major-small s n e a = omega (arith, ltb-false largest (number (slice s 5 e)) a.small, a.is)
