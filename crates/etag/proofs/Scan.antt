-- The reader's scans against the grammar: the mark, the quotes and what stands between them, the end.
use Prim.Native.Nat.{ℕ, suc, ◌+◌, ◌-◌, ◌≤◌, ◌<◌}
use native.Mathlib.Omega.{arith}
use native.Mathlib.Decide.{ℕ_discrete}
use borrow.Author.Tests.{ne_eqb, eq-eqb}
use mathlib.Core.Path.{◌≡◌, refl, sym, ap, subst, ◌∙◌}
use mathlib.Core.Bool.{Bool, true, false, cond, true≢false}
use mathlib.Core.List.{List, [], ◌∷◌, ◌++◌}
use mathlib.Core.Option.{none}
use lib.Dec.{eqb}
use lib.ListN.{length, get_or}
use Rattle.grammar.specs.Grammar.{Part, Grammar, void, empty, byte, ◌⨾◌, part, rest, fold, lower}
use Rattle.grammar.specs.helpers.Derivative.{live, deriv}
use Rattle.grammar.specs.Reading.{value, refused}
use Rattle.grammar.specs.helpers.Checks.{ahead}
use Rattle.grammar.specs.helpers.Judge.{turn, judge, header}
use Rattle.grammar.specs.helpers.Scans.{slice, from}
use Rattle.grammar.proofs.Loop.{header-short}
use Rattle.grammar.proofs.Scans.{goes_on, stops_at, ends-early, first-is, first-not, first-none, ends-well, goes_too_far}
use Rattle.grammar.proofs.Pieces.{slice-length}
use Rattle.octets.specs.Quoted.{QUOTE, quoted_text}
use Rattle.scans.specs.helpers.Words.{agreeing}
use Rattle.scans.specs.helpers.Quoted.{quoted_end}
use Rattle.scans.proofs.Quoted.{quoted_closed, quoted_bad, quoted_cut_off}
use Rattle.etag.specs.Grammar.{Name, weak, opaque, mark, opaque_tag, entity_tag, rules}
use Rattle.etag.specs.helpers.Scan.{AfterMark, AfterQuote}

-- ## The mark

no_quote : (b : ℕ) → eqb (lower b) (lower 87) ≡ true → eqb b 34 ≡ false
unfolding lower
no_quote b e = ne_eqb b 34 (λ q. true≢false (sym e ∙ ap (λ (x : ℕ). eqb (lower x) (lower 87)) q))

abbrev begun : ℕ → Grammar Name
begun b = rest (record { label = weak; start = 0; text = b ∷ [] }) (byte (fold 47 tt) ⨾ empty) ⨾ opaque_tag

abbrev marked : ℕ → ℕ → List (Part Name)
marked b x = record { label = weak; start = 0; text = b ∷ x ∷ [] } ∷ []

mark-first : (b : ℕ) → eqb (lower b) (lower 87) ≡ true → deriv entity_tag 0 b ≡ begun b
mark-first b e = rw (e, no_quote b e)

mark-second : (b x : ℕ) → eqb (lower x) (lower 47) ≡ true → deriv (begun b) 1 x ≡ ahead (marked b x) opaque_tag
mark-second b x e = rw e

mark-broken : (b x : ℕ) → eqb (lower x) (lower 47) ≡ false → deriv (begun b) 1 x ≡ void
mark-broken b x e = rw e

no_mark : (b : ℕ) → eqb (lower b) (lower 87) ≡ false → deriv entity_tag 0 b ≡ deriv opaque_tag 0 b
no_mark b e = rw e

pub quote_first : (s : List ℕ) → 0 < length s → get_or s 0 0 ≡ 34 → 0 ≡ agreeing mark s
quote_first [] h e = absurd (omega arith)
quote_first (b ∷ t) h e = go (eqb (lower b) (lower 87)) refl
  where
    go : (x : Bool) → eqb (lower b) (lower 87) ≡ x → 0 ≡ cond x (suc (agreeing (47 ∷ []) t)) 0
    go true f = absurd (true≢false (sym (eq-eqb b 34 e) ∙ no_quote b f))
    go false f = refl

-- how far the mark goes
unmarked : (s : List ℕ) → agreeing mark s ≡ 0 → from rules s entity_tag 0 ≡ from rules s opaque_tag 0
unmarked [] h = refl
unmarked (b ∷ t) h = go (eqb (lower b) (lower 87)) refl h
  where
    go : (x : Bool) → eqb (lower b) (lower 87) ≡ x → cond x (suc (agreeing (47 ∷ []) t)) 0 ≡ 0 → from rules (b ∷ t) entity_tag 0 ≡ from rules (b ∷ t) opaque_tag 0
    go true e f = absurd (omega arith)
    go false e f = ap (λ (g : Grammar Name). turn (live g) none 0 (judge rules g t 1)) (no_mark b e)

module _ (b : ℕ) (t : List ℕ) (short : length (b ∷ t) ≤ 8192) (e : eqb (lower b) (lower 87) ≡ true) where
  opened-mark : header rules (b ∷ t) ≡ from rules (b ∷ t) (begun b) 1
  opened-mark = header-short rules (b ∷ t) short ∙ goes_on rules (b ∷ t) [] entity_tag 0 (begun b) (omega arith) (mark-first b e) refl refl

pub mark-none : (s : List ℕ) → length s ≤ 8192 → agreeing mark s ≡ 0 → AfterMark s false 0
mark-none s short h = record { marks = []; means = λ p. refl; reads = header-short rules s short ∙ unmarked s h }

pub mark-cut : (s : List ℕ) → length s ≤ 8192 → (agreeing mark s ≡ 0 → ⊥) → agreeing mark s < 2 → header rules s ≡ refused 1 (agreeing mark s)
mark-cut [] short n h = absurd (n refl)
mark-cut (b ∷ []) short n h = go (eqb (lower b) (lower 87)) refl n
  where
    go : (x : Bool) → eqb (lower b) (lower 87) ≡ x → (◌≡◌ {A = ℕ} (cond x 1 0) 0 → ⊥) → header rules (b ∷ []) ≡ refused 1 (cond x 1 0)
    go true e m = opened-mark b [] short e ∙ ends-early rules (b ∷ []) [] (begun b) 1 (omega arith) refl
    go false e m = absurd (m refl)
mark-cut (b ∷ x ∷ t) short n h = go (eqb (lower b) (lower 87)) (eqb (lower x) (lower 47)) refl refl n h
  where
    go : (p q : Bool) → eqb (lower b) (lower 87) ≡ p → eqb (lower x) (lower 47) ≡ q → (◌≡◌ {A = ℕ} (cond p (suc (cond q 1 0)) 0) 0 → ⊥) → cond p (suc (cond q 1 0)) 0 < 2
        → header rules (b ∷ x ∷ t) ≡ refused 1 (cond p (suc (cond q 1 0)) 0)
    go true true e f m k = absurd (omega arith)
    go true false e f m k = opened-mark b (x ∷ t) short e ∙ stops_at rules (b ∷ x ∷ t) [] (begun b) 1 (omega arith) (mark-broken b x f)
    go false q e f m k = absurd (m refl)

pub mark-whole : (s : List ℕ) → length s ≤ 8192 → 2 ≤ agreeing mark s → AfterMark s true 2
mark-whole [] short h = absurd (omega arith)
mark-whole (b ∷ []) short h = go (eqb (lower b) (lower 87)) h
  where
    go : (x : Bool) → 2 ≤ cond x 1 0 → AfterMark (b ∷ []) true 2
    go true k = absurd (omega arith)
    go false k = absurd (omega arith)
mark-whole (b ∷ x ∷ t) short h = go (eqb (lower b) (lower 87)) (eqb (lower x) (lower 47)) refl refl h
  where
    go : (p q : Bool) → eqb (lower b) (lower 87) ≡ p → eqb (lower x) (lower 47) ≡ q → 2 ≤ cond p (suc (cond q 1 0)) 0 → AfterMark (b ∷ x ∷ t) true 2
    go true true e f k = record {
      marks = marked b x;
      means = λ p. refl;
      reads = opened-mark b (x ∷ t) short e
          ∙ goes_on rules (b ∷ x ∷ t) [] (begun b) 1 (ahead (marked b x) opaque_tag) (omega arith) (mark-second b x f) refl refl;
    }
    go true false e f k = absurd (omega arith)
    go false q e f k = absurd (omega arith)

agreed_few : (s : List ℕ) → agreeing mark s ≤ 2
agreed_few [] = omega arith
agreed_few (b ∷ []) = go (eqb (lower b) (lower 87))
  where
    go : (x : Bool) → cond x 1 0 ≤ 2
    go true = omega arith
    go false = omega arith
agreed_few (b ∷ x ∷ t) = go (eqb (lower b) (lower 87)) (eqb (lower x) (lower 47))
  where
    go : (p q : Bool) → cond p (suc (cond q 1 0)) 0 ≤ 2
    go true true = omega arith
    go true false = omega arith
    go false q = omega arith

-- no mark, or all of it
pub mark-read : (s : List ℕ) → length s ≤ 8192 → (n : ℕ) → n ≡ agreeing mark s → (n ≡ 1 → ⊥) → AfterMark s (eqb n 2) n
mark-read s short n e h = go (ℕ_discrete n 0)
  where
    go : Dec (n ≡ 0) → AfterMark s (eqb n 2) n
    go (yes z) = subst (λ (k : ℕ). AfterMark s (eqb k 2) k) (sym z) (mark-none s short (sym e ∙ z))
    go (no z) =
        let two : n ≡ 2 = omega (arith, agreed_few s) in
        subst (λ (k : ℕ). AfterMark s (eqb k 2) k) (sym two) (mark-whole s short (omega arith))

-- ## The quoted string

module _ (s : List ℕ) (t : Bool) (i : ℕ) (w : AfterMark s t i) where
  pub quote-none : length s ≤ i → header rules s ≡ refused 1 i
  quote-none h = w.reads ∙ first-none rules s w.marks QUOTE (part opaque quoted_text ⨾ byte QUOTE) refl i h

  module _ (at : i < length s) where
    pub quote-not : (get_or s i 0 ≡ 34 → ⊥) → header rules s ≡ refused 1 i
    quote-not h = w.reads ∙ first-not rules s w.marks QUOTE (part opaque quoted_text ⨾ byte QUOTE) refl i at (ne_eqb (get_or s i 0) 34 h)

    pub quote-is : get_or s i 0 ≡ 34 → AfterQuote s t (i + 1)
    quote-is q = (
      record {
        marks = w.marks;
        means = w.means;
        reads = w.reads
            ∙ first-is rules s w.marks QUOTE (part opaque quoted_text ⨾ byte QUOTE) refl i at (eq-eqb (get_or s i 0) 34 q) refl;
      },
      omega arith,
    )

module _ (s : List ℕ) (t : Bool) (i : ℕ) (w : AfterQuote s t i) (e : ℕ) (d : e ≡ quoted_end s i) where
  abbrev before : List (Part Name)
  before = w.0.marks

  pub opaque-cut_off : length s ≤ e → header rules s ≡ refused 1 e
  opaque-cut_off h =
      w.0.reads ∙ quoted_cut_off rules s before opaque empty refl refl i (λ n x a. refl) (omega (arith, d)) ∙ ap (refused 1) (sym d)

  pub opaque_bad : (get_or s e 0 ≡ 34 → ⊥) → header rules s ≡ refused 1 e
  opaque_bad h =
      w.0.reads ∙ quoted_bad rules s before opaque empty refl refl i (λ n x a. refl) (λ z. h (ap (λ (n : ℕ). get_or s n 0) d ∙ z))
      ∙ ap (refused 1) (sym d)

  module _ (in_text : e < length s) (closing : get_or s e 0 ≡ 34) where
    abbrev inside : ℕ → Part Name
    inside n = record { label = opaque; start = i; text = slice s i n }

    closed : header rules s ≡ from rules s (ahead (before ++ inside e ∷ []) empty) (e + 1)
    closed =
        w.0.reads
        ∙ quoted_closed rules s before opaque empty refl refl i (λ n x a. refl) (omega (arith, d))
        (ap (λ (n : ℕ). get_or s n 0) (sym d) ∙ closing)
        ∙ ap (λ (n : ℕ). from rules s (ahead (before ++ inside n ∷ []) empty) (n + 1)) (sym d)

    pub tag-goes-on : e + 1 < length s → header rules s ≡ refused 1 (e + 1)
    tag-goes-on h = closed ∙ goes_too_far rules s (before ++ inside e ∷ []) (e + 1) h

    pub tag-reads : length s ≤ e + 1 → header rules s ≡ value (record { weak = t; start = i; length = e - i })
    tag-reads h =
        closed ∙ ends-well rules s (before ++ inside e ∷ []) (e + 1) h ∙ ap value (w.0.means (inside e))
        ∙ ap (λ (n : ℕ). value (record { weak = t; start = i; length = n })) (slice-length s i e (omega (arith, d)) (omega arith))
