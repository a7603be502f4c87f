-- Which limit a byte breaks, as parts are added one by one.
use Prim.Native.Nat.{ℕ, suc, ◌≤◌, ◌<◌}
use native.Mathlib.Omega.{arith}
use borrow.Author.Tests.{eq-eqb, ne_eqb, lt-ltb, le-ltb}
use mathlib.Core.Path.{◌≡◌, refl, sym, ap, ◌∙◌}
use mathlib.Core.Bool.{Bool, true, false, cond, ◌&&◌, ◌||◌}
use mathlib.Core.List.{List, [], ◌∷◌, ◌++◌, append-nil, append_assoc}
use mathlib.Core.Option.{Option, none, some}
use lib.Dec.{ltb, eqb}
use lib.ListN.{length}
use Rattle.grammar.specs.Grammar.{Part, past}
use Rattle.grammar.specs.Reading.{Limit, crowded, repeated}
use Rattle.grammar.specs.helpers.Scans.{slice}
use Rattle.grammar.proofs.Longest.{past-length}
use Rattle.grammar.proofs.Pieces.{slice-length}
use Rattle.media.specs.declared.Parameter.{Parameter}
use Rattle.media.specs.Grammar.{Name, attribute, attribute?, attributes, has_name, repeats, limit, parameter_limit}
use Rattle.media.specs.helpers.Places.{names_at}
use Rattle.media.specs.helpers.Scan.{texts}

module _ (k : ℕ) (ps : List (Part Name)) where
  pub limit-crowded : parameter_limit < length (attributes ps) → limit k ps ≡ some crowded
  limit-crowded h = rw (lt-ltb parameter_limit (length (attributes ps)) h)

  pub limit-kept : length (attributes ps) ≤ parameter_limit → (x : Bool) → repeats k [] (attributes ps) ≡ x → limit k ps ≡ cond x (some repeated) none
  limit-kept h x e = rw (le-ltb parameter_limit (length (attributes ps)) h, e)

-- ## A part more

attributes_append : (ps qs : List (Part Name)) → attributes (ps ++ qs) ≡ attributes ps ++ attributes qs
attributes_append [] qs = refl
attributes_append (c ∷ ps) qs = go (attribute? c.label) (attributes_append ps qs)
  where
    go : (x : Bool) → attributes (ps ++ qs) ≡ attributes ps ++ attributes qs
        → cond x (c ∷ attributes (ps ++ qs)) (attributes (ps ++ qs)) ≡ cond x (c ∷ attributes ps) (attributes ps) ++ attributes qs
    go true e = ap (λ (cs : List (Part Name)). c ∷ cs) e
    go false e = e

pub attributes_with : (ps : List (Part Name)) (i : ℕ) (t : List ℕ)
    → attributes (ps ++ record { label = attribute; start = i; text = t } ∷ [])
    ≡ attributes ps ++ record { label = attribute; start = i; text = t } ∷ []
attributes_with ps i t = attributes_append ps (record { label = attribute; start = i; text = t } ∷ [])

pub attributes_without : (ps : List (Part Name)) (c : Part Name) → attribute? c.label ≡ false → attributes (ps ++ c ∷ []) ≡ attributes ps
attributes_without ps c e = attributes_append ps (c ∷ []) ∙ rw e (append-nil (attributes ps))

pub limit_without : (k : ℕ) (ps : List (Part Name)) (c : Part Name) → attribute? c.label ≡ false → limit k (ps ++ c ∷ []) ≡ limit k ps
limit_without k ps c e = ap limited (attributes_without ps c e)
  where
    limited : List (Part Name) → Option Limit
    limited cs = cond (ltb parameter_limit (length cs)) (some crowded) (cond (repeats k [] cs) (some repeated) none)

pub texts_append : (ps qs : List (Part Name)) → texts (ps ++ qs) ≡ texts ps ++ texts qs
texts_append [] qs = refl
texts_append (c ∷ ps) qs = ap (λ (ts : List (List ℕ)). c.text ∷ ts) (texts_append ps qs)

pub texts-length : (ps : List (Part Name)) → length (texts ps) ≡ length ps
texts-length [] = refl
texts-length (c ∷ ps) = ap suc (texts-length ps)

pub names-length : (s : List ℕ) (ps : List Parameter) → length (names_at s ps) ≡ length ps
names-length s [] = refl
names-length s (p ∷ ps) = ap suc (names-length s ps)

repeats_snoc : (k : ℕ) (before : List (List ℕ)) (cs : List (Part Name)) (a : Part Name)
    → repeats k before (cs ++ a ∷ []) ≡ (repeats k before cs || (eqb (past a.start a.text) k && has_name a.text (before ++ texts cs)))
repeats_snoc k before [] a =
    or_false _ ∙ ap (λ (ts : List (List ℕ)). eqb (past a.start a.text) k && has_name a.text ts) (sym (append-nil before))
  where
    or_false : (x : Bool) → (x || false) ≡ x
    or_false true = refl
    or_false false = refl
repeats_snoc k before (c ∷ cs) a =
    ap (λ (x : Bool). (eqb (past c.start c.text) k && has_name c.text before) || x)
    (repeats_snoc k (before ++ c.text ∷ []) cs a
    ∙ ap (λ (ts : List (List ℕ)). repeats k (before ++ c.text ∷ []) cs || (eqb (past a.start a.text) k && has_name a.text ts))
    (append_assoc before (c.text ∷ []) (texts cs)))
    ∙ or_assoc (eqb (past c.start c.text) k && has_name c.text before) (repeats k (before ++ c.text ∷ []) cs) _
  where
    or_assoc : (x y z : Bool) → (x || (y || z)) ≡ ((x || y) || z)
    or_assoc true y z = refl
    or_assoc false y z = refl

-- an attribute that stands from i to e in s, behind those of cs
module _ (s : List ℕ) (cs : List (Part Name)) (i e : ℕ) (a : i ≤ e) (b : e ≤ length s) where
  abbrev named : Part Name
  named = record { label = attribute; start = i; text = slice s i e }

  ends_there : past i (slice s i e) ≡ e
  ends_there = past-length i (slice s i e) ∙ omega (arith, slice-length s i e a b)

  -- at another place than behind it
  pub repeats_elsewhere : (k : ℕ) → (e ≡ k → ⊥) → repeats k [] cs ≡ false → repeats k [] (cs ++ named ∷ []) ≡ false
  repeats_elsewhere k n q = repeats_snoc k [] cs named ∙ rw (q, ends_there, ne_eqb e k n)

  -- behind it
  pub repeats-behind : repeats e [] cs ≡ false → repeats e [] (cs ++ named ∷ []) ≡ has_name (slice s i e) (texts cs)
  repeats-behind q = repeats_snoc e [] cs named ∙ rw (q, ends_there, eq-eqb e e refl)
