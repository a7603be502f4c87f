-- Which limit a byte breaks, as parts are added one by one.
use Prim.Native.Nat.{ℕ, suc, ◌+◌, ◌≤◌, ◌<◌}
use native.Mathlib.Omega.{arith}
use borrow.Author.Tests.{lt-ltb, le-ltb}
use mathlib.Core.Path.{◌≡◌, refl, ap, ◌∙◌}
use mathlib.Core.Bool.{Bool, true, false, cond, ◌&&◌}
use mathlib.Core.List.{List, [], ◌∷◌, ◌++◌, append_assoc}
use mathlib.Core.Option.{none, some}
use Rattle.grammar.specs.Grammar.{Part}
use Rattle.grammar.specs.Reading.{crowded, unfit}
use Rattle.grammar.specs.Endings.{ended}
use Rattle.ranges.specs.Grammar.{Name, opens?, opened, last?, backward, ends_backward, forward, element_limit, rules}

opened_append : (ps qs : List (Part Name)) → opened (ps ++ qs) ≡ opened ps + opened qs
opened_append [] qs = omega arith
opened_append (c ∷ ps) qs = go (opens? c.label) (opened_append ps qs)
  where
    go : (x : Bool) → opened (ps ++ qs) ≡ opened ps + opened qs
        → cond x (suc (opened (ps ++ qs))) (opened (ps ++ qs)) ≡ cond x (suc (opened ps)) (opened ps) + opened qs
    go true e = omega arith
    go false e = e

pub opened_one : (ps : List (Part Name)) (c : Part Name) → opens? c.label ≡ true → opened (ps ++ c ∷ []) ≡ opened ps + 1
opened_one ps c e = opened_append ps (c ∷ []) ∙ rw e

pub opened-same : (ps : List (Part Name)) (c : Part Name) → opens? c.label ≡ false → opened (ps ++ c ∷ []) ≡ opened ps
opened-same ps c e = opened_append ps (c ∷ []) ∙ rw e (omega arith)

-- the last two parts are compared, and no others
pub backward-last : (ps : List (Part Name)) (a b : Part Name) → ends_backward (ps ++ a ∷ b ∷ []) ≡ backward a b
backward-last [] a b = refl
backward-last (c ∷ []) a b = refl
backward-last (c ∷ d ∷ []) a b = refl
backward-last (c ∷ d ∷ e ∷ ps) a b = backward-last (d ∷ e ∷ ps) a b

pub not-backward : (ps : List (Part Name)) (c : Part Name) → last? c.label ≡ false → ends_backward (ps ++ c ∷ []) ≡ false
not-backward [] c f = refl
not-backward (a ∷ []) c f = rw f
not-backward (a ∷ b ∷ []) c f = rw f
not-backward (a ∷ b ∷ d ∷ ps) c f = not-backward (b ∷ d ∷ ps) c f

and-false : (x : Bool) → (x && false) ≡ false
and-false true = refl
and-false false = refl

module _ (n : ℕ) (s : List ℕ) (k : ℕ) where
  module _ (ps : List (Part Name)) (x : Bool) (e : (ended forward s k ps && ends_backward ps) ≡ x) where
    pub within_limit : opened ps ≤ element_limit → (rules n s).limit k ps ≡ cond x (some unfit) none
    within_limit h = rw (e, le-ltb element_limit (opened ps) h)

    pub beyond-limit : x ≡ false → element_limit < opened ps → (rules n s).limit k ps ≡ some crowded
    beyond-limit f h = rw (e, f, lt-ltb element_limit (opened ps) h)

  -- a last part that is no last position
  pub fits : (ps : List (Part Name)) (c : Part Name) → last? c.label ≡ false
      → (ended forward s k (ps ++ c ∷ []) && ends_backward (ps ++ c ∷ [])) ≡ false
  fits ps c f = rw (not-backward ps c f) (and-false (ended forward s k (ps ++ c ∷ [])))

  -- one that has not ended
  pub not-ended : (ps : List (Part Name)) → ended forward s k ps ≡ false → (ended forward s k ps && ends_backward ps) ≡ false
  not-ended ps f = rw f

  -- a last position that has ended, behind its first
  pub compared : (ps : List (Part Name)) (a b : Part Name) → ended forward s k ((ps ++ a ∷ []) ++ b ∷ []) ≡ true
      → (ended forward s k ((ps ++ a ∷ []) ++ b ∷ []) && ends_backward ((ps ++ a ∷ []) ++ b ∷ [])) ≡ backward a b
  compared ps a b f = rw f (ap ends_backward (append_assoc ps (a ∷ []) (b ∷ [])) ∙ backward-last ps a b)
