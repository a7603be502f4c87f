-- The bridge for a run of bytes of a class that is no part, as blanks are.
use Prim.Native.Nat.{ℕ, zero, suc, ◌+◌, ◌-◌, ◌≤◌, ◌<◌}
use native.Mathlib.Omega.{arith}
use mathlib.Core.Path.{◌≡◌, refl, ap, ◌∙◌}
use mathlib.Core.Bool.{Bool, true, false, cond}
use mathlib.Core.List.{List, [], ◌++◌, append-nil}
use mathlib.Core.Option.{none}
use lib.ListN.{get_or}
use Rattle.grammar.specs.Grammar.{Class, Part, Grammar, void, empty, byte, star}
use Rattle.grammar.specs.helpers.Derivative.{live, nullable, deriv, ends, then, seq, alt}
use Rattle.grammar.specs.Reading.{Rules}
use Rattle.grammar.specs.helpers.Judge.{held}
use Rattle.grammar.specs.helpers.Checks.{ahead}
use Rattle.grammar.specs.helpers.Scans.{from}
use Rattle.grammar.proofs.Shapes.{alt-void}
use Rattle.grammar.proofs.Scans.{Run, same-judge, goes_on, then-live, then-held, Follows, nothing, blank, solid, follows, dead-live}

module _ {L A : Type 0} (r : Rules L A) (s : List ℕ) (cs : List (Part L)) (c : Class) (g : Grammar L) (l : live g ≡ true) (h : held g ≡ [])
    (apart : (j b : ℕ) → c.has b ≡ true → deriv g j b ≡ void) (i e : ℕ) (run : Run c.has s i e) where
  abbrev skipping : Grammar L
  skipping = then (star (byte c)) g

  star-deriv : (j b : ℕ) → deriv (then (star (byte c)) g) j b ≡ alt (seq (seq (cond (c.has b) empty void) (star (byte c))) g) (deriv g j b)
  star-deriv j b = go (follows g)
    where
      alone : (x : Bool) → seq {L = L} (cond x empty void) (star (byte c)) ≡ alt (seq (seq (cond x empty void) (star (byte c))) empty) void
      alone true = refl
      alone false = refl

      go : Follows g → deriv (then (star (byte c)) g) j b ≡ alt (seq (seq (cond (c.has b) empty void) (star (byte c))) g) (deriv g j b)
      go (nothing z) = dead-live g z l
      go (blank z) = rw z (alone (c.has b))
      go (solid z) = rw (z (star (byte c)))

  skip_in : (j : ℕ) → i ≤ j → j < e → r.limit j cs ≡ none
      → from r s (ahead cs (then (star (byte c)) g)) j ≡ from r s (ahead cs (then (star (byte c)) g)) (j + 1)
  skip_in j a b q =
      let f = run.inside j a b in
      goes_on r s cs (then (star (byte c)) g) j (then (star (byte c)) g) (omega (arith, run.within))
      (star-deriv j (get_or s j 0) ∙ rw (f, apart j (get_or s j 0) f) (alt-void (then (star (byte c)) g))) (then-live (star (byte c)) g l)
      (ap (λ (ps : List (Part L)). r.limit j (cs ++ ps)) (then-held (star (byte c)) g l h) ∙ ap (r.limit j) (append-nil cs) ∙ q)

  walk : (m j : ℕ) → j + m ≡ e → i ≤ j → ((n : ℕ) → j ≤ n → n < e → r.limit n cs ≡ none)
      → from r s (ahead cs (then (star (byte c)) g)) j ≡ from r s (ahead cs (then (star (byte c)) g)) e
  walk zero j a b q =
      let f : j ≡ e = omega arith in
      ap (from r s (ahead cs (then (star (byte c)) g))) f
  walk (suc m) j a b q = skip_in j b (omega arith) (q j (omega arith) (omega arith)) ∙ walk m (j + 1) (omega arith) (omega arith) (λ n x y. q n (omega arith) y)

  skip_out : from r s (ahead cs (then (star (byte c)) g)) e ≡ from r s (ahead cs g) e
  skip_out =
      same-judge r s cs (then (star (byte c)) g) g e (λ at. star-deriv e (get_or s e 0) ∙ rw (run.stops at)) (nulls (follows g)) (end (follows g))
    where
      nulls : Follows g → nullable (then (star (byte c)) g) ≡ nullable g
      nulls (nothing z) = dead-live g z l
      nulls (blank z) = rw z
      nulls (solid z) = rw (z (star (byte c)))

      end : Follows g → ends (then (star (byte c)) g) e ≡ ends g e
      end (nothing z) = dead-live g z l
      end (blank z) = rw z
      end (solid z) = rw (z (star (byte c)))

  pub skip_run : ((n : ℕ) → i ≤ n → n < e → r.limit n cs ≡ none) → from r s (ahead cs (then (star (byte c)) g)) i ≡ from r s (ahead cs g) e
  skip_run q = walk (e - i) i (omega (arith, run.ordered)) (omega arith) q ∙ skip_out
