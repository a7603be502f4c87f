-- Two grammars that a byte leaves alike.
use Prim.Native.Nat.{ℕ, ◌<◌}
use mathlib.Core.Path.{◌≡◌, sym, ap, ◌∙◌}
use mathlib.Core.List.{List}
use lib.ListN.{length, get_or}
use lib.Seq.{drop-cons}
use Rattle.grammar.specs.Grammar.{Part, Grammar}
use Rattle.grammar.specs.helpers.Derivative.{deriv}
use Rattle.grammar.specs.Reading.{Rules}
use Rattle.grammar.specs.helpers.Checks.{ahead}
use Rattle.grammar.specs.helpers.Scans.{from}
use Rattle.grammar.proofs.Ahead.{ahead-deriv}

module _ {L A : Type 0} (r : Rules L A) (s : List ℕ) (cs : List (Part L)) where
  -- at a byte, what may stand there instead of the end does not count
  pub alike_at : (g h : Grammar L) (i : ℕ) → i < length s → deriv g i (get_or s i 0) ≡ deriv h i (get_or s i 0)
      → from r s (ahead cs g) i ≡ from r s (ahead cs h) i
  alike_at g h i at e =
      rw (drop-cons s i 0 at, ahead-deriv cs g i (get_or s i 0) ∙ ap (ahead cs) e ∙ sym (ahead-deriv cs h i (get_or s i 0)))
