-- The quoted bytes of a tag that was read stand within it, and are its opaque part.
use Prim.Native.Nat.{ℕ, ◌+◌, ◌≤◌}
use native.Mathlib.Omega.{arith}
use mathlib.Core.Path.{◌≡◌, subst}
use mathlib.Core.List.{List, [], ◌∷◌}
use lib.ListN.{length}
use Rattle.grammar.specs.Grammar.{Part}
use Rattle.grammar.specs.Reading as G
use Rattle.grammar.specs.helpers.Judge.{header}
use Rattle.grammar.specs.helpers.Slices.{Slices}
use Rattle.grammar.proofs.Pieces.{slice-within, value-slices}
use Rattle.etag.specs.declared.Tag.{Tag}
use Rattle.etag.specs.Grammar.{Name, value, rules}
use Rattle.etag.proofs.Demands.{one_way}

abbrev Within : List ℕ → Tag → Type 0
Within s v = v.start + v.length ≤ length s

within-parts : (s : List ℕ) (ps : List (Part Name)) → Slices 0 s ps → Within s (value ps)
within-parts s [] w = omega arith
within-parts s (a ∷ []) w = omega (arith, slice-within s a w.0)
within-parts s (a ∷ b ∷ ps) w = omega (arith, slice-within s b w.1.0)

pub within : (s : List ℕ) (v : Tag) → header rules s ≡ G.value v → Within s v
within s v e =
    let p = value-slices rules tt tt one_way s v e in
    subst (Within s) p.2 (within-parts s p.0 p.1)
