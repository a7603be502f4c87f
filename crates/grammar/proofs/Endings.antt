-- Parts that are judged once they have ended: when the last of the parts has ended.
use Prim.Native.Nat.{ℕ, suc, ◌<◌}
use borrow.Author.Tests.{eq-eqb, ne_eqb, ltb-true, ltb-false}
use mathlib.Core.Path.{◌≡◌, refl, ◌∙◌}
use mathlib.Core.Bool.{Bool, true, false, ◌&&◌}
use mathlib.Core.List.{List, [], ◌∷◌, ◌++◌}
use lib.Dec.{ltb, eqb}
use lib.ListN.{length, get_or, drop, drop_of_length-le}
use lib.Seq.{drop-cons}
use Rattle.grammar.specs.Grammar.{Part, past}
use Rattle.grammar.specs.Endings.{Judgement, stops, ended}

module _ {L : Type 0} (j : Judgement L) (s : List ℕ) (k : ℕ) where
  pub ended-last : (cs : List (Part L)) (c : Part L)
      → ended j s k (cs ++ c ∷ []) ≡ (eqb (past c.start c.text) (suc k) && stops j c (drop (suc k) s))
  ended-last [] c = refl
  ended-last (d ∷ []) c = refl
  ended-last (d ∷ e ∷ cs) c = ended-last (e ∷ cs) c

  module _ (cs : List (Part L)) (c : Part L) where
    -- the byte at k is not its last
    pub ended_elsewhere : (past c.start c.text ≡ suc k → ⊥) → ended j s k (cs ++ c ∷ []) ≡ false
    ended_elsewhere n = ended-last cs c ∙ rw (ne_eqb (past c.start c.text) (suc k) n)

    -- the byte behind goes on with it
    pub ended-not_yet : suc k < length s → j.goes_on c.label (get_or s (suc k) 0) ≡ true → ended j s k (cs ++ c ∷ []) ≡ false
    ended-not_yet at g = ended-last cs c ∙ go (eqb (past c.start c.text) (suc k))
      where
        on : stops j c (drop (suc k) s) ≡ false
        on = rw (drop-cons s (suc k) 0 at, g)

        go : (x : Bool) → (x && stops j c (drop (suc k) s)) ≡ false
        go true = on
        go false = refl

    -- the byte at k is its last, and no byte of it follows
    pub ended_there : past c.start c.text ≡ suc k → (suc k < length s → j.goes_on c.label (get_or s (suc k) 0) ≡ false)
        → ended j s k (cs ++ c ∷ []) ≡ true
    ended_there e g = ended-last cs c ∙ rw (eq-eqb (past c.start c.text) (suc k) e) (go (ltb (suc k) (length s)) refl)
      where
        go : (x : Bool) → ltb (suc k) (length s) ≡ x → stops j c (drop (suc k) s) ≡ true
        go true f = let at = ltb-true (suc k) (length s) f in rw (drop-cons s (suc k) 0 at, g at)
        go false f = rw (drop_of_length-le s {i = suc k} (ltb-false (suc k) (length s) f))
