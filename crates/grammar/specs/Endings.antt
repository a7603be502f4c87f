-- Parts that are judged once they have ended: "A last below its first, once its digits end, is malformed at its last digit, whatever
-- follows" (document 02, request (iv)). The place is that of the part's last byte; the byte behind it, or the end of the value, decides.
use Rattle.std.specs.Prelude.{ℕ, suc, Bool, true, false, cond, ◌&&◌, not, List, [], ◌∷◌, eqb, drop}
use Rattle.std.proofs.Math.Option.{some}
use Rattle.grammar.specs.Grammar.{Part, past}
use Rattle.grammar.specs.Reading.{Rules, unfit}

-- What parts are judged by: which bytes go on with a part of that name, and when the last of the parts, once it has ended, does not fit.
pub record Judgement (L : Type 0) : Type 0 where
  pub goes_on : L → ℕ → Bool
  pub misfit : List (Part L) → Bool

module _ {L : Type 0} (j : Judgement L) where
  -- what follows a part does not go on with it: it begins with another byte, or nothing follows
  abbrev pub stops : Part L → List ℕ → Bool
  stops c [] = true
  stops c (b ∷ s) = not (j.goes_on c.label b)

  -- the last of the parts ends with the byte at the place k of s
  abbrev pub ended : List ℕ → ℕ → List (Part L) → Bool
  ended s k [] = false
  ended s k (c ∷ []) = eqb (past c.start c.text) (suc k) && stops c (drop (suc k) s)
  ended s k (c ∷ d ∷ ps) = ended s k (d ∷ ps)

  -- the rules r for the header value s, with that judgement: a part that does not fit is found with its last byte
  abbrev pub judging : {A : Type 0} → Rules L A → List ℕ → Rules L A
  judging r s = record {
    grammar = r.grammar;
    limit = λ k ps. cond (ended s k ps && j.misfit ps) (some unfit) (r.limit k ps);
    fault = r.fault;
    value = r.value;
  }
