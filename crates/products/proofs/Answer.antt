-- The value of a text is that of its parts, which it has in one way only.
use Prim.Native.Nat.{ℕ}
use native.Mathlib.Omega.{arith}
use mathlib.Core.Path.{◌≡◌, refl, sym, ap, ◌∙◌}
use mathlib.Core.List.{List}
use lib.Dec.{T}
use Rattle.grammar.specs.Grammar.{Part, Parses}
use Rattle.grammar.specs.Reading as G
use Rattle.grammar.specs.Reading.{Verdict, Answers, too_long, malformed, breaks, faulty, reads}
use Rattle.grammar.specs.helpers.Judge.{header}
use Rattle.grammar.proofs.Deterministic.{deterministic?}
use Rattle.grammar.proofs.Demands.{answered_exactly, one_parse}
use Rattle.octets.specs.Bytes.{token?, blank?, escaped?}
use Rattle.products.specs.declared.Products.{Products}
use Rattle.products.specs.Counting.{Name}
use Rattle.products.specs.Grammar.{comment_text?, products, value, rules}

pub one_way : T (deterministic? products)
unfolding token? blank? escaped? comment_text?
one_way = tt

pub value-of-parts : (s : List ℕ) (ps : List (Part Name)) (v : Products) → Parses products 0 s ps → header rules s ≡ G.value v → v ≡ value ps
value-of-parts s ps v p e = go ((answered_exactly rules tt tt one_way s (G.value v)).0 e) refl
  where
    go : {w : Verdict Products} → Answers rules s w → w ≡ G.value v → v ≡ value ps
    go (too_long h) f = let z : ◌≡◌ {A = ℕ} 0 1 = cc in absurd (omega arith)
    go (malformed h m l n) f = let z : ◌≡◌ {A = ℕ} 0 1 = cc in absurd (omega arith)
    go (breaks h b n) f = let z : ◌≡◌ {A = ℕ} 0 1 = cc in absurd (omega arith)
    go (faulty h q n r) f = let z : ◌≡◌ {A = ℕ} 0 1 = cc in absurd (omega arith)
    go (reads {ps = qs} h q n r) f =
        let z : value qs ≡ v = cc in
        sym z ∙ ap value (one_parse rules tt tt one_way s qs ps q p)
