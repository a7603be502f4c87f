-- The lines of an input, over the grammar.
use mathlib.Core.Path.{◌≡◌, refl, sym, ◌∙◌, ap, ap₂, subst}
use mathlib.Core.Bool.{false}
use mathlib.Core.List.{List, [], ◌∷◌, ◌++◌, append_assoc, append-nil}
use Prim.Native.Nat.{ℕ, ◌<◌}
use native.Mathlib.Omega.{arith}
use lib.Dec.{eqb}
use lib.ListN.{length}
use borrow.Author.Tests.{eqb-true}
use Rattle.numerals.proofs.Digits.{split}
use Rattle.lines.specs.Grammar as G
use Rattle.lines.specs.Grammar.{NoLf, Lines}
use Rattle.lines.specs.Reading.{lines_from, rest_from, last_line, lines_of}
use Rattle.lines.proofs.Ends as Ends

abbrev with_last : List (List ℕ) → List ℕ → List (List ℕ)
with_last ls rest = ls ++ last_line rest

-- bytes without LF go on with the line begun
free_lines : {l : List ℕ} (begun xs : List ℕ) → NoLf l
    → (lines_from begun (l ++ xs) ≡ lines_from (begun ++ l) xs) × (rest_from begun (l ++ xs) ≡ rest_from (begun ++ l) xs)
free_lines begun xs G.none = (
  ap (λ (y : List ℕ). lines_from y xs) (sym (append-nil begun)),
  ap (λ (y : List ℕ). rest_from y xs) (sym (append-nil begun)),
)
free_lines begun xs (G.more {b = b} {xs = l} e f) =
    let g = free_lines (begun ++ (b ∷ [])) xs f in (
      Ends.lines-on begun b (l ++ xs) e ∙ g.0 ∙ ap (λ (y : List ℕ). lines_from y xs) (append_assoc begun (b ∷ []) l),
      Ends.rest-on begun b (l ++ xs) e ∙ g.1 ∙ ap (λ (y : List ℕ). rest_from y xs) (append_assoc begun (b ∷ []) l),
    )

last_some : (l : List ℕ) → 0 < length l → last_line l ≡ l ∷ []
last_some [] h = absurd (omega arith)
last_some (b ∷ l) h = refl

pub lines-is : {xs : List ℕ} {ls : List (List ℕ)} → Lines xs ls → lines_of xs ≡ ls
unfolding lines_of
lines-is G.none = ap₂ with_last (Ends.lines_none []) (Ends.rest-none [])
lines-is (G.last {l = l} f h) =
    let g : (lines_from [] (l ++ []) ≡ lines_from l []) × (rest_from [] (l ++ []) ≡ rest_from l []) = free_lines [] [] f in
    ap (λ (y : List ℕ). with_last (lines_from [] y) (rest_from [] y)) (sym (append-nil l))
    ∙ ap₂ with_last (g.0 ∙ Ends.lines_none l) (g.1 ∙ Ends.rest-none l)
    ∙ last_some l h
lines-is (G.next {l = l} {xs = xs} f n) =
    let g : (lines_from [] (l ++ (10 ∷ xs)) ≡ lines_from l (10 ∷ xs)) × (rest_from [] (l ++ (10 ∷ xs)) ≡ rest_from l (10 ∷ xs))
    = free_lines [] (10 ∷ xs) f in
    ap₂ with_last (g.0 ∙ Ends.lines-lf l 10 xs refl) (g.1 ∙ Ends.rest-lf l 10 xs refl)
    ∙ ap (λ (x : List (List ℕ)). l ∷ x) (lines-is n)

free_snoc : {l : List ℕ} (b : ℕ) → NoLf l → eqb b 10 ≡ false → NoLf (l ++ (b ∷ []))
free_snoc b G.none e = G.more e G.none
free_snoc b (G.more d f) e = G.more d (free_snoc b f e)

lines-begun : (begun xs : List ℕ) → NoLf begun → Lines (begun ++ xs) (with_last (lines_from begun xs) (rest_from begun xs))
lines-begun begun [] f = subst (Lines (begun ++ [])) (sym (ap₂ with_last (Ends.lines_none begun) (Ends.rest-none begun)))
    (subst (λ (z : List ℕ). Lines z (last_line begun)) (sym (append-nil begun)) (ends begun f))
  where
    ends : (l : List ℕ) → NoLf l → Lines l (last_line l)
    ends [] k = G.none
    ends (b ∷ l) k = G.last k (omega arith)
lines-begun begun (b ∷ xs) f =
    let found = with_last (lines_from begun (b ∷ xs)) (rest_from begun (b ∷ xs)) in
    split (eqb b 10)
    (λ e. subst (λ (c : ℕ). Lines (begun ++ (c ∷ xs)) found) (sym (eqb-true b 10 e))
    (subst (Lines (begun ++ (10 ∷ xs))) (sym (ap₂ with_last (Ends.lines-lf begun b xs e) (Ends.rest-lf begun b xs e)))
    (G.next f (lines-begun [] xs G.none))))
    (λ e. subst (λ (z : List ℕ). Lines z found) (append_assoc begun (b ∷ []) xs)
    (subst (Lines ((begun ++ (b ∷ [])) ++ xs)) (sym (ap₂ with_last (Ends.lines-on begun b xs e) (Ends.rest-on begun b xs e)))
    (lines-begun (begun ++ (b ∷ [])) xs (free_snoc b f e))))

pub lines_are : (xs : List ℕ) → Lines xs (lines_of xs)
unfolding lines_of
lines_are xs = lines-begun [] xs G.none
