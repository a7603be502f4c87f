-- What `eq` answers of two iterators, by the bytes that each gives.
use Rattle.std.proofs.Common.{◌≡◌, ℕ, Bool, true, false, ◌&&◌, eqb, List, [], ◌∷◌, map, Option, Some, None, MatchOption, IfSome, sym, refl, ap, ap₂, subst, ◌∙◌}
use Rattle.std.specs.Iterator.{AlwaysYields, YieldsThen, ComparesItemsByEq}
use Rattle.std.specs.List.{AllZip}
use Rattle.std.proofs.lemmas.Iterator.{YieldsList}
use Rattle.octets.specs.Same.{same_by, same?}

module _ {S T : Type 0} (steps : S → Option ℕ → S → Type 0) (others : T → Option ℕ → T → Type 0) (r : Bool) where
  abbrev Last : Option ℕ → Option ℕ → Type 0
  Last o p = MatchOption o (MatchOption p (r ≡ true) (λ _. r ≡ false)) (λ x. (r ≡ false) × IfSome p (λ y. eqb x y ≡ false))

  -- the two answers behind the items that agree
  last : (o p : Option ℕ) (xs ys : List ℕ) (s u : S) (t w : T) → AlwaysYields steps (λ x. x) s xs → AlwaysYields others (λ y. y) t ys
      → steps s o u → others t p w → Last o p → r ≡ same? xs ys
  last None p (x ∷ xs) ys s u t w e f a b h = absurd (e.0 u a)
  last (Some x) p [] ys s u t w e f a b h = absurd (e x u a)
  last None None [] (y ∷ ys) s u t w e f a b h = absurd (f.0 w b)
  last None (Some y) [] [] s u t w e f a b h = absurd (f y w b)
  last (Some x) None (z ∷ xs) (y ∷ ys) s u t w e f a b h = absurd (f.0 w b)
  last (Some x) (Some y) (z ∷ xs) [] s u t w e f a b h = absurd (f y w b)
  last None None [] [] s u t w e f a b h = h
  last None (Some y) [] (z ∷ ys) s u t w e f a b h = h
  last (Some x) None (z ∷ xs) [] s u t w e f a b h = h.0
  last (Some x) (Some y) (z ∷ xs) (v ∷ ys) s u t w e f a b h =
      h.0 ∙ sym (ap (λ c. c && same? xs ys) (sym (ap₂ eqb (e.1 x u a).0 (f.1 y w b).0) ∙ h.1))

  along : (cs bs : List ℕ) (o p : Option ℕ) (xs ys : List ℕ) (s u : S) (t w : T) → AlwaysYields steps (λ x. x) s xs → AlwaysYields others (λ y. y) t ys
      → YieldsThen steps s cs o u → YieldsThen others t bs p w → AllZip (λ x y. eqb x y ≡ true) cs bs → Last o p → r ≡ same? xs ys
  along [] [] o p xs ys s u t w e f a b z h = last o p xs ys s u t w e f (subst (λ j. steps j o u) (sym a.1) a.2) (subst (λ j. others j p w) (sym b.1) b.2) h
  along [] (y ∷ bs) o p xs ys s u t w e f a b z h = absurd z
  along (x ∷ cs) [] o p xs ys s u t w e f a b z h = absurd z
  along (x ∷ cs) (y ∷ bs) o p [] ys s u t w e f a b z h = absurd (e x a.1.0 a.1.1)
  along (x ∷ cs) (y ∷ bs) o p (k ∷ xs) [] s u t w e f a b z h = absurd (f y b.1.0 b.1.1)
  along (x ∷ cs) (y ∷ bs) o p (k ∷ xs) (l ∷ ys) s u t w e f a b z h =
      let m = e.1 x a.1.0 a.1.1 in
      let n = f.1 y b.1.0 b.1.1 in
      along cs bs o p xs ys a.1.0 u b.1.0 w m.1 n.1 (a.0, a.1.2, a.2) (b.0, b.1.2, b.2) z.1 h
      ∙ sym (ap (λ c. c && same? xs ys) (sym (ap₂ eqb m.0 n.0) ∙ z.0))

-- `eq` of an iterator with an iterator
pub eq-items : {S T : Type 0} {steps : S → Option ℕ → S → Type 0} {others : T → Option ℕ → T → Type 0} {s : S} {t : T} {xs ys : List ℕ} (r : Bool)
    → ComparesItemsByEq steps (λ x y. y ≡ x) others s t eqb r → YieldsList steps (λ x. x) s xs → YieldsList others (λ y. y) t ys → r ≡ same? xs ys
eq-items {steps = steps} {others = others} {s = s} {xs = xs} {ys = ys} r d e f =
    along steps others r d.1 d.2 d.3 d.4 xs ys s d.5 d.0 d.6 e.runs (subst (λ j. AlwaysYields others (λ y. y) j ys) (sym d.7) f.runs) d.8 d.9 d.10 d.11

-- items that a function has taken from both
pub same-mapped : (f : ℕ → ℕ) (xs ys : List ℕ) → same? (map f xs) (map f ys) ≡ same_by f xs ys
same-mapped f [] [] = refl
same-mapped f [] (y ∷ ys) = refl
same-mapped f (x ∷ xs) [] = refl
same-mapped f (x ∷ xs) (y ∷ ys) = ap (λ t. eqb (f x) (f y) && t) (same-mapped f xs ys)
