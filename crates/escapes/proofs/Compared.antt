-- What `eq` answers of two iterators that show the bytes they have left.
use Rattle.std.proofs.Common.{◌≡◌, ℕ, Bool, true, false, eqb, List, [], ◌∷◌, Option, Some, None, MatchOption, IfSome, sym, ap₂, ◌∙◌}
use Rattle.std.specs.Iterator.{YieldsFirst, Yields}
use Rattle.std.specs.List.{AllZip}
use Rattle.octets.specs.Same.{same?}

module _ {S : Type 0} (left : S → List ℕ) where
  -- items that agree one by one
  pub same-behind : (s t : S) (xs ys : List ℕ) (u v : S) → Yields (YieldsFirst left) s xs u → Yields (YieldsFirst left) t ys v
      → AllZip (λ x y. eqb x y ≡ true) xs ys → same? (left s) (left t) ≡ same? (left u) (left v)
  same-behind s t [] [] u v e f z = ap₂ (λ (a b : S). same? (left a) (left b)) e f
  same-behind s t [] (y ∷ ys) u v e f z = absurd z
  same-behind s t (x ∷ xs) [] u v e f z = absurd z
  same-behind s t (x ∷ xs) (y ∷ ys) u v e f z = ap₂ same? e.1 f.1 ∙ rw z.0 (same-behind e.0 f.0 xs ys u v e.2 f.2 z.1)

  -- and the answers behind them
  pub same-last : (u v w x : S) (o p : Option ℕ) (r : Bool) → YieldsFirst left u o w → YieldsFirst left v p x
      → MatchOption o (MatchOption p (r ≡ true) (λ _. r ≡ false)) (λ a. (r ≡ false) × IfSome p (λ b. eqb a b ≡ false))
      → r ≡ same? (left u) (left v)
  same-last u v w x None None r e f h = h ∙ sym (ap₂ same? e.0 f.0)
  same-last u v w x None (Some b) r e f h = h ∙ sym (ap₂ same? e.0 f)
  same-last u v w x (Some a) None r e f h = h.0 ∙ sym (ap₂ same? e f.0)
  same-last u v w x (Some a) (Some b) r e f h = h.0 ∙ sym (ap₂ same? e f ∙ rw h.1)
