-- A limit that stays passed is broken at one place.
use Prim.Native.Nat.{ℕ, zero, suc, ◌≤◌, ◌<◌}
use native.Mathlib.Omega.{arith}
use mathlib.Core.Path.{◌≡◌, sym, ap, subst, ◌∙◌}
use mathlib.Core.Logic.{◌⊎◌, inl, inr, ⊎_elim}
use mathlib.Core.List.{List, ◌++◌, append_assoc}
use mathlib.Core.Option.{some}
use lib.Dec.{T}
use lib.ListN.{length, take, drop, take-append-drop}
use lib.Seq.{take-take, length-take-le}
use Rattle.grammar.specs.Grammar.{Part, Parses}
use Rattle.grammar.specs.Beginnings.{Live}
use Rattle.grammar.specs.helpers.Derivative.{live, residual}
use Rattle.grammar.specs.Reading.{Limit, Rules, parts_before, SoFar, Breaks, Stays}
use Rattle.grammar.specs.helpers.Judge.{held}
use Rattle.grammar.specs.helpers.Checks.{fresh?}
use Rattle.grammar.proofs.Derivative.{residual-means}
use Rattle.grammar.proofs.Longest.{live-front}
use Rattle.grammar.proofs.Exact.{below, orders, Steady, begun-parts, so_far, of_live}

module _ {L A : Type 0} (r : Rules L A) (fresh : T (fresh? r.grammar)) (steady : Steady r.grammar) where
  -- the parts as far as a beginning holds them are those of the whole text
  pub begun_with : (s : List ℕ) (qs : List (Part L)) → Parses r.grammar 0 s qs → (n : ℕ) → n ≤ length s → (ps : List (Part L))
      → SoFar r (take n s) ps → ps ≡ parts_before n qs
  begun_with s qs m n at ps v =
      let parse = subst (λ (p : List ℕ). Parses r.grammar 0 p qs) (sym (take-append-drop n s)) m in
      (so_far r fresh steady (take n s) ps v).1
      ∙ sym (begun-parts r fresh steady (take n s) (drop n s) qs ((residual-means r.grammar 0 (take n s) (drop n s) qs).0 parse))
      ∙ ap (λ (i : ℕ). parts_before i qs) (length-take-le n s at)

  module _ (l : Limit) (stays : Stays r l) where
    stays_on : (j k : ℕ) (ps : List (Part L)) → j ≤ k → r.limit j (parts_before (suc j) ps) ≡ some l
        → r.limit k (parts_before (suc k) ps) ≡ some l
    stays_on j zero ps h e = subst (λ (i : ℕ). r.limit i (parts_before (suc i) ps) ≡ some l) (omega arith) e
    stays_on j (suc k) ps h e =
        ⊎_elim (λ a. stays k ps (stays_on j k ps (omega arith) e)) (λ a. subst (λ (i : ℕ). r.limit i (parts_before (suc i) ps) ≡ some l) a e)
        (below j (suc k) (omega arith))

    -- one parse of the longer beginning has the parts of each shorter one
    module _ (s : List ℕ) (n : ℕ) (at : n ≤ length s) (ps : List (Part L)) (v : SoFar r (take n s) ps) (m : ℕ) (h : m ≤ n) where
      split : take n s ≡ take m s ++ drop m (take n s)
      split = sym (ap (λ (x : List ℕ). x ++ drop m (take n s)) (sym (take-take m n s h)) ∙ take-append-drop m (take n s))

      lives : T (live (residual r.grammar 0 (take m s)))
      lives =
          live-front r.grammar (take m s) (drop m (take n s))
          (subst (λ (p : List ℕ). Live r.grammar p) split (v.0, v.2, (v.1, v.3)))

      parts : parts_before m v.1 ≡ held (residual r.grammar 0 (take m s))
      parts =
          let rest = drop m (take n s) ++ v.0 in
          let e : take n s ++ v.0 ≡ take m s ++ rest = ap (λ (p : List ℕ). p ++ v.0) split ∙ append_assoc (take m s) (drop m (take n s)) v.0 in
          let parse = subst (λ (p : List ℕ). Parses r.grammar 0 p v.1) e v.3 in
          ap (λ (i : ℕ). parts_before i v.1) (sym (length-take-le m s (omega arith)))
          ∙ begun-parts r fresh steady (take m s) rest v.1 ((residual-means r.grammar 0 (take m s) rest v.1).0 parse)

    pub earlier : (s : List ℕ) (j k : ℕ) → j < k → Breaks r s l j → Breaks r s l k → ⊥
    earlier s j zero h b c = omega arith
    earlier s j (suc k) h b c =
        let v = c.1.1 in
        let at : suc (suc k) ≤ length s = omega (arith, c.0) in
        let here = (so_far r fresh steady (take (suc j) s) b.1.0 b.1.1).1 ∙ sym (parts s (suc (suc k)) at c.1.0 v (suc j) (omega arith)) in
        let first = sym (ap (r.limit j) here) ∙ b.1.2 in
        let last = parts s (suc (suc k)) at c.1.0 v (suc k) (omega arith) in
        c.2 (
          held (residual r.grammar 0 (take (suc k) s)),
          of_live r fresh steady (take (suc k) s) (lives s (suc (suc k)) at c.1.0 v (suc k) (omega arith)),
          sym (ap (r.limit k) last) ∙ stays_on j k v.1 (omega arith) first,
        )

    pub one_place : (s : List ℕ) (j k : ℕ) → Breaks r s l j → Breaks r s l k → j ≡ k
    one_place s j k b c = go (orders j k)
      where
        go : (j < k) ⊎ ((k < j) ⊎ (j ≡ k)) → j ≡ k
        go (inl h) = absurd (earlier s j k h b c)
        go (inr (inl h)) = absurd (earlier s k j h c b)
        go (inr (inr h)) = h
