-- The first of some limits that passes a test, by their ranks.
use mathlib.Core.Path.{◌≡◌, refl, sym, ◌∙◌, ap, ap₂, subst}
use mathlib.Core.Bool.{Bool, true, false, cond}
use mathlib.Core.List.{List, [], ◌∷◌, ◌++◌}
use mathlib.Core.Logic.{◌⊎◌, inl, inr, ⊎_elim}
use mathlib.Core.Option.{Option, none, some}
use Prim.Native.Nat.{ℕ, suc, ◌<◌, ◌≤◌}
use native.Mathlib.Omega.{arith}
use lib.Dec.{eqb}
use lib.ListN.{length}
use borrow.Author.Tests.{eqb-true, eq-eqb}
use Rattle.framing.specs.Demand.{rank, Among}
use Rattle.framing.specs.helpers.Scan.{first}
use Rattle.framing.proofs.Cases.{false-true, none-some, same_some}

-- a rank below all says which limit it is
pub same_rank : (ls : List ℕ) (n m : ℕ) → Among ls n → rank ls m ≡ rank ls n → m ≡ n
same_rank [] n m a e = absurd (omega arith)
same_rank (l ∷ ls) n m a e = go (λ b f. same_rank ls n m b f) (eqb m l) (eqb n l) refl refl
  where
    go : (Among ls n → rank ls m ≡ rank ls n → m ≡ n) → (x y : Bool) → eqb m l ≡ x → eqb n l ≡ y → m ≡ n
    go on true true p q = eqb-true m l p ∙ sym (eqb-true n l q)
    go on true false p q = absurd (omega (arith, (rw (p, q) at e)))
    go on false true p q = absurd (omega (arith, (rw (p, q) at e)))
    go on false false p q = on (omega (arith, (rw q at a))) (omega (arith, (rw (p, q) at e)))

-- the first of some limits is one of them, and so is what is one of those behind it
among_first : (l n : ℕ) (ls : List ℕ) → n ≡ l → Among (l ∷ ls) n
among_first l n ls e = rw (eq-eqb n l e) (omega arith)

among_behind : (l n : ℕ) (ls : List ℕ) → Among ls n → Among (l ∷ ls) n
among_behind l n ls a = go (eqb n l)
  where
    go : (x : Bool) → cond x 0 (suc (rank ls n)) < suc (length ls)
    go true = omega arith
    go false = omega (arith, a)

-- with one more behind them all, a limit is one of them or that one
pub among_or : (ls : List ℕ) (one n : ℕ) → Among (ls ++ (one ∷ [])) n → Among ls n ⊎ (n ≡ one)
among_or [] one n a = go (eqb n one) refl
  where
    go : (x : Bool) → eqb n one ≡ x → Among [] n ⊎ (n ≡ one)
    go true e = inr (eqb-true n one e)
    go false e = absurd (omega (arith, (rw e at a)))
among_or (l ∷ ls) one n a = go (λ b. among_or ls one n b) (eqb n l) refl
  where
    go : (Among (ls ++ (one ∷ [])) n → Among ls n ⊎ (n ≡ one)) → (x : Bool) → eqb n l ≡ x → Among (l ∷ ls) n ⊎ (n ≡ one)
    go on true e = inl (among_first l n ls (eqb-true n l e))
    go on false e = ⊎_elim (λ (b : Among ls n). inl (among_behind l n ls b)) (λ (z : n ≡ one). inr z) (on (omega (arith, (rw e at a))))

-- one, or else the other
abbrev pub or_else : Option ℕ → Option ℕ → Option ℕ
or_else none o = o
or_else (some n) o = some n

pub or_none : (o : Option ℕ) → or_else o none ≡ o
or_none none = refl
or_none (some n) = refl

module _ (test : ℕ → Bool) where
  -- limits behind others count where none of those passes
  pub first_append : (ls ms : List ℕ) → first test (ls ++ ms) ≡ or_else (first test ls) (first test ms)
  first_append [] ms = refl
  first_append (l ∷ ls) ms = go (test l) (first_append ls ms)
    where
      go : (x : Bool) → first test (ls ++ ms) ≡ or_else (first test ls) (first test ms)
          → cond x (some l) (first test (ls ++ ms)) ≡ or_else (cond x (some l) (first test ls)) (first test ms)
      go true e = refl
      go false e = e

  -- what is found is a limit, and passes
  pub first_passes : (ls : List ℕ) (n : ℕ) → first test ls ≡ some n → Among ls n × (test n ≡ true)
  first_passes [] n e = none-some e
  first_passes (l ∷ ls) n e = go (λ f. first_passes ls n f) (test l) refl
    where
      go : (first test ls ≡ some n → Among ls n × (test n ≡ true)) → (x : Bool) → test l ≡ x → Among (l ∷ ls) n × (test n ≡ true)
      go on true p = let z : l ≡ n = same_some l n (rw p at e) in (among_first l n ls (sym z), ap test (sym z) ∙ p)
      go on false p = let w : Among ls n × (test n ≡ true) = on (rw p at e) in (among_behind l n ls w.0, w.1)

  -- where a limit passes, that one is found or one of a lower rank
  pub first_found : (ls : List ℕ) (n : ℕ) → Among ls n → test n ≡ true → (m : ℕ) × (first test ls ≡ some m) × (rank ls m ≤ rank ls n)
  first_found [] n a h = absurd (omega arith)
  first_found (l ∷ ls) n a h = go (λ b. first_found ls n b h) (test l) (eqb n l) refl refl
    where
      below : (m : ℕ) (y : Bool) → rank ls m ≤ rank ls n → cond y 0 (suc (rank ls m)) ≤ suc (rank ls n)
      below m true k = omega arith
      below m false k = omega (arith, k)

      past : test l ≡ false → eqb n l ≡ false → (m : ℕ) × (first test ls ≡ some m) × (rank ls m ≤ rank ls n)
          → (m : ℕ) × (first test (l ∷ ls) ≡ some m) × (rank (l ∷ ls) m ≤ rank (l ∷ ls) n)
      past p q w = (w.0, rw p w.1, rw q (below w.0 (eqb w.0 l) w.2))

      go : (Among ls n → (m : ℕ) × (first test ls ≡ some m) × (rank ls m ≤ rank ls n)) → (x y : Bool) → test l ≡ x → eqb n l ≡ y
          → (m : ℕ) × (first test (l ∷ ls) ≡ some m) × (rank (l ∷ ls) m ≤ rank (l ∷ ls) n)
      go on true y p q = (l, rw p refl, rw (eq-eqb l l refl) (omega arith))
      go on false true p q = false-true (sym p ∙ ap test (sym (eqb-true n l q)) ∙ h)
      go on false false p q = past p q (on (omega (arith, (rw q at a))))

  -- where none is found, none passes
  pub first-none : (ls : List ℕ) (n : ℕ) → first test ls ≡ none → Among ls n → test n ≡ false
  first-none ls n e a = go (test n) refl
    where
      go : (x : Bool) → test n ≡ x → x ≡ false
      go true p = let w = first_found ls n a p in none-some (sym e ∙ w.1)
      go false p = refl

  -- and where none passes, none is found
  pub none_first : (ls : List ℕ) → ((n : ℕ) → test n ≡ false) → first test ls ≡ none
  none_first [] f = refl
  none_first (l ∷ ls) f = rw (f l) (none_first ls f)

-- two tests that are the same on the limits find the same
pub first-agree : (test test' : ℕ → Bool) (ls : List ℕ) → ((n : ℕ) → Among ls n → test' n ≡ test n) → first test' ls ≡ first test ls
first-agree test test' [] same = refl
first-agree test test' (l ∷ ls) same =
    ap₂ (λ (x : Bool) (o : Option ℕ). cond x (some l) o) (same l (among_first l l ls refl))
    (first-agree test test' ls (λ n a. same n (among_behind l n ls a)))

-- where the limits but one give the same under two tests, and that one passes the first where it passes the second, the first test finds
-- that one, or both find the same
pub first-same : (test test' : ℕ → Bool) (one : ℕ) → ((n : ℕ) → (n ≡ one → ⊥) → test' n ≡ test n) → (test' one ≡ true → test one ≡ true)
    → (ls : List ℕ) → (first test ls ≡ some one) ⊎ (first test' ls ≡ first test ls)
first-same test test' one same lifts [] = inr refl
first-same test test' one same lifts (l ∷ ls) =
    go (first-same test test' one same lifts ls) (eqb l one) (test l) (test' l) refl refl refl
  where
    differs : eqb l one ≡ false → l ≡ one → ⊥
    differs e z = false-true (sym e ∙ eq-eqb l one z)

    go : (first test ls ≡ some one) ⊎ (first test' ls ≡ first test ls) → (x y z : Bool) → eqb l one ≡ x → test l ≡ y → test' l ≡ z
        → (cond y (some l) (first test ls) ≡ some one) ⊎ (cond z (some l) (first test' ls) ≡ cond y (some l) (first test ls))
    go on true true z e p q = inl (ap some (eqb-true l one e))
    go on true false true e p q =
        false-true (sym p ∙ ap test (eqb-true l one e) ∙ lifts (ap test' (sym (eqb-true l one e)) ∙ q))
    go on true false false e p q = on
    go on false true true e p q = inr refl
    go on false true false e p q = false-true (sym q ∙ same l (differs e) ∙ p)
    go on false false true e p q = false-true (sym (same l (differs e) ∙ p) ∙ q)
    go on false false false e p q = on

-- ## What holds of each in a list
abbrev pub Each : {A : Type 0} → (A → Type 0) → List A → Type 0
Each P [] = Unit {0}
Each P (x ∷ xs) = P x × Each P xs

-- holds of each limit that is one of them
pub among_each : (P : ℕ → Type 0) (ls : List ℕ) (n : ℕ) → Each P ls → Among ls n → P n
among_each P [] n h a = absurd (omega arith)
among_each P (l ∷ ls) n h a = go (λ b. among_each P ls n h.1 b) (eqb n l) refl
  where
    go : (Among ls n → P n) → (x : Bool) → eqb n l ≡ x → P n
    go on true e = subst P (sym (eqb-true n l e)) h.0
    go on false e = on (omega (arith, (rw e at a)))
