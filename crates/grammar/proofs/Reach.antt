-- How far a text stays live is computed by `reach`: the length of its longest live beginning.
use Prim.Native.Nat.{ℕ, zero, suc, ◌+◌, ◌-◌, ◌≤◌, ◌<◌}
use native.Mathlib.Omega.{arith}
use borrow.Author.Tests.{ltb-true, ltb-false}
use mathlib.Core.Path.{◌≡◌, refl, sym, ap, subst, ◌∙◌}
use mathlib.Core.Bool.{Bool, true, false, cond}
use mathlib.Core.List.{List, [], ◌∷◌, ◌++◌, append_assoc}
use lib.Dec.{T, ltb}
use lib.ListN.{length, take, length-append}
use lib.Seq.{take_at, take-append-add}
use Rattle.grammar.specs.Grammar.{Grammar, past}
use Rattle.grammar.specs.Beginnings.{Live, Longest}
use Rattle.grammar.specs.helpers.Derivative.{live, deriv, residual, reach}
use Rattle.grammar.proofs.Longest.{residual_snoc, past_snoc, live_computed, live-front}

module _ {L : Type 0} (g : Grammar L) (s : List ℕ) where
  -- p is live, and no beginning that is longer
  stays : (p t : List ℕ) → s ≡ p ++ t → T (live (residual g 0 p)) → ((m : ℕ) → length p < m → m ≤ length s → Live g (take m s) → ⊥)
      → Longest g s (length p)
  stays p t e l f = record {
    within = omega (arith, ap length e, length-append p t);
    lives = rw (e, take_at p t (length p) refl) ((live_computed g p).1 l);
    longest = λ m h v. go m h v (ltb (length p) m) refl;
  }
    where
      go : (m : ℕ) → m ≤ length s → Live g (take m s) → (x : Bool) → ltb (length p) m ≡ x → m ≤ length p
      go m h v true d = absurd (f m (ltb-true (length p) m d) h v)
      go m h v false d = ltb-false (length p) m d

  -- a byte that leaves nothing
  no_longer : (p : List ℕ) (b : ℕ) (t : List ℕ) → s ≡ p ++ (b ∷ t) → live (residual g 0 (p ++ b ∷ [])) ≡ false → (m : ℕ) → length p < m
      → m ≤ length s
      → Live g (take m s) → ⊥
  no_longer p b t e d m h k v = rw d at (live-front g on (take (m - suc (length p)) t) (rw beyond at v))
    where
      on : List ℕ
      on = p ++ (b ∷ [])

      on-length : length (p ++ (b ∷ [])) ≡ suc (length p)
      on-length = length-append p (b ∷ []) ∙ omega arith

      beyond : take m s ≡ (p ++ (b ∷ [])) ++ take (m - suc (length p)) t
      beyond =
          let f : m ≡ length (p ++ (b ∷ [])) + (m - suc (length p)) = omega (arith, on-length) in
          ap (take m) (e ∙ sym (append_assoc p (b ∷ []) t)) ∙ ap (λ (n : ℕ). take n ((p ++ (b ∷ [])) ++ t)) f
          ∙ take-append-add (p ++ (b ∷ [])) t (m - suc (length p))

  walk : (p t : List ℕ) → s ≡ p ++ t → T (live (residual g 0 p)) → Longest g s (length p + reach (residual g 0 p) (past 0 p) t)
  walk p [] e l =
      let z : length p ≡ length p + 0 = omega arith in
      subst (Longest g s) z (stays p [] e l (λ m h k v. omega (arith, ap length e, length-append p [])))
  walk p (b ∷ t) e l = go (live (deriv (residual g 0 p) (past 0 p) b)) refl (walk (p ++ b ∷ []) t (e ∙ sym (append_assoc p (b ∷ []) t)))
    where
      go : (x : Bool) → live (deriv (residual g 0 p) (past 0 p) b) ≡ x
          → (T (live (residual g 0 (p ++ b ∷ []))) → Longest g s (length (p ++ b ∷ []) + reach (residual g 0 (p ++ b ∷ [])) (past 0 (p ++ b ∷ [])) t))
          → Longest g s (length p + cond x (suc (reach (deriv (residual g 0 p) (past 0 p) b) (suc (past 0 p)) t)) zero)
      go true d r =
          let z : length (p ++ b ∷ []) + reach (deriv (residual g 0 p) (past 0 p) b) (suc (past 0 p)) t
          ≡ length p + suc (reach (deriv (residual g 0 p) (past 0 p) b) (suc (past 0 p)) t) = omega (arith, length-append p (b ∷ [])) in
          subst (Longest g s) z
          (subst (λ (n : ℕ). Longest g s (length (p ++ b ∷ []) + reach (deriv (residual g 0 p) (past 0 p) b) n t)) (past_snoc 0 p b)
          (subst (λ (h : Grammar L). Longest g s (length (p ++ b ∷ []) + reach h (past 0 (p ++ b ∷ [])) t)) (residual_snoc g 0 p b) (r (rw (residual_snoc g 0 p b, d) tt))))
      go false d r =
          let z : length p ≡ length p + 0 = omega arith in
          subst (Longest g s) z (stays p (b ∷ t) e l (no_longer p b t e (ap live (residual_snoc g 0 p b) ∙ d)))

  pub reach-longest : T (live g) → Longest g s (reach g 0 s)
  reach-longest l =
      let z : 0 + reach g 0 s ≡ reach g 0 s = omega arith in
      subst (Longest g s) z (walk [] s refl l)
