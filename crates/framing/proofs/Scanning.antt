-- What a scan finds, for any machine that takes one byte at a time: the first judged state, the same in every longer input.
use mathlib.Core.Path.{◌≡◌, refl, sym, ◌∙◌, ap, subst}
use mathlib.Core.Bool.{Bool, true, false}
use mathlib.Core.List.{List, [], ◌∷◌, ◌++◌, append_assoc}
use mathlib.Core.Logic.{◌⊎◌, ⊎_elim}
use mathlib.Core.Option.{Option, none, some}
use Prim.Native.Nat.{ℕ, zero, suc, ◌+◌, ◌<◌, ◌≤◌}
use native.Mathlib.Decide.{ℕ_discrete, dec_lt}
use native.Mathlib.Omega.{arith}
use lib.ListN.{length, take}
use lib.Seq.{length-take-le, take-take}
use Rattle.grammar.proofs.Derivative.{split_nil}
use Rattle.framing.specs.helpers.Scan.{Found, going, stop, note, run, out, Quiet, scan}
use Rattle.framing.proofs.Cases.{none-some}

module _ {S : Type 0} (step : S → ℕ → S) where
  pub run_append : (s : S) (xs ys : List ℕ) → run step s (xs ++ ys) ≡ run step (run step s xs) ys
  run_append s [] ys = refl
  run_append s (b ∷ xs) ys = run_append (step s b) xs ys

  -- one step of a run, where `rw` does not see the call
  pub run_step : (s : S) {s' : S} (b : ℕ) (xs : List ℕ) → step s b ≡ s' → run step s (b ∷ xs) ≡ run step s' xs
  run_step s b xs e = ap (λ (z : S). run step z xs) e

  -- a run that ends alive was alive all along
  pub run-live : (live : S → Bool) → ((s : S) (b : ℕ) → live s ≡ false → live (step s b) ≡ false)
      → (s : S) (xs : List ℕ) → live (run step s xs) ≡ true → live s ≡ true
  run-live live dead s [] h = h
  run-live live dead s (b ∷ xs) h = go (run-live live dead (step s b) xs h) (live s) refl
    where
      go : live (step s b) ≡ true → (t : Bool) → live s ≡ t → t ≡ true
      go below true e = refl
      go below false e = sym (dead s b e) ∙ below

  -- what each step keeps that fails a test holds to the end of bytes that all fail it
  pub run_keeps : (P : S → Type 0) (test : S → Bool) → ((s : S) (b : ℕ) → P s → test (step s b) ≡ false → P (step s b))
      → (xs : List ℕ) (s : S) → P s → ((i : ℕ) → i ≤ length xs → test (run step s (take i xs)) ≡ false) → P (run step s xs)
  run_keeps P test keep [] s h k = h
  run_keeps P test keep (b ∷ xs) s h k =
      run_keeps P test keep xs (step s b) (keep s b h (k 1 (omega arith))) (λ i l. k (suc i) (omega arith))

  pub out_append : (emit : S → ℕ → List ℕ) (s : S) (xs ys : List ℕ)
      → out step emit s (xs ++ ys) ≡ out step emit s xs ++ out step emit (run step s xs) ys
  out_append emit s [] ys = refl
  out_append emit s (b ∷ xs) ys = rw (out_append emit (step s b) xs ys, append_assoc)

  -- of bytes that give nothing a beginning gives nothing
  pub out-nothing : (emit : S → ℕ → List ℕ) (s : S) (xs ys : List ℕ) → out step emit s (xs ++ ys) ≡ [] → out step emit s xs ≡ []
  out-nothing emit s xs ys e = (split_nil (out step emit s xs) (out step emit (run step s xs) ys) (sym e ∙ out_append emit s xs ys)).0

module _ {S J : Type 0} (step : S → ℕ → S) (judge : S → Option J) where
  -- the byte at j gets the first verdict
  pub record Stops (s : S) (xs : List ℕ) (j : ℕ) (v : J) : Type 0 where
    pub inside : j < length xs
    pub quiet : Quiet step judge s xs j
    pub verdict : judge (run step s (take (suc j) xs)) ≡ some v

  pub quiet_nil : (s : S) (n : ℕ) → judge s ≡ none → Quiet step judge s [] n
  quiet_nil s n h zero l = h
  quiet_nil s n h (suc i) l = h

  pub quiet_cons : (s : S) (b : ℕ) (xs : List ℕ) (n : ℕ) → judge s ≡ none → Quiet step judge (step s b) xs n
      → Quiet step judge s (b ∷ xs) (suc n)
  quiet_cons s b xs n h k zero l = h
  quiet_cons s b xs n h k (suc i) l = k i (omega arith)

  pub quiet-zero : (s : S) (xs : List ℕ) → judge s ≡ none → Quiet step judge s xs 0
  quiet-zero s xs h zero l = h
  quiet-zero s xs h (suc i) l = absurd (omega arith)

  pub quiet_then : (s : S) (xs ys : List ℕ) → Quiet step judge s xs (length xs) → Quiet step judge (run step s xs) ys (length ys)
      → Quiet step judge s (xs ++ ys) (length (xs ++ ys))
  quiet_then s [] ys h k = k
  quiet_then s (b ∷ xs) ys h k =
      quiet_cons s b (xs ++ ys) (length (xs ++ ys)) (h 0 (omega arith))
      (quiet_then (step s b) xs ys (λ i l. h (suc i) (omega arith)) k)

  pub quiet-on : (s : S) (xs : List ℕ) (n : ℕ) → Quiet step judge s xs n → judge (run step s (take (suc n) xs)) ≡ none
      → Quiet step judge s xs (suc n)
  quiet-on s xs n k h i l = go (ℕ_discrete i (suc n))
    where
      go : Dec (i ≡ suc n) → judge (run step s (take i xs)) ≡ none
      go (yes e) = subst (λ (m : ℕ). judge (run step s (take m xs)) ≡ none) (sym e) h
      go (no e) = k i (omega arith)

  -- ## What a scan's finding says of the input
  Tells : S → ℕ → List ℕ → Found J → Type 0
  Tells s i xs going = Quiet step judge s xs (length xs)
  Tells s i xs (stop j v) = (k : ℕ) × (j ≡ i + k) × Stops s xs k v

  later : (s : S) (i b : ℕ) (xs : List ℕ) (r : Found J) → judge s ≡ none → Tells (step s b) (suc i) xs r → Tells s i (b ∷ xs) r
  unfolding Tells
  later s i b xs going h t = quiet_cons s b xs (length xs) h t
  later s i b xs (stop j v) h t = (
    suc t.0,
    omega (arith, t.1),
    record {
      inside = omega (arith, t.2.inside);
      quiet = quiet_cons s b xs t.0 h t.2.quiet;
      verdict = t.2.verdict;
    },
  )

  here : (s : S) (i b : ℕ) (xs : List ℕ) (r : Found J) (o : Option J) → judge s ≡ none → judge (step s b) ≡ o
      → (judge (step s b) ≡ none → Tells (step s b) (suc i) xs r) → Tells s i (b ∷ xs) (note i o r)
  unfolding Tells
  here s i b xs r none h k t = later s i b xs r h (t k)
  here s i b xs r (some v) h k t = (0, omega arith, record { inside = omega arith; quiet = quiet-zero s (b ∷ xs) h; verdict = k })

  tells : (s : S) (i : ℕ) (xs : List ℕ) → judge s ≡ none → Tells s i xs (scan step judge s i xs)
  unfolding Tells
  tells s i [] h = quiet_nil s 0 h
  tells s i (b ∷ xs) h =
      here s i b xs (scan step judge (step s b) (suc i) xs) (judge (step s b)) h refl (λ k. tells (step s b) (suc i) xs k)

  module _ (s : S) (xs : List ℕ) (h : judge s ≡ none) where
    pub going-quiet : scan step judge s 0 xs ≡ going → Quiet step judge s xs (length xs)
    unfolding Tells
    going-quiet e = subst (Tells s 0 xs) e (tells s 0 xs h)

    pub stop-stops : (j : ℕ) (v : J) → scan step judge s 0 xs ≡ stop j v → Stops s xs j v
    unfolding Tells
    stop-stops j v e =
        let t : (k : ℕ) × (j ≡ 0 + k) × Stops s xs k v = subst (Tells s 0 xs) e (tells s 0 xs h) in
        let z : t.0 ≡ j = omega (arith, t.1) in
        subst (λ (k : ℕ). Stops s xs k v) z t.2

    -- ## and it decides what a scan finds
    pub quiet-going : Quiet step judge s xs (length xs) → scan step judge s 0 xs ≡ going
    quiet-going q = go (scan step judge s 0 xs) refl
      where
        go : (r : Found J) → scan step judge s 0 xs ≡ r → r ≡ going
        go going e = refl
        go (stop j v) e = let t : Stops s xs j v = stop-stops j v e in none-some (sym (q (suc j) t.inside) ∙ t.verdict)

    pub stops-stop : (j : ℕ) (v : J) → Stops s xs j v → scan step judge s 0 xs ≡ stop j v
    stops-stop j v t = go (scan step judge s 0 xs) refl
      where
        at : (i : ℕ) (w : J) → Stops s xs i w → Dec (i ≡ j) → Dec (i < j) → stop i w ≡ stop j v
        at i w u (yes e) d =
            let x : judge (run step s (take (suc j) xs)) ≡ some w
            = subst (λ (m : ℕ). judge (run step s (take (suc m) xs)) ≡ some w) e u.verdict in
            let y : some w ≡ some v = sym x ∙ t.verdict in
            cc
        at i w u (no e) (yes l) = none-some (sym (t.quiet (suc i) l) ∙ u.verdict)
        at i w u (no e) (no l) = none-some (sym (u.quiet (suc j) (omega arith)) ∙ t.verdict)

        go : (r : Found J) → scan step judge s 0 xs ≡ r → r ≡ stop j v
        go going e = none-some (sym (going-quiet e (suc j) t.inside) ∙ t.verdict)
        go (stop i w) e = at i w (stop-stops i w e) (ℕ_discrete i j) (dec_lt i j)

  -- ## The bytes up to the one that is judged decide
  pub stop-take : (s : S) (xs : List ℕ) → judge s ≡ none → (j : ℕ) (v : J) → scan step judge s 0 xs ≡ stop j v
      → scan step judge s 0 (take (suc j) xs) ≡ stop j v
  stop-take s xs h j v e =
      let t : Stops s xs j v = stop-stops s xs h j v e in
      stops-stop s (take (suc j) xs) h j v (record {
        inside = omega (arith, length-take-le (suc j) xs t.inside);
        quiet = λ i l. short i (omega arith) ∙ t.quiet i l;
        verdict = short (suc j) (omega arith) ∙ t.verdict;
      })
    where
      short : (i : ℕ) → i ≤ suc j → judge (run step s (take i (take (suc j) xs))) ≡ judge (run step s (take i xs))
      short i l = ap (λ (z : List ℕ). judge (run step s z)) (take-take i (suc j) xs l)

  -- ## A verdict stands in every longer input
  stands_here : (i : ℕ) (o : Option J) (r r' : Found J) (j : ℕ) (v : J) → (r ≡ stop j v → r' ≡ stop j v)
      → note i o r ≡ stop j v → note i o r' ≡ stop j v
  stands_here i none r r' j v h e = h e
  stands_here i (some w) r r' j v h e = e

  pub stands : (s : S) (i : ℕ) (xs ys : List ℕ) (j : ℕ) (v : J) → scan step judge s i xs ≡ stop j v
      → scan step judge s i (xs ++ ys) ≡ stop j v
  stands s i [] ys j v e = let z : ◌≡◌ {A = ℕ} 0 1 = cc in absurd (omega arith)
  stands s i (b ∷ xs) ys j v e =
      stands_here i (judge (step s b)) (scan step judge (step s b) (suc i) xs) (scan step judge (step s b) (suc i) (xs ++ ys)) j v
      (λ h. stands (step s b) (suc i) xs ys j v h) e

-- ## A machine that goes along with another, whose state it holds
module _ {S T : Type 0} (step : S → ℕ → S) (step' : T → ℕ → T) (at : T → S) (along : (t : T) (b : ℕ) → at (step' t b) ≡ step (at t) b) where
  pub run_along : (t : T) (xs : List ℕ) → at (run step' t xs) ≡ run step (at t) xs
  run_along t [] = refl
  run_along t (b ∷ xs) = run_along (step' t b) xs ∙ ap (λ (s : S). run step s xs) (along t b)

  pub out_along : (emit : S → ℕ → List ℕ) (t : T) (xs : List ℕ) → out step' (λ z b. emit (at z) b) t xs ≡ out step emit (at t) xs
  out_along emit t [] = refl
  out_along emit t (b ∷ xs) =
      ap (λ (r : List ℕ). emit (at t) b ++ r) (out_along emit (step' t b) xs ∙ ap (λ (s : S). out step emit s xs) (along t b))

  pub scan_along : {J : Type 0} (judge : S → Option J) (t : T) (i : ℕ) (xs : List ℕ)
      → scan step' (λ z. judge (at z)) t i xs ≡ scan step judge (at t) i xs
  scan_along judge t i [] = refl
  scan_along {J} judge t i (b ∷ xs) =
      ap (λ (r : Found J). note i (judge (at (step' t b))) r) (scan_along judge (step' t b) (suc i) xs)
      ∙ ap (λ (s : S). note i (judge s) (scan step judge s (suc i) xs)) (along t b)

-- ## Two judges that differ only where the first gives one verdict
module _ {S J : Type 0} (step : S → ℕ → S) (judge judge' : S → Option J) (w : J)
    (agree : (s : S) → (judge s ≡ some w) ⊎ (judge' s ≡ judge s)) where
  same-note : (i : ℕ) (o : Option J) (r r' : Found J) → ((j : ℕ) → note i o r ≡ stop j w → ⊥)
      → (((j : ℕ) → r ≡ stop j w → ⊥) → r' ≡ r) → note i o r' ≡ note i o r
  same-note i none r r' f h = h f
  same-note i (some v) r r' f h = refl

  pub same-scan : (s : S) (i : ℕ) (xs : List ℕ) → ((j : ℕ) → scan step judge s i xs ≡ stop j w → ⊥)
      → scan step judge' s i xs ≡ scan step judge s i xs
  same-scan s i [] f = refl
  same-scan s i (b ∷ xs) f =
      ⊎_elim
      (λ (e : judge (step s b) ≡ some w). absurd (f i (ap (λ (o : Option J). note i o (scan step judge (step s b) (suc i) xs)) e)))
      (λ (e : judge' (step s b) ≡ judge (step s b)).
      ap (λ (o : Option J). note i o (scan step judge' (step s b) (suc i) xs)) e
      ∙ same-note i (judge (step s b)) (scan step judge (step s b) (suc i) xs) (scan step judge' (step s b) (suc i) xs) f
      (λ g. same-scan (step s b) (suc i) xs g))
      (agree (step s b))
