-- Where a run ends, a byte at a time; and what a run is.
use Rattle.std.proofs.Common.{◌≡◌, ℕ, zero, suc, ◌+◌, ◌-◌, ◌<◌, ◌≤◌, Bool, true, false, cond, List, [], ◌∷◌, length, get_or, take, drop, refl, ap, ◌∙◌, subst, add-one, arith, length-drop, drop_of_length-le, get_or-drop, drop-cons}
use lib.Seq.{take-length}
use Rattle.grammar.specs.helpers.Scans.{slice}
use Rattle.grammar.proofs.Scans.{Run}
use Rattle.scans.specs.helpers.Runs.{run, run_end}

module _ (p : ℕ → Bool) (s : List ℕ) (i : ℕ) where
  -- behind the end of the list
  pub run-end-out : length s ≤ i → run_end p s i ≡ i
  run-end-out h = ap (λ (l : List ℕ). i + length (run p l)) (drop_of_length-le s h) ∙ omega arith

  module _ (at : i < length s) where
    pub run-end-stop : p (get_or s i 0) ≡ false → run_end p s i ≡ i
    run-end-stop e = rw (drop-cons s i 0 at, e) (omega arith)

    pub run-end-next : p (get_or s i 0) ≡ true → run_end p s (i + 1) ≡ run_end p s i
    run-end-next e = rw (drop-cons s i 0 at, e) (ap (λ (k : ℕ). k + length (run p (drop k s))) (add-one i) ∙ omega arith)

run_inside : (p : ℕ → Bool) (t : List ℕ) (k : ℕ) → k < length (run p t) → p (get_or t k 0) ≡ true
run_inside p [] k h = absurd (omega arith)
run_inside p (b ∷ t) k h = go (p b) refl k h (run_inside p t)
  where
    go : (x : Bool) → p b ≡ x → (n : ℕ) → n < length (cond x (b ∷ run p t) []) → ((j : ℕ) → j < length (run p t) → p (get_or t j 0) ≡ true)
        → p (get_or (b ∷ t) n 0) ≡ true
    go true e zero m f = e
    go true e (suc n) m f = f n (omega arith)
    go false e n m f = absurd (omega arith)

run_short : (p : ℕ → Bool) (t : List ℕ) → length (run p t) ≤ length t
run_short p [] = omega arith
run_short p (b ∷ t) = go (p b) (run_short p t)
  where
    go : (x : Bool) → length (run p t) ≤ length t → length (cond x (b ∷ run p t) []) ≤ suc (length t)
    go true h = omega arith
    go false h = omega arith

run-stops : (p : ℕ → Bool) (t : List ℕ) → length (run p t) < length t → p (get_or t (length (run p t)) 0) ≡ false
run-stops p [] h = absurd (omega arith)
run-stops p (b ∷ t) h = go (p b) refl h (run-stops p t)
  where
    go : (x : Bool) → p b ≡ x → length (cond x (b ∷ run p t) []) < suc (length t)
        → (length (run p t) < length t → p (get_or t (length (run p t)) 0) ≡ false) → p (get_or (b ∷ t) (length (cond x (b ∷ run p t) [])) 0) ≡ false
    go true e m f = f (omega arith)
    go false e m f = e

pub run_is : (p : ℕ → Bool) (s : List ℕ) (i : ℕ) → i ≤ length s → Run p s i (run_end p s i)
run_is p s i h = record {
  ordered = omega arith;
  within = omega (arith, run_short p (drop i s), length-drop i s);
  inside = λ k a b.
      let e : i + (k - i) ≡ k = omega arith in
      subst (λ (n : ℕ). p (get_or s n 0) ≡ true) e (subst (λ (x : ℕ). p x ≡ true) (get_or-drop i s (k - i) 0) (run_inside p (drop i s) (k - i) (omega arith)));
  stops = λ a. subst (λ (x : ℕ). p x ≡ false) (get_or-drop i s (length (run p (drop i s))) 0) (run-stops p (drop i s) (omega (arith, length-drop i s)));
}

-- a run that does not end where it stands has a byte
pub run-some : (p : ℕ → Bool) (s : List ℕ) (i : ℕ) → (run_end p s i ≡ i → ⊥) → i < run_end p s i
run-some p s i h = go (length (run p (drop i s))) h
  where
    go : (m : ℕ) → (i + m ≡ i → ⊥) → i < i + m
    go zero f = absurd (f (omega arith))
    go (suc m) f = omega arith

-- ## A run as a piece of the text

pub run-front : (p : ℕ → Bool) (t : List ℕ) (m : ℕ) → m ≤ length (run p t) → take m t ≡ take m (run p t)
run-front p [] m h = refl
run-front p (b ∷ t) m h = go (p b) m h (run-front p t)
  where
    go : (x : Bool) (n : ℕ) → n ≤ length (cond x (b ∷ run p t) []) → ((j : ℕ) → j ≤ length (run p t) → take j t ≡ take j (run p t))
        → take n (b ∷ t) ≡ take n (cond x (b ∷ run p t) [])
    go true zero k f = refl
    go true (suc n) k f = ap (λ (l : List ℕ). b ∷ l) (f n (omega arith))
    go false zero k f = refl
    go false (suc n) k f = absurd (omega arith)

pub run-slice : (p : ℕ → Bool) (s : List ℕ) (i : ℕ) → slice s i (run_end p s i) ≡ run p (drop i s)
run-slice p s i =
    let e : (i + length (run p (drop i s))) - i ≡ length (run p (drop i s)) = omega arith in
    ap (λ (m : ℕ). take m (drop i s)) e
    ∙ run-front p (drop i s) (length (run p (drop i s))) (omega arith)
    ∙ take-length (run p (drop i s))

-- from behind n bytes of the class the run ends where it does from before them
pub run-end-behind : (p : ℕ → Bool) (s : List ℕ) (i n : ℕ) → i + n ≤ length s → ((k : ℕ) → k < n → p (get_or s (i + k) 0) ≡ true)
    → run_end p s (i + n) ≡ run_end p s i
run-end-behind p s i zero h e = ap (run_end p s) (omega arith)
run-end-behind p s i (suc n) h e =
    let one : i + suc n ≡ (i + n) + 1 = omega arith in
    ap (run_end p s) one ∙ run-end-next p s (i + n) (omega arith) (e n (omega arith))
    ∙ run-end-behind p s i n (omega arith) (λ k j. e k (omega arith))
