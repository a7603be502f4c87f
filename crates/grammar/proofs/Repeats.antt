-- For scans: a run of at most so many bytes of a class as a part, and the end of a text where what is left of the grammar may be empty.
use Prim.Native.Nat.{ℕ, zero, suc, ◌+◌, ◌≤◌, ◌<◌}
use native.Mathlib.Omega.{arith}
use mathlib.Core.Path.{◌≡◌, refl, sym, ap, subst, ◌∙◌}
use mathlib.Core.Bool.{Bool, true, false}
use mathlib.Core.List.{List, [], ◌∷◌, ◌++◌, append-nil}
use mathlib.Core.Option.{none}
use lib.Dec.{ltb}
use lib.ListN.{length, get_or}
use borrow.Author.Tests.{ltb-true, ltb-false}
use Rattle.grammar.specs.Grammar.{Class, Part, Grammar, void, empty, byte, ◌⨾◌, part, rest, up_to, grown}
use Rattle.grammar.specs.helpers.Derivative.{live, nullable, deriv, ends, then, seq, during}
use Rattle.grammar.specs.Reading.{Rules, refused}
use Rattle.grammar.specs.helpers.Judge.{held, finished}
use Rattle.grammar.specs.helpers.Checks.{ahead}
use Rattle.grammar.specs.helpers.Scans.{slice, from}
use Rattle.grammar.proofs.Ahead.{ahead-ends, ahead-nullable, ahead-held}
use Rattle.grammar.proofs.Shapes.{byte_step}
use Rattle.grammar.proofs.Loop.{judge-end}
use Rattle.grammar.proofs.Scans.{Run, slice-none, slice_snoc, part-begins, part-goes-on, part-ends, part-fails, part-cut_off}

-- the text ends where the rest of the grammar may be empty
pub may_end : {L A : Type 0} (r : Rules L A) (s : List ℕ) (cs : List (Part L)) (g : Grammar L) (i : ℕ) → length s ≤ i → nullable g ≡ true
    → ends g i ≡ empty
    → from r s (ahead cs g) i ≡ finished r cs
may_end r s cs g i at n e =
    judge-end r s (ahead cs g) i at ∙ rw (ahead-nullable cs g ∙ n, ahead-ends cs g i, e, ahead-held cs empty refl, append-nil cs)

-- from i up to e the bytes of s pass the test, at most n of them, and no further
pub record Short (p : ℕ → Bool) (s : List ℕ) (n i e : ℕ) : Type 0 where
  pub ordered : i ≤ e
  pub within : e ≤ length s
  pub few : e ≤ i + n
  pub inside : (k : ℕ) → i ≤ k → k < e → p (get_or s k 0) ≡ true
  pub stops : e < length s → e < i + n → p (get_or s e 0) ≡ false

-- ## What a byte, or the end, leaves of up to n bytes of a class
module _ (L : Type 0) (c : Class) where
  up-live : (n : ℕ) → live {L = L} (up_to n (byte c)) ≡ true
  up-live zero = refl
  up-live (suc n) = refl

  up-held : (n : ℕ) → held {L = L} (up_to n (byte c)) ≡ []
  up-held zero = refl
  up-held (suc n) = refl

  up_ends : (n i : ℕ) → ends {L = L} (up_to n (byte c)) i ≡ empty
  up_ends zero i = refl
  up_ends (suc n) i = refl

  up-nullable : (n : ℕ) → nullable {L = L} (up_to n (byte c)) ≡ true
  up-nullable zero = refl
  up-nullable (suc n) = refl

  one_more : (n i b : ℕ) → c.has b ≡ true → deriv {L = L} (byte c ⨾ up_to n (byte c)) i b ≡ up_to n (byte c)
  one_more n i b e = byte_step c i b (up_to n (byte c)) ∙ rw e

  none_more : (n i b : ℕ) → c.has b ≡ false → deriv {L = L} (byte c ⨾ up_to n (byte c)) i b ≡ void
  none_more n i b e = byte_step c i b (up_to n (byte c)) ∙ rw e

  up-stops : (n i b : ℕ) → (0 < n → c.has b ≡ false) → deriv {L = L} (up_to n (byte c)) i b ≡ void
  up-stops zero i b f = refl
  up-stops (suc n) i b f = none_more n i b (f (omega arith))

module _ {L A : Type 0} (r : Rules L A) (s : List ℕ) (cs : List (Part L)) (k : L) (c : Class) (g : Grammar L) (l : live g ≡ true) (h : held g ≡ [])
    (apart : (j b : ℕ) → c.has b ≡ true → deriv g j b ≡ void) (i e : ℕ) where
  -- the part as far as the place j
  abbrev pub so_far : ℕ → Part L
  so_far j = record { label = k; start = i; text = slice s i j }

  -- no byte of the part breaks a limit
  abbrev pub Calm : Type 0
  Calm = (n : ℕ) → i ≤ n → n < e → r.limit n (cs ++ so_far (n + 1) ∷ []) ≡ none

  abbrev in_part : ℕ → ℕ → Grammar L
  in_part n j = ahead cs (then (rest (so_far j) (up_to n (byte c))) g)

  grown_by : (j : ℕ) → i ≤ j → j < length s → grown (so_far j) (get_or s j 0 ∷ []) ≡ so_far (j + 1)
  grown_by j a b = ap (λ (t : List ℕ). record { label = k; start = i; text = t }) (sym (slice_snoc s i j a b))

  module _ (m : ℕ) (run : Short c.has s m i e) (calm : Calm) where
    takes : (x : Grammar L) (n j : ℕ) → i ≤ j → j < e → deriv x j (get_or s j 0) ≡ up_to n (byte c)
        → seq (during (so_far j) (ends x j)) (deriv g j (get_or s j 0)) ≡ void
        → from r s (ahead cs (then (rest (so_far j) x) g)) j ≡ from r s (in_part n (j + 1)) (j + 1)
    takes x n j a b d o =
        let at : j < length s = omega (arith, run.within) in
        part-goes-on r s cs g l (so_far j) x j h (up_to n (byte c)) at d (up-live L c n) (up-held L c n) o
        (ap (λ (p : Part L). r.limit j (cs ++ p ∷ [])) (grown_by j a at) ∙ calm j a b)
        ∙ ap (λ (p : Part L). from r s (ahead cs (then (rest p (up_to n (byte c))) g)) (j + 1)) (grown_by j a at)

    nothing_else : (x : Grammar L) (j : ℕ) → ends x j ≡ empty → c.has (get_or s j 0) ≡ true
        → seq (during (so_far j) (ends x j)) (deriv g j (get_or s j 0)) ≡ void
    nothing_else x j d f = rw (d, apart j (get_or s j 0) f)

    over : (n j : ℕ) → j + n ≡ i + m → j ≡ e → from r s (in_part n j) j ≡ from r s (ahead (cs ++ so_far e ∷ []) g) e
    over n j a b =
        ap (λ (t : ℕ). from r s (in_part n t) t) b
        ∙ part-ends r s cs g l (so_far e) (up_to n (byte c)) e
        (λ at. up-stops L c n e (get_or s e 0) (λ z. run.stops at (omega arith))) (up_ends L c n e) (up-nullable L c n)

    -- n more bytes may follow
    walks : (n j : ℕ) → j + n ≡ i + m → i ≤ j → j ≤ e → from r s (in_part n j) j ≡ from r s (ahead (cs ++ so_far e ∷ []) g) e
    walks zero j a b d = over zero j a (omega (arith, run.few))
    walks (suc n) j a b d = go (ltb j e) refl (λ z. walks n (j + 1) (omega arith) (omega arith) z)
      where
        go : (x : Bool) → ltb j e ≡ x → (j + 1 ≤ e → from r s (in_part n (j + 1)) (j + 1) ≡ from r s (ahead (cs ++ so_far e ∷ []) g) e)
            → from r s (in_part (suc n) j) j ≡ from r s (ahead (cs ++ so_far e ∷ []) g) e
        go true y w =
            let z = ltb-true j e y in
            let f = run.inside j b z in
            takes (up_to (suc n) (byte c)) n j b z (one_more L c n j (get_or s j 0) f) (nothing_else (up_to (suc n) (byte c)) j refl f) ∙ w (omega arith)
        go false y w = over (suc n) j a (omega (arith, ltb-false j e y))

  -- none to n bytes
  pub part-up-to : (n : ℕ) → Short c.has s n i e → Calm
      → from r s (ahead cs (then (part k (up_to n (byte c))) g)) i ≡ from r s (ahead (cs ++ so_far e ∷ []) g) e
  part-up-to n run calm =
      part-begins r s cs g l k (up_to n (byte c)) i
      ∙ ap (λ (t : List ℕ). from r s (ahead cs (then (rest (record { label = k; start = i; text = t }) (up_to n (byte c))) g)) i) (sym (slice-none s i))
      ∙ walks n run calm n i refl (omega arith) run.ordered

  -- one to n + 1 bytes
  module _ (n : ℕ) (run : Short c.has s (suc n) i e) where
    begins : from r s (ahead cs (then (part k (byte c ⨾ up_to n (byte c))) g)) i ≡ from r s (ahead cs (then (rest (so_far i) (byte c ⨾ up_to n (byte c))) g)) i
    begins =
        part-begins r s cs g l k (byte c ⨾ up_to n (byte c)) i
        ∙ ap (λ (t : List ℕ). from r s (ahead cs (then (rest (record { label = k; start = i; text = t }) (byte c ⨾ up_to n (byte c))) g)) i) (sym (slice-none s i))

    pub part-one-up-to : i < e → Calm
        → from r s (ahead cs (then (part k (byte c ⨾ up_to n (byte c))) g)) i ≡ from r s (ahead (cs ++ so_far e ∷ []) g) e
    part-one-up-to a calm =
        begins
        ∙ takes (suc n) run calm (byte c ⨾ up_to n (byte c)) n i (omega arith) a (one_more L c n i (get_or s i 0) (run.inside i (omega arith) a)) refl
        ∙ walks (suc n) run calm n (i + 1) (omega arith) (omega arith) (omega arith)

    pub part-one-up-to-none : e ≤ i → from r s (ahead cs (then (part k (byte c ⨾ up_to n (byte c))) g)) i ≡ refused 1 i
    part-one-up-to-none a = begins ∙ go (ltb i (length s)) refl
      where
        go : (x : Bool) → ltb i (length s) ≡ x → from r s (ahead cs (then (rest (so_far i) (byte c ⨾ up_to n (byte c))) g)) i ≡ refused 1 i
        go true f =
            let at = ltb-true i (length s) f in
            let z : e ≡ i = omega (arith, run.ordered) in
            part-fails r s cs g l (so_far i) (byte c ⨾ up_to n (byte c)) i at
            (none_more L c n i (get_or s i 0)
            (subst (λ (t : ℕ). t < length s → t < i + suc n → c.has (get_or s t 0) ≡ false) z run.stops at (omega arith))) refl
        go false f = part-cut_off r s cs g l (so_far i) (byte c ⨾ up_to n (byte c)) i (ltb-false i (length s) f) refl

-- a run that is not longer than n, and the first n bytes of one that is
pub run_short : (p : ℕ → Bool) (s : List ℕ) (n i e : ℕ) → Run p s i e → e ≤ i + n → Short p s n i e
run_short p s n i e r h = record { ordered = r.ordered; within = r.within; few = h; inside = r.inside; stops = λ a b. r.stops a }

pub run-cut : (p : ℕ → Bool) (s : List ℕ) (n i e t : ℕ) → Run p s i e → t ≡ i + n → t ≤ e → Short p s n i t
run-cut p s n i e t r h k = record {
  ordered = omega arith;
  within = omega (arith, r.within);
  few = omega arith;
  inside = λ j a b. r.inside j a (omega arith);
  stops = λ a b. absurd (omega arith);
}
