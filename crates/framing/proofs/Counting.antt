-- A machine that counts its bytes, with a limit on their number behind its own: its verdicts, and all that is asked of it. Where that
-- limit is not broken it answers as the plain machine does. For any machine, any format and any number.
use mathlib.Core.Path.{◌≡◌, refl, sym, ◌∙◌, ap, ap₂, subst, fun_ext}
use mathlib.Core.Bool.{Bool, true, false, cond}
use mathlib.Core.List.{List, [], ◌∷◌, ◌++◌}
use mathlib.Core.Logic.{◌⊎◌, inl, inr, ⊎_elim}
use mathlib.Core.Option.{Option, none, some}
use Prim.Native.Nat.{ℕ, suc, ◌+◌, ◌≤◌}
use native.Mathlib.Decide.{ℕ_discrete}
use native.Mathlib.Omega.{arith}
use lib.Dec.{eqb}
use lib.ListN.{length, take}
use borrow.Author.Tests.{eqb-true, eq-eqb, ne_eqb}
use Rattle.grammar.specs.Refusals.{MALFORMED, BODY_TOO_LARGE}
use Rattle.framing.specs.Answer.{refused}
use Rattle.framing.specs.Demand as Demand
use Rattle.framing.specs.Demand.{Format, Among, BrokenOr, capped, Decodes}
use Rattle.framing.specs.helpers.Scan.{Machine, Counted, counted, Verdict, ended, refusal, judged_by, Found, run, out, Quiet}
use Rattle.framing.specs.helpers.Scan.{answer, written, over_by, judge_by, find_by, decode_by, decoded_by}
use Rattle.framing.proofs.Cases.{none-some, pick_true, pick-false}
use Rattle.framing.proofs.Ranks.{among_or, or_else, or_none, first_append, first-agree}
use Rattle.framing.proofs.Scanning.{out_along, scan_along, same-scan}
use Rattle.framing.proofs.Machines as Machines
use Rattle.framing.proofs.Machines.{Laws, live_to, live-from}

-- the verdict on the byte that passes the number, from the plain machine's: a refusal stays
abbrev pub passed : {E : Type 0} → ℕ → Option (Verdict E) → Verdict E
passed number none = refusal number
passed number (some (ended e)) = refusal number
passed number (some (refusal n)) = refusal n

judged_or : {E : Type 0} (number : ℕ) (l : Bool) (d : Option E) (o : Option ℕ)
    → judged_by l d (or_else o (some number)) ≡ some (passed number (judged_by l d o))
judged_or number true d (some n) = refl
judged_or number true none none = refl
judged_or number true (some e) none = refl
judged_or number false d o = refl

passed_or : {E : Type 0} (number : ℕ) (v c : Option (Verdict E)) → c ≡ some (passed number v)
    → (c ≡ some (refusal number)) ⊎ (v ≡ c)
passed_or number none c e = inl e
passed_or number (some (ended t)) c e = inl e
passed_or number (some (refusal n)) c e = inr (sym e)

module _ {E S : Type 0} (number most : ℕ) (machine : Machine E S) where
  abbrev counting : Machine E (Counted S)
  counting = counted number most machine

  -- ## Runs
  abbrev state : ℕ → S → Counted S
  state n s = record { count = n; at = s }

  pub counted-run : (s : Counted S) (xs : List ℕ)
      → run counting.step s xs ≡ record { count = s.count + length xs; at = run machine.step s.at xs }
  counted-run s [] =
      let z : s.count ≡ s.count + 0 = omega arith in
      ap (λ (n : ℕ). state n s.at) z
  counted-run s (b ∷ xs) =
      let z : suc s.count + length xs ≡ s.count + suc (length xs) = omega arith in
      counted-run (counting.step s b) xs ∙ ap (λ (n : ℕ). state n (run machine.step (machine.step s.at b) xs)) z

  pub counted-out : (s : Counted S) (xs : List ℕ)
      → out counting.step counting.emit s xs ≡ out machine.step machine.emit s.at xs
  counted-out = out_along machine.step counting.step (λ s. s.at) (λ s b. refl) machine.emit

  abbrev reached : List ℕ → Counted S
  reached p = run counting.step counting.start p

  at-reached : (p : List ℕ) → (reached p).at ≡ run machine.step machine.start p
  at-reached p = ap (λ (s : Counted S). s.at) (counted-run counting.start p)

  count-reached : (p : List ℕ) → (reached p).count ≡ length p
  count-reached p = ap (λ (s : Counted S). s.count) (counted-run counting.start p) ∙ omega arith

  -- ## Limits
  counts-number : (room n : ℕ) (s : Counted S) → n ≡ number → counting.broke room n s ≡ eqb s.count (suc most)
  counts-number room n s e = sym (pick_true (eqb n number) (eqb s.count (suc most)) (machine.broke room n s.at) (eq-eqb n number e))

  keeps_other : (room n : ℕ) (s : Counted S) → (n ≡ number → ⊥) → counting.broke room n s ≡ machine.broke room n s.at
  keeps_other room n s e =
      sym (pick-false (eqb n number) (eqb s.count (suc most)) (machine.broke room n s.at) (ne_eqb n number e))

  module _ {W : Type 0} (tell : ℕ → E → W) where
    -- ## Verdicts
    module _ (ls : List ℕ) (fresh : Among ls number → ⊥) (room : ℕ) where
      abbrev judge : Counted S → Option (Verdict E)
      judge s = judge_by counting tell (ls ++ (number ∷ [])) room s

      abbrev plain : S → Option (Verdict E)
      plain s = judge_by machine tell ls room s

      keeps_limit : (n : ℕ) (s : Counted S) → Among ls n → counting.broke room n s ≡ machine.broke room n s.at
      keeps_limit n s a = keeps_other room n s (λ e. fresh (subst (Among ls) e a))

      over-counted : (s : Counted S) → over_by counting tell (ls ++ (number ∷ [])) room s
          ≡ or_else (over_by machine tell ls room s.at) (cond (eqb s.count (suc most)) (some number) none)
      over-counted s =
          first_append (λ n. counting.broke room n s) ls (number ∷ [])
          ∙ ap₂ or_else
          (first-agree (λ n. machine.broke room n s.at) (λ n. counting.broke room n s) ls (λ n a. keeps_limit n s a))
          (ap (λ (x : Bool). cond x (some number) none) (counts-number room number s refl))

      judged-counted : (s : Counted S) (x : Bool) → eqb s.count (suc most) ≡ x
          → judge s ≡ judged_by (machine.live s.at) (machine.done s.at)
          (or_else (over_by machine tell ls room s.at) (cond x (some number) none))
      judged-counted s x e =
          ap (judged_by (machine.live s.at) (machine.done s.at))
          (over-counted s ∙ ap (λ (y : Bool). or_else (over_by machine tell ls room s.at) (cond y (some number) none)) e)

      -- at any byte but the one that passes the number: the plain verdict
      pub judged-within : (s : Counted S) → (s.count ≡ suc most → ⊥) → judge s ≡ plain s.at
      judged-within s h =
          judged-counted s false (ne_eqb s.count (suc most) h)
          ∙ ap (judged_by (machine.live s.at) (machine.done s.at)) (or_none (over_by machine tell ls room s.at))

      -- and at that one
      pub judged-passed : (s : Counted S) → s.count ≡ suc most → judge s ≡ some (passed number (plain s.at))
      judged-passed s h =
          judged-counted s true (eq-eqb s.count (suc most) h)
          ∙ judged_or number (machine.live s.at) (machine.done s.at) (over_by machine tell ls room s.at)

      -- where there is no verdict, there is no plain one
      judged-none : (s : Counted S) → judge s ≡ none → plain s.at ≡ none
      judged-none s e = go (ℕ_discrete s.count (suc most))
        where
          go : Dec (s.count ≡ suc most) → plain s.at ≡ none
          go (yes h) = none-some (sym e ∙ judged-passed s h)
          go (no h) = sym (judged-within s h) ∙ e

      -- ## Where the number is not passed, the plain machine's answer
      agree : (s : Counted S) → (judge s ≡ some (refusal number)) ⊎ (plain s.at ≡ judge s)
      agree s = go (ℕ_discrete s.count (suc most))
        where
          go : Dec (s.count ≡ suc most) → (judge s ≡ some (refusal number)) ⊎ (plain s.at ≡ judge s)
          go (yes h) = passed_or number (plain s.at) (judge s) (judged-passed s h)
          go (no h) = inr (sym (judged-within s h))

      module _ (s : List ℕ) (within : (p : ℕ) → decode_by counting tell (ls ++ (number ∷ [])) room s ≡ refused number p → ⊥) where
        pub plain-found : find_by counting tell (ls ++ (number ∷ [])) room s ≡ find_by machine tell ls room s
        unfolding answer
        plain-found =
            sym (same-scan counting.step judge (λ z. plain z.at) (refusal number) agree counting.start 0 s
            (λ j e. within j (ap (answer tell) e)))
            ∙ scan_along machine.step counting.step (λ z. z.at) (λ z b. refl) plain counting.start 0 s

        pub plain-decode : decode_by counting tell (ls ++ (number ∷ [])) room s ≡ decode_by machine tell ls room s
        plain-decode = ap (answer tell) plain-found

        pub plain-decoded : (early : List ℕ → List ℕ)
            → decoded_by counting tell (ls ++ (number ∷ [])) room early s ≡ decoded_by machine tell ls room early s
        plain-decoded early =
            ap₂ (λ (g : List ℕ → List ℕ) (r : Found (Verdict E)). written early g r s) (fun_ext (counted-out counting.start)) plain-found

    -- ## What is asked, under that limit
    module _ (f : Format W) where
      module _ (room : ℕ) (laws : Laws f machine tell room) (fresh : Among f.limits number → ⊥) where
        over_to : (p : List ℕ) (n : ℕ) → machine.live (reached p).at ≡ true → counting.broke room n (reached p) ≡ true
            → (Among f.limits n → machine.live (run machine.step machine.start p) ≡ true
            → machine.broke room n (run machine.step machine.start p) ≡ true → f.Broken room n p)
            → Among f.limits n ⊎ (n ≡ number) → BrokenOr f number most room n p
        over_to p n l o plainly (inl a) =
            Demand.inner a (plainly a (ap machine.live (sym (at-reached p)) ∙ l)
            (ap (machine.broke room n) (sym (at-reached p)) ∙ sym (keeps_limit f.limits fresh room n (reached p) a) ∙ o))
        over_to p n l o plainly (inr e) =
            subst (λ (m : ℕ). BrokenOr f number most room m p) (sym e)
            (Demand.longer (live_to f machine tell room laws p (ap machine.live (sym (at-reached p)) ∙ l))
            (sym (count-reached p)
            ∙ eqb-true (reached p).count (suc most) (sym (counts-number room n (reached p) e) ∙ o)))

        over_from : {n : ℕ} {p : List ℕ} → BrokenOr f number most room n p
            → (machine.live (reached p).at ≡ true) × (counting.broke room n (reached p) ≡ true)
        over_from {n} {p} (Demand.inner a b) =
            let w = laws.over_from p n a b in (
              ap machine.live (at-reached p) ∙ w.0,
              keeps_limit f.limits fresh room n (reached p) a ∙ ap (machine.broke room n) (at-reached p) ∙ w.1,
            )
        over_from {p = p} (Demand.longer l e) = (
          ap machine.live (at-reached p) ∙ live-from f machine tell room laws p l,
          counts-number room number (reached p) refl ∙ eq-eqb (reached p).count (suc most) (count-reached p ∙ e),
        )

        -- bytes without a verdict have no plain one
        quiet : (p : List ℕ) → Quiet counting.step (judge f.limits fresh room) counting.start p (length p)
            → Quiet machine.step (plain f.limits fresh room) machine.start p (length p)
        quiet p k i h =
            ap (plain f.limits fresh room) (sym (at-reached (take i p)))
            ∙ judged-none f.limits fresh room (reached (take i p)) (k i h)

        pub counted-laws : (number ≡ MALFORMED → ⊥) → Laws (capped number most f) counting tell room
        counted-laws other = record {
          opens = judged-within f.limits fresh room counting.start (λ e. omega arith) ∙ laws.opens;
          dead = λ s b h. laws.dead s.at b h;
          last = λ s e b h. laws.last s.at e b h;
          alive = λ s e h. laws.alive s.at e h;
          finish = λ s h.
              let c = laws.finish s.at h in
              (c.0, c.1, ap (λ (z : Counted S). machine.done z.at) (counted-run s c.0) ∙ c.2);
          body_to = λ p e h.
              subst (λ (d : List ℕ). f.Body p d × f.Tells (tell (length p) e) p d) (sym (counted-out counting.start p))
              (laws.body_to p e (ap machine.done (sym (at-reached p)) ∙ h));
          body_from = λ p d b.
              let w = laws.body_from p d b in
              (w.0, ap machine.done (at-reached p) ∙ w.1, counted-out counting.start p ∙ w.2, w.3);
          over_to = λ p b n k a l o.
              over_to (p ++ (b ∷ [])) n l o (λ i. laws.over_to p b n (quiet p k) i) (among_or f.limits number n a);
          over_from = λ p n a b. over_from b;
          other = λ a.
              ⊎_elim (λ (i : Among f.limits MALFORMED). laws.other i) (λ (e : MALFORMED ≡ number). other (sym e))
              (among_or f.limits number MALFORMED a);
        }

      -- from what `Machines.decodes` asks of the plain machine
      module _ (laws : (r : ℕ) → Laws f machine tell r)
          (same : (r q n : ℕ) (s : S) → (n ≡ BODY_TOO_LARGE → ⊥) → machine.broke q n s ≡ machine.broke r n s)
          (lifts : (r q : ℕ) (s : S) → r ≤ q → machine.broke q BODY_TOO_LARGE s ≡ true → machine.broke r BODY_TOO_LARGE s ≡ true)
          (fresh : Among f.limits number → ⊥) (other : number ≡ MALFORMED → ⊥)
          (Early : List ℕ → List ℕ → Type 0) (early : List ℕ → List ℕ)
          (writes-early : (p : List ℕ) → Demand.Live f.Body p → Early p (early p))
        where
          counted-lifts : (r q : ℕ) (s : Counted S) → r ≤ q → counting.broke q BODY_TOO_LARGE s ≡ true
              → counting.broke r BODY_TOO_LARGE s ≡ true
          counted-lifts r q s h = go (eqb BODY_TOO_LARGE number)
            where
              go : (x : Bool) → cond x (eqb s.count (suc most)) (machine.broke q BODY_TOO_LARGE s.at) ≡ true
                  → cond x (eqb s.count (suc most)) (machine.broke r BODY_TOO_LARGE s.at) ≡ true
              go true e = e
              go false e = lifts r q s.at h e

          pub counted_decodes : Decodes (capped number most f) Early (decode_by counting tell (f.limits ++ (number ∷ [])))
              (λ r s. decoded_by counting tell (f.limits ++ (number ∷ [])) r early s)
          counted_decodes =
              Machines.decodes (capped number most f) counting tell (λ r. counted-laws r (laws r) fresh other)
              (λ r q n s g. ap (cond (eqb n number) (eqb s.count (suc most))) (same r q n s.at g)) counted-lifts
              Early early writes-early
