-- The three forms, each alone: a date is of one of them, and only that of RFC 850 has a year of two digits.
use Prim.Native.Nat.{ℕ}
use mathlib.Core.Path.{◌≡◌, refl, ap, subst, ◌∙◌}
use mathlib.Core.Logic.{inl, inr, ⊎_elim}
use mathlib.Core.Bool.{Bool, true, false}
use mathlib.Core.List.{List, [], ◌∷◌}
use lib.Dec.{T, ltb}
use Rattle.grammar.specs.Grammar.{Part, Grammar, Parses, empty, byte, ◌⨾◌, ◌∣◌, part, just, lit, past, bytes?, T-left, T-right}
use Rattle.grammar.specs.Text.{bytes}
use Rattle.grammar.specs.helpers.Judge.{header}
use Rattle.grammar.proofs.Deterministic.{deterministic?}
use Rattle.grammar.proofs.Labels.{Labelled, all_labelled}
use Rattle.grammar.proofs.Values.{same_meaning}
use Rattle.octets.specs.Bytes.{digit?}
use Rattle.octets.specs.Numbers.{number}
use Rattle.date.specs.Grammar.{Name, weekday, month, day, year, short-year, hour, minute, second}
use Rattle.date.specs.Grammar.{rfc1123, rfc850, asctime, forms, on_day, days, date, rfc1123_date, rfc850_date, asctime_date}
use Rattle.date.specs.Grammar.{Said, noted, said, fault_of, value_of, rules_with}

pub one_way : T (deterministic? date)
unfolding digit?
one_way = tt

-- ## One of the three

-- each text of g is one of h, with the same parts
abbrev Within : Grammar Name → Grammar Name → Type 0
Within g h = (i : ℕ) (s : List ℕ) (ps : List (Part Name)) → Parses g i s ps → Parses h i s ps

lit-within : (w : List ℕ) (p : T (bytes? w)) (g h : Grammar Name) → Within g h → Within (lit w p g) (lit w p h)
lit-within [] p g h f i s ps m = f i s ps m
lit-within (b ∷ w) p g h f i s ps m =
    let q = T-right (ltb b 256) (bytes? w) p in
    (m.0, m.1, m.2, m.3, m.4, m.5, m.6, lit-within w q g h f (past i m.0) m.1 m.3 m.7)

-- what stands behind a text of f is of g or of h
behind_either : (f g h : Grammar Name) → Within (f ⨾ (g ∣ h)) ((f ⨾ g) ∣ (f ⨾ h))
behind_either f g h i s ps (t, u, qs, rs, e, q, m, inl x) = inl (t, u, qs, rs, e, q, m, x)
behind_either f g h i s ps (t, u, qs, rs, e, q, m, inr x) = inr (t, u, qs, rs, e, q, m, x)

lit_either : (w : List ℕ) (p : T (bytes? w)) (g h : Grammar Name) → Within (lit w p (g ∣ h)) (lit w p g ∣ lit w p h)
lit_either [] p g h i s ps m = m
lit_either (b ∷ w) p g h i s ps (t, u, qs, rs, e, q, m, x) =
    let r = T-right (ltb b 256) (bytes? w) p in
    let c = just b (T-left (ltb b 256) (bytes? w) p) in
    behind_either (byte c) (lit w r g) (lit w r h) i s ps (t, u, qs, rs, e, q, m, lit_either w r g h (past i t) u rs x)

module _ (k : ℕ) (w : List ℕ) (p : T (bytes? w)) (g h : Grammar Name) where
  abbrev behind : Grammar Name → Grammar Name
  behind x = part (weekday k) empty ⨾ x

  day-within : Within g h → Within (on_day k w p g) (on_day k w p h)
  day-within f =
      lit-within w p (behind g) (behind h) (λ i s ps m. (m.0, m.1, m.2, m.3, m.4, m.5, m.6, f (past i m.0) m.1 m.3 m.7))

  day_either : Within (on_day k w p (g ∣ h)) (on_day k w p g ∣ on_day k w p h)
  day_either i s ps m =
      lit_either w p (behind g) (behind h) i s ps
      (lit-within w p (behind (g ∣ h)) (behind g ∣ behind h) (behind_either (part (weekday k) empty) g h) i s ps m)

module _ (g h : (l : List ℕ) → T (bytes? l) → Grammar Name) where
  module _ (f : (l : List ℕ) (p : T (bytes? l)) → Within (g l p) (h l p)) where
    on : (k : ℕ) (w : List ℕ) (p : T (bytes? w)) (l : List ℕ) (q : T (bytes? l)) → Within (on_day k w p (g l q)) (on_day k w p (h l q))
    on k w p l q = day-within k w p (g l q) (h l q) (f l q)

    days-within : Within (days g) (days h)
    days-within i s ps (inl m) = inl (on 0 (bytes "Mon") tt (bytes "day") tt i s ps m)
    days-within i s ps (inr (inl m)) = inr (inl (on 1 (bytes "Tue") tt (bytes "sday") tt i s ps m))
    days-within i s ps (inr (inr (inl m))) = inr (inr (inl (on 2 (bytes "Wed") tt (bytes "nesday") tt i s ps m)))
    days-within i s ps (inr (inr (inr (inl m)))) = inr (inr (inr (inl (on 3 (bytes "Thu") tt (bytes "rsday") tt i s ps m))))
    days-within i s ps (inr (inr (inr (inr (inl m))))) = inr (inr (inr (inr (inl (on 4 (bytes "Fri") tt (bytes "day") tt i s ps m)))))
    days-within i s ps (inr (inr (inr (inr (inr (inl m)))))) =
        inr (inr (inr (inr (inr (inl (on 5 (bytes "Sat") tt (bytes "urday") tt i s ps m))))))
    days-within i s ps (inr (inr (inr (inr (inr (inr m)))))) =
        inr (inr (inr (inr (inr (inr (on 6 (bytes "Sun") tt (bytes "day") tt i s ps m))))))

  apart : (k : ℕ) (w : List ℕ) (p : T (bytes? w)) (l : List ℕ) (q : T (bytes? l))
      → Within (on_day k w p (g l q ∣ h l q)) (on_day k w p (g l q) ∣ on_day k w p (h l q))
  apart k w p l q = day_either k w p (g l q) (h l q)

  days_either : Within (days (λ l p. g l p ∣ h l p)) (days g ∣ days h)
  days_either i s ps (inl m) =
      ⊎_elim (λ x. inl (inl x)) (λ x. inr (inl x))
      (apart 0 (bytes "Mon") tt (bytes "day") tt i s ps m)
  days_either i s ps (inr (inl m)) =
      ⊎_elim (λ x. inl (inr (inl x))) (λ x. inr (inr (inl x)))
      (apart 1 (bytes "Tue") tt (bytes "sday") tt i s ps m)
  days_either i s ps (inr (inr (inl m))) =
      ⊎_elim (λ x. inl (inr (inr (inl x)))) (λ x. inr (inr (inr (inl x))))
      (apart 2 (bytes "Wed") tt (bytes "nesday") tt i s ps m)
  days_either i s ps (inr (inr (inr (inl m)))) =
      ⊎_elim (λ x. inl (inr (inr (inr (inl x))))) (λ x. inr (inr (inr (inr (inl x)))))
      (apart 3 (bytes "Thu") tt (bytes "rsday") tt i s ps m)
  days_either i s ps (inr (inr (inr (inr (inl m))))) =
      ⊎_elim (λ x. inl (inr (inr (inr (inr (inl x)))))) (λ x. inr (inr (inr (inr (inr (inl x))))))
      (apart 4 (bytes "Fri") tt (bytes "day") tt i s ps m)
  days_either i s ps (inr (inr (inr (inr (inr (inl m)))))) =
      ⊎_elim (λ x. inl (inr (inr (inr (inr (inr (inl x))))))) (λ x. inr (inr (inr (inr (inr (inr (inl x)))))))
      (apart 5 (bytes "Sat") tt (bytes "urday") tt i s ps m)
  days_either i s ps (inr (inr (inr (inr (inr (inr m)))))) =
      ⊎_elim (λ x. inl (inr (inr (inr (inr (inr (inr x))))))) (λ x. inr (inr (inr (inr (inr (inr (inr x)))))))
      (apart 6 (bytes "Sun") tt (bytes "day") tt i s ps m)

pub one_of_three : Within date (rfc1123_date ∣ rfc850_date ∣ asctime_date)
one_of_three i s ps m =
    ⊎_elim inl (λ x. inr (days_either (λ l p. lit l p rfc850) (λ l p. asctime) i s ps x))
    (days_either (λ l p. rfc1123) (λ l p. lit l p rfc850 ∣ asctime) i s ps m)

pub any-of_three : Within (rfc1123_date ∣ rfc850_date ∣ asctime_date) date
any-of_three i s ps (inl m) = days-within (λ l p. rfc1123) forms (λ l p i s ps x. inl x) i s ps m
any-of_three i s ps (inr (inl m)) = days-within (λ l p. lit l p rfc850) forms (λ l p i s ps x. inr (inl x)) i s ps m
any-of_three i s ps (inr (inr m)) = days-within (λ l p. asctime) forms (λ l p i s ps x. inr (inr x)) i s ps m

-- ## What two digits mean, where there are none

-- every name but that of two digits of a year
abbrev pub full? : Name → Bool
full? (weekday k) = true
full? (month k) = true
full? day = true
full? year = true
full? short-year = false
full? hour = true
full? minute = true
full? second = true

module _ (f g : ℕ → ℕ) where
  -- the two meanings agree on the years of two digits among the parts
  abbrev pub Agree : List (Part Name) → Type 0
  Agree [] = Unit {0}
  Agree (p ∷ ps) = (full? p.label ≡ false → f (number p.text) ≡ g (number p.text)) × Agree ps

  noted-same : (l : Name) (t : List ℕ) (x z : Said) → (full? l ≡ false → f (number t) ≡ g (number t)) → x ≡ z
      → noted f l t x ≡ noted g l t z
  noted-same (weekday k) t x z a e = ap (noted f (weekday k) t) e
  noted-same (month k) t x z a e = ap (noted f (month k) t) e
  noted-same day t x z a e = ap (noted f day t) e
  noted-same year t x z a e = ap (noted f year t) e
  noted-same short-year t x z a e = ap (noted f short-year t) e ∙ ap (λ (n : ℕ). noted (λ (m : ℕ). n) short-year t z) (a refl)
  noted-same hour t x z a e = ap (noted f hour t) e
  noted-same minute t x z a e = ap (noted f minute t) e
  noted-same second t x z a e = ap (noted f second t) e

  pub said_same : (ps : List (Part Name)) → Agree ps → said f ps ≡ said g ps
  said_same [] a = refl
  said_same (p ∷ ps) a = noted-same p.label p.text (said f ps) (said g ps) a.0 (said_same ps a.1)

  pub agree_always : ((n : ℕ) → f n ≡ g n) → (ps : List (Part Name)) → Agree ps
  agree_always e [] = tt
  agree_always e (p ∷ ps) = (λ x. e (number p.text), agree_always e ps)

  pub agree-full : (ps : List (Part Name)) → Labelled full? ps → Agree ps
  agree-full [] a = tt
  agree-full (p ∷ ps) a = (λ x. absurd (subst T x a.0), agree-full ps a.1)

  -- where they agree on the parts of s, if it is a date, the answers are the same
  pub same_answer : (s : List ℕ) → ((ps : List (Part Name)) → Parses date 0 s ps → Agree ps)
      → header (rules_with f) s ≡ header (rules_with g) s
  same_answer s agree =
      same_meaning (rules_with g) (rules_with f).fault (rules_with f).value tt tt one_way s
      (λ ps m. meant (said_same ps (agree ps m)))
    where
      meant : {x z : Said} → x ≡ z
          → (fault_of x.named x.fields ≡ fault_of z.named z.fields) × (value_of x.fields ≡ value_of z.fields)
      meant e = (ap (λ (x : Said). fault_of x.named x.fields) e, ap (λ (x : Said). value_of x.fields) e)

-- the other two forms have no year of two digits
pub rfc1123-full : (s : List ℕ) (ps : List (Part Name)) → Parses rfc1123_date 0 s ps → Labelled full? ps
rfc1123-full s ps = all_labelled full? rfc1123_date tt 0 s ps

pub asctime-full : (s : List ℕ) (ps : List (Part Name)) → Parses asctime_date 0 s ps → Labelled full? ps
asctime-full s ps = all_labelled full? asctime_date tt 0 s ps
