-- A date in the form of RFC 850 says its year in two digits.
use Prim.Native.Nat.{ℕ, ◌-◌, ◌<◌}
use native.Mathlib.Omega.{arith}
use borrow.Author.Tests.{leb-true}
use mathlib.Core.Path.{◌≡◌, refl, sym, ap, subst, ◌∙◌}
use mathlib.Core.Logic.{inl, inr}
use mathlib.Core.Bool.{true≢false}
use mathlib.Core.List.{List, [], ◌∷◌, ◌++◌}
use lib.Dec.{T, leb, ltb}
use Rattle.grammar.specs.Grammar.{Part, Grammar, Parses, empty, byte, ◌⨾◌, part, lit, past, bytes?, T-right}
use Rattle.grammar.specs.Text.{bytes}
use Rattle.grammar.proofs.Derivative.{T_true}
use Rattle.grammar.proofs.Labels.{labels?, all_labelled}
use Rattle.grammar.proofs.Plain.{plain-empty, plain_byte, plain-seq, plain-part}
use Rattle.octets.specs.Bytes.{digit?}
use Rattle.octets.specs.Classes.{DIGIT}
use Rattle.octets.specs.Numbers.{number}
use Rattle.date.specs.Grammar.{Name, weekday, day, short-year, two, time, gmt, months, rfc850, on_day, rfc850_date, said, Among}
use Rattle.date.proofs.Months.{month-first}
use Rattle.date.proofs.Forms.{full?, Agree, agree-full}

-- among the parts are two digits t, they are the year that is said, whatever they mean, and no other two digits stand there
abbrev pub SaysShort : List (Part Name) → Type 0
SaysShort ps =
    (t : List ℕ) × Among short-year t ps × (number t < 100) × ((years : ℕ → ℕ) → (said years ps).fields.year ≡ years (number t))
    × ((f g : ℕ → ℕ) → f (number t) ≡ g (number t) → Agree f g ps)

-- every text of g says so
record Says (g : Grammar Name) : Type 0 where
  of : (i : ℕ) (s : List ℕ) (ps : List (Part Name)) → Parses g i s ps → SaysShort ps

-- ## Behind words, days, months and digits

says-lit : {g : Grammar Name} (w : List ℕ) (p : T (bytes? w)) → Says g → Says (lit w p g)
says-lit {g} w p f = record { of = go w p }
  where
    go : (w : List ℕ) (p : T (bytes? w)) (i : ℕ) (s : List ℕ) (ps : List (Part Name)) → Parses (lit w p g) i s ps → SaysShort ps
    go [] p i s ps m = f.of i s ps m
    go (b ∷ w) p i s ps m =
        subst SaysShort (sym (m.5 ∙ ap (λ (qs : List (Part Name)). qs ++ m.3) m.6.3))
        (go w (T-right (ltb b 256) (bytes? w) p) (past i m.0) m.1 m.3 m.7)

says-day : {g : Grammar Name} (k : ℕ) → Says g → Says (part (weekday k) empty ⨾ g)
says-day k f = record {
  of = λ i s ps m. let named = plain-part (weekday k) empty plain-empty i m.0 m.2 m.6 in
      subst SaysShort (sym (m.5 ∙ ap (λ (qs : List (Part Name)). qs ++ m.3) named))
      (let x = f.of (past i m.0) m.1 m.3 m.7 in (x.0, inr x.1, x.2, x.3, λ f h e. (λ q. absurd (true≢false q), x.4 f h e)));
}

says-month : {g : Grammar Name} → Says g → Says (months ⨾ g)
says-month f = record {
  of = λ i s ps m. subst SaysShort (sym (m.5 ∙ ap (λ (qs : List (Part Name)). qs ++ m.3) (month-first i m.0 m.2 m.6).3))
      (let x = f.of (past i m.0) m.1 m.3 m.7 in (x.0, inr x.1, x.2, x.3, λ f h e. (λ q. absurd (true≢false q), x.4 f h e)));
}

abbrev two_digits : Grammar Name
two_digits = byte DIGIT ⨾ byte DIGIT

two_digit_part : (l : Name) (g : Grammar Name) (i : ℕ) (s : List ℕ) (ps : List (Part Name)) (m : Parses (two l g) i s ps)
    → ps ≡ record { label = l; start = i; text = m.0 } ∷ m.3
two_digit_part l g i s ps m =
    m.5 ∙ ap (λ (qs : List (Part Name)). qs ++ m.3)
    (plain-part l two_digits (plain-seq (byte DIGIT) (byte DIGIT) (plain_byte DIGIT) (plain_byte DIGIT)) i m.0 m.2 m.6)

says-number : {g : Grammar Name} → Says g → Says (two day g)
says-number {g} f = record {
  of = λ i s ps m. subst SaysShort (sym (two_digit_part day g i s ps m))
      (let x = f.of (past i m.0) m.1 m.3 m.7 in (x.0, inr x.1, x.2, x.3, λ f h e. (λ q. absurd (true≢false q), x.4 f h e)));
}

-- ## The two digits

digit_below : (b : ℕ) → T (DIGIT.has b) → b - 48 < 10
unfolding digit?
digit_below b d = omega (arith, leb-true b 57 (T_true (leb b 57) (T-right (leb 48 b) (leb b 57) d)))

two-below : (i : ℕ) (t : List ℕ) (ps : List (Part Name)) → Parses two_digits i t ps → number t < 100
two-below i t ps m =
    let a = m.6 in
    let b = m.7 in
    rw (m.4, a.1, b.1) (omega (arith, digit_below a.0 a.2, digit_below b.0 b.2))

says-short : (g : Grammar Name) → T (labels? full? g) → Says (two short-year g)
says-short g none = record {
  of = λ i s ps m. subst SaysShort (sym (two_digit_part short-year g i s ps m)) (
    m.0,
    inl (refl, refl),
    two-below i m.0 m.6.0 m.6.2,
    λ years. refl,
    λ f h e. (λ q. e, agree-full f h m.3 (all_labelled full? g none (past i m.0) m.1 m.3 m.7)),
  );
}

-- ## The form

says-rfc850 : Says rfc850
says-rfc850 =
    says-lit (bytes ", ") tt (says-number (says-lit (bytes "-") tt
    (says-month (says-lit (bytes "-") tt (says-short (lit (bytes " ") tt (time gmt)) tt)))))

on : (k : ℕ) (w : List ℕ) (p : T (bytes? w)) (l : List ℕ) (q : T (bytes? l)) → Says (on_day k w p (lit l q rfc850))
on k w p l q = says-lit w p (says-day k (says-lit l q says-rfc850))

pub says-short-year : (s : List ℕ) (ps : List (Part Name)) → Parses rfc850_date 0 s ps → SaysShort ps
says-short-year s ps (inl m) = (on 0 (bytes "Mon") tt (bytes "day") tt).of 0 s ps m
says-short-year s ps (inr (inl m)) = (on 1 (bytes "Tue") tt (bytes "sday") tt).of 0 s ps m
says-short-year s ps (inr (inr (inl m))) = (on 2 (bytes "Wed") tt (bytes "nesday") tt).of 0 s ps m
says-short-year s ps (inr (inr (inr (inl m)))) = (on 3 (bytes "Thu") tt (bytes "rsday") tt).of 0 s ps m
says-short-year s ps (inr (inr (inr (inr (inl m))))) = (on 4 (bytes "Fri") tt (bytes "day") tt).of 0 s ps m
says-short-year s ps (inr (inr (inr (inr (inr (inl m)))))) = (on 5 (bytes "Sat") tt (bytes "urday") tt).of 0 s ps m
says-short-year s ps (inr (inr (inr (inr (inr (inr m)))))) = (on 6 (bytes "Sun") tt (bytes "day") tt).of 0 s ps m
