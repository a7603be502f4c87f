-- The parts of a well-formed set: two for each element, one behind the other, each as far as bytes go on with it.
use Prim.Native.Nat.{ℕ, zero, suc, ◌<◌}
use native.Mathlib.Omega.{arith}
use borrow.Author.Tests.{eqb-true}
use mathlib.Core.Path.{◌≡◌, refl, sym, ap, ap₂, subst, ◌∙◌}
use mathlib.Core.Logic.{inl, inr}
use mathlib.Core.Bool.{Bool, true, false, true≢false}
use mathlib.Core.List.{List, [], ◌∷◌, ◌++◌, append-nil, append_assoc, cons≢nil}
use lib.Dec.{T, ltb, eqb}
use lib.ListN.{length, get_or}
use Rattle.grammar.specs.Grammar.{Part, Grammar, byte, ◌⨾◌, star, plus, part, spell, bytes?, T-left, T-right, fold, Parses, Many, none, more, past}
use Rattle.grammar.specs.Endings.{stops}
use Rattle.grammar.proofs.Derivative.{T_true, past_append, deriv-of}
use Rattle.grammar.proofs.Order.{Whole, Laid, laid-behind, laid_append}
use Rattle.grammar.proofs.Plain.{Plain, plain_byte, plain-seq, plain-star, plain-part}
use Rattle.octets.specs.Bytes.{digit?}
use Rattle.octets.specs.Classes.{DIGIT, BLANK}
use Rattle.ranges.specs.Grammar.{Name, first, last, sign, suffix, MINUS, COMMA, blanks, element, others, unit, byte_ranges}
use Rattle.ranges.specs.Grammar.{opens?, forward, NoDigit}
use Rattle.ranges.specs.Parts.{ElementParts, InTurn}
use Rattle.ranges.proofs.Scan.{minus_no_digit, others_apart}

-- ## Texts without parts

behind : (g h : Grammar Name) → Plain g → (i : ℕ) (s : List ℕ) (ps : List (Part Name)) → Parses (g ⨾ h) i s ps
    → (t : List ℕ) × (u : List ℕ) × (s ≡ t ++ u) × Parses h (past i t) u ps
behind g h f i s ps p =
    let e : p.3 ≡ ps = sym (p.5 ∙ ap (λ (x : List (Part Name)). x ++ p.3) (f i p.0 p.2 p.6)) in
    (p.0, p.1, p.4, subst (Parses h (past i p.0) p.1) e p.7)

behind-word : (w : List ℕ) (b : T (bytes? w)) (g : Grammar Name) (i : ℕ) (s : List ℕ) (ps : List (Part Name)) → Parses (spell w b g) i s ps
    → (t : List ℕ) × (u : List ℕ) × (s ≡ t ++ u) × Parses g (past i t) u ps
behind-word [] b g i s ps p = ([], s, refl, p)
behind-word (a ∷ w) b g i s ps p =
    let x = behind (byte (fold a (T-left (ltb a 256) (bytes? w) b))) (spell w (T-right (ltb a 256) (bytes? w) b) g)
    (plain_byte (fold a (T-left (ltb a 256) (bytes? w) b))) i s ps p in
    let y = behind-word w (T-right (ltb a 256) (bytes? w) b) g (past i x.0) x.1 ps x.3 in (
      x.0 ++ y.0,
      y.1,
      x.2 ∙ ap (λ (t : List ℕ). x.0 ++ t) y.2 ∙ sym (append_assoc x.0 y.0 y.1),
      subst (λ (k : ℕ). Parses g k y.1 ps) (sym (past_append i x.0 y.0)) y.3,
    )

plain-blanks : Plain blanks
plain-blanks = plain-star (byte BLANK) (plain_byte BLANK)

plain-digits : Plain {L = Name} (star (byte DIGIT))
plain-digits = plain-star (byte DIGIT) (plain_byte DIGIT)

plain-number : Plain {L = Name} (plus (byte DIGIT))
plain-number = plain-seq (byte DIGIT) (star (byte DIGIT)) (plain_byte DIGIT) plain-digits

-- ## Digits

abbrev Digits : List ℕ → Type 0
Digits t = (m : ℕ) → m < length t → digit? (get_or t m 0) ≡ true

one_byte : (b x : ℕ) (t : List ℕ) → b ∷ t ≡ x ∷ [] → (b ≡ x) × (t ≡ [])
one_byte b x t e = (cc, cc)

more-digits : (b : ℕ) (t : List ℕ) → digit? b ≡ true → Digits t → Digits (b ∷ t)
more-digits b t d f zero h = d
more-digits b t d f (suc m) h = f m (omega arith)

many_digits : (i : ℕ) (t : List ℕ) (ps : List (Part Name)) → Many (Parses (byte DIGIT)) i t ps → Digits t
many_digits i t ps none = λ m h. absurd (omega arith)
many_digits i s ps (more b t u qs rs p m) =
    let e = one_byte b p.0 t p.1 in
    subst (λ (v : List ℕ). Digits (b ∷ (v ++ u))) (sym e.1)
    (more-digits b u (ap digit? e.0 ∙ T_true (digit? p.0) p.2) (many_digits _ u rs m))

number_digits : (i : ℕ) (t : List ℕ) (ps : List (Part Name)) → Parses (plus (byte DIGIT)) i t ps → Digits t × (0 < length t)
number_digits i t ps p = (subst Digits (sym whole) all, omega (arith, ap length whole))
  where
    whole : t ≡ p.6.0 ∷ p.1
    whole = p.4 ∙ ap (λ (x : List ℕ). x ++ p.1) p.6.1

    all : Digits (p.6.0 ∷ p.1)
    all = more-digits p.6.0 p.1 (T_true (digit? p.6.0) p.6.2) (many_digits (past i p.0) p.1 p.3 p.7)

-- a number, and what follows it
number-whole : (l : Name) (i : ℕ) (t u : List ℕ) → ((b : ℕ) → forward.goes_on l b ≡ digit? b) → Digits t → NoDigit u
    → Whole forward (record { label = l; start = i; text = t }) u
number-whole l i t u goes d n = record { inner = λ m a b. goes (get_or t m 0) ∙ d m b; outer = go u n }
  where
    go : (v : List ℕ) → NoDigit v → stops forward (record { label = l; start = i; text = t }) v ≡ true
    go [] n = refl
    go (b ∷ v) n = rw (goes b, n)

-- ## An element

-- two parts, of which the first has a byte, and the second ends where the text does
abbrev Pair : ℕ → List ℕ → List ℕ → List (Part Name) → Type 0
Pair i t w ps =
    (a : Part Name) × (b : Part Name) × (ps ≡ a ∷ b ∷ []) × ElementParts a b × (0 < length a.text) × Laid forward i t w (a ∷ b ∷ [])
    × (past b.start b.text ≡ past i t)

minus_first : (x : ℕ) (t u : List ℕ) → t ≡ x ∷ [] → T (MINUS.has x) → (w : List ℕ) → NoDigit ((t ++ u) ++ w)
minus_first x t u e h w = subst (λ (v : List ℕ). NoDigit ((v ++ u) ++ w)) (sym e) (ap digit? (eqb-true x 45 (T_true (eqb x 45) h)) ∙ minus_no_digit)

positions-pair : (i : ℕ) (t w : List ℕ) (ps : List (Part Name)) → NoDigit w
    → Parses (part first (plus (byte DIGIT)) ⨾ byte MINUS ⨾ part last (star (byte DIGIT))) i t ps → Pair i t w ps
positions-pair i t w ps n p =
    let f = plain-part first (plus (byte DIGIT)) plain-number i p.0 p.2 p.6 in
    let d = number_digits i p.0 p.6.0 p.6.2 in
    let m = p.7 in
    let l = plain-part last (star (byte DIGIT)) plain-digits (past (past i p.0) m.0) m.1 m.3 m.7 in
    let ds = many_digits (past (past i p.0) m.0) m.1 m.7.0 m.7.2 in
    let rest = m.5 ∙ ap₂ (λ (x y : List (Part Name)). x ++ y) m.6.3 l in (
      record { label = first; start = i; text = p.0 },
      record { label = last; start = past (past i p.0) m.0; text = m.1 },
      p.5 ∙ ap₂ (λ (x y : List (Part Name)). x ++ y) f rest,
      inl (refl, refl),
      d.1,
      (
        [],
        p.1,
        p.4,
        refl,
        number-whole first i p.0 (p.1 ++ w) (λ b. refl) d.0
            (subst (λ (v : List ℕ). NoDigit (v ++ w)) (sym m.4) (minus_first m.6.0 m.0 m.1 m.6.1 m.6.2 w)),
        (
          m.0,
          [],
          m.4 ∙ ap (λ (v : List ℕ). m.0 ++ v) (sym (append-nil m.1)),
          refl,
          number-whole last (past (past i p.0) m.0) m.1 w (λ b. refl) ds n,
          tt,
        ),
      ),
      sym (past_append (past i p.0) m.0 m.1) ∙ ap (past (past i p.0)) (sym m.4) ∙ sym (past_append i p.0 p.1)
          ∙ ap (past i) (sym p.4),
    )

suffix-pair : (i : ℕ) (t w : List ℕ) (ps : List (Part Name)) → NoDigit w
    → Parses (part sign (byte MINUS) ⨾ part suffix (plus (byte DIGIT))) i t ps → Pair i t w ps
suffix-pair i t w ps n p =
    let f = plain-part sign (byte MINUS) (plain_byte MINUS) i p.0 p.2 p.6 in
    let l = plain-part suffix (plus (byte DIGIT)) plain-number (past i p.0) p.1 p.3 p.7 in
    let d = number_digits (past i p.0) p.1 p.7.0 p.7.2 in
    let one = ap length p.6.2.1 in (
      record { label = sign; start = i; text = p.0 },
      record { label = suffix; start = past i p.0; text = p.1 },
      p.5 ∙ ap₂ (λ (x y : List (Part Name)). x ++ y) f l,
      inr (refl, refl),
      omega (arith, one),
      (
        [],
        p.1,
        p.4,
        refl,
        record { inner = λ m a b. absurd (omega (arith, one)); outer = sign-stops (p.1 ++ w) },
        (
          [],
          [],
          sym (append-nil p.1),
          refl,
          number-whole suffix (past i p.0) p.1 w (λ b. refl) d.0 n,
          tt,
        ),
      ),
      sym (past_append i p.0 p.1) ∙ ap (past i) (sym p.4),
    )
  where
    sign-stops : (u : List ℕ) → stops forward (record { label = sign; start = i; text = p.0 }) u ≡ true
    sign-stops [] = refl
    sign-stops (b ∷ u) = refl

element-pair : (i : ℕ) (t w : List ℕ) (ps : List (Part Name)) → NoDigit w → Parses element i t ps → Pair i t w ps
element-pair i t w ps n (inl p) = positions-pair i t w ps n p
element-pair i t w ps n (inr p) = suffix-pair i t w ps n p

-- ## All of them

-- an element that opens has a byte
abbrev pub Opened : List (Part Name) → Type 0
Opened [] = Unit
Opened (c ∷ ps) = (opens? c.label ≡ true → 0 < length c.text) × Opened ps

-- the last part ends at the place e
abbrev pub Ending : ℕ → List (Part Name) → Type 0
Ending e [] = Unit
Ending e (c ∷ []) = past c.start c.text ≡ e
Ending e (c ∷ d ∷ ps) = Ending e (d ∷ ps)

pub record Standing (i : ℕ) (t w : List ℕ) (ps : List (Part Name)) : Type 0 where
  pub turns : InTurn ps
  pub opening : Opened ps
  pub ending : Ending (past i t) ps
  pub laid : Laid forward i t w ps

joins_element : Grammar Name
joins_element = blanks ⨾ byte COMMA ⨾ blanks ⨾ element

-- what joins the next element is no digit
others_no_digit : (i : ℕ) (u w : List ℕ) (rs : List (Part Name)) → Parses others i u rs → NoDigit w → NoDigit (u ++ w)
others_no_digit i [] w rs p n = n
others_no_digit i (b ∷ u) w rs p n = go (digit? b) refl
  where
    go : (x : Bool) → digit? b ≡ x → x ≡ false
    go true d = absurd (subst (λ (g : Grammar Name). Parses g (suc i) u rs) (others_apart i b d) (deriv-of others i b u rs p))
    go false d = refl

-- behind a part that ends before the text u
pair-ending : (i : ℕ) (t u : List ℕ) (a b : Part Name) (qs : List (Part Name)) → past b.start b.text ≡ past i t
    → Ending (past (past i t) u) qs → (qs ≡ [] → u ≡ []) → Ending (past (past i t) u) (a ∷ b ∷ qs)
pair-ending i t u a b [] e k f = e ∙ ap (past (past i t)) (sym (f refl))
pair-ending i t u a b (q ∷ qs) e k f = k

pair-standing : (i : ℕ) (t u w : List ℕ) (ps qs : List (Part Name)) → Pair i t (u ++ w) ps → (qs ≡ [] → u ≡ [])
    → Standing (past i t) u w qs → Standing i (t ++ u) w (ps ++ qs)
pair-standing i t u w ps qs x alone s =
    subst (λ (rs : List (Part Name)). Standing i (t ++ u) w (rs ++ qs)) (sym x.2) (record {
      turns = (x.3, s.turns);
      opening = (λ o. x.4, (λ o. absurd (closes x.3 o), s.opening));
      ending = subst (λ (e : ℕ). Ending e (x.0 ∷ x.1 ∷ qs)) (sym (past_append i t u))
          (pair-ending i t u x.0 x.1 qs x.6 s.ending alone);
      laid = laid_append forward i t u w (x.0 ∷ x.1 ∷ []) qs x.5 s.laid;
    })
  where
    closes : ElementParts x.0 x.1 → opens? x.1.label ≡ true → ⊥
    closes (inl e) o = true≢false (sym o ∙ ap opens? e.1)
    closes (inr e) o = true≢false (sym o ∙ ap opens? e.1)

-- without a part nothing is joined
no_others : (i : ℕ) (u : List ℕ) (rs : List (Part Name)) → Many (Parses joins_element) i u rs → rs ≡ [] → u ≡ []
unfolding joins_element
no_others i u rs none e = refl
no_others i s rs (more b t u ps qs p m) e =
    let x = behind blanks (byte COMMA ⨾ blanks ⨾ element) plain-blanks i (b ∷ t) ps p in
    let y = behind (byte COMMA) (blanks ⨾ element) (plain_byte COMMA) (past i x.0) x.1 ps x.3 in
    let z = behind blanks element plain-blanks (past (past i x.0) y.0) y.1 ps y.3 in
    let pair = element-pair (past (past (past i x.0) y.0) z.0) z.1 [] ps tt z.3 in
    absurd (cons≢nil (sym (ap (λ (us : List (Part Name)). us ++ qs) pair.2) ∙ e))

others-standing : (i : ℕ) (u w : List ℕ) (rs : List (Part Name)) → NoDigit w → Many (Parses joins_element) i u rs → Standing i u w rs
unfolding joins_element
others-standing i u w rs n none = record { turns = tt; opening = tt; ending = tt; laid = tt }
others-standing i s w rs n (more b t u ps qs p m) =
    let after = others_no_digit (past (suc i) t) u w qs m n in
    let x = behind blanks (byte COMMA ⨾ blanks ⨾ element) plain-blanks i (b ∷ t) ps p in
    let y = behind (byte COMMA) (blanks ⨾ element) (plain_byte COMMA) (past i x.0) x.1 ps x.3 in
    let z = behind blanks element plain-blanks (past (past i x.0) y.0) y.1 ps y.3 in
    let e = element-pair (past (past (past i x.0) y.0) z.0) z.1 (u ++ w) ps after z.3 in
    let deep = laid-behind forward (past (past i x.0) y.0) z.0 z.1 (u ++ w) (e.0 ∷ e.1 ∷ []) e.5 in
    let mid = laid-behind forward (past i x.0) y.0 (z.0 ++ z.1) (u ++ w) (e.0 ∷ e.1 ∷ []) deep in
    let all = laid-behind forward i x.0 (y.0 ++ (z.0 ++ z.1)) (u ++ w) (e.0 ∷ e.1 ∷ []) mid in
    let text = x.2 ∙ ap (λ (v : List ℕ). x.0 ++ v) (y.2 ∙ ap (λ (v : List ℕ). y.0 ++ v) z.2) in
    let place = e.6 ∙ sym (past_append (past (past i x.0) y.0) z.0 z.1) ∙ ap (past (past (past i x.0) y.0)) (sym z.2)
    ∙ sym (past_append (past i x.0) y.0 y.1) ∙ ap (past (past i x.0)) (sym y.2) ∙ sym (past_append i x.0 x.1)
    ∙ ap (past i) (sym x.2) in
    pair-standing i (b ∷ t) u w ps qs
    (e.0, e.1, e.2, e.3, e.4, subst (λ (v : List ℕ). Laid forward i v (u ++ w) (e.0 ∷ e.1 ∷ [])) (sym text) all, place)
    (no_others (past (suc i) t) u qs m)
    (others-standing (past (suc i) t) u w qs n m)

pub standing : (s : List ℕ) (ps : List (Part Name)) → Parses byte_ranges 0 s ps → Standing 0 s [] ps
unfolding joins_element
standing s ps p =
    let x = behind-word unit tt (element ⨾ others) 0 s ps p in
    let q = x.3 in
    let i = past 0 x.0 in
    let after = others_no_digit (past i q.0) q.1 [] q.3 q.7 tt in
    let e = element-pair i q.0 (q.1 ++ []) q.2 after q.6 in
    let w = pair-standing i q.0 q.1 [] q.2 q.3 e (no_others (past i q.0) q.1 q.3 q.7) (others-standing (past i q.0) q.1 [] q.3 tt q.7) in
    let text = x.2 ∙ ap (λ (v : List ℕ). x.0 ++ v) q.4 in
    subst (λ (rs : List (Part Name)). Standing 0 s [] rs) (sym q.5)
    (record {
      turns = w.turns;
      opening = w.opening;
      ending = subst (λ (m : ℕ). Ending m (q.2 ++ q.3)) (sym (past_append 0 x.0 (q.0 ++ q.1)) ∙ ap (past 0) (sym text)) w.ending;
      laid = subst (λ (v : List ℕ). Laid forward 0 v [] (q.2 ++ q.3)) (sym text)
          (laid-behind forward 0 x.0 (q.0 ++ q.1) [] (q.2 ++ q.3) w.laid);
    })
