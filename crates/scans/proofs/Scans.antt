-- Scans of header values: a run of a class, a word in any letter case, a decimal number under a limit, each against its grammar.
use Rattle.std.proofs.Common.{◌≡◌, ℕ, zero, suc, ◌+◌, ◌-◌, ◌<◌, ◌≤◌, Bool, true, false, cond, ◌&&◌, ◌||◌, T, eqb, ltb, List, [], ◌∷◌, ◌++◌, length, get_or, take, drop, sym, refl, ap, ◌∙◌, subst, true≢false, append-nil, add-one, arith, drop_of_length-le, drop-cons, ltb-false, ltb-true, eqb-true}
use mathlib.Core.Option.{Option, none, some}
use borrow.Author.Tests.{eqb-false}
use Rattle.grammar.specs.Grammar.{Class, Part, Grammar, byte, part, plus, spell, fold, bytes?, lower, T-left, T-right, void}
use Rattle.grammar.specs.helpers.Derivative.{live, deriv, then}
use Rattle.grammar.specs.Reading.{above, Rules, refused}
use Rattle.grammar.specs.helpers.Judge.{held}
use Rattle.grammar.specs.helpers.Checks.{ahead}
use Rattle.grammar.specs.helpers.Scans.{slice, from}
use Rattle.grammar.proofs.Scans.{Run, part-plus, part-plus-none, part-plus-breaks, first-is, first-not, first-none}
use Rattle.octets.specs.Bytes.{digit?}
use Rattle.octets.specs.Classes.{DIGIT}
use Rattle.octets.specs.Numbers.{grow, number_after, number, above?, number_limit}
use Rattle.scans.specs.declared.Decimal.TheVariants.{Number, Above, Missing}
use Rattle.scans.specs.helpers.Runs.{run, run_end}
use Rattle.scans.specs.helpers.Decimals.{later, passing, decimal_of, decimal_at}
use Rattle.scans.specs.helpers.Words.{agreeing}
use Rattle.scans.proofs.Runs.{run-front, run-some, run-slice, run_is}

or_false : (x : Bool) → (x || false) ≡ x
or_false true = refl
or_false false = refl

either_false : (x y : Bool) → (x || y) ≡ false → (x ≡ false) × (y ≡ false)
either_false true y e = absurd (true≢false e)
either_false false y e = (refl, e)

-- ## Decimal numbers

-- no digit passes the limit: no beginning of the number is above it
passing-none : (limit n : ℕ) (t : List ℕ) → passing limit n t ≡ none → (m : ℕ) → m < length t
    → ltb limit (number_after n (take (suc m) t)) ≡ false
passing-none limit n [] e m h = absurd (omega arith)
passing-none limit n (b ∷ t) e m h = go (ltb limit (grow n b)) refl e m h (passing-none limit (grow n b) t)
  where
    unlater : (o : Option ℕ) → later o ≡ none → o ≡ none
    unlater none f = refl
    unlater (some k) f = let z : ◌≡◌ {A = ℕ} 0 1 = cc in absurd (omega arith)

    go : (x : Bool) → ltb limit (grow n b) ≡ x → cond x (some 0) (later (passing limit (grow n b) t)) ≡ none → (k : ℕ) → k < suc (length t)
        → (passing limit (grow n b) t ≡ none → (j : ℕ) → j < length t → ltb limit (number_after (grow n b) (take (suc j) t)) ≡ false)
        → ltb limit (number_after n (take (suc k) (b ∷ t))) ≡ false
    go true f d k a r = let z : ◌≡◌ {A = ℕ} 0 1 = cc in absurd (omega arith)
    go false f d zero a r = f
    go false f d (suc k) a r = r (unlater (passing limit (grow n b) t) d) k (omega arith)

-- the first digit that passes the limit
pub record FirstPassing (limit n : ℕ) (t : List ℕ) (q : ℕ) : Type 0 where
  pub within : q < length t
  pub passes : ltb limit (number_after n (take (suc q) t)) ≡ true
  pub before : (m : ℕ) → m < q → ltb limit (number_after n (take (suc m) t)) ≡ false

passing-later : (limit n b : ℕ) (t : List ℕ) (k : ℕ) → ltb limit (grow n b) ≡ false → FirstPassing limit (grow n b) t k
    → FirstPassing limit n (b ∷ t) (suc k)
passing-later limit n b t k f w = record { within = omega (arith, w.within); passes = w.passes; before = early }
  where
    early : (m : ℕ) → m < suc k → ltb limit (number_after n (take (suc m) (b ∷ t))) ≡ false
    early zero a = f
    early (suc m) a = w.before m (omega arith)

passing-some : (limit n : ℕ) (t : List ℕ) (q : ℕ) → passing limit n t ≡ some q → FirstPassing limit n t q
passing-some limit n [] q e = let z : ◌≡◌ {A = ℕ} 0 1 = cc in absurd (omega arith)
passing-some limit n (b ∷ t) q e = go (ltb limit (grow n b)) (passing limit (grow n b) t) refl refl e (passing-some limit (grow n b) t)
  where
    go : (x : Bool) (o : Option ℕ) → ltb limit (grow n b) ≡ x → passing limit (grow n b) t ≡ o → cond x (some 0) (later o) ≡ some q
        → ((k : ℕ) → passing limit (grow n b) t ≡ some k → FirstPassing limit (grow n b) t k) → FirstPassing limit n (b ∷ t) q
    go true o f p d r =
        let v : 0 ≡ q = cc in
        subst (λ (j : ℕ). FirstPassing limit n (b ∷ t) j) v (record { within = omega arith; passes = f; before = λ m a. absurd (omega arith) })
    go false none f p d r = let z : ◌≡◌ {A = ℕ} 0 1 = cc in absurd (omega arith)
    go false (some k) f p d r =
        let v : suc k ≡ q = cc in
        subst (λ (j : ℕ). FirstPassing limit n (b ∷ t) j) v (passing-later limit n b t k f (r k p))

-- Whatever the digits' beginnings are told by, the answer of `decimal_at` says where the first one above the limit stands.
module _ (limit : ℕ) (s : List ℕ) (i : ℕ) where
  abbrev here : List ℕ
  here = run digit? (drop i s)

  -- a beginning of the digits, as a piece of the text
  piece : (n : ℕ) → i ≤ n → n < run_end digit? s i → slice s i (n + 1) ≡ take (suc (n - i)) here
  piece n a b =
      let e : (n + 1) - i ≡ suc (n - i) = omega arith in
      ap (λ (m : ℕ). take m (drop i s)) e ∙ run-front digit? (drop i s) (suc (n - i)) (omega arith)

  -- what the answer says of the digits
  pub record IsNumber (v e : ℕ) : Type 0 where
    pub some : i < e
    pub end : e ≡ run_end digit? s i
    pub is : number (slice s i e) ≡ v
    pub small : (n : ℕ) → i ≤ n → n < e → ltb limit (number (slice s i (n + 1))) ≡ false

  pub record IsAbove (p : ℕ) : Type 0 where
    pub first : i ≤ p
    pub within : p < run_end digit? s i
    pub passes : ltb limit (number (slice s i (p + 1))) ≡ true
    pub before : (n : ℕ) → i ≤ n → n < p → ltb limit (number (slice s i (n + 1))) ≡ false

  -- an answer with no digit that passes the limit
  unpassed : (v e : ℕ) → passing limit 0 here ≡ none → (x : Bool) → eqb (i + length here) i ≡ x
      → cond x Missing (Number (number here) (i + length here)) ≡ Number v e → IsNumber v e
  unpassed v e p true q f = let z : ◌≡◌ {A = ℕ} 0 1 = cc in absurd (omega arith)
  unpassed v e p false q f =
      let a : i + length here ≡ e = cc in
      let w : number here ≡ v = cc in
      let d = eqb-false (i + length here) i q in
      record {
        some = omega (arith, run-some digit? s i d);
        end = sym a;
        is = ap (λ (m : ℕ). number (slice s i m)) (sym a) ∙ ap number (run-slice digit? s i) ∙ w;
        small = λ n x y. ap (λ (t : List ℕ). ltb limit (number t)) (piece n x (omega arith)) ∙ passing-none limit 0 here p (n - i) (omega arith);
      }

  missed : (x : Bool) → eqb (i + length here) i ≡ x → cond x Missing (Number (number here) (i + length here)) ≡ Missing
      → run_end digit? s i ≡ i
  missed true q f = eqb-true (i + length here) i q
  missed false q f = let z : ◌≡◌ {A = ℕ} 0 1 = cc in absurd (omega arith)

  pub number_of : (v e : ℕ) → decimal_at limit s i ≡ Number v e → IsNumber v e
  unfolding decimal_at
  number_of v e d = go (passing limit 0 here) refl d
    where
      go : (o : Option ℕ) → passing limit 0 here ≡ o → decimal_of o i here ≡ Number v e → IsNumber v e
      go none p f = unpassed v e p (eqb (i + length here) i) refl f
      go (some q) p f = let z : ◌≡◌ {A = ℕ} 0 1 = cc in absurd (omega arith)

  pub number_fits : (v e : ℕ) → IsNumber v e → ltb limit (number (slice s i e)) ≡ false
  number_fits v e w =
      let k : (e - 1) + 1 ≡ e = omega (arith, w.some) in
      subst (λ (n : ℕ). ltb limit (number (slice s i n)) ≡ false) k (w.small (e - 1) (omega (arith, w.some)) (omega (arith, w.some)))

  pub missing_of : decimal_at limit s i ≡ Missing → run_end digit? s i ≡ i
  unfolding decimal_at
  missing_of d = go (passing limit 0 here) d
    where
      go : (o : Option ℕ) → decimal_of o i here ≡ Missing → run_end digit? s i ≡ i
      go none f = missed (eqb (i + length here) i) refl f
      go (some q) f = let z : ◌≡◌ {A = ℕ} 0 1 = cc in absurd (omega arith)

  unfound : (p e : ℕ) (x : Bool) → cond x Missing (Number (number here) (i + length here)) ≡ Above p e → IsAbove p
  unfound p e true f = let z : ◌≡◌ {A = ℕ} 0 1 = cc in absurd (omega arith)
  unfound p e false f = let z : ◌≡◌ {A = ℕ} 0 1 = cc in absurd (omega arith)

  pub above_of : (p e : ℕ) → decimal_at limit s i ≡ Above p e → IsAbove p
  unfolding decimal_at
  above_of p e d = go (passing limit 0 here) refl d
    where
      go : (o : Option ℕ) → passing limit 0 here ≡ o → decimal_of o i here ≡ Above p e → IsAbove p
      go none r f = unfound p e (eqb (i + length here) i) f
      go (some q) r f =
          let a : p ≡ i + q = cc in
          let w = passing-some limit 0 here q r in
          let b : p - i ≡ q = omega arith in
          record {
            first = omega arith;
            within = omega (arith, w.within);
            passes = ap (λ (t : List ℕ). ltb limit (number t)) (piece p (omega arith) (omega (arith, w.within)))
                ∙ ap (λ (m : ℕ). ltb limit (number (take (suc m) here))) b ∙ w.passes;
            before =
                λ n x y. ap (λ (t : List ℕ). ltb limit (number t)) (piece n x (omega (arith, w.within))) ∙ w.before (n - i) (omega arith);
          }

-- The decimal fact, over the limit: a number that stands in its grammar as a part.
module _ {L A : Type 0} (r : Rules L A) (s : List ℕ) (cs : List (Part L)) (k : L) (g : Grammar L) (l : live g ≡ true) (h : held g ≡ [])
    (apart : (j b : ℕ) → digit? b ≡ true → deriv g j b ≡ void) (i : ℕ) (inside : i ≤ length s) where
  -- no digit
  pub number_missing : (limit : ℕ) → decimal_at limit s i ≡ Missing
      → from r s (ahead cs (then (part k (plus (byte DIGIT))) g)) i ≡ refused 1 i
  number_missing limit d =
      part-plus-none r s cs k DIGIT g l h apart i (run_end digit? s i) (run_is digit? s i inside) (omega (arith, missing_of limit s i d))

  -- digits with which no limit is passed, as where a number is capped
  pub digits-read : (e : ℕ) → i < e → e ≡ run_end digit? s i
      → ((n : ℕ) → i ≤ n → n < e → r.limit n (cs ++ record { label = k; start = i; text = slice s i (n + 1) } ∷ []) ≡ none)
      → from r s (ahead cs (then (part k (plus (byte DIGIT))) g)) i
      ≡ from r s (ahead (cs ++ record { label = k; start = i; text = slice s i e } ∷ []) g) e
  digits-read e a b quiet =
      part-plus r s cs k DIGIT g l h apart i e (subst (λ (n : ℕ). Run digit? s i n) (sym b) (run_is digit? s i inside)) a quiet

  -- the byte is refused with which the number passes the limit
  module _ (limit : ℕ)
      (limits : (n : ℕ) (t : List ℕ) → r.limit n (cs ++ record { label = k; start = i; text = t } ∷ []) ≡ cond (ltb limit (number t)) (some above) none) where
    quiet : (n : ℕ) (t : List ℕ) → ltb limit (number t) ≡ false → r.limit n (cs ++ record { label = k; start = i; text = t } ∷ []) ≡ none
    quiet n t e = limits n t ∙ rw e

    -- a number within the limit
    pub number-reads : (v e : ℕ) → decimal_at limit s i ≡ Number v e
        → from r s (ahead cs (then (part k (plus (byte DIGIT))) g)) i
        ≡ from r s (ahead (cs ++ record { label = k; start = i; text = slice s i e } ∷ []) g) e
    number-reads v e d =
        let w = number_of limit s i v e d in
        digits-read e w.some w.end (λ n y z. quiet n (slice s i (n + 1)) (w.small n y z))

    -- a number above it
    pub number-passes : (p e : ℕ) → decimal_at limit s i ≡ Above p e
        → from r s (ahead cs (then (part k (plus (byte DIGIT))) g)) i ≡ refused 2 p
    number-passes p e d =
        let w = above_of limit s i p e d in
        part-plus-breaks r s cs k DIGIT g l h apart i (run_end digit? s i) (run_is digit? s i inside) {z = above} p w.first w.within
        (λ n y z. quiet n (slice s i (n + 1)) (w.before n y z)) (limits p (slice s i (p + 1)) ∙ rw w.passes)

-- a number behind parts that are not above the limit
pub above-last : {L : Type 0} (number? : L → Bool) (limit : ℕ) (cs : List (Part L)) (c : Part L) → above? number? limit cs ≡ false
    → number? c.label ≡ true
    → above? number? limit (cs ++ c ∷ []) ≡ ltb limit (number c.text)
above-last number? limit [] c e f = rw f (or_false (ltb limit (number c.text)))
above-last number? limit (d ∷ cs) c e f =
    let x = (number? d.label && ltb limit (number d.text)) in
    let w = either_false x (above? number? limit cs) e in
    ap (λ (t : Bool). t || above? number? limit (cs ++ c ∷ [])) w.0 ∙ above-last number? limit cs c w.1 f

pub number-limits : {L : Type 0} (number? : L → Bool) (limit : ℕ) (cs : List (Part L)) → above? number? limit cs ≡ false → (k : L) (i : ℕ)
    → number? k ≡ true → (n : ℕ) (t : List ℕ)
    → number_limit number? limit n (cs ++ record { label = k; start = i; text = t } ∷ []) ≡ cond (ltb limit (number t)) (some above) none
number-limits number? limit cs e k i f n t =
    ap (λ (x : Bool). cond x (some above) none) (above-last number? limit cs (record { label = k; start = i; text = t }) e f)

-- ## Words in any letter case

module _ {L A : Type 0} (r : Rules L A) (s : List ℕ) (cs : List (Part L)) (quiet : (n : ℕ) → r.limit n cs ≡ none)
    (g : Grammar L) (l : live g ≡ true) (h : held g ≡ []) where
  spell-live : (w : List ℕ) (p : T (bytes? w)) → live (spell w p g) ≡ true
  spell-live [] p = l
  spell-live (b ∷ w) p = spell-live w (T-right (ltb b 256) (bytes? w) p)

  spell-held : (w : List ℕ) (p : T (bytes? w)) → held (spell w p g) ≡ []
  spell-held [] p = h
  spell-held (b ∷ w) p = spell-held w (T-right (ltb b 256) (bytes? w) p)

  -- how far the word goes: behind it, or to the first byte that is another
  abbrev pub Spelled : List ℕ → ℕ → Grammar L → ℕ → Type 0
  Spelled w i f n =
      (n ≡ length w → from r s (ahead cs f) i ≡ from r s (ahead cs g) (i + length w))
      × (n < length w → from r s (ahead cs f) i ≡ refused 1 (i + n))

  pub word-reads : (w : List ℕ) (p : T (bytes? w)) (i : ℕ) → Spelled w i (spell w p g) (agreeing w (drop i s))
  word-reads [] p i =
      let z : i ≡ i + 0 = omega arith in
      (λ e. ap (from r s (ahead cs g)) z, λ e. absurd (omega arith))
  word-reads (a ∷ w) p i = go (ltb i (length s)) refl (word-reads w (T-right (ltb a 256) (bytes? w) p) (i + 1))
    where
      rest : Grammar L
      rest = spell w (T-right (ltb a 256) (bytes? w) p) g

      class : Class
      class = fold a (T-left (ltb a 256) (bytes? w) p)

      still : i ≡ i + 0
      still = omega arith

      none-broken : r.limit i (cs ++ held (spell w (T-right (ltb a 256) (bytes? w) p) g)) ≡ none
      none-broken = ap (λ (ps : List (Part L)). r.limit i (cs ++ ps)) (spell-held w (T-right (ltb a 256) (bytes? w) p)) ∙ ap (r.limit i) (append-nil cs) ∙ quiet i

      differs : i < length s → eqb (lower (get_or s i 0)) (lower a) ≡ false → agreeing (a ∷ w) (drop i s) ≡ 0
      differs at e = rw (drop-cons s i 0 at, e)

      agrees : i < length s → eqb (lower (get_or s i 0)) (lower a) ≡ true → agreeing (a ∷ w) (drop i s) ≡ suc (agreeing w (drop (i + 1) s))
      agrees at e = rw (drop-cons s i 0 at, e) (ap (λ (n : ℕ). suc (agreeing w (drop n s))) (sym (add-one i)))

      gone : length s ≤ i → agreeing (a ∷ w) (drop i s) ≡ 0
      gone at = rw (drop_of_length-le s at)

      other : i < length s → eqb (lower (get_or s i 0)) (lower a) ≡ false
          → Spelled (a ∷ w) i (spell (a ∷ w) p g) (agreeing (a ∷ w) (drop i s))
      other at e = subst (Spelled (a ∷ w) i (spell (a ∷ w) p g)) (sym (differs at e)) (
        λ n. absurd (omega arith),
        λ n. first-not r s cs (fold a (T-left (ltb a 256) (bytes? w) p)) (spell w (T-right (ltb a 256) (bytes? w) p) g) (spell-live w (T-right (ltb a 256) (bytes? w) p)) i at e
            ∙ ap (refused 1) still,
      )

      same : i < length s → eqb (lower (get_or s i 0)) (lower a) ≡ true
          → Spelled w (i + 1) (spell w (T-right (ltb a 256) (bytes? w) p) g) (agreeing w (drop (i + 1) s))
          → Spelled (a ∷ w) i (spell (a ∷ w) p g) (agreeing (a ∷ w) (drop i s))
      same at e q =
          let step = first-is r s cs (fold a (T-left (ltb a 256) (bytes? w) p)) (spell w (T-right (ltb a 256) (bytes? w) p) g) (spell-live w (T-right (ltb a 256) (bytes? w) p)) i at e none-broken in
          subst (Spelled (a ∷ w) i (spell (a ∷ w) p g)) (sym (agrees at e)) (
            λ n.
                let z : (i + 1) + length w ≡ i + suc (length w) = omega arith in
                step ∙ q.0 (omega arith) ∙ ap (from r s (ahead cs g)) z,
            λ n.
                let z : (i + 1) + agreeing w (drop (i + 1) s) ≡ i + suc (agreeing w (drop (i + 1) s)) = omega arith in
                step ∙ q.1 (omega arith) ∙ ap (refused 1) z,
          )

      go : (x : Bool) → ltb i (length s) ≡ x
          → Spelled w (i + 1) (spell w (T-right (ltb a 256) (bytes? w) p) g) (agreeing w (drop (i + 1) s))
          → Spelled (a ∷ w) i (spell (a ∷ w) p g) (agreeing (a ∷ w) (drop i s))
      go false f q =
          let at = ltb-false i (length s) f in
          subst (Spelled (a ∷ w) i (spell (a ∷ w) p g)) (sym (gone at)) (
            λ n. absurd (omega arith),
            λ n. first-none r s cs (fold a (T-left (ltb a 256) (bytes? w) p)) (spell w (T-right (ltb a 256) (bytes? w) p) g) (spell-live w (T-right (ltb a 256) (bytes? w) p)) i at
                ∙ ap (refused 1) still,
          )
      go true f q = by (eqb (lower (get_or s i 0)) (lower a)) refl
        where
          by : (y : Bool) → eqb (lower (get_or s i 0)) (lower a) ≡ y → Spelled (a ∷ w) i (spell (a ∷ w) p g) (agreeing (a ∷ w) (drop i s))
          by true e = same (ltb-true i (length s) f) e q
          by false e = other (ltb-true i (length s) f) e
