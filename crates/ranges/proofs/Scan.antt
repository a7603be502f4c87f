-- The reader's scans against the grammar: element by element, and the commas between them.
use Prim.Native.Nat.{ℕ, zero, suc, ◌+◌, ◌-◌, ◌≤◌, ◌<◌}
use native.Mathlib.Omega.{arith}
use native.Mathlib.Numerals.{add-one}
use borrow.Author.Tests.{eq-eqb, ne_eqb, eqb-true, lt-ltb, le-ltb, ltb-true, ltb-false}
use mathlib.Core.Path.{◌≡◌, refl, sym, ap, ap₂, subst, ◌∙◌}
use mathlib.Core.Bool.{Bool, true, false, cond, true≢false}
use mathlib.Core.List.{List, [], ◌∷◌, ◌++◌, append-nil, append_assoc}
use mathlib.Core.Option.{none, some}
use lib.Dec.{ltb, eqb}
use lib.ListN.{length, get_or, length-append}
use Rattle.grammar.specs.Grammar.{Part, Grammar, void, empty, byte, ◌⨾◌, star, plus, part, rest, past}
use Rattle.grammar.specs.helpers.Derivative.{deriv}
use Rattle.grammar.specs.Reading.{refused, crowded, unfit}
use Rattle.grammar.specs.helpers.Checks.{ahead}
use Rattle.grammar.specs.helpers.Judge.{header, finished}
use Rattle.grammar.specs.helpers.Scans.{slice, from}
use Rattle.grammar.proofs.Ahead.{ahead-one}
use Rattle.grammar.proofs.Endings.{ended_elsewhere, ended-not_yet, ended_there}
use Rattle.grammar.proofs.Longest.{past-length}
use Rattle.grammar.proofs.Loop.{header-short}
use Rattle.grammar.proofs.Pieces.{slice-length}
use Rattle.grammar.proofs.Repeats.{may_end}
use Rattle.grammar.proofs.Scans.{Run, slice-none, same_first, goes_on, breaks_off, stops_at, ends-early}
use Rattle.grammar.proofs.Scans.{part-plus, part-plus-none, part-star, part-star-breaks, part-plus-breaks, first-is, first-not, first-none}
use Rattle.grammar.proofs.Skips.{skip_run}
use Rattle.octets.specs.Bytes.{digit?, blank?}
use Rattle.octets.specs.Classes.{DIGIT, BLANK}
use Rattle.octets.proofs.Bytes.{told-apart}
use Rattle.scans.specs.helpers.Runs.{run_end}
use Rattle.scans.specs.helpers.Words.{agreeing}
use Rattle.scans.proofs.Runs.{run_is}
use Rattle.scans.proofs.Scans.{word-reads}
use Rattle.scans.proofs.Words.{word-whole, word-inside}
use Rattle.ranges.specs.declared.Element.{Element}
use Rattle.ranges.specs.declared.Element.TheVariants.{Closed, Open, Suffix}
use Rattle.ranges.specs.declared.Step.{Step}
use Rattle.std.specs.Prelude.{Result, Ok, Err}
use Rattle.octets.specs.declared.Refusal.{Refusal}
use Rattle.ranges.specs.Grammar.{Name, first, last, sign, suffix, MINUS, COMMA, blanks, element, others, unit, capped, positions, element_of, elements}
use Rattle.ranges.specs.Grammar.{opens?, opened, last?, forward, element_limit, rules}
use Rattle.ranges.specs.helpers.Scan.{left, DigitsAt, FoundBefore, Found, ElementAt, Read, StepAt}
use Rattle.ranges.proofs.Limits.{opened_one, opened-same, within_limit, beyond-limit, fits, not-ended, compared}

-- ## Bytes that tell what comes next

pub minus_no_digit : digit? 45 ≡ false
unfolding digit?
minus_no_digit = refl

comma_no_digit : digit? 44 ≡ false
unfolding digit?
comma_no_digit = refl

blank_no_digit : (b : ℕ) → blank? b ≡ true → digit? b ≡ false
unfolding blank? digit?
blank_no_digit b e = go (eqb b 32) refl (eqb b 9) refl e
  where
    go : (x : Bool) → eqb b 32 ≡ x → (y : Bool) → eqb b 9 ≡ y → blank? b ≡ true → digit? b ≡ false
    go true f y g h = ap digit? (eqb-true b 32 f)
    go false f true g h = ap digit? (eqb-true b 9 g)
    go false f false g h = absurd (true≢false (sym h ∙ rw (f, g)))

digit_no_blank : (b : ℕ) → digit? b ≡ true → blank? b ≡ false
digit_no_blank b e = go (blank? b) refl
  where
    go : (x : Bool) → blank? b ≡ x → x ≡ false
    go true f = absurd (true≢false (sym e ∙ blank_no_digit b f))
    go false f = refl

-- ## What is left of the grammar

abbrev at_element : Grammar Name
at_element = element ⨾ others

abbrev behind_minus : Grammar Name
behind_minus = part last (star (byte DIGIT)) ⨾ others

abbrev behind_first : Grammar Name
behind_first = byte MINUS ⨾ part last (star (byte DIGIT)) ⨾ others

abbrev behind_sign : Grammar Name
behind_sign = part suffix (plus (byte DIGIT)) ⨾ others

behind_first-apart : (j b : ℕ) → digit? b ≡ true → deriv behind_first j b ≡ void
behind_first-apart j b e = rw (told-apart digit? b 45 e minus_no_digit)

pub others_apart : (j b : ℕ) → digit? b ≡ true → deriv others j b ≡ void
others_apart j b e = rw (digit_no_blank b e, told-apart digit? b 44 e comma_no_digit)

first-begins : (j b : ℕ) → digit? b ≡ true → deriv at_element j b ≡ deriv (part first (plus (byte DIGIT)) ⨾ behind_first) j b
first-begins j b e = rw (e, told-apart digit? b 45 e minus_no_digit)

sign-begins : (j b : ℕ) → eqb b 45 ≡ true → deriv at_element j b ≡ rest (record { label = sign; start = j; text = b ∷ [] }) empty ⨾ behind_sign
sign-begins j b e = rw (e, ap digit? (eqb-true b 45 e) ∙ minus_no_digit)

neither-begins : (j b : ℕ) → digit? b ≡ false → eqb b 45 ≡ false → deriv at_element j b ≡ void
neither-begins j b d e = rw (d, e)

some-text : (read : List ℕ → ℕ) (f t : List ℕ) → 0 < length t → positions read f t ≡ Closed (read f) (read t)
some-text read f [] h = absurd (omega arith)
some-text read f (b ∷ t) h = refl

-- ## The unit

module _ (n : ℕ) (s : List ℕ) (short : length s ≤ 8192) where
  pub unit-not : agreeing unit s < 6 → header (rules n s) s ≡ refused 1 (agreeing unit s)
  unit-not h =
      header-short (rules n s) s short ∙ (word-reads (rules n s) s [] (λ k. refl) at_element refl refl unit tt 0).1 h ∙ ap (refused 1) (omega arith)

  pub unit-read : 6 ≤ agreeing unit s → Found n s [] 6
  unit-read h =
      let whole = word-whole unit s h in
      record {
        before = record {
          parts = [];
          extends = λ us. refl;
          begun = refl;
          over = λ k a. refl;
          few = omega arith;
          inside = word-inside unit s whole;
        };
        reads = header-short (rules n s) s short ∙ (word-reads (rules n s) s [] (λ k. refl) at_element refl refl unit tt 0).0 whole;
      }

-- ## An element

module _ (n : ℕ) (s : List ℕ) {xs : List Element} {i : ℕ} (x : ElementAt n s xs i) where
  abbrev cs : List (Part Name)
  cs = x.before.parts

  -- two more parts, of which the second ends at or before e
  module _ (a b : Part Name) (y : Element) (e : ℕ) (is : element_of capped a b ≡ y) (o : opens? a.label ≡ true)
      (p : opens? b.label ≡ false) (room : length xs < element_limit) (behind : past b.start b.text ≤ e) (inside : e ≤ length s) where
    extended : (us : List (Part Name)) → elements capped (((cs ++ a ∷ []) ++ b ∷ []) ++ us) ≡ (xs ++ y ∷ []) ++ elements capped us
    extended us =
        ap (elements capped) (append_assoc (cs ++ a ∷ []) (b ∷ []) us ∙ append_assoc cs (a ∷ []) (b ∷ us))
        ∙ x.before.extends (a ∷ b ∷ us) ∙ ap (λ (z : Element). xs ++ z ∷ elements capped us) is
        ∙ sym (append_assoc xs (y ∷ []) (elements capped us))

    count : opened ((cs ++ a ∷ []) ++ b ∷ []) ≡ length (xs ++ y ∷ [])
    count =
        opened-same (cs ++ a ∷ []) b p ∙ opened_one cs a o ∙ ap (λ (m : ℕ). m + 1) x.before.begun
        ∙ sym (length-append xs (y ∷ []))

    element-read : header (rules n s) s ≡ from (rules n s) s (ahead ((cs ++ a ∷ []) ++ b ∷ []) others) e → i < e → Read n s xs i y e
    element-read h further = record {
      found = record {
        before = record {
          parts = (cs ++ a ∷ []) ++ b ∷ [];
          extends = extended;
          begun = count;
          over = λ k c. ended_elsewhere forward s k (cs ++ a ∷ []) b (λ z. absurd (omega arith));
          few = omega (arith, length-append xs (y ∷ []));
          inside = inside;
        };
        reads = h;
      };
      further = further;
    }

  -- a part with which an element begins
  begins-quiet : length xs < element_limit → (c : Part Name) → opens? c.label ≡ true → last? c.label ≡ false → (k : ℕ)
      → (rules n s).limit k (cs ++ c ∷ []) ≡ none
  begins-quiet room c o l k =
      within_limit n s k (cs ++ c ∷ []) false (fits n s k cs c l) (omega (arith, opened_one cs c o, x.before.begun))

  begins-crowded : length xs ≡ element_limit → (c : Part Name) → opens? c.label ≡ true → last? c.label ≡ false → (k : ℕ)
      → (rules n s).limit k (cs ++ c ∷ []) ≡ some crowded
  begins-crowded full c o l k =
      beyond-limit n s k (cs ++ c ∷ []) false (fits n s k cs c l) refl (omega (arith, opened_one cs c o, x.before.begun))

  pub element_missing : length s ≤ i → header (rules n s) s ≡ refused 1 i
  element_missing h = x.reads ∙ ends-early (rules n s) s cs at_element i h refl

  pub element-not : i < length s → digit? (get_or s i 0) ≡ false → (get_or s i 0 ≡ 45 → ⊥) → header (rules n s) s ≡ refused 1 i
  element-not at d m =
      x.reads ∙ stops_at (rules n s) s cs at_element i at (neither-begins i (get_or s i 0) d (ne_eqb (get_or s i 0) 45 m))

  -- the same where no run of digits begins
  pub element_no_number : i < length s → run_end digit? s i ≡ i → (get_or s i 0 ≡ 45 → ⊥) → header (rules n s) s ≡ refused 1 i
  element_no_number at e m =
      element-not at (subst (λ (k : ℕ). k < length s → digit? (get_or s k 0) ≡ false) e (run_is digit? s i x.before.inside).stops at) m

  -- ### One too many

  module _ (full : length xs ≡ element_limit) (at : i < length s) where
    pub seventeenth-number : digit? (get_or s i 0) ≡ true → header (rules n s) s ≡ refused 10 i
    seventeenth-number d =
        let w = run_is digit? s i x.before.inside in
        x.reads ∙ same_first (rules n s) s cs at_element (part first (plus (byte DIGIT)) ⨾ behind_first) i at (first-begins i (get_or s i 0) d)
        ∙ part-plus-breaks (rules n s) s cs first DIGIT behind_first refl refl behind_first-apart i (run_end digit? s i) w {z = crowded} i
        (omega arith) (enters (ltb i (run_end digit? s i)) refl) (λ m a b. absurd (omega arith))
        (begins-crowded full (record { label = first; start = i; text = slice s i (i + 1) }) refl refl i)
      where
        enters : (y : Bool) → ltb i (run_end digit? s i) ≡ y → i < run_end digit? s i
        enters true f = ltb-true i (run_end digit? s i) f
        enters false f =
            let w = run_is digit? s i x.before.inside in
            let e : run_end digit? s i ≡ i = omega (arith, w.ordered, ltb-false i (run_end digit? s i) f) in
            absurd (true≢false (sym d ∙ subst (λ (m : ℕ). m < length s → digit? (get_or s m 0) ≡ false) e w.stops at))

    pub seventeenth-suffix : get_or s i 0 ≡ 45 → header (rules n s) s ≡ refused 10 i
    seventeenth-suffix m =
        x.reads
        ∙ breaks_off (rules n s) s cs at_element i (rest (record { label = sign; start = i; text = get_or s i 0 ∷ [] }) empty ⨾ behind_sign) at
        (sign-begins i (get_or s i 0) (eq-eqb (get_or s i 0) 45 m)) {x = crowded} refl
        (begins-crowded full (record { label = sign; start = i; text = get_or s i 0 ∷ [] }) refl refl i)

  module _ (room : length xs < element_limit) where
    -- ### First and last

    module _ (v e : ℕ) (d : DigitsAt s i v e) where
      first_run : Run digit? s i e
      first_run = rw d.ends (run_is digit? s i x.before.inside)

      abbrev first_part : Part Name
      first_part = record { label = first; start = i; text = slice s i e }

      first_reads : header (rules n s) s ≡ from (rules n s) s (ahead (cs ++ first_part ∷ []) behind_first) e
      first_reads =
          x.reads
          ∙ same_first (rules n s) s cs at_element (part first (plus (byte DIGIT)) ⨾ behind_first) i (omega (arith, d.some, first_run.within))
          (first-begins i (get_or s i 0) (first_run.inside i (omega arith) d.some))
          ∙ part-plus (rules n s) s cs first DIGIT behind_first refl refl behind_first-apart i e first_run d.some
          (λ k a b. begins-quiet room (record { label = first; start = i; text = slice s i (k + 1) }) refl refl k)

      pub minus_missing : length s ≤ e → header (rules n s) s ≡ refused 1 e
      minus_missing h = first_reads ∙ first-none (rules n s) s (cs ++ first_part ∷ []) MINUS behind_minus refl e h

      pub minus_not : e < length s → (get_or s e 0 ≡ 45 → ⊥) → header (rules n s) s ≡ refused 1 e
      minus_not h m = first_reads ∙ first-not (rules n s) s (cs ++ first_part ∷ []) MINUS behind_minus refl e h (ne_eqb (get_or s e 0) 45 m)

      module _ (at : e < length s) (minus : get_or s e 0 ≡ 45) where
        minus_reads : header (rules n s) s ≡ from (rules n s) s (ahead (cs ++ first_part ∷ []) behind_minus) (e + 1)
        minus_reads =
            first_reads
            ∙ first-is (rules n s) s (cs ++ first_part ∷ []) MINUS behind_minus refl e at (eq-eqb (get_or s e 0) 45 minus)
            (ap ((rules n s).limit e) (append-nil (cs ++ first_part ∷ [])) ∙ begins-quiet room first_part refl refl e)

        last-run : Run digit? s (e + 1) (run_end digit? s (e + 1))
        last-run = run_is digit? s (e + 1) (omega arith)

        abbrev upto : ℕ → Part Name
        upto m = record { label = last; start = e + 1; text = slice s (e + 1) m }

        upto-ends : (m : ℕ) → e + 1 ≤ m → m ≤ length s → past (e + 1) (slice s (e + 1) m) ≡ m
        upto-ends m a b = past-length (e + 1) (slice s (e + 1) m) ∙ omega (arith, slice-length s (e + 1) m a b)

        counted : (m : ℕ) → opened ((cs ++ first_part ∷ []) ++ upto m ∷ []) ≤ element_limit
        counted m = omega (arith, opened-same (cs ++ first_part ∷ []) (upto m) refl, opened_one cs first_part refl, x.before.begun)

        -- no last position
        pub open_read : run_end digit? s (e + 1) ≡ e + 1 → Read n s xs i (Open v) (e + 1)
        open_read f =
            element-read first_part (upto (e + 1)) (Open v) (e + 1)
            (ap (positions capped (slice s i e)) (slice-none s (e + 1)) ∙ ap Open d.is) refl refl room
            (omega (arith, upto-ends (e + 1) (omega arith) (omega arith))) (omega arith)
            (minus_reads
            ∙ part-star (rules n s) s (cs ++ first_part ∷ []) last DIGIT others refl refl others_apart (e + 1) (e + 1) (rw f at last-run)
            (λ k a b. absurd (omega arith)))
            (omega (arith, d.some))

        module _ (w f : ℕ) (l : DigitsAt s (e + 1) w f) where
          whole_run : Run digit? s (e + 1) f
          whole_run = rw l.ends last-run

          -- its digits have not ended
          inner-quiet : (k : ℕ) → e + 1 ≤ k → k + 1 < f → (rules n s).limit k ((cs ++ first_part ∷ []) ++ upto (k + 1) ∷ []) ≡ none
          inner-quiet k a b =
              let z : k + 1 ≡ suc k = add-one k in
              let g = subst (λ (m : ℕ). digit? (get_or s m 0) ≡ true) z (whole_run.inside (k + 1) (omega arith) b) in
              within_limit n s k ((cs ++ first_part ∷ []) ++ upto (k + 1) ∷ []) false
              (not-ended n s k ((cs ++ first_part ∷ []) ++ upto (k + 1) ∷ [])
              (ended-not_yet forward s k (cs ++ first_part ∷ []) (upto (k + 1)) (omega (arith, whole_run.within)) g))
              (counted (k + 1))

          -- they have: first and last are compared
          abbrev t : ℕ
          t = f - 1

          at_last : (y : Bool) → ltb w v ≡ y → (rules n s).limit t ((cs ++ first_part ∷ []) ++ upto (t + 1) ∷ []) ≡ cond y (some unfit) none
          at_last y g =
              let z : t + 1 ≡ f = omega (arith, l.some) in
              let u : suc t ≡ f = omega (arith, l.some) in
              let there = ended_there forward s t (cs ++ first_part ∷ []) (upto (t + 1))
              (upto-ends (t + 1) (omega (arith, l.some)) (omega (arith, l.some, whole_run.within)) ∙ add-one t)
              (λ h. subst (λ (m : ℕ). m < length s → digit? (get_or s m 0) ≡ false) (sym u) whole_run.stops h) in
              within_limit n s t ((cs ++ first_part ∷ []) ++ upto (t + 1) ∷ []) y
              (compared n s t cs first_part (upto (t + 1)) there
              ∙ ap (λ (m : ℕ). ltb (capped (slice s (e + 1) m)) (capped (slice s i e))) z ∙ rw (l.is, d.is) g)
              (counted (t + 1))

          pub backward-refused : w < v → header (rules n s) s ≡ refused 1 t
          backward-refused h =
              minus_reads
              ∙ part-star-breaks (rules n s) s (cs ++ first_part ∷ []) last DIGIT others refl refl others_apart (e + 1) f whole_run {z = unfit} t
              (omega (arith, l.some)) (omega (arith, l.some)) (λ k a b. inner-quiet k a (omega arith)) (at_last true (lt-ltb w v h))

          pub closed-read : v ≤ w → Read n s xs i (Closed v w) f
          closed-read h =
              element-read first_part (upto f) (Closed v w) f
              (some-text capped (slice s i e) (slice s (e + 1) f)
              (omega (arith, slice-length s (e + 1) f (omega (arith, l.some)) whole_run.within, l.some)) ∙ ap₂ Closed d.is l.is) refl refl room
              (omega (arith, upto-ends f (omega (arith, l.some)) whole_run.within)) whole_run.within
              (minus_reads
              ∙ part-star (rules n s) s (cs ++ first_part ∷ []) last DIGIT others refl refl others_apart (e + 1) f whole_run
              (λ k a b. quiet k a b (ltb (k + 1) f) refl))
              (omega (arith, d.some, l.some))
            where
              quiet : (k : ℕ) → e + 1 ≤ k → k < f → (y : Bool) → ltb (k + 1) f ≡ y
                  → (rules n s).limit k ((cs ++ first_part ∷ []) ++ upto (k + 1) ∷ []) ≡ none
              quiet k a b true g = inner-quiet k a (ltb-true (k + 1) f g)
              quiet k a b false g =
                  let z : t ≡ k = omega (arith, ltb-false (k + 1) f g) in
                  subst (λ (m : ℕ). (rules n s).limit m ((cs ++ first_part ∷ []) ++ upto (m + 1) ∷ []) ≡ none) z (at_last false (le-ltb w v h))

    -- ### A suffix

    module _ (at : i < length s) (minus : get_or s i 0 ≡ 45) where
      abbrev sign_part : Part Name
      sign_part = record { label = sign; start = i; text = get_or s i 0 ∷ [] }

      sign_reads : header (rules n s) s ≡ from (rules n s) s (ahead (cs ++ sign_part ∷ []) behind_sign) (i + 1)
      sign_reads =
          x.reads
          ∙ goes_on (rules n s) s cs at_element i (rest sign_part empty ⨾ behind_sign) at (sign-begins i (get_or s i 0) (eq-eqb (get_or s i 0) 45 minus)) refl
          (begins-quiet room sign_part refl refl i)
          ∙ ap (λ (g : Grammar Name). from (rules n s) s g (i + 1)) (sym (ahead-one cs sign_part behind_sign))

      pub suffix_missing : run_end digit? s (i + 1) ≡ i + 1 → header (rules n s) s ≡ refused 1 (i + 1)
      suffix_missing f =
          sign_reads
          ∙ part-plus-none (rules n s) s (cs ++ sign_part ∷ []) suffix DIGIT others refl refl others_apart (i + 1) (run_end digit? s (i + 1))
          (run_is digit? s (i + 1) (omega arith)) (omega (arith, f))

      pub suffix-read : (w f : ℕ) → DigitsAt s (i + 1) w f → Read n s xs i (Suffix w) f
      suffix-read w f l =
          let run : Run digit? s (i + 1) f = rw l.ends (run_is digit? s (i + 1) (omega arith)) in
          element-read sign_part (record { label = suffix; start = i + 1; text = slice s (i + 1) f }) (Suffix w) f (ap Suffix l.is) refl refl room
          (omega (arith, past-length (i + 1) (slice s (i + 1) f), slice-length s (i + 1) f (omega (arith, l.some)) run.within)) run.within
          (sign_reads
          ∙ part-plus (rules n s) s (cs ++ sign_part ∷ []) suffix DIGIT others refl refl others_apart (i + 1) f run l.some
          (λ k a b. quiet k))
          (omega (arith, l.some))
        where
          quiet : (k : ℕ)
              → (rules n s).limit k ((cs ++ sign_part ∷ []) ++ record { label = suffix; start = i + 1; text = slice s (i + 1) (k + 1) } ∷ []) ≡ none
          quiet k =
              let c : Part Name = record { label = suffix; start = i + 1; text = slice s (i + 1) (k + 1) } in
              within_limit n s k ((cs ++ sign_part ∷ []) ++ c ∷ []) false (fits n s k (cs ++ sign_part ∷ []) c refl)
              (omega (arith, opened-same (cs ++ sign_part ∷ []) c refl, opened_one cs sign_part refl, x.before.begun))

-- ## The comma behind an element

comma_no_blank : blank? 44 ≡ false
unfolding blank?
comma_no_blank = refl

minus_no_blank : blank? 45 ≡ false
unfolding blank?
minus_no_blank = refl

abbrev behind_comma : Grammar Name
behind_comma = blanks ⨾ element ⨾ others

abbrev at_comma : Grammar Name
at_comma = byte COMMA ⨾ blanks ⨾ element ⨾ others

at_comma-apart : (j b : ℕ) → blank? b ≡ true → deriv at_comma j b ≡ void
at_comma-apart j b e = rw (told-apart blank? b 44 e comma_no_blank)

at_element-apart : (j b : ℕ) → blank? b ≡ true → deriv at_element j b ≡ void
at_element-apart j b e = neither-begins j b (blank_no_digit b e) (told-apart blank? b 45 e minus_no_blank)

-- what joins an element to those before it begins with blanks or its comma
joins : (j b : ℕ) → deriv others j b ≡ deriv (blanks ⨾ at_comma) j b
joins j b = go (blank? b) refl (eqb b 44) refl
  where
    go : (x : Bool) → blank? b ≡ x → (y : Bool) → eqb b 44 ≡ y → deriv others j b ≡ deriv (blanks ⨾ at_comma) j b
    go true e true f = absurd (true≢false (sym f ∙ told-apart blank? b 44 e comma_no_blank))
    go true e false f = rw (e, f)
    go false e true f = rw (e, f)
    go false e false f = rw (e, f)

module _ (n : ℕ) (s : List ℕ) {xs : List Element} {i : ℕ} (x : FoundBefore n s others xs i) where
  abbrev ds : List (Part Name)
  ds = x.before.parts

  quiet : (k : ℕ) → i ≤ k → (rules n s).limit k ds ≡ none
  quiet k a = within_limit n s k ds false (not-ended n s k ds (x.before.over k a)) (omega (arith, x.before.begun, x.before.few))

  -- nothing follows
  pub no_more : length s ≤ i → header (rules n s) s ≡ finished (rules n s) ds
  no_more h = x.reads ∙ may_end (rules n s) s ds others i h refl refl

  module _ (at : i < length s) (comma : ℕ) (d : comma ≡ run_end blank? s i) where
    blank-run : (i ≤ comma) × (comma ≤ length s)
    blank-run = let w = run_is blank? s i (omega arith) in (omega (arith, d, w.ordered), omega (arith, d, w.within))

    blanks-read : header (rules n s) s ≡ from (rules n s) s (ahead ds at_comma) comma
    blanks-read =
        x.reads ∙ same_first (rules n s) s ds others (blanks ⨾ at_comma) i at (joins i (get_or s i 0))
        ∙ skip_run (rules n s) s ds BLANK at_comma refl refl at_comma-apart i comma (rw d (run_is blank? s i (omega arith)))
        (λ k a b. quiet k a)

    pub comma_missing : length s ≤ comma → header (rules n s) s ≡ refused 1 comma
    comma_missing h = blanks-read ∙ first-none (rules n s) s ds COMMA behind_comma refl comma h

    pub comma_not : comma < length s → (get_or s comma 0 ≡ 44 → ⊥) → header (rules n s) s ≡ refused 1 comma
    comma_not h m = blanks-read ∙ first-not (rules n s) s ds COMMA behind_comma refl comma h (ne_eqb (get_or s comma 0) 44 m)

    module _ (here : comma < length s) (is : get_or s comma 0 ≡ 44) (start : ℕ) (f : start ≡ run_end blank? s (comma + 1)) where
      second_run : (comma + 1 ≤ start) × (start ≤ length s)
      second_run = let w = run_is blank? s (comma + 1) (omega arith) in (omega (arith, f, w.ordered), omega (arith, f, w.within))

      pub element-behind : i ≤ start
      element-behind = omega (arith, blank-run.0, second_run.0)

      pub element-begins : ElementAt n s xs start
      element-begins = record {
        before = record {
          parts = ds;
          extends = x.before.extends;
          begun = x.before.begun;
          over = λ k a. x.before.over k (omega (arith, element-behind));
          few = x.before.few;
          inside = second_run.1;
        };
        reads = blanks-read
            ∙ first-is (rules n s) s ds COMMA behind_comma refl comma here (eq-eqb (get_or s comma 0) 44 is)
            (ap ((rules n s).limit comma) (append-nil ds) ∙ quiet comma blank-run.0)
            ∙ skip_run (rules n s) s ds BLANK at_element refl refl at_element-apart (comma + 1) start
            (rw f (run_is blank? s (comma + 1) (omega arith))) (λ k a b. quiet k (omega (arith, blank-run.0)));
      }

-- ## Steps

-- a step from e is one from an earlier place
pub steps_on : (n : ℕ) (s : List ℕ) (xs : List Element) (i e : ℕ) (r : Result Step Refusal) → i ≤ e → StepAt n s xs e r → StepAt n s xs i r
steps_on n s xs i e (Ok p) a w = record { found = w.found; further = omega (arith, w.further) }
steps_on n s xs i e (Err x) a w = w

-- what is left behind no element, and behind some
pub left-none : (m : ℕ) → m ≡ 0 → left m ≡ element ⨾ others
left-none zero e = refl
left-none (suc m) e = absurd (omega arith)

pub left-some : (m : ℕ) → (m ≡ 0 → ⊥) → left m ≡ others
left-some zero e = absurd (e refl)
left-some (suc m) e = refl
