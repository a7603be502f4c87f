-- Quoted strings: the place where the text and pairs stop, against the grammar.
use Rattle.std.proofs.Common.{◌≡◌, ℕ, zero, suc, ◌+◌, ◌<◌, ◌≤◌, Bool, true, false, eqb, ltb, List, [], ◌∷◌, ◌++◌, length, get_or, drop, sym, refl, ap, ◌∙◌, subst, true≢false, append-nil, arith, ltb-false, ltb-true, eq-eqb, ne_eqb, eqb-true}
use mathlib.Core.Option.{none}
use Rattle.grammar.specs.Grammar.{Part, Grammar, void, byte, ◌⨾◌, part, rest, grown}
use Rattle.grammar.specs.helpers.Derivative.{live, deriv, ends, then, seq, during}
use Rattle.grammar.specs.Reading.{Rules, refused}
use Rattle.grammar.specs.helpers.Judge.{held}
use Rattle.grammar.specs.helpers.Checks.{ahead}
use Rattle.grammar.specs.helpers.Scans.{slice, from}
use Rattle.grammar.proofs.Shapes.{byte_step}
use Rattle.grammar.proofs.Scans.{then-byte, slice-none, slice_snoc, then-live, then-held, part-begins, part-goes-on, part-ends}
use Rattle.grammar.proofs.Scans.{part-fails, part-cut_off, byte-is, byte-not, byte-none}
use Rattle.octets.specs.Bytes.{text?, escaped?}
use Rattle.octets.specs.Classes.{ESCAPED}
use Rattle.octets.specs.Quoted.{QUOTE, quoted_text}
use Rattle.octets.proofs.Bytes.{told-apart}
use Rattle.scans.specs.helpers.Quoted.{quoted_length, quoted_end}
use Rattle.scans.proofs.QuotedSteps.{quote_no_text, backslash_no_text, quote_escaped, at_end, text-next, pair-next, neither-next}
use Rattle.scans.proofs.QuotedSteps.{escaped_next, not_escaped}

-- what is left of the text between quotes
abbrev left : {L : Type 0} → (pair : Bool) → Grammar L
left true = byte ESCAPED ⨾ quoted_text
left false = quoted_text

module _ (L : Type 0) (i b : ℕ) where
  left-text : text? b ≡ true → deriv {L = L} quoted_text i b ≡ quoted_text
  left-text e = rw (e, told-apart text? b 92 e backslash_no_text)

  left-pair : text? b ≡ false → eqb b 92 ≡ true → deriv {L = L} quoted_text i b ≡ byte ESCAPED ⨾ quoted_text
  left-pair e f = rw (e, f)

  left-neither : text? b ≡ false → eqb b 92 ≡ false → deriv {L = L} quoted_text i b ≡ void
  left-neither e f = rw (e, f)

  left_escaped : escaped? b ≡ true → deriv {L = L} (byte ESCAPED ⨾ quoted_text) i b ≡ quoted_text
  left_escaped e = byte_step ESCAPED i b quoted_text ∙ rw e

  left_not : escaped? b ≡ false → deriv {L = L} (byte ESCAPED ⨾ quoted_text) i b ≡ void
  left_not e = byte_step ESCAPED i b quoted_text ∙ rw e

-- A part of text and pairs that begins at i, then a quote, then g. No byte of it breaks a limit.
module _ {L A : Type 0} (r : Rules L A) (s : List ℕ) (cs : List (Part L)) (k : L) (g : Grammar L) (l : live g ≡ true) (h : held g ≡ []) (i : ℕ)
    (calm : (n : ℕ) (t : List ℕ) → i ≤ n → r.limit n (cs ++ record { label = k; start = i; text = t } ∷ []) ≡ none) where
  -- the part as far as the place j
  abbrev pub quoted_part : ℕ → Part L
  quoted_part j = record { label = k; start = i; text = slice s i j }

  abbrev close : Grammar L
  close = then (byte QUOTE) g

  abbrev in_quotes : Bool → ℕ → Grammar L
  in_quotes pair j = ahead cs (then (rest (quoted_part j) (left pair)) (then (byte QUOTE) g))

  close-live : live (then (byte QUOTE) g) ≡ true
  close-live = then-live (byte QUOTE) g l

  close-held : held (then (byte QUOTE) g) ≡ []
  close-held = then-held (byte QUOTE) g l h

  left-live : (pair : Bool) → live {L = L} (left pair) ≡ true
  left-live true = refl
  left-live false = refl

  left-held : (pair : Bool) → held {L = L} (left pair) ≡ []
  left-held true = refl
  left-held false = refl

  -- no quote ends the part at j
  unclosed : (pair : Bool) (j b : ℕ) → (pair ≡ false → eqb b 34 ≡ false)
      → seq (during (quoted_part j) (ends {L = L} (left pair) j)) (deriv (then (byte QUOTE) g) j b) ≡ void
  unclosed true j b f = refl
  unclosed false j b f = rw (then-byte QUOTE g l j b, f refl)

  takes : (pair next : Bool) (j : ℕ) → i ≤ j → j < length s → deriv {L = L} (left pair) j (get_or s j 0) ≡ left next
      → (pair ≡ false → eqb (get_or s j 0) 34 ≡ false)
      → from r s (in_quotes pair j) j ≡ from r s (in_quotes next (j + 1)) (j + 1)
  takes pair next j a at d f =
      let grows : grown (quoted_part j) (get_or s j 0 ∷ []) ≡ quoted_part (j + 1) =
      ap (λ (t : List ℕ). record { label = k; start = i; text = t }) (sym (slice_snoc s i j a at)) in
      part-goes-on r s cs (then (byte QUOTE) g) close-live (quoted_part j) (left pair) j close-held (left next) at d (left-live next) (left-held next)
      (unclosed pair j (get_or s j 0) f) (calm j (slice s i j ++ (get_or s j 0 ∷ [])) a)
      ∙ ap (λ (p : Part L). from r s (ahead cs (then (rest p (left next)) (then (byte QUOTE) g))) (j + 1)) grows

  -- from j on, the text and pairs stop at e: there the quote stands, or the refusal is
  abbrev Stops : Bool → ℕ → ℕ → Type 0
  Stops pair j e =
      (e < length s → get_or s e 0 ≡ 34 → from r s (in_quotes pair j) j ≡ from r s (ahead (cs ++ quoted_part e ∷ []) g) (e + 1))
      × ((e < length s → get_or s e 0 ≡ 34 → ⊥) → from r s (in_quotes pair j) j ≡ refused 1 e)

  moves : (pair next : Bool) (j m n : ℕ) → m ≡ suc n → from r s (in_quotes pair j) j ≡ from r s (in_quotes next (j + 1)) (j + 1)
      → Stops next (j + 1) ((j + 1) + n)
      → Stops pair j (j + m)
  moves pair next j m n e f w =
      let z : (j + 1) + n ≡ j + m = omega arith in
      subst (Stops pair j) z (λ a b. f ∙ w.0 a b, λ a. f ∙ w.1 a)

  stays : (pair : Bool) (j m : ℕ) → m ≡ 0 → Stops pair j j → Stops pair j (j + m)
  stays pair j m e w =
      let z : j ≡ j + m = omega arith in
      subst (Stops pair j) z w

  ended : (j : ℕ) → i ≤ j → (j < length s → deriv {L = L} quoted_text j (get_or s j 0) ≡ void) → Stops false j j
  ended j a d = (λ at q. out ∙ byte-is r s past QUOTE g l j at (eq-eqb (get_or s j 0) 34 q) quiet, λ n. out ∙ go n (ltb j (length s)) refl)
    where
      past : List (Part L)
      past = cs ++ quoted_part j ∷ []

      out : from r s (in_quotes false j) j ≡ from r s (ahead past (then (byte QUOTE) g)) j
      out = part-ends r s cs (then (byte QUOTE) g) close-live (quoted_part j) quoted_text j d refl refl

      quiet : r.limit j (past ++ held g) ≡ none
      quiet = ap (λ (ps : List (Part L)). r.limit j (past ++ ps)) h ∙ ap (r.limit j) (append-nil past) ∙ calm j (slice s i j) a

      go : (j < length s → get_or s j 0 ≡ 34 → ⊥) → (x : Bool) → ltb j (length s) ≡ x
          → from r s (ahead past (then (byte QUOTE) g)) j ≡ refused 1 j
      go n true e = let at = ltb-true j (length s) e in byte-not r s past QUOTE g l j at (ne_eqb (get_or s j 0) 34 (n at))
      go n false e = byte-none r s past QUOTE g l j (ltb-false j (length s) e)

  bad_pair : (j : ℕ) → j < length s → escaped? (get_or s j 0) ≡ false → Stops true j j
  bad_pair j at e = (
    λ z q. absurd (true≢false (sym quote_escaped ∙ ap escaped? (sym q) ∙ e)),
    λ n. part-fails r s cs (then (byte QUOTE) g) close-live (quoted_part j) (byte ESCAPED ⨾ quoted_text) j at (left_not L j (get_or s j 0) e) refl,
  )

  cut_off : (pair : Bool) (j : ℕ) → i ≤ j → length s ≤ j → Stops pair j j
  cut_off true j a b = (
    λ z q. absurd (omega arith),
    λ n. part-cut_off r s cs (then (byte QUOTE) g) close-live (quoted_part j) (byte ESCAPED ⨾ quoted_text) j b refl,
  )
  cut_off false j a b = ended j a (λ at. absurd (omega arith))

  abbrev Next : ℕ → Type 0
  Next j = (p : Bool) → Stops p (j + 1) ((j + 1) + quoted_length p (drop (j + 1) s))

  scan : (m j : ℕ) (pair : Bool) → length s ≤ j + m → i ≤ j → Stops pair j (j + quoted_length pair (drop j s))
  scan zero j pair a b = stays pair j (quoted_length pair (drop j s)) (at_end s j pair (omega arith)) (cut_off pair j b (omega arith))
  scan (suc m) j pair a b = go (ltb j (length s)) refl (λ p. scan m (j + 1) p (omega arith) (omega arith))
    where
      text_case : j < length s → Next j → (x : Bool) → text? (get_or s j 0) ≡ x → Stops false j (j + quoted_length false (drop j s))
      text_case at w true e =
          moves false false j (quoted_length false (drop j s)) (quoted_length false (drop (j + 1) s)) (text-next s j at e)
          (takes false false j b at (left-text L j (get_or s j 0) e) (λ z. told-apart text? (get_or s j 0) 34 e quote_no_text)) (w false)
      text_case at w false e = pair_case (eqb (get_or s j 0) 92) refl
        where
          pair_case : (y : Bool) → eqb (get_or s j 0) 92 ≡ y → Stops false j (j + quoted_length false (drop j s))
          pair_case true f =
              moves false true j (quoted_length false (drop j s)) (quoted_length true (drop (j + 1) s)) (pair-next s j at e f)
              (takes false true j b at (left-pair L j (get_or s j 0) e f) (λ z. ap (λ (x : ℕ). eqb x 34) (eqb-true (get_or s j 0) 92 f))) (w true)
          pair_case false f =
              stays false j (quoted_length false (drop j s)) (neither-next s j at e f) (ended j b (λ z. left-neither L j (get_or s j 0) e f))

      escaped_case : j < length s → Next j → (x : Bool) → escaped? (get_or s j 0) ≡ x → Stops true j (j + quoted_length true (drop j s))
      escaped_case at w true e =
          moves true false j (quoted_length true (drop j s)) (quoted_length false (drop (j + 1) s)) (escaped_next s j at e)
          (takes true false j b at (left_escaped L j (get_or s j 0) e) (λ z. absurd (true≢false z))) (w false)
      escaped_case at w false e = stays true j (quoted_length true (drop j s)) (not_escaped s j at e) (bad_pair j at e)

      by : (p : Bool) → j < length s → Next j → Stops p j (j + quoted_length p (drop j s))
      by true at w = escaped_case at w (escaped? (get_or s j 0)) refl
      by false at w = text_case at w (text? (get_or s j 0)) refl

      go : (x : Bool) → ltb j (length s) ≡ x → Next j → Stops pair j (j + quoted_length pair (drop j s))
      go true e w = by pair (ltb-true j (length s) e) w
      go false e w =
          let z = ltb-false j (length s) e in
          stays pair j (quoted_length pair (drop j s)) (at_end s j pair z) (cut_off pair j b z)

  begun : from r s (ahead cs (then (part k quoted_text) (then (byte QUOTE) g))) i ≡ from r s (in_quotes false i) i
  begun =
      part-begins r s cs (then (byte QUOTE) g) close-live k quoted_text i
      ∙ ap (λ (t : List ℕ). from r s (ahead cs (then (rest (record { label = k; start = i; text = t }) quoted_text) (then (byte QUOTE) g))) i) (sym (slice-none s i))

  -- the closing quote stands where the text and pairs stop
  pub quoted_closed : quoted_end s i < length s → get_or s (quoted_end s i) 0 ≡ 34
      → from r s (ahead cs (then (part k quoted_text) (then (byte QUOTE) g))) i ≡ from r s (ahead (cs ++ quoted_part (quoted_end s i) ∷ []) g) (quoted_end s i + 1)
  quoted_closed a q = begun ∙ (scan (length s) i false (omega arith) (omega arith)).0 a q

  -- another byte stands there, also one that makes no pair with the backslash before it
  pub quoted_bad : (get_or s (quoted_end s i) 0 ≡ 34 → ⊥)
      → from r s (ahead cs (then (part k quoted_text) (then (byte QUOTE) g))) i ≡ refused 1 (quoted_end s i)
  quoted_bad n = begun ∙ (scan (length s) i false (omega arith) (omega arith)).1 (λ a. n)

  -- the text ends there, also behind a backslash
  pub quoted_cut_off : length s ≤ quoted_end s i
      → from r s (ahead cs (then (part k quoted_text) (then (byte QUOTE) g))) i ≡ refused 1 (quoted_end s i)
  quoted_cut_off n = begun ∙ (scan (length s) i false (omega arith) (omega arith)).1 (λ a q. absurd (omega arith))
