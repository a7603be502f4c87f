-- The reader of comments against the grammar: text, pairs, comments within comments, the `)`.
use Prim.Native.Nat.{ℕ, zero, suc, ◌+◌, ◌-◌, ◌≤◌, ◌<◌, max}
use native.Mathlib.Omega.{arith}
use native.Mathlib.Numerals.{add-one}
use borrow.Author.Tests.{ne_eqb, lt-ltb, le-ltb}
use mathlib.Core.Path.{◌≡◌, refl, sym, ap, subst, ◌∙◌}
use mathlib.Core.Bool.{true, false}
use mathlib.Core.List.{List, [], ◌∷◌, ◌++◌, append-nil, append_assoc}
use mathlib.Core.Option.{none, some}
use lib.ListN.{length, get_or}
use Rattle.grammar.specs.Grammar.{Part, Grammar, void, empty, byte, nest, just}
use Rattle.grammar.specs.helpers.Derivative.{live, deriv, then}
use Rattle.grammar.specs.Reading.{deep, Verdict, refused}
use Rattle.grammar.specs.helpers.Judge.{held}
use Rattle.grammar.specs.helpers.Checks.{ahead}
use Rattle.grammar.specs.helpers.Scans.{from}
use Rattle.grammar.proofs.Nested.{level-opens, level-breaks, level-ends, level-closes, level-fails, level-item, level-cut_off, pair-begins, pair_ends, pair-fails, pair-cut_off}
use Rattle.octets.specs.Bytes.{escaped?}
use Rattle.octets.specs.Classes.{ESCAPED}
use Rattle.octets.specs.helpers.Bits.{Bits}
use Rattle.octets.proofs.Tables.{bits}
use Rattle.octets.proofs.Bytes.{told-apart}
use Rattle.products.specs.declared.Products.{Products}
use Rattle.products.specs.Counting.{Name, opened, closed, levels}
use Rattle.products.specs.Grammar.{comment_text?, content, level_limit, rules}
use Rattle.products.specs.helpers.Scan.{within, Enclosed, Place, opening, closing, entered, CommentRead, Passed, ContentRead, RefusedWithin, Inside, PlainRead}
use Rattle.products.proofs.Counting.{levels_append, nothing-enclosed, enclosed-more, comment-whole}

-- the bits of the class, computed over all 256 bytes
pub comment-text-bits : Bits (0xfffffcff00000200 ∷ 0x7fffffffefffffff ∷ 0xffffffffffffffff ∷ 0xffffffffffffffff ∷ []) comment_text?
unfolding comment_text?
comment-text-bits = bits (0xfffffcff00000200 ∷ 0x7fffffffefffffff ∷ 0xffffffffffffffff ∷ 0xffffffffffffffff ∷ []) comment_text? refl

-- no limit is broken up to eight levels; it is at the ninth
pub quiet : (i : ℕ) (ps : List (Part Name)) (n : ℕ) → levels 0 ps ≡ n → n ≤ level_limit → rules.limit i ps ≡ none
quiet i ps n e h = rw (e, le-ltb level_limit n h)

too_deep : (i : ℕ) (ps : List (Part Name)) (n : ℕ) → levels 0 ps ≡ n → level_limit < n → rules.limit i ps ≡ some deep
too_deep i ps n e h = rw (e, lt-ltb level_limit n h)

pub opened_one : (s : List ℕ) (i n : ℕ) (cs : List (Part Name)) → levels 0 cs ≡ n → levels 0 (cs ++ opening s i ∷ []) ≡ suc n
opened_one s i n cs e = levels_append 0 cs (opening s i ∷ []) ∙ ap suc e

closed-one : (s : List ℕ) (i n : ℕ) (cs : List (Part Name)) → levels 0 cs ≡ suc n → levels 0 (cs ++ closing s i ∷ []) ≡ n
closed-one s i n cs e = levels_append 0 cs (closing s i ∷ []) ∙ ap (λ (m : ℕ). levels m (closing s i ∷ [])) e

-- the second byte of a pair is left, and then what n + 1 open levels leave
abbrev then_pair : Grammar Name → ℕ → Grammar Name
then_pair k n = then (nest (just 40 tt) (just 41 tt) opened closed content (byte ESCAPED) n) k

-- ## What a comment holds begins with no other byte

text-step : (i b : ℕ) → comment_text? b ≡ true → deriv content i b ≡ empty
unfolding comment_text?
text-step i b t = rw (t, told-apart comment_text? b 92 t refl)

pair_step : (i b : ℕ) → b ≡ 92 → deriv content i b ≡ byte ESCAPED
unfolding comment_text?
pair_step i b e = rw e

other_step : (i b : ℕ) → comment_text? b ≡ false → (b ≡ 92 → ⊥) → deriv content i b ≡ void
other_step i b t e = rw (t, ne_eqb b 92 e)

open_step : (i b : ℕ) → b ≡ 40 → deriv content i b ≡ void
unfolding comment_text?
open_step i b e = rw e

close-step : (i b : ℕ) → b ≡ 41 → deriv content i b ≡ void
unfolding comment_text?
close-step i b e = rw e

module _ (s : List ℕ) where
  -- ## Text and pairs

  module _ (n a : ℕ) (p : Place (suc n) a) where
    abbrev here : ℕ → Verdict Products
    here i = from rules s (ahead p.parts (within p.next (suc n))) i

    allows : suc n ≤ level_limit
    allows = omega (arith, p.allowed)

    still : (i : ℕ) → rules.limit i p.parts ≡ none
    still i = quiet i p.parts (suc n) p.counted allows

    module _ (i : ℕ) where
      pub is-text : i < length s → comment_text? (get_or s i 0) ≡ true → here i ≡ here (i + 1)
      unfolding comment_text?
      is-text at t =
          level-item rules s p.parts (just 40 tt) (just 41 tt) opened closed content p.next p.lives p.none_held n i at
          (told-apart comment_text? (get_or s i 0) 40 t refl) (told-apart comment_text? (get_or s i 0) 41 t refl) (text-step i (get_or s i 0) t) (still i)

      pub is-other : Inside s i → comment_text? (get_or s i 0) ≡ false → (get_or s i 0 ≡ 92 → ⊥) → here i ≡ refused 1 i
      is-other w t e =
          level-fails rules s p.parts (just 40 tt) (just 41 tt) opened closed content p.next p.lives p.none_held n i w.at
          (ne_eqb (get_or s i 0) 40 w.no_open) (ne_eqb (get_or s i 0) 41 w.no_close) (other_step i (get_or s i 0) t e)

      pub is-cut_off : length s ≤ i → here i ≡ refused 1 i
      is-cut_off at = level-cut_off rules s p.parts (just 40 tt) (just 41 tt) opened closed content p.next p.lives p.none_held n i at

      module _ (at : i < length s) (e : get_or s i 0 ≡ 92) where
        begun : here i ≡ from rules s (ahead p.parts (then_pair p.next n)) (i + 1)
        begun =
            pair-begins rules s p.parts (just 40 tt) (just 41 tt) opened closed content p.next p.lives p.none_held ESCAPED n i at
            (rw e) (rw e) (pair_step i (get_or s i 0) e) (still i)

        pub is-pair : i + 1 < length s → escaped? (get_or s (i + 1) 0) ≡ true → here i ≡ here (i + 2)
        is-pair b t =
            let f : (i + 1) + 1 ≡ i + 2 = omega arith in
            begun
            ∙ pair_ends rules s p.parts (just 40 tt) (just 41 tt) opened closed content p.next p.lives p.none_held ESCAPED n (i + 1) b t (still (i + 1))
            ∙ ap here f

        pub is_no_pair : i + 1 < length s → escaped? (get_or s (i + 1) 0) ≡ false → here i ≡ refused 1 (i + 1)
        is_no_pair b t =
            begun ∙ pair-fails rules s p.parts (just 40 tt) (just 41 tt) opened closed content p.next p.lives p.none_held ESCAPED n (i + 1) b t

        pub is-half-pair : length s ≤ i + 1 → here i ≡ refused 1 (i + 1)
        is-half-pair b =
            begun ∙ pair-cut_off rules s p.parts (just 40 tt) (just 41 tt) opened closed content p.next p.lives p.none_held ESCAPED n (i + 1) b

  -- ## Between a comment's `(` and its `)`

  -- the place behind what a comment holds
  abbrev behind : (n a : ℕ) (p : Place (suc n) a) (ps : List (Part Name)) (h : ℕ) → Enclosed ps h → Place (suc n) a
  behind n a p ps h w = record {
    parts = p.parts ++ ps;
    next = p.next;
    lives = p.lives;
    none_held = p.none_held;
    counted = levels_append 0 p.parts ps ∙ ap (λ (m : ℕ). levels m ps) p.counted ∙ w.even n;
    allowed = p.allowed;
  }

  pub passed_none : (i a : ℕ) → i ≤ length s → Passed s i a i 0
  passed_none i a h = record {
    parts = [];
    enclosed = nothing-enclosed;
    shallow = omega arith;
    ordered = omega arith;
    inside = h;
    reads = λ n p. ap (λ (cs : List (Part Name)). from rules s (ahead cs (within p.next (suc n))) i) (sym (append-nil p.parts));
  }

  module _ (i a j h : ℕ) (w : Passed s i a j h) where
    pub passed-plain : (e : ℕ) → PlainRead s j e → Passed s i a e h
    passed-plain e x = record {
      parts = w.parts;
      enclosed = w.enclosed;
      shallow = w.shallow;
      ordered = omega (arith, w.ordered, x.forward);
      inside = x.inside;
      reads = λ n p. w.reads n p ∙ x.reads n a (behind n a p w.parts h w.enclosed);
    }

    pub passed-refused : (x y : ℕ) → RefusedWithin s j a x y → RefusedWithin s i a x y
    passed-refused x y r n p = w.reads n p ∙ r n (behind n a p w.parts h w.enclosed)

    pub passed-cut_off : length s ≤ j → RefusedWithin s i a 1 j
    passed-cut_off at n p = w.reads n p ∙ is-cut_off n a (behind n a p w.parts h w.enclosed) j at

  -- ## A `(` where a level is open

  nested_enters : (i n a : ℕ) (p : Place (suc n) a) → i < length s → get_or s i 0 ≡ 40
      → from rules s (ahead p.parts (within p.next (suc n))) i ≡ entered s i (suc n) a p
  nested_enters i n zero p at e =
      level-breaks rules s p.parts (just 40 tt) (just 41 tt) opened closed content p.next p.lives p.none_held n i at (rw e) (rw e) (open_step i (get_or s i 0) e)
      (too_deep i (p.parts ++ opening s i ∷ []) (suc (suc n)) (opened_one s i (suc n) p.parts p.counted) (omega (arith, p.allowed)))
  nested_enters i n (suc a) p at e =
      level-opens rules s p.parts (just 40 tt) (just 41 tt) opened closed content p.next p.lives p.none_held n i at (rw e) (rw e) (open_step i (get_or s i 0) e)
      (quiet i (p.parts ++ opening s i ∷ []) (suc (suc n)) (opened_one s i (suc n) p.parts p.counted) (omega (arith, p.allowed)))

  module _ (i a j h : ℕ) (w : Passed s i a j h) (at : j < length s) (e : get_or s j 0 ≡ 40) where
    pub passed-comment : (f k : ℕ) → CommentRead s j a f k → Passed s i a f (max h k)
    passed-comment f k x = record {
      parts = w.parts ++ x.parts;
      enclosed = enclosed-more w.parts x.parts h k w.enclosed x.whole;
      shallow = omega (arith, w.shallow, x.shallow);
      ordered = omega (arith, w.ordered, x.forward);
      inside = x.inside;
      reads = λ n p.
          let q = behind n a p w.parts h w.enclosed in
          w.reads n p ∙ nested_enters j n a q at e ∙ x.reads (suc n) q
          ∙ ap (λ (cs : List (Part Name)). from rules s (ahead cs (within p.next (suc n))) f) (append_assoc p.parts w.parts x.parts);
    }

    pub passed-comment-refused : (x y : ℕ) → ((n : ℕ) (p : Place n a) → entered s j n a p ≡ refused x y) → RefusedWithin s i a x y
    passed-comment-refused x y r n p =
        let q = behind n a p w.parts h w.enclosed in
        w.reads n p ∙ nested_enters j n a q at e ∙ r (suc n) q

  -- ## A comment with its content

  closes : (n : ℕ) (cs : List (Part Name)) (k : Grammar Name) → live k ≡ true → held k ≡ [] → levels 0 cs ≡ suc n → suc n ≤ level_limit → (e : ℕ) → e < length s
      → get_or s e 0 ≡ 41 → from rules s (ahead cs (within k (suc n))) e ≡ from rules s (ahead (cs ++ closing s e ∷ []) (within k n)) (e + 1)
  closes zero cs k l h q b e at f =
      level-ends rules s cs (just 40 tt) (just 41 tt) opened closed content k l h e at (rw f) (rw f) (close-step e (get_or s e 0) f)
      (quiet e (cs ++ closing s e ∷ []) 0 (closed-one s e 0 cs q) (omega arith))
  closes (suc n) cs k l h q b e at f =
      level-closes rules s cs (just 40 tt) (just 41 tt) opened closed content k l h n e at (rw f) (rw f) (close-step e (get_or s e 0) f)
      (quiet e (cs ++ closing s e ∷ []) (suc n) (closed-one s e (suc n) cs q) (omega arith))

  module _ (i a : ℕ) where
    -- the place behind the `(`
    abbrev opened_place : (n : ℕ) → Place n (suc a) → Place (suc n) a
    opened_place n p = record {
      parts = p.parts ++ opening s i ∷ [];
      next = p.next;
      lives = p.lives;
      none_held = p.none_held;
      counted = opened_one s i n p.parts p.counted;
      allowed = omega (arith, p.allowed);
    }

    pub comment-refused : (x y : ℕ) → RefusedWithin s (i + 1) a x y → (n : ℕ) (p : Place n (suc a)) → entered s i n (suc a) p ≡ refused x y
    comment-refused x y r n p = r n (opened_place n p)

    pub comment-reads : (e h : ℕ) → ContentRead s (i + 1) a e h → CommentRead s i (suc a) (e + 1) (h + 1)
    comment-reads e h w = record {
      parts = opening s i ∷ (w.passed.parts ++ closing s e ∷ []);
      whole = rw add-one (comment-whole i e (get_or s i 0 ∷ []) (get_or s e 0 ∷ []) w.passed.parts h w.passed.enclosed);
      shallow = omega (arith, w.passed.shallow);
      forward = omega (arith, w.passed.ordered);
      inside = omega (arith, w.within_it);
      reads = λ n p.
          let q = behind n a (opened_place n p) w.passed.parts h w.passed.enclosed in
          w.passed.reads n (opened_place n p)
          ∙ closes n q.parts p.next p.lives p.none_held q.counted (omega (arith, p.allowed)) e w.within_it w.ends
          ∙ ap (λ (cs : List (Part Name)). from rules s (ahead cs (within p.next n)) (e + 1)) (regroup p.parts w.passed.parts);
    }
      where
        regroup : (cs ps : List (Part Name)) → ((cs ++ opening s i ∷ []) ++ ps) ++ closing s e ∷ [] ≡ cs ++ (opening s i ∷ (ps ++ closing s e ∷ []))
        regroup cs ps = simp append_assoc

  -- the same where the allowance is a number a, with a - 1 within the comment
  module _ (i : ℕ) where
    pub some-refused : (a : ℕ) → (a ≡ 0 → ⊥) → (x y : ℕ) → RefusedWithin s (i + 1) (a - 1) x y → (n : ℕ) (p : Place n a) → entered s i n a p ≡ refused x y
    some-refused zero h x y r = absurd (h refl)
    some-refused (suc a) h x y r =
        let e : suc a - 1 ≡ a = omega arith in
        comment-refused i a x y (subst (λ (m : ℕ). RefusedWithin s (i + 1) m x y) e r)

    pub some-reads : (a : ℕ) → (a ≡ 0 → ⊥) → (e h : ℕ) → ContentRead s (i + 1) (a - 1) e h → CommentRead s i a (e + 1) (h + 1)
    some-reads zero z e h w = absurd (z refl)
    some-reads (suc a) z e h w =
        let f : suc a - 1 ≡ a = omega arith in
        comment-reads i a e h (subst (λ (m : ℕ). ContentRead s (i + 1) m e h) f w)
