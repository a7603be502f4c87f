-- The bridge for items that hold items of their kind, as comments do: what a byte does where n + 1 levels are open. `k` is what follows
-- the outermost item; `cs` are the parts so far, among them one for each byte that opened or closed a level.
use Prim.Native.Nat.{ℕ, zero, suc, ◌+◌, ◌≤◌, ◌<◌}
use mathlib.Core.Path.{◌≡◌, refl, sym, ap, ◌∙◌}
use mathlib.Core.Bool.{true, false}
use mathlib.Core.List.{List, [], ◌∷◌, ◌++◌, append-nil}
use mathlib.Core.Option.{none, some}
use lib.ListN.{length, get_or}
use Rattle.grammar.specs.Grammar.{Class, Part, Grammar, void, empty, byte, ◌⨾◌, rest, nest}
use Rattle.grammar.specs.helpers.Derivative.{live, nullable, deriv, then, seq, alt, closed}
use Rattle.grammar.specs.Reading.{Limit, limit_number, Rules, refused}
use Rattle.grammar.specs.helpers.Judge.{held}
use Rattle.grammar.specs.helpers.Checks.{ahead}
use Rattle.grammar.specs.helpers.Scans.{from}
use Rattle.grammar.proofs.Ahead.{ahead-one}
use Rattle.grammar.proofs.Shapes.{alt-void}
use Rattle.grammar.proofs.Scans.{then-live, then-held, goes_on, breaks_off, stops_at, ends-early, Follows, nothing, blank}
use Rattle.grammar.proofs.Scans.{solid, follows, dead-live}

module _ {L A : Type 0} (r : Rules L A) (s : List ℕ) (cs : List (Part L)) (o c : Class) (l m : L) (g k : Grammar L) (lives : live k ≡ true) (none_held : held k ≡ []) where
  -- n + 1 levels are open, x is left of an item, and then k
  abbrev pub level : Grammar L → ℕ → Grammar L
  level x n = then (nest o c l m g x n) k

  level-deriv : (x : Grammar L) (n i b : ℕ) (y : Grammar L) → deriv (nest o c l m g x n) i b ≡ y → seq y empty ≡ y
      → deriv (level x n) i b ≡ seq y k
  level-deriv x n i b y e f = go (follows k)
    where
      go : Follows k → deriv (then (nest o c l m g x n) k) i b ≡ seq y k
      go (nothing z) = dead-live k z lives
      go (blank z) = rw z (e ∙ sym f)
      go (solid z) = rw (z (nest o c l m g x n)) (ap (λ (h : Grammar L). alt (seq h k) void) e ∙ alt-void (seq y k))

  level-nullable : (x : Grammar L) (n : ℕ) → nullable (level x n) ≡ false
  level-nullable x n = go (follows k)
    where
      go : Follows k → nullable (then (nest o c l m g x n) k) ≡ false
      go (nothing z) = dead-live k z lives
      go (blank z) = rw z
      go (solid z) = rw (z (nest o c l m g x n))

  level-live : (n : ℕ) → live (level empty n) ≡ true
  level-live n = then-live (nest o c l m g empty n) k lives

  level-held : (n : ℕ) → held (level empty n) ≡ []
  level-held n = then-held (nest o c l m g empty n) k lives none_held

  module _ (n i : ℕ) where
    -- the byte at i as a part, where it opens a level, and where it closes one
    abbrev pub opening : Part L
    opening = record { label = l; start = i; text = get_or s i 0 ∷ [] }

    abbrev pub closing : Part L
    closing = record { label = m; start = i; text = get_or s i 0 ∷ [] }

    module _ (at : i < length s) where
      -- ## A byte that opens a level
      module _ (yes-open : o.has (get_or s i 0) ≡ true) (no_close : c.has (get_or s i 0) ≡ false) (no_item : deriv g i (get_or s i 0) ≡ void) where
        opened : deriv (level empty n) i (get_or s i 0) ≡ then (rest opening empty) (level empty (suc n))
        opened = level-deriv empty n i (get_or s i 0) (rest opening empty ⨾ nest o c l m g empty (suc n)) (rw (yes-open, no_close, no_item)) refl ∙ go (follows k)
          where
            go : Follows k → seq (rest opening empty ⨾ nest o c l m g empty (suc n)) k ≡ then (rest opening empty) (level empty (suc n))
            go (nothing z) = dead-live k z lives
            go (blank z) = rw z
            go (solid z) = rw (z (nest o c l m g empty (suc n)))

        opened-live : live (then (rest opening empty) (level empty (suc n))) ≡ true
        opened-live = then-live (rest opening empty) (level empty (suc n)) (level-live (suc n))

        opened-held : cs ++ held (then (rest opening empty) (level empty (suc n))) ≡ cs ++ opening ∷ []
        opened-held = ap (λ (ps : List (Part L)). cs ++ ps) (then-held (rest opening empty) (level empty (suc n)) (level-live (suc n)) (level-held (suc n)))

        pub level-opens : r.limit i (cs ++ opening ∷ []) ≡ none
            → from r s (ahead cs (level empty n)) i ≡ from r s (ahead (cs ++ opening ∷ []) (level empty (suc n))) (i + 1)
        level-opens q =
            goes_on r s cs (level empty n) i (then (rest opening empty) (level empty (suc n))) at opened opened-live (ap (r.limit i) opened-held ∙ q)
            ∙ ap (λ (h : Grammar L). from r s h (i + 1)) (sym (ahead-one cs opening (level empty (suc n))))

        pub level-breaks : {z : Limit} → r.limit i (cs ++ opening ∷ []) ≡ some z
            → from r s (ahead cs (level empty n)) i ≡ refused (limit_number z) i
        level-breaks q = breaks_off r s cs (level empty n) i (then (rest opening empty) (level empty (suc n))) at opened opened-live (ap (r.limit i) opened-held ∙ q)

      -- ## A byte that closes one
      module _ (no_open : o.has (get_or s i 0) ≡ false) (yes-close : c.has (get_or s i 0) ≡ true) (no_item : deriv g i (get_or s i 0) ≡ void)
          (x : Grammar L) (e : seq (then (rest closing empty) (closed o c l m g n)) k ≡ then (rest closing empty) x) (f : live x ≡ true) (h : held x ≡ []) where
        closes-to : deriv (level empty n) i (get_or s i 0) ≡ then (rest closing empty) x
        closes-to =
            level-deriv empty n i (get_or s i 0) (then (rest closing empty) (closed o c l m g n))
            (rw (no_open, yes-close, no_item) (alt-void (then (rest closing empty) (closed o c l m g n)))) (alone n)
            ∙ e
          where
            alone : (j : ℕ) → seq (then (rest closing empty) (closed o c l m g j)) empty ≡ then (rest closing empty) (closed o c l m g j)
            alone zero = refl
            alone (suc j) = refl

        closes-on : r.limit i (cs ++ closing ∷ []) ≡ none
            → from r s (ahead cs (level empty n)) i ≡ from r s (ahead (cs ++ closing ∷ []) x) (i + 1)
        closes-on q =
            goes_on r s cs (level empty n) i (then (rest closing empty) x) at closes-to (then-live (rest closing empty) x f)
            (ap (λ (ps : List (Part L)). r.limit i (cs ++ ps)) (then-held (rest closing empty) x f h) ∙ q)
            ∙ ap (λ (y : Grammar L). from r s y (i + 1)) (sym (ahead-one cs closing x))

      -- ## Neither, and no item
      pub level-fails : o.has (get_or s i 0) ≡ false → c.has (get_or s i 0) ≡ false → deriv g i (get_or s i 0) ≡ void
          → from r s (ahead cs (level empty n)) i ≡ refused 1 i
      level-fails a b d = stops_at r s cs (level empty n) i at (level-deriv empty n i (get_or s i 0) void (rw (a, b, d)) refl)

      -- ## An item of one byte
      pub level-item : o.has (get_or s i 0) ≡ false → c.has (get_or s i 0) ≡ false → deriv g i (get_or s i 0) ≡ empty → r.limit i cs ≡ none
          → from r s (ahead cs (level empty n)) i ≡ from r s (ahead cs (level empty n)) (i + 1)
      level-item a b d q =
          goes_on r s cs (level empty n) i (level empty n) at (level-deriv empty n i (get_or s i 0) (nest o c l m g empty n) (rw (a, b, d)) refl ∙ again (follows k)) (level-live n)
          (ap (λ (ps : List (Part L)). r.limit i (cs ++ ps)) (level-held n) ∙ ap (r.limit i) (append-nil cs) ∙ q)
        where
          again : Follows k → seq (nest o c l m g empty n) k ≡ level empty n
          again z = refl

    pub level-cut_off : length s ≤ i → from r s (ahead cs (level empty n)) i ≡ refused 1 i
    level-cut_off at = ends-early r s cs (level empty n) i at (level-nullable empty n)

  -- the last open level is closed
  pub level-ends : (i : ℕ) (at : i < length s) → o.has (get_or s i 0) ≡ false → c.has (get_or s i 0) ≡ true → deriv g i (get_or s i 0) ≡ void
      → r.limit i (cs ++ closing 0 i ∷ []) ≡ none → from r s (ahead cs (level empty 0)) i ≡ from r s (ahead (cs ++ closing 0 i ∷ []) k) (i + 1)
  level-ends i at a b d q = closes-on 0 i at a b d k refl lives none_held q

  -- another one is closed
  pub level-closes : (n i : ℕ) (at : i < length s) → o.has (get_or s i 0) ≡ false → c.has (get_or s i 0) ≡ true
      → deriv g i (get_or s i 0) ≡ void
      → r.limit i (cs ++ closing (suc n) i ∷ []) ≡ none
      → from r s (ahead cs (level empty (suc n))) i ≡ from r s (ahead (cs ++ closing (suc n) i ∷ []) (level empty n)) (i + 1)
  level-closes n i at a b d q = closes-on (suc n) i at a b d (level empty n) (go (follows k)) (level-live n) (level-held n) q
    where
      go : Follows k
          → seq (rest (closing (suc n) i) empty ⨾ nest o c l m g empty n) k ≡ then (rest (closing (suc n) i) empty) (level empty n)
      go (nothing z) = dead-live k z lives
      go (blank z) = rw z
      go (solid z) = rw (z (nest o c l m g empty n))

  -- ## An item of two bytes: the first leaves one of the class d
  module _ (d : Class) (n : ℕ) where
    pair-live : live (level (byte d) n) ≡ true
    pair-live = then-live (nest o c l m g (byte d) n) k lives

    pair_held : held (level (byte d) n) ≡ []
    pair_held = then-held (nest o c l m g (byte d) n) k lives none_held

    unbroken : (i : ℕ) (x : Grammar L) → held x ≡ [] → r.limit i cs ≡ none → r.limit i (cs ++ held x) ≡ none
    unbroken i x e q = ap (λ (ps : List (Part L)). r.limit i (cs ++ ps)) e ∙ ap (r.limit i) (append-nil cs) ∙ q

    pub pair-begins : (i : ℕ) → i < length s → o.has (get_or s i 0) ≡ false → c.has (get_or s i 0) ≡ false → deriv g i (get_or s i 0) ≡ byte d
        → r.limit i cs ≡ none
        → from r s (ahead cs (level empty n)) i ≡ from r s (ahead cs (level (byte d) n)) (i + 1)
    pair-begins i at a b e q =
        goes_on r s cs (level empty n) i (level (byte d) n) at (level-deriv empty n i (get_or s i 0) (nest o c l m g (byte d) n) (rw (a, b, e)) refl) pair-live
        (unbroken i (level (byte d) n) pair_held q)

    pub pair_ends : (i : ℕ) → i < length s → d.has (get_or s i 0) ≡ true → r.limit i cs ≡ none
        → from r s (ahead cs (level (byte d) n)) i ≡ from r s (ahead cs (level empty n)) (i + 1)
    pair_ends i at e q =
        goes_on r s cs (level (byte d) n) i (level empty n) at (level-deriv (byte d) n i (get_or s i 0) (nest o c l m g empty n) (rw e) refl) (level-live n)
        (unbroken i (level empty n) (level-held n) q)

    pub pair-fails : (i : ℕ) → i < length s → d.has (get_or s i 0) ≡ false → from r s (ahead cs (level (byte d) n)) i ≡ refused 1 i
    pair-fails i at e = stops_at r s cs (level (byte d) n) i at (level-deriv (byte d) n i (get_or s i 0) void (rw e) refl)

    pub pair-cut_off : (i : ℕ) → length s ≤ i → from r s (ahead cs (level (byte d) n)) i ≡ refused 1 i
    pair-cut_off i at = ends-early r s cs (level (byte d) n) i at (level-nullable (byte d) n)
