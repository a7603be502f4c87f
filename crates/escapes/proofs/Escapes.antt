-- A text of characters and escapes, resolved symbol by symbol: two are equal just where their symbols agree.
use Prim.Native.Nat.{ℕ, suc}
use mathlib.Core.Path.{◌≡◌, refl, sym, ap, ap₂, subst, ◌∙◌}
use mathlib.Core.Logic.{inl, inr, ◌↔◌}
use mathlib.Core.Bool.{Bool, true, false, cond, true≢false}
use mathlib.Core.List.{List, [], ◌∷◌, ◌++◌, head-eq_of_cons-eq, tail-eq_of_cons-eq, append_assoc, cons≢nil}
use lib.Dec.{T, eqb→eq}
use Rattle.grammar.specs.Grammar.{Class, Part, byte, ◌∣◌, none, more, Parses, past}
use Rattle.grammar.proofs.Derivative.{T_true}
use Rattle.octets.specs.Bytes.{hex?}
use Rattle.http_url.specs.Bytes.{unreserved?}
use Rattle.http_url.specs.Grammar.{Name, text_of}
use Rattle.http_url.specs.Grammar as Url
use Rattle.escapes.specs.Resolved.{escaped_byte, unneeded?, resolved}
use Rattle.escapes.specs.Symbols.{Symbol, character, escape, Spelled, nothing, a_character, an_escape, stands_for, standing, Agree, both_end, next, NoneUnneeded}
use Rattle.escapes.proofs.Resolved.{character-first, escape-is, escape_no_percent, last_of}

hex_not_percent : (b : ℕ) → hex? b ≡ true → b ≡ 37 → ⊥
unfolding hex?
hex_not_percent b e f = true≢false (sym e ∙ ap hex? f)

-- ## What stands for a symbol, as bytes

abbrev written : Symbol → List ℕ
written (character b) = b ∷ []
written (escape x y) = 37 ∷ x ∷ y ∷ []

abbrev resolved_symbols : List Symbol → List ℕ
resolved_symbols [] = []
resolved_symbols (u ∷ us) = written (stands_for u) ++ resolved_symbols us

escape-first : (x y : ℕ) (t : List ℕ) → hex? x ≡ true → hex? y ≡ true → resolved (37 ∷ x ∷ y ∷ t) ≡ written (stands_for (escape x y)) ++ resolved t
escape-first x y t d e =
    ap (λ (l : List ℕ). cond (unneeded? x y) (escaped_byte x y ∷ resolved t) (37 ∷ l))
    (character-first x (y ∷ t) (hex_not_percent x d) ∙ ap (λ (l : List ℕ). x ∷ l) (character-first y t (hex_not_percent y e)))
    ∙ go (unneeded? x y)
  where
    go : (u : Bool) → cond u (escaped_byte x y ∷ resolved t) (37 ∷ x ∷ y ∷ resolved t)
        ≡ written (cond u (character (escaped_byte x y)) (escape x y)) ++ resolved t
    go true = refl
    go false = refl

-- behind symbols, resolving begins anew
splits : {s : List ℕ} {us : List Symbol} → Spelled s us → (t : List ℕ) → resolved (s ++ t) ≡ resolved_symbols us ++ resolved t
splits nothing t = refl
splits (a_character {s = s} b n w) t = character-first b (s ++ t) n ∙ ap (λ (l : List ℕ). b ∷ l) (splits w t)
splits (an_escape {s = s} {us = us} x y d e w) t =
    escape-first x y (s ++ t) d e ∙ ap (λ (l : List ℕ). written (stands_for (escape x y)) ++ l) (splits w t)
    ∙ sym (append_assoc (written (stands_for (escape x y))) (resolved_symbols us) (resolved t))

resolves : {s : List ℕ} {us : List Symbol} → Spelled s us → resolved s ≡ resolved_symbols us
resolves nothing = refl
resolves (a_character {s = s} b n w) = character-first b s n ∙ ap (λ (l : List ℕ). b ∷ l) (resolves w)
resolves (an_escape {s = s} x y d e w) =
    escape-first x y s d e ∙ ap (λ (l : List ℕ). written (stands_for (escape x y)) ++ l) (resolves w)

-- ## The bytes tell the symbols

-- a `%` is no character
abbrev Tells : Symbol → Type 0
Tells (character b) = b ≡ 37 → ⊥
Tells (escape x y) = Unit {0}

abbrev AllTell : List Symbol → Type 0
AllTell [] = Unit {0}
AllTell (u ∷ us) = Tells (stands_for u) × AllTell us

tells : {s : List ℕ} {us : List Symbol} → Spelled s us → AllTell us
tells nothing = tt
tells (a_character b n w) = (n, tells w)
tells (an_escape x y d e w) = (go (unneeded? x y) refl, tells w)
  where
    go : (u : Bool) → unneeded? x y ≡ u → Tells (cond u (character (escaped_byte x y)) (escape x y))
    go true h = escape_no_percent x y h
    go false h = tt

first-told : (u v : Symbol) → Tells u → Tells v → (s t : List ℕ) → written u ++ s ≡ written v ++ t → (u ≡ v) × (s ≡ t)
first-told (character a) (character b) g h s t e = (ap character (head-eq_of_cons-eq e), tail-eq_of_cons-eq e)
first-told (character a) (escape x y) g h s t e = absurd (g (head-eq_of_cons-eq e))
first-told (escape x y) (character b) g h s t e = absurd (h (sym (head-eq_of_cons-eq e)))
first-told (escape x y) (escape z w) g h s t e =
    let f = tail-eq_of_cons-eq e in
    let k = tail-eq_of_cons-eq f in
    (ap₂ escape (head-eq_of_cons-eq f) (head-eq_of_cons-eq k), tail-eq_of_cons-eq k)

some_bytes : (u : Symbol) (s : List ℕ) → written u ++ s ≡ [] → ⊥
some_bytes (character b) s e = cons≢nil e
some_bytes (escape x y) s e = cons≢nil e

told : (us vs : List Symbol) → AllTell us → AllTell vs → resolved_symbols us ≡ resolved_symbols vs → Agree us vs
told [] [] g h e = both_end
told [] (v ∷ vs) g h e = absurd (some_bytes (stands_for v) (resolved_symbols vs) (sym e))
told (u ∷ us) [] g h e = absurd (some_bytes (stands_for u) (resolved_symbols us) e)
told (u ∷ us) (v ∷ vs) g h e =
    let w = first-told (stands_for u) (stands_for v) g.0 h.0 (resolved_symbols us) (resolved_symbols vs) e in
    next w.0 (told us vs g.1 h.1 w.1)

agreeing : {us vs : List Symbol} → Agree us vs → resolved_symbols us ≡ resolved_symbols vs
agreeing both_end = refl
agreeing (next e w) = ap₂ (λ (u : Symbol) (l : List ℕ). written u ++ l) e (agreeing w)

pub equal-spelled : {s t : List ℕ} {us vs : List Symbol} → Spelled s us → Spelled t vs → (resolved s ≡ resolved t) ↔ Agree us vs
equal-spelled {us = us} {vs = vs} v w = (
  λ e. told us vs (tells v) (tells w) (sym (resolves v) ∙ e ∙ resolves w),
  λ h. resolves v ∙ agreeing h ∙ sym (resolves w),
)

-- no text is symbols in two ways
pub one-spelling : {s : List ℕ} {us vs : List Symbol} → Spelled s us → Spelled s vs → us ≡ vs
one-spelling nothing nothing = refl
one-spelling (a_character b n v) (a_character c m w) = ap (λ (l : List Symbol). character b ∷ l) (one-spelling v w)
one-spelling (a_character b n v) (an_escape x y d e w) = absurd (n refl)
one-spelling (an_escape x y d e v) (a_character b m w) = absurd (m refl)
one-spelling (an_escape x y d e v) (an_escape z a f g w) = ap (λ (l : List Symbol). escape x y ∷ l) (one-spelling v w)

-- an escape that is not needed equals its character, behind any symbols
pub escape-behind : {p : List ℕ} {us : List Symbol} → Spelled p us → (x y : ℕ) (t : List ℕ) → unneeded? x y ≡ true
    → resolved (p ++ 37 ∷ x ∷ y ∷ t) ≡ resolved (p ++ escaped_byte x y ∷ t)
escape-behind {us = us} w x y t h =
    splits w (37 ∷ x ∷ y ∷ t) ∙ ap (λ (l : List ℕ). resolved_symbols us ++ l) (escape-is x y t h) ∙ sym (splits w (escaped_byte x y ∷ t))

-- ## Resolved symbols

-- a resolved text is the symbols that stand for the text's
pub spelled-resolved : {s : List ℕ} {us : List Symbol} → Spelled s us → Spelled (resolved s) (standing us)
spelled-resolved nothing = nothing
spelled-resolved (a_character {s = s} {us = us} b n w) =
    subst (λ (l : List ℕ). Spelled l (character b ∷ standing us)) (sym (character-first b s n)) (a_character b n (spelled-resolved w))
spelled-resolved (an_escape {s = s} {us = us} x y d e w) =
    subst (λ (l : List ℕ). Spelled l (standing (escape x y ∷ us))) (sym (escape-first x y s d e)) (go (unneeded? x y) refl (spelled-resolved w))
  where
    go : (u : Bool) → unneeded? x y ≡ u → Spelled (resolved s) (standing us)
        → Spelled (written (cond u (character (escaped_byte x y)) (escape x y)) ++ resolved s) (cond u (character (escaped_byte x y)) (escape x y) ∷ standing us)
    go true h z = a_character (escaped_byte x y) (escape_no_percent x y h) z
    go false h z = an_escape x y d e z

stands_still : (u : Symbol) → stands_for (stands_for u) ≡ stands_for u
stands_still (character b) = refl
stands_still (escape x y) = go (unneeded? x y) refl
  where
    go : (u : Bool) → unneeded? x y ≡ u → stands_for (cond u (character (escaped_byte x y)) (escape x y)) ≡ cond u (character (escaped_byte x y)) (escape x y)
    go true h = refl
    go false h = rw h

standing_still : (us : List Symbol) → resolved_symbols (standing us) ≡ resolved_symbols us
standing_still [] = refl
standing_still (u ∷ us) = ap₂ (λ (v : Symbol) (l : List ℕ). written v ++ l) (stands_still u) (standing_still us)

pub resolved-again : {s : List ℕ} {us : List Symbol} → Spelled s us → resolved (resolved s) ≡ resolved s
resolved-again {us = us} w = resolves (spelled-resolved w) ∙ standing_still us ∙ sym (resolves w)

-- ## Escapes that are not needed

abbrev Needed : Symbol → Type 0
Needed (character b) = Unit {0}
Needed (escape x y) = unneeded? x y ≡ false

abbrev AllNeeded : List Symbol → Type 0
AllNeeded [] = Unit {0}
AllNeeded (u ∷ us) = Needed u × AllNeeded us

needed_standing : (us : List Symbol) → AllNeeded (standing us)
needed_standing [] = tt
needed_standing (character b ∷ us) = (tt, needed_standing us)
needed_standing (escape x y ∷ us) = (go (unneeded? x y) refl, needed_standing us)
  where
    go : (u : Bool) → unneeded? x y ≡ u → Needed (cond u (character (escaped_byte x y)) (escape x y))
    go true h = tt
    go false h = h

needed_only : {s : List ℕ} {us : List Symbol} → Spelled s us → AllNeeded us → NoneUnneeded s
needed_only nothing h [] t x y e = absurd (cons≢nil (sym e))
needed_only nothing h (a ∷ p) t x y e = absurd (cons≢nil (sym e))
needed_only (a_character b n w) h [] t x y e = absurd (n (head-eq_of_cons-eq e))
needed_only (a_character b n w) h (a ∷ p) t x y e = needed_only w h.1 p t x y (tail-eq_of_cons-eq e)
needed_only (an_escape v z d f w) h [] t x y e =
    let g = tail-eq_of_cons-eq e in
    ap₂ unneeded? (sym (head-eq_of_cons-eq g)) (sym (head-eq_of_cons-eq (tail-eq_of_cons-eq g))) ∙ h.0
needed_only (an_escape v z d f w) h (a ∷ []) t x y e = absurd (hex_not_percent v d (head-eq_of_cons-eq (tail-eq_of_cons-eq e)))
needed_only (an_escape v z d f w) h (a ∷ b ∷ []) t x y e =
    absurd (hex_not_percent z f (head-eq_of_cons-eq (tail-eq_of_cons-eq (tail-eq_of_cons-eq e))))
needed_only (an_escape v z d f w) h (a ∷ b ∷ c ∷ p) t x y e =
    needed_only w h.1 p t x y (tail-eq_of_cons-eq (tail-eq_of_cons-eq (tail-eq_of_cons-eq e)))

pub none_unneeded : {s : List ℕ} {us : List Symbol} → Spelled s us → NoneUnneeded (resolved s)
none_unneeded {us = us} w = needed_only (spelled-resolved w) (needed_standing us)

-- a text without such an escape is resolved as it is
pub already_resolved : {s : List ℕ} {us : List Symbol} → Spelled s us → NoneUnneeded s → resolved s ≡ s
already_resolved nothing h = refl
already_resolved (a_character {s = s} b n w) h =
    character-first b s n
    ∙ ap (λ (l : List ℕ). b ∷ l) (already_resolved w (λ p t x y e. h (b ∷ p) t x y (ap (λ (l : List ℕ). b ∷ l) e)))
already_resolved (an_escape {s = s} x y d f w) h =
    escape-first x y s d f ∙ kept (unneeded? x y) (h [] s x y refl)
    ∙ ap (λ (l : List ℕ). 37 ∷ x ∷ y ∷ l) (already_resolved w (λ p t v z e. h (37 ∷ x ∷ y ∷ p) t v z (ap (λ (l : List ℕ). 37 ∷ x ∷ y ∷ l) e)))
  where
    kept : (u : Bool) → u ≡ false → written (cond u (character (escaped_byte x y)) (escape x y)) ++ resolved s ≡ 37 ∷ x ∷ y ∷ resolved s
    kept u e = rw e

-- ## A text of the grammar is symbols, and resolved it is one again

-- each character is of the class
abbrev pub Of : Class → List Symbol → Type 0
Of c [] = Unit {0}
Of c (character b ∷ us) = T (c.has b) × Of c us
Of c (escape x y ∷ us) = Of c us

-- the symbols of a text of the class
pub record Text (c : Class) (s : List ℕ) : Type 0 where
  pub symbols : List Symbol
  pub spelled : Spelled s symbols
  pub within : Of c symbols

module _ (c : Class) (no_percent : c.has 37 ≡ false) where
  item : (i b : ℕ) (u w : List ℕ) (qs : List (Part Name)) → Parses (byte c ∣ Url.escape) i (b ∷ u) qs → Text c w → Text c (b ∷ (u ++ w)) × (qs ≡ [])
  item i b u w qs (inl m) z =
      let e : b ≡ m.0 = head-eq_of_cons-eq m.1 in
      let h : T (c.has b) = subst (λ (a : ℕ). T (c.has a)) (sym e) m.2 in
      let n : b ≡ 37 → ⊥ = λ f. true≢false (sym (T_true (c.has b) h) ∙ ap c.has f ∙ no_percent) in (
        subst (λ (l : List ℕ). Text c (b ∷ (l ++ w))) (sym (tail-eq_of_cons-eq m.1))
            (record { symbols = character b ∷ z.symbols; spelled = a_character b n z.spelled; within = (h, z.within) }),
        m.3,
      )
  item i b u w qs (inr m) z =
      let p = m.6 in
      let k = m.7 in
      let x = k.6 in
      let y = k.7 in
      let e : b ∷ u ≡ p.0 ∷ x.0 ∷ y.0 ∷ [] =
      m.4 ∙ ap (λ (l : List ℕ). l ++ m.1) p.1
      ∙ ap (λ (l : List ℕ). p.0 ∷ l) (k.4 ∙ ap (λ (l : List ℕ). l ++ k.1) x.1 ∙ ap (λ (l : List ℕ). x.0 ∷ l) y.1) in
      let f : b ∷ u ≡ 37 ∷ x.0 ∷ y.0 ∷ [] = e ∙ ap (λ (n : ℕ). n ∷ x.0 ∷ y.0 ∷ []) (eqb→eq p.0 37 p.2) in
      let t = an_escape x.0 y.0 (T_true (hex? x.0) x.2) (T_true (hex? y.0) y.2) z.spelled in (
        subst (λ (l : List ℕ). Text c (l ++ w)) (sym f) (record { symbols = escape x.0 y.0 ∷ z.symbols; spelled = t; within = z.within }),
        m.5 ∙ ap₂ (λ (g h : List (Part Name)). g ++ h) p.3 (k.5 ∙ ap₂ (λ (g h : List (Part Name)). g ++ h) x.3 y.3),
      )

  pub text_parsed : (i : ℕ) (s : List ℕ) (ps : List (Part Name)) → Parses (text_of c) i s ps → Text c s × (ps ≡ [])
  text_parsed i s ps none = (record { symbols = []; spelled = nothing; within = tt }, refl)
  text_parsed i s ps (more b u w qs rs m n) =
      let z = text_parsed (past (suc i) u) w rs n in
      let y = item i b u w qs m z.0 in
      (y.0, ap₂ (λ (g h : List (Part Name)). g ++ h) y.1 z.1)

  pub spelled : (i : ℕ) (s : List ℕ) (ps : List (Part Name)) → Parses (text_of c) i s ps → (us : List Symbol) × Spelled s us
  spelled i s ps m = let z = (text_parsed i s ps m).0 in (z.symbols, z.spelled)

is_true : (x : Bool) → x ≡ true → T x
is_true x e = rw e tt

pub parsed_text : (c : Class) (i : ℕ) (s : List ℕ) (us : List Symbol) → Spelled s us → Of c us → Parses (text_of c) i s []
parsed_text c i s us nothing h = none
parsed_text c i s us (a_character {s = t} {us = vs} b n w) h =
    more b [] t [] [] (inl (b, refl, h.0, refl)) (parsed_text c (suc i) t vs w h.1)
parsed_text c i s us (an_escape {s = t} {us = vs} x y d e w) h =
    more 37 (x ∷ y ∷ []) t [] []
    (inr (37 ∷ [], x ∷ y ∷ [], [], [], refl, refl, (37, refl, tt, refl), (x ∷ [], y ∷ [], [], [], refl, refl, (x, refl, is_true (hex? x) d, refl), (y, refl, is_true (hex? y) e, refl))))
    (parsed_text c (suc (suc (suc i))) t vs w h)

-- where the class has the characters whose escapes are not needed
pub text-resolved : (c : Class) → ((b : ℕ) → unreserved? b ≡ true → T (c.has b)) → (s : List ℕ) → Text c s → Text c (resolved s)
text-resolved c has s z = record { symbols = standing z.symbols; spelled = spelled-resolved z.spelled; within = go z.symbols z.within }
  where
    one : (x y : ℕ) (us : List Symbol) (u : Bool) → unneeded? x y ≡ u → Of c us → Of c (cond u (character (escaped_byte x y)) (escape x y) ∷ us)
    one x y us true h v = (has (escaped_byte x y) (last_of (hex? x) (hex? y) (unreserved? (escaped_byte x y)) h), v)
    one x y us false h v = v

    go : (us : List Symbol) → Of c us → Of c (standing us)
    go [] v = tt
    go (character b ∷ us) v = (v.0, go us v.1)
    go (escape x y ∷ us) v = one x y (standing us) (unneeded? x y) refl (go us v)
