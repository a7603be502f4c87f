-- What is assumed of `text` makes a difference only to a media type of that type that states no charset.
use Prim.Native.Nat.{ℕ}
use native.Mathlib.Omega.{arith}
use mathlib.Core.Path.{◌≡◌, refl, sym, ap, subst, ◌∙◌}
use mathlib.Core.Bool.{Bool, true, false, cond}
use mathlib.Core.List.{List, [], ◌∷◌}
use mathlib.Core.Logic.{◌⊎◌, inl, inr, ◌↔◌}
use lib.ListN.{length}
use Rattle.grammar.specs.Grammar.{Part}
use Rattle.grammar.specs.Reading.{value, refused}
use Rattle.grammar.specs.helpers.Judge.{header}
use Rattle.grammar.proofs.Values.{answered-alike}
use Rattle.octets.specs.Case.{alike}
use Rattle.media.specs.Grammar.{Name, quoted?, valued, part_at}
use Rattle.media.proofs.Parts.{one_way}
use Rattle.media_equal.specs.Meaning.{charset_name, unquoted, Meaning, meaning, meanings, has_setting}
use Rattle.media_charset.specs.Charset.{Effective, stated, latin_1, no_charset, text_type, default_charset, stated_or}
use Rattle.media_charset.specs.Charset.{charset_of, charsets, charset_is}
use Rattle.media_charset.proofs.Places.{no_type}
use Rattle.media_charset.proofs.Effect.{value-is, default_unstated, value_effect, stated-effect}

-- ## Parts

-- f says what is stated, whatever its argument, or else what holds without the parameter
abbrev StatedOr : {A : Type 0} → (f without : A → Effective) → Type 0
StatedOr {A} f without =
    ((i : ℕ) × (n : ℕ) × (q : Bool) × ((a : A) → f a ≡ stated i n q)) ⊎ ((a : A) → f a ≡ without a)

in_parameters : (ps : List (Part Name)) → StatedOr (λ (x : Effective). stated_or x ps) (λ x. x)
in_parameters [] = inr (λ x. refl)
in_parameters (a ∷ []) = inr (λ x. refl)
in_parameters (a ∷ v ∷ ps) = go (alike a.text charset_name) (in_parameters ps)
  where
    here : Effective
    here = stated v.start (length v.text) (quoted? v.label)

    go : (t : Bool) → StatedOr (λ (x : Effective). stated_or x ps) (λ x. x)
        → StatedOr (λ (x : Effective). cond t here (stated_or x ps)) (λ x. x)
    go true f = inl (v.start, length v.text, quoted? v.label, λ x. refl)
    go false f = f

abbrev InParts : List (Part Name) → Type 0
InParts ps = StatedOr (λ (a : Bool). charset_of a ps) (λ a. default_charset a (meaning ps).type)

in_parts : (ps : List (Part Name)) → InParts ps
in_parts [] = inr (λ a. sym (no_type a))
in_parts (t ∷ []) = inr (λ a. sym (no_type a))
in_parts (t ∷ u ∷ ps) = go (in_parameters ps)
  where
    go : StatedOr (λ (x : Effective). stated_or x ps) (λ x. x) → InParts (t ∷ u ∷ ps)
    go (inl f) = inl (f.0, f.1, f.2, λ a. f.3 (default_charset a t.text))
    go (inr f) = inr (λ a. f (default_charset a t.text))

-- ## Texts

abbrev itself : List (Part Name) → List (Part Name)
itself ps = ps

module _ (s : List ℕ) where
  abbrev InText : (type : List ℕ) → Type 0
  InText type =
      ((i : ℕ) × (n : ℕ) × (q : Bool) × ((a : Bool) → header (charsets a) s ≡ value (stated i n q)))
      ⊎ ((a : Bool) → header (charsets a) s ≡ value (default_charset a type))

  by_parts : (ps : List (Part Name)) → header (valued itself) s ≡ value ps → (a : Bool) → header (charsets a) s ≡ value (charset_of a ps)
  by_parts ps e a =
      let w = answered-alike (valued itself) (charset_of a) tt tt one_way s (value ps) e in
      w.3 ∙ ap (λ (qs : List (Part Name)). value (charset_of a qs)) w.1

  -- a media type that is read, for whatever value of its parts
  read_for : {B : Type 0} (f : List (Part Name) → B) (v : B) → header (valued f) s ≡ value v
      → (ps : List (Part Name)) × (f ps ≡ v) × InText (meaning ps).type
  read_for f v e =
      let w = answered-alike (valued f) itself tt tt one_way s (value v) e in
      (w.0, w.1, go w.0 (by_parts w.0 w.3) (in_parts w.0))
    where
      go : (ps : List (Part Name)) → ((a : Bool) → header (charsets a) s ≡ value (charset_of a ps)) → InParts ps → InText (meaning ps).type
      go ps h (inl g) = inl (g.0, g.1, g.2, λ a. h a ∙ ap value (g.3 a))
      go ps h (inr g) = inr (λ a. h a ∙ ap value (g a))

  -- a refusal is the same whatever is assumed
  pub refusal_stays : (a b : Bool) (n p : ℕ) → header (charsets a) s ≡ refused n p → header (charsets b) s ≡ refused n p
  refusal_stays a b n p e = answered-alike (charsets a) (charset_of b) tt tt one_way s (refused n p) e

  -- where nothing is assumed
  pub never-latin_1 : header (charsets false) s ≡ value latin_1 → ⊥
  never-latin_1 e = let w = read_for (charset_of false) latin_1 e in go (meaning w.0).type w.2
    where
      go : (type : List ℕ) → InText type → ⊥
      go type (inl g) = let h = sym (g.3 false) ∙ e in let z : ◌≡◌ {A = ℕ} 0 1 = cc in omega arith
      go type (inr g) = let h = sym (g false) ∙ e in let z : ◌≡◌ {A = ℕ} 0 1 = cc in omega arith

-- ## What a media type means

no_default : (type : List ℕ) → default_charset true type ≡ no_charset → alike type text_type ≡ false
no_default type f = go (alike type text_type) f
  where
    go : (t : Bool) → cond t latin_1 no_charset ≡ no_charset → t ≡ false
    go true g = absurd (let z : ◌≡◌ {A = ℕ} 0 1 = cc in omega arith)
    go false g = refl

module _ (s : List ℕ) (m : Meaning) (e : header meanings s ≡ value m) where
  in_text : InText s m.type
  in_text = let w = read_for s meaning m e in subst (λ (k : Meaning). InText s k.type) w.1 w.2

  abbrev Agree : Type 0
  Agree = header (charsets true) s ≡ header (charsets false) s

  abbrev Other : Type 0
  Other = (alike m.type text_type ≡ false) ⊎ ((v : List ℕ) × (has_setting (charset_is v) m.settings ≡ true))

  agree_then : InText s m.type → Agree → Other
  agree_then (inl g) f = inr (unquoted g.2 (part_at s g.0 g.1), value_effect s m e false g.0 g.1 g.2 (g.3 false))
  agree_then (inr g) f = inl (no_default m.type (value-is (sym (g true) ∙ f ∙ g false)))

  other-then : InText s m.type → Other → Agree
  other-then (inl g) f = g.3 true ∙ sym (g.3 false)
  other-then (inr g) (inl f) = g true ∙ rw f (sym (g false))
  other-then (inr g) (inr f) =
      let y = stated-effect s m e false f.0 f.1 in
      absurd (default_unstated false m.type y.0 y.1 y.2 (value-is (sym (g false) ∙ y.3)))

  pub agree_when : Agree ↔ Other
  agree_when = (agree_then in_text, other-then in_text)
