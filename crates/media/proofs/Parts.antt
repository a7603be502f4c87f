-- The parts of a well-formed media type: type, subtype, then attribute and value in turn; the attributes by label and by position.
use Prim.Native.Nat.{ℕ}
use mathlib.Core.Path.{◌≡◌, refl, sym, ap, ap₂, subst, ◌∙◌}
use mathlib.Core.Logic.{◌⊎◌, inl, inr}
use mathlib.Core.Bool.{false}
use mathlib.Core.List.{List, [], ◌∷◌, ◌++◌}
use lib.Dec.{T}
use lib.ListN.{length}
use Rattle.grammar.specs.Grammar.{Part, Grammar, byte, ◌⨾◌, ◌∣◌, star, part, Parses, Many, none, more}
use Rattle.grammar.proofs.Deterministic.{deterministic?}
use Rattle.grammar.proofs.Plain.{Plain, plain_byte, plain-seq, plain_either, plain-star, behind-plain, before-plain, plain-part, both-parts}
use Rattle.octets.specs.Bytes.{blank?, token?, text?, escaped?}
use Rattle.octets.specs.Classes.{TOKEN, BLANK, TEXT, ESCAPED, token}
use Rattle.octets.specs.Quoted.{QUOTE, BACKSLASH, quoted_text}
use Rattle.media.specs.Grammar.{Name, type, subtype, attribute, value, quoted_value, SLASH, SEMICOLON, EQUALS, blanks}
use Rattle.media.specs.Grammar.{argument, parameter, parameters, media_type, attribute?, attributes, entries, media}
use Rattle.media.specs.Parts.{InTurn, MediaParts, part_places, attribute_places}

-- no media type can be read in two ways
pub one_way : T (deterministic? media_type)
unfolding blank? token? text? escaped?
one_way = tt

plain-token : Plain {L = Name} token
plain-token = plain-seq (byte TOKEN) (star (byte TOKEN)) (plain_byte TOKEN) (plain-star (byte TOKEN) (plain_byte TOKEN))

plain-blanks : Plain blanks
plain-blanks = plain-star (byte BLANK) (plain_byte BLANK)

plain-text : Plain {L = Name} quoted_text
plain-text =
    plain-star (byte TEXT ∣ (byte BACKSLASH ⨾ byte ESCAPED))
    (plain_either (byte TEXT) (byte BACKSLASH ⨾ byte ESCAPED) (plain_byte TEXT)
    (plain-seq (byte BACKSLASH) (byte ESCAPED) (plain_byte BACKSLASH) (plain_byte ESCAPED)))

abbrev Valued : Part Name → Type 0
Valued v = (v.label ≡ value) ⊎ (v.label ≡ quoted_value)

argument-part : (i : ℕ) (u : List ℕ) (rs : List (Part Name)) → Parses argument i u rs → (v : Part Name) × Valued v × (rs ≡ v ∷ [])
argument-part i u rs (inl p) = (record { label = value; start = i; text = u }, inl refl, plain-part value token plain-token i u rs p)
argument-part i u rs (inr p) =
    let q = behind-plain (byte QUOTE) (part quoted_value quoted_text ⨾ byte QUOTE) (plain_byte QUOTE) i u rs p in
    let w = before-plain (part quoted_value quoted_text) (byte QUOTE) (plain_byte QUOTE) q.0 q.1 rs q.2 in
    (record { label = quoted_value; start = q.0; text = w.0 }, inr refl, plain-part quoted_value quoted_text plain-text q.0 w.0 rs w.1)

abbrev from_name : Grammar Name
from_name = part attribute token ⨾ byte EQUALS ⨾ argument

parameter-parts : (i : ℕ) (u : List ℕ) (rs : List (Part Name)) → Parses parameter i u rs
    → (a : Part Name) × (v : Part Name) × (a.label ≡ attribute) × Valued v × (rs ≡ a ∷ v ∷ [])
parameter-parts i u rs p =
    let x = behind-plain blanks (byte SEMICOLON ⨾ blanks ⨾ from_name) plain-blanks i u rs p in
    let y = behind-plain (byte SEMICOLON) (blanks ⨾ from_name) (plain_byte SEMICOLON) x.0 x.1 rs x.2 in
    let z = behind-plain blanks from_name plain-blanks y.0 y.1 rs y.2 in
    let b = both-parts (part attribute token) (byte EQUALS ⨾ argument) z.0 z.1 rs z.2 in
    let q = behind-plain (byte EQUALS) argument (plain_byte EQUALS) b.1 b.2 b.4 b.7 in
    let v = argument-part q.0 q.1 b.4 q.2 in
    let e = plain-part attribute token plain-token z.0 b.0 b.3 b.6 in (
      record { label = attribute; start = z.0; text = b.0 },
      v.0,
      refl,
      v.1,
      b.5 ∙ ap₂ (λ (c d : List (Part Name)). c ++ d) e v.2,
    )

in_turn : (i : ℕ) (u : List ℕ) (rs : List (Part Name)) → Many (Parses parameter) i u rs → InTurn rs
in_turn i u rs none = tt
in_turn i u rs (more b t w ps qs p m) =
    let x = parameter-parts i (b ∷ t) ps p in
    subst (λ (cs : List (Part Name)). InTurn (cs ++ qs)) (sym x.4) (x.2, x.3, in_turn _ w qs m)

pub media-parts : (s : List ℕ) (ps : List (Part Name)) → Parses media_type 0 s ps → MediaParts ps
media-parts s ps p =
    let b = both-parts (part type token) (byte SLASH ⨾ part subtype token ⨾ parameters) 0 s ps p in
    let q = behind-plain (byte SLASH) (part subtype token ⨾ parameters) (plain_byte SLASH) b.1 b.2 b.4 b.7 in
    let d = both-parts (part subtype token) parameters q.0 q.1 b.4 q.2 in
    let e = plain-part type token plain-token 0 b.0 b.3 b.6 in
    let f = plain-part subtype token plain-token q.0 d.0 d.3 d.6 in
    subst MediaParts (sym (b.5 ∙ ap₂ (λ (x y : List (Part Name)). x ++ y) e (d.5 ∙ ap (λ (x : List (Part Name)). x ++ d.4) f)))
    (refl, refl, in_turn d.1 d.2 d.4 d.7)

-- ## The attributes

no_attribute : (v : Part Name) → Valued v → attribute? v.label ≡ false
no_attribute v (inl e) = rw e
no_attribute v (inr e) = rw e

attributes_in_turn : (ps : List (Part Name)) → InTurn ps → part_places (attributes ps) ≡ attribute_places (entries ps)
attributes_in_turn [] w = refl
attributes_in_turn (a ∷ []) w = absurd w
attributes_in_turn (a ∷ v ∷ ps) w =
    rw (w.0, no_attribute v w.1) (ap (λ (cs : List (ℕ × ℕ)). (a.start, length a.text) ∷ cs) (attributes_in_turn ps w.2))

pub media-attributes : (ps : List (Part Name)) → MediaParts ps → part_places (attributes ps) ≡ attribute_places (media ps).table
media-attributes [] w = absurd w
media-attributes (t ∷ []) w = absurd w
media-attributes (t ∷ u ∷ ps) w = rw (w.0, w.1) (attributes_in_turn ps w.2)
