-- The charset of a media type that was read: it is found at the places of its parts.
use Prim.Native.Nat.{ℕ}
use mathlib.Core.Path.{◌≡◌, refl, sym, ap, ◌∙◌}
use mathlib.Core.Bool.{Bool, true, false}
use mathlib.Core.List.{List, [], ◌∷◌}
use Rattle.grammar.specs.Grammar.{Part}
use Rattle.grammar.specs.Reading.{value, refused}
use Rattle.grammar.specs.helpers.Judge.{header}
use Rattle.grammar.specs.helpers.Slices.{Slices}
use Rattle.grammar.proofs.Pieces.{slice_is}
use Rattle.grammar.proofs.Slices.{slices}
use Rattle.grammar.proofs.Values.{answered-alike}
use Rattle.octets.specs.declared.Refusal.{Refusal}
use Rattle.std.specs.Prelude.{Ok, Err}
use Rattle.octets.specs.Reading.{number_of, place_of}
use Rattle.media.specs.declared.Media.{Media as MediaRead}
use Rattle.media.specs.Grammar.{Name, media_type, entries, Media, media, rules}
use Rattle.media.specs.Reading.{read_already, verdict}
use Rattle.media.proofs.Parts.{one_way}
use Rattle.media_charset.specs.Charset.{Effective, no_charset, default_charset, stated_or, charset_of, charsets}
use Rattle.media_charset.specs.Places.{stated_at, charset_at}

-- nothing is assumed where there is no type
pub no_type : (a : Bool) → default_charset a [] ≡ no_charset
no_type true = refl
no_type false = refl

module _ (s : List ℕ) where
  -- the parts of the parameters
  entries-state : (other : Effective) (ps : List (Part Name)) → Slices 0 s ps → stated_at s other (entries ps) ≡ stated_or other ps
  entries-state other [] w = refl
  entries-state other (a ∷ []) w = refl
  entries-state other (a ∷ v ∷ ps) w = rw (slice_is s a w.0, entries-state other ps w.1.1)

  module _ (a : Bool) where
    -- all parts
    parts-state : (ps : List (Part Name)) → Slices 0 s ps → charset_at s a (media ps).names (media ps).table ≡ charset_of a ps
    parts-state [] w = no_type a
    parts-state (t ∷ []) w = no_type a
    parts-state (t ∷ u ∷ ps) w =
        ap (λ (x : List ℕ). stated_at s (default_charset a x) (entries ps)) (slice_is s t w.0)
        ∙ entries-state (default_charset a t.text) ps w.1.1

    -- A media type that is read has the charset that stands where reading says.
    pub effect : (m : Media) → header rules s ≡ value m → header (charsets a) s ≡ value (charset_at s a m.names m.table)
    effect m e =
        let w = answered-alike rules (charset_of a) tt tt one_way s (value m) e in
        let y = parts-state w.0 (slices media_type 0 s w.0 tt w.2) in
        w.3 ∙ ap value (sym y ∙ ap (λ (n : Media). charset_at s a n.names n.table) w.1)

    -- A media type that is refused is refused for its charset.
    pub no_effect : (n p : ℕ) → header rules s ≡ refused n p → header (charsets a) s ≡ refused n p
    no_effect n p e = answered-alike rules (charset_of a) tt tt one_way s (refused n p) e

    -- ## The answer of `read`

    pub read-effect : (m : MediaRead) → verdict (Ok m) ≡ header rules s → header (charsets a) s ≡ value (charset_at s a m.names (read_already m))
    read-effect m e = effect (record { names = m.names; table = read_already m }) (sym e)

    pub refused-effect : (r : Refusal) → verdict (Err r) ≡ header rules s → header (charsets a) s ≡ refused (number_of r) (place_of r)
    refused-effect r e = no_effect (number_of r) (place_of r) (sym e)
