-- What a media type says that was read: each part is the piece of the text at its place.
use Prim.Native.Nat.{ℕ}
use native.Mathlib.Omega.{arith}
use mathlib.Core.Path.{◌≡◌, refl, sym, ap, subst, ◌∙◌}
use mathlib.Core.List.{List, [], ◌∷◌}
use lib.ListN.{length}
use Rattle.grammar.specs.Grammar.{Part}
use Rattle.grammar.specs.Reading.{value, refused}
use Rattle.grammar.specs.helpers.Judge.{header}
use Rattle.grammar.specs.helpers.Slices.{Slices}
use Rattle.grammar.proofs.Pieces.{slice-within, slice_is}
use Rattle.grammar.proofs.Slices.{slices}
use Rattle.grammar.proofs.Values.{answered-alike}
use Rattle.octets.specs.declared.Refusal.{Refusal}
use Rattle.std.specs.Prelude.{Ok, Err}
use Rattle.octets.specs.Reading.{number_of, place_of}
use Rattle.media.specs.declared.Media.{Media as MediaRead}
use Rattle.media.specs.Grammar.{Name, media_type, entries, Media, none_read, media, rules}
use Rattle.media.specs.Places.{Placed, NamesWithin}
use Rattle.media.specs.Reading.{read_already, verdict}
use Rattle.media.proofs.Parts.{one_way}
use Rattle.media_equal.specs.Meaning.{settings, meaning, meanings}
use Rattle.media_equal.specs.Places.{settings_at, meaning_at, Says}

module _ (s : List ℕ) where
  -- the parts of the parameters
  record Entries (ps : List (Part Name)) : Type 0 where
    each : Placed s (entries ps)
    set : settings_at s (entries ps) ≡ settings ps

  entries_there : (ps : List (Part Name)) → Slices 0 s ps → Entries ps
  entries_there [] w = record { each = tt; set = refl }
  entries_there (a ∷ []) w = record { each = tt; set = refl }
  entries_there (a ∷ v ∷ ps) w =
      let r = entries_there ps w.1.1 in
      let n = slice_is s a w.0 in
      let t = slice_is s v w.1.0 in record {
        each = (record { name_within = slice-within s a w.0; value_within = slice-within s v w.1.0 }, r.each);
        set = rw (n, t, r.set);
      }

  -- all parts
  record There (ps : List (Part Name)) : Type 0 where
    names : NamesWithin s (media ps).names
    full : length (media ps).table ≡ (media ps).names.count
    each : Placed s (media ps).table
    means : meaning_at s (media ps).names (media ps).table ≡ meaning ps

  nowhere : NamesWithin s none_read.names
  nowhere = record { type_within = omega arith; subtype_within = omega arith }

  there : (ps : List (Part Name)) → Slices 0 s ps → There ps
  there [] w = record { names = nowhere; full = refl; each = tt; means = refl }
  there (t ∷ []) w = record { names = nowhere; full = refl; each = tt; means = refl }
  there (t ∷ u ∷ ps) w =
      let r = entries_there ps w.1.1 in
      let n = slice_is s t w.0 in
      let k = slice_is s u w.1.0 in record {
        names = record { type_within = slice-within s t w.0; subtype_within = slice-within s u w.1.0 };
        full = refl;
        each = r.each;
        means = rw (n, k, r.set);
      }

  -- A media type that is read stands where reading says.
  pub says : (m : Media) → header rules s ≡ value m → Says s m
  says m e =
      let v = answered-alike rules meaning tt tt one_way s (value m) e in
      let x = there v.0 (slices media_type 0 s v.0 tt v.2) in record {
        names = subst (λ (n : Media). NamesWithin s n.names) v.1 x.names;
        full = subst (λ (n : Media). length n.table ≡ n.names.count) v.1 x.full;
        each = subst (λ (n : Media). Placed s n.table) v.1 x.each;
        means = v.3 ∙ ap value (sym x.means ∙ ap (λ (n : Media). meaning_at s n.names n.table) v.1);
      }

  -- A media type that is refused is refused for what it means.
  pub says_nothing : (n p : ℕ) → header rules s ≡ refused n p → header meanings s ≡ refused n p
  says_nothing n p e = answered-alike rules meaning tt tt one_way s (refused n p) e

  -- ## The answer of `read`

  pub read-means : (m : MediaRead) → verdict (Ok m) ≡ header rules s → header meanings s ≡ value (meaning_at s m.names (read_already m))
  read-means m e = (says (record { names = m.names; table = read_already m }) (sym e)).means

  pub refused-alike : (r : Refusal) → verdict (Err r) ≡ header rules s → header meanings s ≡ refused (number_of r) (place_of r)
  refused-alike r e = says_nothing (number_of r) (place_of r) (sym e)
