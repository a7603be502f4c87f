-- The theorems of media types: what a customer reads. That the parts lie within the text, and that what it means is found there, is
-- `places` of media_equal.
use Prim.Native.Nat.{ℕ}
use mathlib.Core.Path.{◌≡◌}
use mathlib.Core.Logic.{◌↔◌}
use mathlib.Core.List.{List}
use Rattle.grammar.specs.Grammar.{Part, Parses}
use Rattle.grammar.specs.Reading.{Verdict, Answers}
use Rattle.grammar.specs.helpers.Judge.{header}
use Rattle.grammar.proofs.Demands.{answered_exactly}
use Rattle.media.specs.Grammar.{Name, media_type, attributes, Media, media, rules}
use Rattle.media.specs.Parts.{MediaParts, part_places, attribute_places}
use Rattle.media.proofs.Parts.{one_way, media-parts, media-attributes}

-- What `read` answers (its promise is `Answered s r`): where the parts of a well-formed media type stand, or the refusal of the row that
-- applies first, and nothing else. "token `/` token, then parameters: blanks (SP, HT), `;`, blanks, attribute, `=`, token or quoted
-- string. No blank stands around `/` or `=`": the grammar.
pub reading : (s : List ℕ) (v : Verdict Media) → (header rules s ≡ v) ↔ Answers rules s v
reading = answered_exactly rules tt tt one_way

-- The parts are type, subtype, then attribute and value in turn. So the attributes that the limits find by their label are those of the
-- table, which takes the parts by position.
pub parts_in_turn : (s : List ℕ) (ps : List (Part Name)) → Parses media_type 0 s ps → MediaParts ps
parts_in_turn = media-parts

pub attributes-agree : (s : List ℕ) (ps : List (Part Name)) → Parses media_type 0 s ps
    → part_places (attributes ps) ≡ attribute_places (media ps).table
attributes-agree s ps p = media-attributes ps (media-parts s ps p)
