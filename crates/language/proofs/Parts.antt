-- The parts of a well-formed tag: the primary one, then subtags.
use Prim.Native.Nat.{ℕ, zero, suc}
use mathlib.Core.Path.{refl, sym, ap, subst, ◌∙◌}
use mathlib.Core.List.{List, ◌∷◌, ◌++◌}
use Rattle.grammar.specs.Grammar.{Part, empty, byte, ◌⨾◌, part, up_to, Parses, Many, none, more}
use Rattle.grammar.proofs.Plain.{Plain, plain-empty, plain_byte, plain-seq, plain_either, behind-plain, plain-part, both-parts}
use Rattle.octets.specs.Classes.{LETTER}
use Rattle.language.specs.Grammar.{Name, primary, subtag, HYPHEN, letters, subtags, language}
use Rattle.language.specs.Parts.{Subtags, TagParts}

plain-up-to : (n : ℕ) → Plain {L = Name} (up_to n (byte LETTER))
plain-up-to zero = plain-empty
plain-up-to (suc n) =
    plain_either empty (byte LETTER ⨾ up_to n (byte LETTER)) plain-empty
    (plain-seq (byte LETTER) (up_to n (byte LETTER)) (plain_byte LETTER) (plain-up-to n))

plain-letters : Plain letters
plain-letters = plain-seq (byte LETTER) (up_to 7 (byte LETTER)) (plain_byte LETTER) (plain-up-to 7)

many_subtags : (i : ℕ) (u : List ℕ) (rs : List (Part Name)) → Many (Parses (byte HYPHEN ⨾ part subtag letters)) i u rs → Subtags rs
many_subtags i u rs none = tt
many_subtags i u rs (more b t w ps qs p m) =
    let x = behind-plain (byte HYPHEN) (part subtag letters) (plain_byte HYPHEN) i (b ∷ t) ps p in
    let e = plain-part subtag letters plain-letters x.0 x.1 ps x.2 in
    subst (λ (cs : List (Part Name)). Subtags (cs ++ qs)) (sym e) (refl, many_subtags _ w qs m)

pub tag-parts : (s : List ℕ) (ps : List (Part Name)) → Parses language 0 s ps → TagParts ps
tag-parts s ps p =
    let b = both-parts (part primary letters) subtags 0 s ps p in
    let e = plain-part primary letters plain-letters 0 b.0 b.3 b.6 in
    subst TagParts (sym (b.5 ∙ ap (λ (x : List (Part Name)). x ++ b.4) e)) (refl, many_subtags b.1 b.2 b.4 b.7)
