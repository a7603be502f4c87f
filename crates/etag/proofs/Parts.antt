-- The parts of a well-formed tag: the opaque bytes, and before them the mark of a weak one.
use Prim.Native.Nat.{ℕ, suc}
use mathlib.Core.Path.{◌≡◌, refl, ap, ap₂, subst, ◌∙◌}
use mathlib.Core.Logic.{inl, inr}
use mathlib.Core.Bool.{Bool, true, false}
use mathlib.Core.List.{List, [], ◌∷◌, ◌++◌}
use lib.Dec.{T, eqb, eqb→eq}
use lib.ListN.{length}
use lib.Seq.{take_at}
use Rattle.grammar.specs.Grammar.{Part, empty, byte, ◌⨾◌, ◌∣◌, spell, fold, lower, past, Parses}
use Rattle.grammar.proofs.Plain.{Plain, plain-empty, plain_byte, plain-seq, plain_either, plain-star, plain-part}
use Rattle.octets.specs.Case.{alike}
use Rattle.octets.specs.Classes.{TEXT, ESCAPED}
use Rattle.octets.specs.Quoted.{BACKSLASH, quoted_text}
use Rattle.etag.specs.Grammar.{Name, weak, opaque, mark, opaque_tag, entity_tag, value}
use Rattle.etag.specs.Parts.{between_quotes, StrongTag, WeakTag, TagParts}

plain-text : Plain {L = Name} quoted_text
plain-text =
    plain-star (byte TEXT ∣ (byte BACKSLASH ⨾ byte ESCAPED))
    (plain_either (byte TEXT) (byte BACKSLASH ⨾ byte ESCAPED) (plain_byte TEXT)
    (plain-seq (byte BACKSLASH) (byte ESCAPED) (plain_byte BACKSLASH) (plain_byte ESCAPED)))

plain-mark : Plain {L = Name} (spell mark tt empty)
plain-mark =
    plain-seq (byte (fold 87 tt)) (byte (fold 47 tt) ⨾ empty) (plain_byte (fold 87 tt))
    (plain-seq (byte (fold 47 tt)) empty (plain_byte (fold 47 tt)) plain-empty)

-- ## The opaque bytes and the mark

abbrev opaque_part : ℕ → List ℕ → Part Name
opaque_part j t = record { label = opaque; start = j; text = t }

record Opaque (j : ℕ) (u : List ℕ) (rs : List (Part Name)) : Type 0 where
  inside : List ℕ
  text : u ≡ between_quotes inside
  parts : rs ≡ opaque_part (suc j) inside ∷ []

opaque-parts : (j : ℕ) (u : List ℕ) (rs : List (Part Name)) → Parses opaque_tag j u rs → Opaque j u rs
opaque-parts j u rs p =
    let q = p.7 in
    let first = p.6.1 ∙ ap (λ (b : ℕ). b ∷ []) (eqb→eq p.6.0 34 p.6.2) in
    let last = q.7.1 ∙ ap (λ (b : ℕ). b ∷ []) (eqb→eq q.7.0 34 q.7.2) in
    let one = plain-part opaque quoted_text plain-text (past j p.0) q.0 q.2 q.6 in
    record {
      inside = q.0;
      text = p.4 ∙ ap₂ (λ (x y : List ℕ). x ++ y) first (q.4 ∙ ap (λ (x : List ℕ). q.0 ++ x) last);
      parts = p.5 ∙ ap₂ (λ (x y : List (Part Name)). x ++ y) p.6.3 (q.5 ∙ ap₂ (λ (x y : List (Part Name)). x ++ y) one q.7.3)
          ∙ ap (λ (x : List ℕ). opaque_part (past j x) q.0 ∷ []) first;
    }

holds : (x : Bool) → T x → x ≡ true
holds true h = refl
holds false h = absurd h

record Mark (t : List ℕ) : Type 0 where
  first : ℕ
  second : ℕ
  text : t ≡ first ∷ second ∷ []
  same : alike (first ∷ second ∷ []) mark ≡ true

mark-text : (t : List ℕ) (qs : List (Part Name)) → Parses (spell mark tt empty) 0 t qs → Mark t
mark-text t qs p =
    let q = p.7 in
    record {
      first = p.6.0;
      second = q.6.0;
      text = p.4
          ∙ ap₂ (λ (x y : List ℕ). x ++ y) p.6.1 (q.4 ∙ ap₂ (λ (x y : List ℕ). x ++ y) q.6.1 q.7.0);
      same = rw (holds (eqb (lower p.6.0) (lower 87)) p.6.2, holds (eqb (lower q.6.0) (lower 47)) q.6.2);
    }

-- ## The tag

strong_tag : (s u : List ℕ) (ps rs : List (Part Name)) → s ≡ u → ps ≡ rs → Opaque 0 u rs → StrongTag s ps
strong_tag s u ps rs e f o =
    let parts = f ∙ o.parts in
    let text = e ∙ o.text in
    record {
      inside = o.inside;
      text = text;
      parts = parts;
      tag = ap value parts;
      sent = rw (parts, text) (take_at o.inside (34 ∷ []) (length o.inside) refl);
    }

weak-tag : (s t u : List ℕ) (ps rs : List (Part Name)) → s ≡ t ++ u → ps ≡ record { label = weak; start = 0; text = t } ∷ rs → Mark t
    → Opaque (past 0 t) u rs → WeakTag s ps
weak-tag s t u ps rs e f m o =
    let before : Part Name = record { label = weak; start = 0; text = t } in
    let place : past 0 t ≡ 2 = ap (past 0) m.text in
    let parts = f ∙ ap (λ (r : List (Part Name)). before ∷ r) (o.parts ∙ ap (λ (n : ℕ). opaque_part (suc n) o.inside ∷ []) place) in
    let text = e ∙ ap (λ (x : List ℕ). t ++ x) o.text in
    record {
      before = t;
      inside = o.inside;
      marked = rw m.text m.same;
      text = text;
      parts = parts;
      tag = ap value parts;
      sent = rw (parts, text, m.text) (take_at o.inside (34 ∷ []) (length o.inside) refl);
    }

pub tag-parts : (s : List ℕ) (ps : List (Part Name)) → Parses entity_tag 0 s ps → TagParts s ps
tag-parts s ps (t, u, qs, rs, e, f, inl p, q) =
    let o = opaque-parts 0 u rs (subst (λ (x : List ℕ). Parses opaque_tag (past 0 x) u rs) p.0 q) in
    inl (strong_tag s u ps rs (e ∙ ap (λ (x : List ℕ). x ++ u) p.0) (f ∙ ap (λ (x : List (Part Name)). x ++ rs) p.1) o)
tag-parts s ps (t, u, qs, rs, e, f, inr p, q) =
    let one = plain-part weak (spell mark tt empty) plain-mark 0 t qs p in
    inr (weak-tag s t u ps rs e (f ∙ ap (λ (x : List (Part Name)). x ++ rs) one) (mark-text t p.0 p.2) (opaque-parts (past 0 t) u rs q))
