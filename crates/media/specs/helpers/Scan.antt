-- For the contracts of the reader's helpers.
use Rattle.std.specs.Prelude.{ℕ, ◌+◌, ◌≤◌, ◌<◌, ◌≡◌, false, List, [], ◌∷◌, ◌++◌, Result, Ok, Err, length, get_or}
use Prim.Native.Char.{code}
use Rattle.grammar.specs.Grammar.{Part, byte, ◌⨾◌, part}
use Rattle.grammar.specs.Reading.{value_limit, refused}
use Rattle.grammar.specs.helpers.Judge.{header}
use Rattle.grammar.specs.helpers.Checks.{ahead}
use Rattle.grammar.specs.helpers.Scans.{slice, from}
use Rattle.octets.specs.Bytes.{token?}
use Rattle.octets.specs.Classes.{token}
use Rattle.scans.specs.helpers.Runs.{run_end}
use Rattle.media.specs.declared.MediaType.{MediaType}
use Rattle.media.specs.declared.Parameter.{Parameter}
use Rattle.octets.specs.declared.Refusal.{Refusal}
use Rattle.octets.specs.Reading.{number_of, place_of}
use Rattle.media.specs.Grammar.{Name, attribute, EQUALS, argument, parameters}
use Rattle.media.specs.Grammar.{attributes, repeats, entries, kind, parameter_limit, rules}
use Rattle.media.specs.Places.{Placed}
use Rattle.media.specs.helpers.Places.{names_at}

abbrev pub texts : List (Part Name) → List (List ℕ)
texts [] = []
texts (c ∷ cs) = c.text ∷ texts cs

abbrev pub counted : MediaType → ℕ → MediaType
counted m n = record {
  type_start = m.type_start;
  type_length = m.type_length;
  subtype_start = m.subtype_start;
  subtype_length = m.subtype_length;
  count = n;
}

module _ (s : List ℕ) where
  -- type, subtype and the parameters ps stand before the place i; no byte from there on breaks a limit by them alone
  pub record Before (m : MediaType) (ps : List Parameter) (i : ℕ) : Type 0 where
    pub first : Part Name
    pub second : Part Name
    pub others : List (Part Name)
    pub kinds : kind first second (length ps) ≡ m
    pub extends : (us : List (Part Name)) → entries (others ++ us) ≡ ps ++ entries us
    pub names : texts (attributes (first ∷ second ∷ others)) ≡ names_at s ps
    pub unrepeated : (k : ℕ) → i ≤ k → repeats k [] (attributes (first ∷ second ∷ others)) ≡ false
    pub few : length ps ≤ parameter_limit
    pub placed : Placed s ps
    pub inside : i ≤ length s

  abbrev pub parts : {m : MediaType} {ps : List Parameter} {i : ℕ} → Before m ps i → List (Part Name)
  parts w = w.first ∷ w.second ∷ w.others

  -- the answer is what is found from i on, where a parameter may begin
  pub record Found (m : MediaType) (ps : List Parameter) (i : ℕ) : Type 0 where
    pub before : Before m ps i
    pub reads : header rules s ≡ from rules s (ahead (parts before) parameters) i

  -- a type stands before e, in a text that is not too long
  pub record TypeAt (e : ℕ) : Type 0 where
    pub short : length s ≤ value_limit
    pub ends : e ≡ run_end token? s 0
    pub some : e ≡ 0 → ⊥

  -- type and subtype were read, or the text is refused
  abbrev pub NamesRead : Result MediaType Refusal → Type 0
  NamesRead (Ok m) = Found m [] (m.subtype_start + m.subtype_length)
  NamesRead (Err r) = header rules s ≡ refused (number_of r) (place_of r)

  -- the same where an attribute has to begin
  pub record NameAt (m : MediaType) (ps : List Parameter) (i : ℕ) : Type 0 where
    pub before : Before m ps i
    pub reads : header rules s ≡ from rules s (ahead (parts before) (part attribute token ⨾ byte EQUALS ⨾ argument ⨾ parameters)) i

  abbrev pub name_part : (i e : ℕ) → Part Name
  name_part i e = record { label = attribute; start = i; text = slice s i e }

  -- an attribute stands between i and e, and its `=` at e; the answer is what is found behind that
  pub record Attribute (m : MediaType) (ps : List Parameter) (i e : ℕ) : Type 0 where
    pub before : Before m ps e
    pub room : length ps < parameter_limit
    pub ordered : i ≤ e
    pub at : e < length s
    pub fresh : (k : ℕ) → e < k → repeats k [] (attributes (parts before ++ name_part i e ∷ [])) ≡ false
    pub reads : header rules s ≡ from rules s (ahead (parts before ++ name_part i e ∷ []) (argument ⨾ parameters)) (e + 1)

  -- a quote stands at i
  pub record QuoteAt (i : ℕ) : Type 0 where
    pub at : i < length s
    pub quote : get_or s i 0 ≡ code "\""

  -- behind a parameter, one more was read; a step that stopped has the answer
  pub record Read (m : MediaType) (ps : List Parameter) (i : ℕ) (p : Parameter) (e : ℕ) : Type 0 where
    pub found : Found (counted m (m.count + 1)) (ps ++ p ∷ []) e
    pub room : length ps < parameter_limit
    pub forward : i < e

  abbrev pub StepAt : MediaType → List Parameter → ℕ → Result (Parameter × ℕ) Refusal → Type 0
  StepAt m ps i (Ok v) = Read m ps i v.0 v.1
  StepAt m ps i (Err r) = header rules s ≡ refused (number_of r) (place_of r)

  -- the value behind the attribute from i to e, whatever was found before
  abbrev pub ValueAt : (i e : ℕ) → Result (Parameter × ℕ) Refusal → Type 0
  ValueAt i e r = (m : MediaType) (ps : List Parameter) → Attribute m ps i e → StepAt m ps e r
