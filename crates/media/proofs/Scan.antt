-- The reader's scans against the grammar: type and subtype, then parameter by parameter.
use Prim.Native.Nat.{ℕ, ◌+◌, ◌-◌, ◌≤◌, ◌<◌}
use native.Mathlib.Omega.{arith}
use borrow.Author.Tests.{eq-eqb, ne_eqb, eqb-true}
use mathlib.Core.Path.{◌≡◌, refl, sym, ap, ap₂, subst, ◌∙◌}
use mathlib.Core.Bool.{Bool, true, false, cond, true≢false}
use mathlib.Core.List.{List, [], ◌∷◌, ◌++◌, append-nil, append_assoc}
use mathlib.Core.Option.{none, some}
use lib.Dec.{eqb}
use lib.ListN.{length, get_or, length-append}
use Rattle.grammar.specs.Grammar.{Part, Grammar, void, byte, ◌⨾◌, part}
use Rattle.grammar.specs.helpers.Derivative.{deriv}
use Rattle.grammar.specs.Reading.{refused, repeated, crowded}
use Rattle.grammar.specs.helpers.Checks.{ahead}
use Rattle.grammar.specs.helpers.Judge.{header, finished}
use Rattle.grammar.specs.helpers.Scans.{slice, from}
use Rattle.grammar.proofs.Loop.{header-short}
use Rattle.grammar.proofs.Pieces.{slice-length}
use Rattle.grammar.proofs.Repeats.{may_end}
use Rattle.grammar.proofs.Scans.{same_first, goes_on, breaks_off, ends-early}
use Rattle.grammar.proofs.Scans.{part-plus, part-plus-none, part-plus-breaks, first-is, first-not, first-none}
use Rattle.grammar.proofs.Skips.{skip_run}
use Rattle.octets.specs.Bytes.{token?, blank?}
use Rattle.octets.specs.Classes.{TOKEN, BLANK, token}
use Rattle.octets.specs.Quoted.{QUOTE, quoted_text}
use Rattle.octets.proofs.Bytes.{told-apart}
use Rattle.scans.specs.helpers.Quoted.{quoted_end}
use Rattle.scans.specs.helpers.Runs.{run_end}
use Rattle.scans.proofs.Runs.{run_is}
use Rattle.scans.proofs.Quoted.{quoted_closed, quoted_bad, quoted_cut_off}
use Rattle.media.specs.declared.MediaType.{MediaType}
use Rattle.media.specs.declared.Parameter.{Parameter}
use Rattle.std.specs.Prelude.{Result, Ok, Err}
use Rattle.octets.specs.declared.Refusal.{Refusal}
use Rattle.media.specs.Grammar.{Name, type, subtype, attribute, value, quoted_value, SLASH}
use Rattle.media.specs.Grammar.{SEMICOLON, EQUALS, blanks, argument, parameters, attributes}
use Rattle.media.specs.Grammar.{attribute?, quoted?, has_name, repeats, limit, parameter_limit, entry, entries, kind, rules}
use Rattle.media.specs.Grammar.{part_at}
use Rattle.media.specs.Places.{Placed, PlacedParameter}
use Rattle.media.specs.helpers.Places.{names_at}
use Rattle.media.specs.helpers.Scan.{texts, counted, Before, parts, Found, NameAt, Attribute, Read, StepAt}
use Rattle.media.proofs.Limits.{limit-crowded, limit-kept, attributes_with, attributes_without, limit_without}
use Rattle.media.proofs.Limits.{texts_append, texts-length, names-length, repeats_elsewhere, repeats-behind}

-- ## Bytes that tell what comes next

slash_no_token : token? 47 ≡ false
unfolding token?
slash_no_token = refl

semicolon_no_token : token? 59 ≡ false
unfolding token?
semicolon_no_token = refl

equals_no_token : token? 61 ≡ false
unfolding token?
equals_no_token = refl

quote_no_token : token? 34 ≡ false
unfolding token?
quote_no_token = refl

semicolon_no_blank : blank? 59 ≡ false
unfolding blank?
semicolon_no_blank = refl

blank_no_token : (b : ℕ) → blank? b ≡ true → token? b ≡ false
unfolding blank? token?
blank_no_token b e = go (eqb b 32) refl (eqb b 9) refl e
  where
    go : (x : Bool) → eqb b 32 ≡ x → (y : Bool) → eqb b 9 ≡ y → blank? b ≡ true → token? b ≡ false
    go true f y g h = ap token? (eqb-true b 32 f)
    go false f true g h = ap token? (eqb-true b 9 g)
    go false f false g h = absurd (true≢false (sym h ∙ rw (f, g)))

-- ## What is left of the grammar

abbrev behind_equals : Grammar Name
behind_equals = argument ⨾ parameters

abbrev behind_name : Grammar Name
behind_name = byte EQUALS ⨾ argument ⨾ parameters

abbrev at_name : Grammar Name
at_name = part attribute token ⨾ byte EQUALS ⨾ argument ⨾ parameters

abbrev at_semicolon : Grammar Name
at_semicolon = byte SEMICOLON ⨾ blanks ⨾ part attribute token ⨾ byte EQUALS ⨾ argument ⨾ parameters

abbrev behind_type : Grammar Name
behind_type = byte SLASH ⨾ part subtype token ⨾ parameters

behind_type-apart : (j b : ℕ) → token? b ≡ true → deriv behind_type j b ≡ void
behind_type-apart j b e = rw (told-apart token? b 47 e slash_no_token)

behind_name-apart : (j b : ℕ) → token? b ≡ true → deriv behind_name j b ≡ void
behind_name-apart j b e = rw (told-apart token? b 61 e equals_no_token)

at_semicolon-apart : (j b : ℕ) → blank? b ≡ true → deriv at_semicolon j b ≡ void
at_semicolon-apart j b e = rw (told-apart blank? b 59 e semicolon_no_blank)

at-name-apart : (j b : ℕ) → blank? b ≡ true → deriv at_name j b ≡ void
at-name-apart j b e = rw (blank_no_token b e)

token_no_blank : (b : ℕ) → token? b ≡ true → blank? b ≡ false
token_no_blank b e = go (blank? b) refl
  where
    go : (x : Bool) → blank? b ≡ x → x ≡ false
    go true f = absurd (true≢false (sym e ∙ blank_no_token b f))
    go false f = refl

parameters-apart : (j b : ℕ) → token? b ≡ true → deriv parameters j b ≡ void
parameters-apart j b e = rw (token_no_blank b e, told-apart token? b 59 e semicolon_no_token)

-- a parameter begins with blanks or its semicolon
begins : (j b : ℕ) → deriv parameters j b ≡ deriv (blanks ⨾ at_semicolon) j b
begins j b = go (blank? b) refl (eqb b 59) refl
  where
    go : (x : Bool) → blank? b ≡ x → (y : Bool) → eqb b 59 ≡ y → deriv parameters j b ≡ deriv (blanks ⨾ at_semicolon) j b
    go true e true f = absurd (true≢false (sym f ∙ told-apart blank? b 59 e semicolon_no_blank))
    go true e false f = rw (e, f)
    go false e true f = rw (e, f)
    go false e false f = rw (e, f)

-- a value that begins with another byte than a quote is a token
no_quote : (j b : ℕ) → eqb b 34 ≡ false → deriv behind_equals j b ≡ deriv (part value token ⨾ parameters) j b
no_quote j b e = go (token? b) refl
  where
    go : (x : Bool) → token? b ≡ x → deriv behind_equals j b ≡ deriv (part value token ⨾ parameters) j b
    go true f = rw (e, f)
    go false f = rw (e, f)

quote-first : (j b : ℕ) → eqb b 34 ≡ true → deriv behind_equals j b ≡ part quoted_value quoted_text ⨾ byte QUOTE ⨾ parameters
quote-first j b e = rw (e, ap token? (eqb-true b 34 e) ∙ quote_no_token)

-- ## Type and subtype

module _ (s : List ℕ) (short : length s ≤ 8192) where
  pub type-none : run_end token? s 0 ≡ 0 → header rules s ≡ refused 1 0
  type-none e =
      header-short rules s short
      ∙ part-plus-none rules s [] type TOKEN behind_type refl refl behind_type-apart 0 (run_end token? s 0) (run_is token? s 0 (omega arith))
      (omega (arith, e))

  module _ (e : ℕ) (d : e ≡ run_end token? s 0) (some-type : e ≡ 0 → ⊥) where
    abbrev type_part : Part Name
    type_part = record { label = type; start = 0; text = slice s 0 e }

    type_reads : header rules s ≡ from rules s (ahead (type_part ∷ []) behind_type) e
    type_reads =
        header-short rules s short
        ∙ part-plus rules s [] type TOKEN behind_type refl refl behind_type-apart 0 e (rw d (run_is token? s 0 (omega arith))) (omega arith)
        (λ n x y. refl)

    pub type-cut_off : length s ≤ e → header rules s ≡ refused 1 e
    type-cut_off h = type_reads ∙ first-none rules s (type_part ∷ []) SLASH (part subtype token ⨾ parameters) refl e h

    pub slash_not : e < length s → (get_or s e 0 ≡ 47 → ⊥) → header rules s ≡ refused 1 e
    slash_not h n = type_reads ∙ first-not rules s (type_part ∷ []) SLASH (part subtype token ⨾ parameters) refl e h (ne_eqb (get_or s e 0) 47 n)

    module _ (at : e < length s) (slash : get_or s e 0 ≡ 47) where
      slash_reads : header rules s ≡ from rules s (ahead (type_part ∷ []) (part subtype token ⨾ parameters)) (e + 1)
      slash_reads =
          type_reads ∙ first-is rules s (type_part ∷ []) SLASH (part subtype token ⨾ parameters) refl e at (eq-eqb (get_or s e 0) 47 slash) refl

      pub subtype-none : run_end token? s (e + 1) ≡ e + 1 → header rules s ≡ refused 1 (e + 1)
      subtype-none h =
          slash_reads
          ∙ part-plus-none rules s (type_part ∷ []) subtype TOKEN parameters refl refl parameters-apart (e + 1) (run_end token? s (e + 1))
          (run_is token? s (e + 1) (omega arith)) (omega (arith, h))

      module _ (f : ℕ) (g : f ≡ run_end token? s (e + 1)) (some-subtype : f ≡ e + 1 → ⊥) where
        abbrev subtype_part : Part Name
        subtype_part = record { label = subtype; start = e + 1; text = slice s (e + 1) f }

        subtype-run : (e + 1 ≤ f) × (f ≤ length s)
        subtype-run = let w = run_is token? s (e + 1) (omega arith) in (omega (arith, g, w.ordered), omega (arith, g, w.within))

        abbrev names : MediaType
        names = record { type_start = 0; type_length = e; subtype_start = e + 1; subtype_length = f - (e + 1); count = 0 }

        names-are : kind type_part subtype_part 0 ≡ names
        names-are =
            ap₂ (λ (x y : ℕ). record { type_start = 0; type_length = x; subtype_start = e + 1; subtype_length = y; count = 0 })
            (slice-length s 0 e (omega arith) (omega arith) ∙ omega arith) (slice-length s (e + 1) f subtype-run.0 subtype-run.1)

        found-behind : Found s names [] f
        found-behind = record {
          before = record {
            first = type_part;
            second = subtype_part;
            others = [];
            kinds = names-are;
            extends = λ us. refl;
            names = refl;
            unrepeated = λ k a. refl;
            few = omega arith;
            placed = tt;
            inside = subtype-run.1;
          };
          reads = slash_reads
              ∙ part-plus rules s (type_part ∷ []) subtype TOKEN parameters refl refl parameters-apart (e + 1) f
              (rw g (run_is token? s (e + 1) (omega arith))) (omega (arith, subtype-run.0)) (λ n x y. refl);
        }

        pub subtype-found : Found s names [] ((e + 1) + (f - (e + 1)))
        subtype-found =
            let z : f ≡ (e + 1) + (f - (e + 1)) = omega (arith, subtype-run.0) in
            subst (Found s names []) z found-behind

-- ## A parameter

-- a step from e is one from an earlier place
pub steps_on : (s : List ℕ) (m : MediaType) (ps : List Parameter) (i e : ℕ) (r : Result (Parameter × ℕ) Refusal) → i ≤ e → StepAt s m ps e r → StepAt s m ps i r
steps_on s m ps i e (Ok v) a w = record { found = w.found; room = w.room; forward = omega (arith, w.forward) }
steps_on s m ps i e (Err x) a w = w

module _ {s : List ℕ} where
  attribute-count : {m : MediaType} {ps : List Parameter} {i : ℕ} (w : Before s m ps i) → length (attributes (parts s w)) ≡ length ps
  attribute-count {ps = ps} w = sym (texts-length (attributes (parts s w))) ∙ ap length w.names ∙ names-length s ps

  -- no byte outside attributes breaks a limit
  quiet : {m : MediaType} {ps : List Parameter} {i : ℕ} (w : Before s m ps i) (k : ℕ) → i ≤ k → limit k (parts s w) ≡ none
  quiet w k a = limit-kept k (parts s w) (omega (arith, attribute-count w, w.few)) false (w.unrepeated k a)

  -- the same parts at a later place
  abbrev later : {m : MediaType} {ps : List Parameter} {i : ℕ} (w : Before s m ps i) (e : ℕ) → i ≤ e → e ≤ length s → Before s m ps e
  later w e a b = record {
    first = w.first;
    second = w.second;
    others = w.others;
    kinds = w.kinds;
    extends = w.extends;
    names = w.names;
    unrepeated = λ k c. w.unrepeated k (omega arith);
    few = w.few;
    placed = w.placed;
    inside = b;
  }

  -- the count of the parameters, and their places as a table gives them
  pub counted_in : {m : MediaType} {ps : List Parameter} {i : ℕ} → Before s m ps i → length ps ≡ m.count
  counted_in w = ap (λ (n : MediaType). n.count) w.kinds

  -- ### From the place behind the last one to its attribute

  module _ {m : MediaType} {ps : List Parameter} {i : ℕ} (found : Found s m ps i) where
    abbrev cs : List (Part Name)
    cs = parts s found.before

    -- nothing follows
    pub no_more : length s ≤ i → header rules s ≡ finished rules cs
    no_more h = found.reads ∙ may_end rules s cs parameters i h refl refl

    module _ (at : i < length s) (semicolon : ℕ) (d : semicolon ≡ run_end blank? s i) where
      blank-run : (i ≤ semicolon) × (semicolon ≤ length s)
      blank-run = let w = run_is blank? s i (omega arith) in (omega (arith, d, w.ordered), omega (arith, d, w.within))

      blanks-read : header rules s ≡ from rules s (ahead cs at_semicolon) semicolon
      blanks-read =
          found.reads ∙ same_first rules s cs parameters (blanks ⨾ at_semicolon) i at (begins i (get_or s i 0))
          ∙ skip_run rules s cs BLANK at_semicolon refl refl at_semicolon-apart i semicolon (rw d (run_is blank? s i (omega arith)))
          (λ n a b. quiet found.before n a)

      pub blanks-end : length s ≤ semicolon → header rules s ≡ refused 1 semicolon
      blanks-end h = blanks-read ∙ first-none rules s cs SEMICOLON (blanks ⨾ at_name) refl semicolon h

      pub semicolon_not : semicolon < length s → (get_or s semicolon 0 ≡ 59 → ⊥) → header rules s ≡ refused 1 semicolon
      semicolon_not h n = blanks-read ∙ first-not rules s cs SEMICOLON (blanks ⨾ at_name) refl semicolon h (ne_eqb (get_or s semicolon 0) 59 n)

      module _ (here : semicolon < length s) (is : get_or s semicolon 0 ≡ 59) (start : ℕ) (f : start ≡ run_end blank? s (semicolon + 1)) where
        second_run : (semicolon + 1 ≤ start) × (start ≤ length s)
        second_run = let w = run_is blank? s (semicolon + 1) (omega arith) in (omega (arith, f, w.ordered), omega (arith, f, w.within))

        pub name-begins : NameAt s m ps start
        name-begins = record {
          before = later found.before start (omega (arith, blank-run.0, second_run.0)) second_run.1;
          reads = blanks-read
              ∙ first-is rules s cs SEMICOLON (blanks ⨾ at_name) refl semicolon here (eq-eqb (get_or s semicolon 0) 59 is)
              (ap (limit semicolon) (append-nil cs) ∙ quiet found.before semicolon blank-run.0)
              ∙ skip_run rules s cs BLANK at_name refl refl at-name-apart (semicolon + 1) start (rw f (run_is blank? s (semicolon + 1) (omega arith)))
              (λ n a b. quiet found.before n (omega (arith, blank-run.0)));
        }

        pub name-behind : i ≤ start
        name-behind = omega (arith, blank-run.0, second_run.0)

  -- ### The attribute

  module _ {m : MediaType} {ps : List Parameter} {start : ℕ} (x : NameAt s m ps start) where
    abbrev ds : List (Part Name)
    ds = parts s x.before

    pub name-none : run_end token? s start ≡ start → header rules s ≡ refused 1 start
    name-none h =
        x.reads
        ∙ part-plus-none rules s ds attribute TOKEN behind_name refl refl behind_name-apart start (run_end token? s start)
        (run_is token? s start x.before.inside) (omega (arith, h))

    module _ (equals : ℕ) (g : equals ≡ run_end token? s start) (some-name : equals ≡ start → ⊥) where
      pub name-run : (start ≤ equals) × (equals ≤ length s)
      name-run = let w = run_is token? s start x.before.inside in (omega (arith, g, w.ordered), omega (arith, g, w.within))

      abbrev name : ℕ → Part Name
      name e = record { label = attribute; start = start; text = slice s start e }

      count_with : (e : ℕ) → length (attributes (ds ++ name e ∷ [])) ≡ length ps + 1
      count_with e =
          ap length (attributes_with ds start (slice s start e)) ∙ length-append (attributes ds) (name e ∷ [])
          ∙ ap (λ (n : ℕ). n + 1) (attribute-count x.before)

      pub seventeenth : parameter_limit ≤ length ps → header rules s ≡ refused 10 start
      seventeenth h =
          x.reads
          ∙ part-plus-breaks rules s ds attribute TOKEN behind_name refl refl behind_name-apart start equals
          (rw g (run_is token? s start x.before.inside)) {z = crowded} start (omega arith) (omega (arith, name-run.0))
          (λ n a b. absurd (omega arith))
          (limit-crowded start (ds ++ name (start + 1) ∷ []) (omega (arith, count_with (start + 1))))

      module _ (room : length ps < parameter_limit) where
        unrepeated_in : (n : ℕ) → start ≤ n → n < equals → repeats n [] (attributes (ds ++ name (n + 1) ∷ [])) ≡ false
        unrepeated_in n a b =
            ap (repeats n []) (attributes_with ds start (slice s start (n + 1)))
            ∙ repeats_elsewhere s (attributes ds) start (n + 1) (omega arith) (omega (arith, name-run.1)) n (λ z. absurd (omega arith))
            (x.before.unrepeated n a)

        name-reads : header rules s ≡ from rules s (ahead (ds ++ name equals ∷ []) behind_name) equals
        name-reads =
            x.reads
            ∙ part-plus rules s ds attribute TOKEN behind_name refl refl behind_name-apart start equals
            (rw g (run_is token? s start x.before.inside)) (omega (arith, name-run.0))
            (λ n a b. limit-kept n (ds ++ name (n + 1) ∷ []) (omega (arith, count_with (n + 1))) false (unrepeated_in n a b))

        pub name-cut_off : length s ≤ equals → header rules s ≡ refused 1 equals
        name-cut_off h = name-reads ∙ first-none rules s (ds ++ name equals ∷ []) EQUALS behind_equals refl equals h

        pub equals_not : equals < length s → (get_or s equals 0 ≡ 61 → ⊥) → header rules s ≡ refused 1 equals
        equals_not h n = name-reads ∙ first-not rules s (ds ++ name equals ∷ []) EQUALS behind_equals refl equals h (ne_eqb (get_or s equals 0) 61 n)

        module _ (there : equals < length s) (eq : get_or s equals 0 ≡ 61) where
          limit_there : (y : Bool) → y ≡ has_name (slice s start equals) (names_at s ps)
              → limit equals ((ds ++ name equals ∷ []) ++ []) ≡ cond y (some repeated) none
          limit_there y e =
              ap (limit equals) (append-nil (ds ++ name equals ∷ []))
              ∙ limit-kept equals (ds ++ name equals ∷ []) (omega (arith, count_with equals)) y
              (ap (repeats equals []) (attributes_with ds start (slice s start equals))
              ∙ repeats-behind s (attributes ds) start equals name-run.0 name-run.1 (x.before.unrepeated equals name-run.0)
              ∙ ap (has_name (slice s start equals)) x.before.names ∙ sym e)

          equals_step : deriv behind_name equals (get_or s equals 0) ≡ behind_equals
          equals_step = rw (eq-eqb (get_or s equals 0) 61 eq)

          pub name-repeated : true ≡ has_name (slice s start equals) (names_at s ps) → header rules s ≡ refused 11 equals
          name-repeated e =
              name-reads ∙ breaks_off rules s (ds ++ name equals ∷ []) behind_name equals behind_equals there equals_step {x = repeated} refl
              (limit_there true e)

          pub name_new : false ≡ has_name (slice s start equals) (names_at s ps) → Attribute s m ps start equals
          name_new e = record {
            before = later x.before equals name-run.0 name-run.1;
            room = room;
            ordered = name-run.0;
            at = there;
            fresh = λ k a.
                ap (repeats k []) (attributes_with ds start (slice s start equals))
                ∙ repeats_elsewhere s (attributes ds) start equals name-run.0 name-run.1 k (λ z. absurd (omega arith))
                (x.before.unrepeated k (omega (arith, name-run.0)));
            reads = name-reads ∙ goes_on rules s (ds ++ name equals ∷ []) behind_name equals behind_equals there equals_step refl
                (limit_there false e);
          }

-- ### The value

names_append : (s : List ℕ) (ps qs : List Parameter) → names_at s (ps ++ qs) ≡ names_at s ps ++ names_at s qs
names_append s [] qs = refl
names_append s (p ∷ ps) qs = ap (λ (ts : List (List ℕ)). part_at s p.start p.length ∷ ts) (names_append s ps qs)

placed_append : (s : List ℕ) (ps : List Parameter) (p : Parameter) → Placed s ps → PlacedParameter s p → Placed s (ps ++ p ∷ [])
placed_append s [] p w x = (x, tt)
placed_append s (q ∷ ps) p w x = (w.0, placed_append s ps p w.1 x)

module _ {s : List ℕ} {m : MediaType} {ps : List Parameter} {i e : ℕ} (x : Attribute s m ps i e) where
  abbrev named : Part Name
  named = record { label = attribute; start = i; text = slice s i e }

  -- the parts through the attribute
  abbrev through : List (Part Name)
  through = parts s x.before ++ named ∷ []

  through-count : length (attributes through) ≡ length ps + 1
  through-count =
      ap length (attributes_with (parts s x.before) i (slice s i e)) ∙ length-append (attributes (parts s x.before)) (named ∷ [])
      ∙ ap (λ (n : ℕ). n + 1) (attribute-count x.before)

  through-quiet : (k : ℕ) → e < k → limit k through ≡ none
  through-quiet k a = limit-kept k through (omega (arith, through-count, x.room)) false (x.fresh k a)

  value-quiet : (l : Name) (b k : ℕ) (t : List ℕ) → attribute? l ≡ false → e < k
      → limit k (through ++ record { label = l; start = b; text = t } ∷ []) ≡ none
  value-quiet l b k t f a = limit_without k through (record { label = l; start = b; text = t }) f ∙ through-quiet k a

  -- a value that stands from b to f, and behind which reading goes on at g
  module _ (l : Name) (b f g : ℕ) (o : attribute? l ≡ false) (bf : b ≤ f) (fg : f ≤ g) (eg : e < g) (gs : g ≤ length s) where
    abbrev val : Part Name
    val = record { label = l; start = b; text = slice s b f }

    abbrev read_one : Parameter
    read_one = record { start = i; length = e - i; value_start = b; value_length = f - b; quoted = quoted? l }

    entry-is : entry named val ≡ read_one
    entry-is =
        ap₂ (λ (y z : ℕ). record { start = i; length = y; value_start = b; value_length = z; quoted = quoted? l })
        (slice-length s i e x.ordered (omega (arith, x.at))) (slice-length s b f bf (omega arith))

    all-parts : (parts s x.before ++ named ∷ []) ++ val ∷ [] ≡ parts s x.before ++ named ∷ val ∷ []
    all-parts = append_assoc (parts s x.before) (named ∷ []) (val ∷ [])

    all-attributes : attributes (parts s x.before ++ named ∷ val ∷ []) ≡ attributes (parts s x.before) ++ named ∷ []
    all-attributes = ap attributes (sym all-parts) ∙ attributes_without through val o ∙ attributes_with (parts s x.before) i (slice s i e)

    pub value_read : header rules s ≡ from rules s (ahead (through ++ val ∷ []) parameters) g → Read s m ps e read_one g
    value_read h = record {
      found = record {
        before = record {
          first = x.before.first;
          second = x.before.second;
          others = x.before.others ++ named ∷ val ∷ [];
          kinds = counts;
          extends = extended;
          names = ap texts all-attributes ∙ texts_append (attributes (parts s x.before)) (named ∷ [])
              ∙ ap (λ (ts : List (List ℕ)). ts ++ slice s i e ∷ []) x.before.names ∙ sym (names_append s ps (read_one ∷ []));
          unrepeated = λ k a. ap (repeats k []) (ap attributes (sym all-parts) ∙ attributes_without through val o) ∙ x.fresh k (omega arith);
          few = omega (arith, x.room, length-append ps (read_one ∷ []));
          placed = placed_append s ps read_one x.before.placed
              (record { name_within = omega (arith, x.ordered, x.at); value_within = omega arith });
          inside = gs;
        };
        reads = h ∙ ap (λ (cs : List (Part Name)). from rules s (ahead cs parameters) g) all-parts;
      };
      room = x.room;
      forward = eg;
    }
      where
        one_more : length (ps ++ read_one ∷ []) ≡ m.count + 1
        one_more = length-append ps (read_one ∷ []) ∙ ap (λ (n : ℕ). n + 1) (ap (λ (n : MediaType). n.count) x.before.kinds)

        counts : kind x.before.first x.before.second (length (ps ++ read_one ∷ [])) ≡ counted m (m.count + 1)
        counts = ap (kind x.before.first x.before.second) one_more ∙ ap (λ (n : MediaType). counted n (m.count + 1)) x.before.kinds

        extended : (us : List (Part Name)) → entries ((x.before.others ++ named ∷ val ∷ []) ++ us) ≡ (ps ++ read_one ∷ []) ++ entries us
        extended us =
            ap entries (append_assoc x.before.others (named ∷ val ∷ []) us) ∙ x.before.extends (named ∷ val ∷ us)
            ∙ ap (λ (p : Parameter). ps ++ p ∷ entries us) entry-is ∙ sym (append_assoc ps (read_one ∷ []) (entries us))

  pub value-cut_off : length s ≤ e + 1 → header rules s ≡ refused 1 (e + 1)
  value-cut_off h = x.reads ∙ ends-early rules s through behind_equals (e + 1) h refl

  -- #### A token

  module _ (at : e + 1 < length s) (no : get_or s (e + 1) 0 ≡ 34 → ⊥) where
    token_begins : header rules s ≡ from rules s (ahead through (part value token ⨾ parameters)) (e + 1)
    token_begins =
        x.reads
        ∙ same_first rules s through behind_equals (part value token ⨾ parameters) (e + 1) at
        (no_quote (e + 1) (get_or s (e + 1) 0) (ne_eqb (get_or s (e + 1) 0) 34 no))

    pub token-none : run_end token? s (e + 1) ≡ e + 1 → header rules s ≡ refused 1 (e + 1)
    token-none h =
        token_begins
        ∙ part-plus-none rules s through value TOKEN parameters refl refl parameters-apart (e + 1) (run_end token? s (e + 1))
        (run_is token? s (e + 1) (omega arith)) (omega (arith, h))

    pub token-read : (f : ℕ) → f ≡ run_end token? s (e + 1) → (f ≡ e + 1 → ⊥)
        → Read s m ps e (record { start = i; length = e - i; value_start = e + 1; value_length = f - (e + 1); quoted = false }) f
    token-read f d n =
        let w = run_is token? s (e + 1) (omega arith) in
        let a : e + 1 ≤ f = omega (arith, d, w.ordered) in
        value_read value (e + 1) f f refl a (omega arith) (omega arith) (omega (arith, d, w.within))
        (token_begins
        ∙ part-plus rules s through value TOKEN parameters refl refl parameters-apart (e + 1) f (rw d w) (omega arith)
        (λ k y z. value-quiet value (e + 1) k (slice s (e + 1) (k + 1)) refl (omega arith)))

  -- #### A quoted string

  module _ (at : e + 1 < length s) (yes-quote : get_or s (e + 1) 0 ≡ 34) where
    quote-begins : header rules s ≡ from rules s (ahead through (part quoted_value quoted_text ⨾ byte QUOTE ⨾ parameters)) (e + 2)
    quote-begins =
        let z : (e + 1) + 1 ≡ e + 2 = omega arith in
        x.reads
        ∙ goes_on rules s through behind_equals (e + 1) (part quoted_value quoted_text ⨾ byte QUOTE ⨾ parameters) at
        (quote-first (e + 1) (get_or s (e + 1) 0) (eq-eqb (get_or s (e + 1) 0) 34 yes-quote)) refl
        (ap (limit (e + 1)) (append-nil through) ∙ through-quiet (e + 1) (omega arith))
        ∙ ap (from rules s (ahead through (part quoted_value quoted_text ⨾ byte QUOTE ⨾ parameters))) z

    calm : (k : ℕ) (t : List ℕ) → e + 2 ≤ k → limit k (through ++ record { label = quoted_value; start = e + 2; text = t } ∷ []) ≡ none
    calm k t a = value-quiet quoted_value (e + 2) k t refl (omega arith)

    pub quote-cut_off : length s ≤ quoted_end s (e + 2) → header rules s ≡ refused 1 (quoted_end s (e + 2))
    quote-cut_off h = quote-begins ∙ quoted_cut_off rules s through quoted_value parameters refl refl (e + 2) calm h

    pub quote-not : (get_or s (quoted_end s (e + 2)) 0 ≡ 34 → ⊥) → header rules s ≡ refused 1 (quoted_end s (e + 2))
    quote-not n = quote-begins ∙ quoted_bad rules s through quoted_value parameters refl refl (e + 2) calm n

    pub quote-read : (f : ℕ) → f ≡ quoted_end s (e + 2) → f < length s → get_or s f 0 ≡ 34
        → Read s m ps e (record { start = i; length = e - i; value_start = e + 2; value_length = f - (e + 2); quoted = true }) (f + 1)
    quote-read f d a q =
        value_read quoted_value (e + 2) f (f + 1) refl (omega (arith, d)) (omega arith) (omega (arith, d)) (omega arith)
        (quote-begins
        ∙ rw d (quoted_closed rules s through quoted_value parameters refl refl (e + 2) calm (rw d at a) (rw d at q)))
