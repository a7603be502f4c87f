-- The reader's scans against the grammar: the scheme, the host, the port, the path, the query, the end.
use Rattle.std.proofs.Common.{◌≡◌, ℕ, ◌+◌, ◌-◌, ◌<◌, ◌≤◌, Bool, true, false, cond, ◌&&◌, ◌||◌, ltb, List, [], ◌∷◌, ◌++◌, Some, None, Ok, Err, length, get_or, sym, refl, ap, ◌∙◌, subst, append_assoc, append-nil, arith, length-drop, length-take, ltb-false, ne_eqb}
use mathlib.Core.Option.{Option, none, some}
use Rattle.grammar.specs.Grammar.{Part, Grammar, void, empty, byte, ◌⨾◌, star, part, rest}
use Rattle.grammar.specs.helpers.Derivative.{deriv}
use Rattle.grammar.specs.Reading.{above, value, refused}
use Rattle.grammar.specs.helpers.Checks.{ahead}
use Rattle.grammar.specs.helpers.Judge.{header}
use Rattle.grammar.specs.helpers.Scans.{slice, from}
use Rattle.grammar.proofs.Loop.{header-short}
use Rattle.grammar.proofs.Scans.{Run, slice-none, slice_snoc, same-judge, goes_on, stops_at, part-begins, part-plus, part-plus-none, part-star, part-star-breaks, ends-well, goes_too_far}
use Rattle.octets.specs.Bytes.{digit?, letter?}
use Rattle.octets.specs.Classes.{DIGIT}
use Rattle.octets.specs.Numbers.{number, above?}
use Rattle.octets.proofs.Bytes.{told-apart}
use Rattle.scans.specs.declared.Decimal.TheVariants.{Number, Above, Missing}
use Rattle.scans.specs.helpers.Words.{agreeing}
use Rattle.scans.specs.helpers.Runs.{run_end}
use Rattle.scans.specs.helpers.Decimals.{decimal_at}
use Rattle.scans.proofs.Runs.{run_is}
use Rattle.scans.proofs.Scans.{number_of, number_fits, missing_of, above_of, number-limits, word-reads}
use Rattle.http_url.specs.declared.Url.{Url}
use Rattle.octets.specs.declared.Refusal.{Refusal}
use Rattle.octets.specs.Reading as R
use Rattle.http_url.specs.Bytes.{HOST, PATH, QUERY, host?, unreserved?, path?, query?}
use Rattle.http_url.specs.Grammar as G
use Rattle.http_url.specs.Grammar.{Name, host, port, path, query, text_of, query_part, path_part, port_part, host_part}
use Rattle.http_url.specs.Grammar.{scheme, is_port, is_path, is_query, named, port_text, place, largest_port, rules}
use Rattle.http_url.specs.helpers.Scan.{Found, host_at, AfterHost, heads, port_read, BeforePath, path_at, BeforeQuery}
use Rattle.http_url.proofs.Text.{stretch_up, text-ends, text-breaks}

-- ## Bytes apart

host-apart : (j b : ℕ) → host? b ≡ true → deriv (port_part ⨾ path_part) j b ≡ void
unfolding host? letter? digit?
host-apart j b d = rw (told-apart host? b 58 d refl, told-apart host? b 47 d refl)

digit_apart : (j b : ℕ) → digit? b ≡ true → deriv path_part j b ≡ void
unfolding digit?
digit_apart j b d = rw (told-apart digit? b 47 d refl)

path-apart : (j b : ℕ) → path? b ≡ true → deriv query_part j b ≡ void
unfolding path? unreserved? letter? digit?
path-apart j b d = rw (told-apart path? b 63 d refl)

percent_apart : (j b : ℕ) → b ≡ 37 → deriv query_part j b ≡ void
percent_apart j b e = rw e

pub path_no_percent : path? 37 ≡ false
unfolding path? unreserved? letter? digit?
path_no_percent = refl

pub query_no_percent : query? 37 ≡ false
unfolding query? path? unreserved? letter? digit?
query_no_percent = refl

-- ## Limits: a part that is no port breaks none

other-above : (limit : ℕ) (cs : List (Part Name)) (c : Part Name) → is_port c.label ≡ false → above? is_port limit (cs ++ c ∷ []) ≡ above? is_port limit cs
other-above limit [] c e = rw e
other-above limit (d ∷ cs) c e = ap (λ (t : Bool). (is_port d.label && ltb limit (number d.text)) || t) (other-above limit cs c e)

quiet-limit : (k : ℕ) (cs : List (Part Name)) → above? is_port largest_port cs ≡ false → rules.limit k cs ≡ none
quiet-limit k cs e = rw e

-- ## Pieces

slice-length : (s : List ℕ) (i e : ℕ) → i ≤ e → e ≤ length s → length (slice s i e) ≡ e - i
slice-length s i e h k = simp (length-take, length-drop) (omega arith)

slice-one : (s : List ℕ) (i : ℕ) → i < length s → slice s i (i + 1) ≡ get_or s i 0 ∷ []
slice-one s i at = slice_snoc s i i (omega arith) at ∙ ap (λ (t : List ℕ). t ++ (get_or s i 0 ∷ [])) (slice-none s i)

-- ## The scheme and the host

module _ (s : List ℕ) (short : length s ≤ 8192) where
  pub scheme-not : agreeing scheme s < 7 → header rules s ≡ refused 1 (agreeing scheme s)
  scheme-not h = header-short rules s short ∙ (word-reads rules s [] (λ n. refl) host_part refl refl scheme tt 0).1 h ∙ ap (refused 1) (omega arith)

  module _ (h : agreeing scheme s ≡ 7) (long : 7 ≤ length s) where
    schemed : header rules s ≡ from rules s host_part 7
    schemed = header-short rules s short ∙ (word-reads rules s [] (λ n. refl) host_part refl refl scheme tt 0).0 h

    pub host_missing : run_end host? s 7 ≤ 7 → header rules s ≡ refused 1 7
    host_missing e =
        schemed ∙ part-plus-none rules s [] host HOST (port_part ⨾ path_part) refl refl host-apart 7 (run_end host? s 7) (run_is host? s 7 long) e

    pub host-reads : (e : ℕ) → e ≡ run_end host? s 7 → 7 < e → AfterHost s e
    host-reads e f p =
        let w = subst (Run host? s 7) (sym f) (run_is host? s 7 long) in
        record {
          some = p;
          within = w.within;
          reads = schemed ∙ part-plus rules s [] host HOST (port_part ⨾ path_part) refl refl host-apart 7 e w p (λ n x y. refl);
        }

-- ## The port

module _ (s : List ℕ) (e : ℕ) (a : AfterHost s e) where
  abbrev hosts : List (Part Name)
  hosts = host_at s e ∷ []

  -- where no colon stands
  pub port-absent : (e < length s → get_or s e 0 ≡ 58 → ⊥) → BeforePath s e 80 e
  port-absent h = record {
    digits = none;
    some = a.some;
    host_within = a.within;
    within = a.within;
    is = refl;
    small = omega arith;
    quiet = refl;
    reads = a.reads ∙ same-judge rules s hosts (port_part ⨾ path_part) path_part e (λ at. skipped (get_or s e 0) (h at)) refl refl;
  }
    where
      skipped : (b : ℕ) → (b ≡ 58 → ⊥) → deriv (port_part ⨾ path_part) e b ≡ deriv path_part e b
      skipped b f = rw (ne_eqb b 58 f)

  module _ (at : e < length s) (h : get_or s e 0 ≡ 58) where
    abbrev digits_part : Grammar Name
    digits_part = part port (star (byte DIGIT)) ⨾ path_part

    colon : (b : ℕ) → b ≡ 58 → deriv (port_part ⨾ path_part) e b ≡ digits_part
    colon b f = rw f

    colons : header rules s ≡ from rules s (ahead hosts digits_part) (e + 1)
    colons = a.reads ∙ goes_on rules s hosts (port_part ⨾ path_part) e digits_part at (colon (get_or s e 0) h) refl refl

    inside : e + 1 ≤ length s
    inside = omega arith

    limits : (n : ℕ) (t : List ℕ) → rules.limit n (hosts ++ record { label = port; start = e + 1; text = t } ∷ []) ≡ cond (ltb largest_port (number t)) (some above) none
    limits = number-limits is_port largest_port hosts refl port (e + 1) refl

    calm : (n : ℕ) (t : List ℕ) → ltb largest_port (number t) ≡ false → rules.limit n (hosts ++ record { label = port; start = e + 1; text = t } ∷ []) ≡ none
    calm n t f = limits n t ∙ rw f

    pub port-passes : (p f : ℕ) → decimal_at largest_port s (e + 1) ≡ Above p f → header rules s ≡ refused 2 p
    port-passes p f d =
        let w = above_of largest_port s (e + 1) p f d in
        colons
        ∙ part-star-breaks rules s hosts port DIGIT path_part refl refl digit_apart (e + 1) (run_end digit? s (e + 1)) (run_is digit? s (e + 1) inside) {z = above} p w.first w.within
        (λ n x y. calm n (slice s (e + 1) (n + 1)) (w.before n x y)) (limits p (slice s (e + 1) (p + 1)) ∙ rw w.passes)

    -- behind the digits, which end at f
    behind : (f : ℕ) → f ≡ run_end digit? s (e + 1) → ((n : ℕ) → e + 1 ≤ n → n < f → ltb largest_port (number (slice s (e + 1) (n + 1))) ≡ false)
        → header rules s ≡ from rules s (ahead (heads s e (some (e + 1)) f) path_part) f
    behind f g q =
        colons
        ∙ part-star rules s hosts port DIGIT path_part refl refl digit_apart (e + 1) f (subst (Run digit? s (e + 1)) (sym g) (run_is digit? s (e + 1) inside))
        (λ n x y. calm n (slice s (e + 1) (n + 1)) (q n x y))

    or_one : (x : Bool) → x ≡ false → (x || false) ≡ false
    or_one x f = rw f

    numbered : (t : List ℕ) → 0 < length t → port_text t ≡ number t
    numbered [] q = absurd (omega arith)
    numbered (b ∷ t) q = refl

    pub port-small : (v f : ℕ) → decimal_at largest_port s (e + 1) ≡ Number v f → v ≤ 65535
    port-small v f d =
        let w = number_of largest_port s (e + 1) v f d in
        omega (arith, ltb-false largest_port (number (slice s (e + 1) f)) (number_fits largest_port s (e + 1) v f w), w.is)

    pub port-reads : (v f : ℕ) → decimal_at largest_port s (e + 1) ≡ Number v f → BeforePath s e v f
    port-reads v f d =
        let w = number_of largest_port s (e + 1) v f d in
        let in_text : f ≤ length s = omega (arith, w.end, (run_is digit? s (e + 1) inside).within) in
        record {
          digits = some (e + 1);
          some = a.some;
          host_within = a.within;
          within = in_text;
          is = numbered (slice s (e + 1) f) (omega (arith, slice-length s (e + 1) f (omega (arith, w.some)) in_text, w.some)) ∙ w.is;
          small = port-small v f d;
          quiet = or_one (ltb largest_port (number (slice s (e + 1) f))) (number_fits largest_port s (e + 1) v f w);
          reads = behind f w.end w.small;
        }

    -- an empty port is 80
    pub port-empty : decimal_at largest_port s (e + 1) ≡ Missing → BeforePath s e 80 (e + 1)
    port-empty d = record {
      digits = some (e + 1);
      some = a.some;
      host_within = a.within;
      within = inside;
      is = ap port_text (slice-none s (e + 1));
      small = omega arith;
      quiet = or_one (ltb largest_port (number (slice s (e + 1) (e + 1)))) (ap (λ (t : List ℕ). ltb largest_port (number t)) (slice-none s (e + 1)));
      reads = behind (e + 1) (sym (missing_of largest_port s (e + 1) d)) (λ n x y. absurd (omega arith));
    }

-- ## The values

abbrev read_as : (e n : ℕ) (qs : List (Part Name)) → Url
read_as e n qs = record {
  host = record { start = 7; length = e - 7 };
  port = n;
  path = place (named is_path qs);
  query = place (named is_query qs);
}

module _ (s : List ℕ) (e n i : ℕ) (a : BeforePath s e n i) where
  host-length : length (slice s 7 e) ≡ e - 7
  host-length = slice-length s 7 e (omega (arith, a.some)) a.host_within

  headed : (d : Option ℕ) (qs : List (Part Name)) → port_read s d i ≡ n → named is_port qs ≡ none → G.value (heads s e d i ++ qs) ≡ read_as e n qs
  headed none qs f g = rw (g, f, host-length)
  headed (some j) qs f g = rw (f, host-length)

  -- ## The path

  pub path-absent : length s ≤ i → header rules s ≡ value (read_as e n [])
  path-absent h =
      a.reads ∙ same-judge rules s (heads s e a.digits i) path_part empty i (λ at. absurd (omega arith)) refl refl
      ∙ ends-well rules s (heads s e a.digits i) i h
      ∙ ap value (ap G.value (sym (append-nil (heads s e a.digits i))) ∙ headed a.digits [] a.is refl)

  module _ (at : i < length s) where
    pub path-not : (get_or s i 0 ≡ 47 → ⊥) → header rules s ≡ refused 1 i
    path-not h = a.reads ∙ stops_at rules s (heads s e a.digits i) path_part i at (other (get_or s i 0) h)
      where
        other : (b : ℕ) → (b ≡ 47 → ⊥) → deriv path_part i b ≡ void
        other b f = rw (ne_eqb b 47 f)

    module _ (h : get_or s i 0 ≡ 47) where
      abbrev begun : Grammar Name
      begun = rest (path_at s i (i + 1)) (text_of PATH) ⨾ query_part

      slash : (b : ℕ) → b ≡ 47 → slice s i (i + 1) ≡ b ∷ [] → deriv path_part i b ≡ begun
      slash b f g = rw (f, g, f)

      path-quiet : (k : ℕ) (t : List ℕ) → rules.limit k (heads s e a.digits i ++ record { label = path; start = i; text = t } ∷ []) ≡ none
      path-quiet k t =
          quiet-limit k (heads s e a.digits i ++ record { label = path; start = i; text = t } ∷ [])
          (other-above largest_port (heads s e a.digits i) (record { label = path; start = i; text = t }) refl ∙ a.quiet)

      slashed : header rules s ≡ from rules s (ahead (heads s e a.digits i) begun) (i + 1)
      slashed =
          a.reads ∙ goes_on rules s (heads s e a.digits i) path_part i begun at (slash (get_or s i 0) h (slice-one s i at)) refl (path-quiet i (slice s i (i + 1)))

      pub path-breaks : (q : Refusal) → Found path? s (i + 1) (Err q) → header rules s ≡ refused (R.number_of q) (R.place_of q)
      path-breaks q w =
          slashed ∙ text-breaks rules s (heads s e a.digits i) path i PATH path_no_percent query_part refl refl path-apart percent_apart path-quiet (i + 1) q (omega arith) w

      pub path-reads : (f : ℕ) → Found path? s (i + 1) (Ok f) → BeforeQuery s e n i f
      path-reads f w = record {
        before = a;
        some = omega (arith, stretch_up path? s (i + 1) f w.0);
        within = w.1;
        reads = slashed ∙ text-ends rules s (heads s e a.digits i) path i PATH path_no_percent query_part refl refl path-apart percent_apart path-quiet (i + 1) f (omega arith) w;
      }

-- ## The query

module _ (s : List ℕ) (e n i f : ℕ) (a : BeforeQuery s e n i f) where
  abbrev paths : List (Part Name)
  paths = heads s e a.before.digits i ++ path_at s i f ∷ []

  path-length : length (slice s i f) ≡ f - i
  path-length = slice-length s i f (omega (arith, a.some)) a.within

  valued : (qs : List (Part Name)) → named is_port qs ≡ none → named is_path qs ≡ none → G.value (paths ++ qs)
      ≡ record {
        host = record { start = 7; length = e - 7 };
        port = n;
        path = Some (record { start = i; length = f - i });
        query = place (named is_query qs);
      }
  valued qs g h =
      ap G.value (append_assoc (heads s e a.before.digits i) (path_at s i f ∷ []) qs)
      ∙ headed s e n i a.before a.before.digits (path_at s i f ∷ qs) a.before.is g ∙ rw path-length

  pub query-absent : length s ≤ f → header rules s
      ≡ value (record { host = record { start = 7; length = e - 7 }; port = n; path = Some (record { start = i; length = f - i }); query = None })
  query-absent h =
      a.reads ∙ same-judge rules s paths query_part empty f (λ at. absurd (omega arith)) refl refl
      ∙ ends-well rules s paths f h
      ∙ ap value (ap G.value (sym (append-nil paths)) ∙ valued [] refl refl)

  module _ (at : f < length s) where
    pub query-not : (get_or s f 0 ≡ 63 → ⊥) → header rules s ≡ refused 1 f
    query-not h = a.reads ∙ stops_at rules s paths query_part f at (other (get_or s f 0) h)
      where
        other : (b : ℕ) → (b ≡ 63 → ⊥) → deriv query_part f b ≡ void
        other b g = rw (ne_eqb b 63 g)

    module _ (h : get_or s f 0 ≡ 63) where
      mark : (b : ℕ) → b ≡ 63 → deriv query_part f b ≡ part query (text_of QUERY)
      mark b g = rw g

      path-above : above? is_port largest_port paths ≡ false
      path-above = other-above largest_port (heads s e a.before.digits i) (path_at s i f) refl ∙ a.before.quiet

      query-quiet : (k : ℕ) (t : List ℕ) → rules.limit k (paths ++ record { label = query; start = f + 1; text = t } ∷ []) ≡ none
      query-quiet k t =
          quiet-limit k (paths ++ record { label = query; start = f + 1; text = t } ∷ [])
          (other-above largest_port paths (record { label = query; start = f + 1; text = t }) refl ∙ path-above)

      marked : header rules s ≡ from rules s (ahead paths (rest (record { label = query; start = f + 1; text = slice s (f + 1) (f + 1) }) (text_of QUERY))) (f + 1)
      marked =
          a.reads ∙ goes_on rules s paths query_part f (part query (text_of QUERY)) at (mark (get_or s f 0) h) refl (ap (rules.limit f) (append-nil paths) ∙ quiet-limit f paths path-above)
          ∙ part-begins rules s paths empty refl query (text_of QUERY) (f + 1)
          ∙ ap (λ (t : List ℕ). from rules s (ahead paths (rest (record { label = query; start = f + 1; text = t }) (text_of QUERY))) (f + 1)) (sym (slice-none s (f + 1)))

      pub query-breaks : (q : Refusal) → Found query? s (f + 1) (Err q) → header rules s ≡ refused (R.number_of q) (R.place_of q)
      query-breaks q w =
          marked ∙ text-breaks rules s paths query (f + 1) QUERY query_no_percent empty refl refl (λ j b d. refl) (λ j b d. refl) query-quiet (f + 1) q (omega arith) w

      module _ (q : ℕ) (w : Found query? s (f + 1) (Ok q)) where
        abbrev queries : List (Part Name)
        queries = paths ++ record { label = query; start = f + 1; text = slice s (f + 1) q } ∷ []

        ended : header rules s ≡ from rules s (ahead queries empty) q
        ended = marked ∙ text-ends rules s paths query (f + 1) QUERY query_no_percent empty refl refl (λ j b d. refl) (λ j b d. refl) query-quiet (f + 1) q (omega arith) w

        pub query-goes-on : q < length s → header rules s ≡ refused 1 q
        query-goes-on g = ended ∙ goes_too_far rules s queries q g

        pub query-up : f + 1 ≤ q
        query-up = stretch_up query? s (f + 1) q w.0

        query-length : length (slice s (f + 1) q) ≡ q - (f + 1)
        query-length = slice-length s (f + 1) q query-up w.1

        pub query-reads : length s ≤ q → header rules s
            ≡ value (record {
              host = record { start = 7; length = e - 7 };
              port = n;
              path = Some (record { start = i; length = f - i });
              query = Some (record { start = f + 1; length = q - (f + 1) });
            })
        query-reads g =
            ended ∙ ends-well rules s queries q g
            ∙ ap value (valued (record { label = query; start = f + 1; text = slice s (f + 1) q } ∷ []) refl refl ∙ rw query-length)
