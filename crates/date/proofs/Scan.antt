-- The reader's scans against the grammar: the name of the day, the forms behind it, the month and what follows it. The present year is y.
use Prim.Native.Nat.{ℕ, zero, suc, ◌+◌, ◌-◌, ◌≤◌, ◌<◌}
use native.Mathlib.Omega.{arith}
use borrow.Author.Tests.{ltb-true, ltb-false, lt-ltb, eqb-true, ne_eqb}
use mathlib.Core.Path.{◌≡◌, refl, sym, ap, ap₂, subst, ◌∙◌}
use mathlib.Core.Bool.{Bool, true, false, cond, ◌&&◌, ◌||◌, not, true≢false}
use mathlib.Core.List.{List, [], ◌∷◌, ◌++◌}
use mathlib.Core.Option.{Option, none, some}
use lib.Dec.{T, ltb, eqb}
use lib.ListN.{length, get_or, drop, length-drop}
use Rattle.grammar.specs.Grammar.{Part, Grammar, void, empty, byte, ◌⨾◌, ◌∣◌, part, just, lit, bytes?, T-left, T-right}
use Rattle.grammar.specs.helpers.Derivative.{live, nullable, deriv, ends, then, seq, alt}
use Rattle.grammar.specs.Reading.{refused}
use Rattle.grammar.specs.helpers.Judge.{held, header, finished}
use Rattle.grammar.specs.helpers.Checks.{ahead}
use Rattle.grammar.specs.helpers.Scans.{slice, from}
use Rattle.grammar.proofs.Loop.{header-short}
use Rattle.grammar.proofs.Shapes.{alt-void}
use Rattle.grammar.proofs.Scans.{slice-none, slice_snoc, same-judge, part-begins, part-ends, first-is, first-not, first-none, ends-well, goes_too_far}
use Rattle.octets.specs.Bytes.{digit?}
use Rattle.octets.specs.Numbers.{number}
use Rattle.calendar.specs.declared.Fields.{Fields}
use Rattle.date.specs.declared.Places.{Places}
use Rattle.date.specs.declared.YearPlace.TheVariants.{Two, Four}
use Rattle.std.specs.Prelude.{Result, Ok, Err}
use Rattle.date.specs.Years.{PresentYear}
use Rattle.date.specs.Grammar.{Name, weekday, month, day, year, short-year, hour, minute, second, months, rfc1123, rfc850, asctime, forms, rules}
use Rattle.grammar.specs.helpers.Words.{begins}
use Rattle.date.specs.Names.{month_names, day_names, first_name}
use Rattle.date.specs.helpers.Scan.{tail_of, Inside, rest_of, rest_bytes, rfc850_head, day_part, Goes, AfterDay, AtRfc850, month_then, judged, Ending, fields_from}
use Rattle.grammar.specs.helpers.Words.{larger}
use Rattle.octets.specs.helpers.Shapes.{fitting}
use Rattle.date.specs.helpers.Shapes.{standing, longest}
use Rattle.grammar.specs.helpers.Words.{common}
use Rattle.grammar.proofs.Words.{Word, choice, find, nearest, proper, no_tail, seq_tail, word-found, none_found}
use Rattle.scans.proofs.Lines.{Item, is, num, zeros, line, shape, sound, over, parts, Lined, line_reads}
use Rattle.date.proofs.Tables.{fit_bound, fit-inside, two-slice}

blank_digit : digit? 32 ≡ false
unfolding digit?
blank_digit = refl

quiet : (y n : ℕ) (ps : List (Part Name)) → (rules y).limit n ps ≡ none
quiet y n ps = refl

-- ## Tables of names as words

-- no byte of a table stands for a digit, and all are bytes
abbrev plain_bytes : List ℕ → Bool
plain_bytes [] = true
plain_bytes (a ∷ xs) = not (eqb a 48) && (ltb a 256 && plain_bytes xs)

T_and : (a b : Bool) → T a → T b → T (a && b)
T_and true b p q = q
T_and false b p q = p

T_not : (a : Bool) → T (not a) → a ≡ false
T_not true h = absurd h
T_not false h = refl

is_byte : (a : ℕ) (xs : List ℕ) → T (plain_bytes (a ∷ xs)) → T (ltb a 256)
is_byte a xs t = T-left (ltb a 256) (plain_bytes xs) (T-right (not (eqb a 48)) (ltb a 256 && plain_bytes xs) t)

others : (a : ℕ) (xs : List ℕ) → T (plain_bytes (a ∷ xs)) → T (plain_bytes xs)
others a xs t = T-right (ltb a 256) (plain_bytes xs) (T-right (not (eqb a 48)) (ltb a 256 && plain_bytes xs) t)

no_digit : (a : ℕ) (xs : List ℕ) → T (plain_bytes (a ∷ xs)) → eqb a 48 ≡ false
no_digit a xs t = T_not (eqb a 48) (T-left (not (eqb a 48)) (ltb a 256 && plain_bytes xs) t)

three_bytes : (a b c : ℕ) (xs : List ℕ) → T (plain_bytes (a ∷ b ∷ c ∷ xs)) → T (bytes? (a ∷ b ∷ c ∷ []))
three_bytes a b c xs t =
    T_and (ltb a 256) (bytes? (b ∷ c ∷ [])) (is_byte a (b ∷ c ∷ xs) t)
    (T_and (ltb b 256) (bytes? (c ∷ [])) (is_byte b (c ∷ xs) (others a (b ∷ c ∷ xs) t))
    (T_and (ltb c 256) true (is_byte c xs (others b (c ∷ xs) (others a (b ∷ c ∷ xs) t))) tt))

-- the names of a table, the first of which has the place k, each with what follows it
abbrev words : (f : ℕ → Grammar Name) (names : List ℕ) → T (plain_bytes names) → ℕ → List (Word Name)
words f [] t k = []
words f (a ∷ []) t k = []
words f (a ∷ b ∷ []) t k = []
words f (a ∷ b ∷ c ∷ xs) t k =
    record { text = a ∷ b ∷ c ∷ []; are = three_bytes a b c xs t; next = f k } ∷ words f xs (others c xs (others b (c ∷ xs) (others a (b ∷ c ∷ xs) t))) (suc k)

-- what follows the name with that number
abbrev mapped : (ℕ → Grammar Name) → ℕ → Option (Grammar Name)
mapped f zero = none
mapped f (suc k) = some (f k)

module _ (f : ℕ → Grammar Name) (t : List ℕ) where
  find-names : (names : List ℕ) (p : T (plain_bytes names)) (k : ℕ) → find (words f names p k) t ≡ mapped f (first_name (suc k) names t)
  unfolding first_name
  find-names [] p k = refl
  find-names (a ∷ []) p k = refl
  find-names (a ∷ b ∷ []) p k = refl
  find-names (a ∷ b ∷ c ∷ xs) p k =
      go (begins (a ∷ b ∷ c ∷ []) t) _ _ (find-names xs (others c xs (others b (c ∷ xs) (others a (b ∷ c ∷ xs) p))) (suc k))
    where
      go : (x : Bool) (o : Option (Grammar Name)) (m : ℕ) → o ≡ mapped f m → cond x (some (f k)) o ≡ mapped f (cond x (suc k) m)
      go true o m e = refl
      go false o m e = e

  plain_fits : (w t : List ℕ) → T (plain_bytes w) → common w t ≡ fitting w t
  plain_fits [] t p = refl
  plain_fits (a ∷ w) [] p = refl
  plain_fits (a ∷ w) (b ∷ t) p = rw (no_digit a w p) (ap (λ (n : ℕ). cond (eqb b a) (suc n) 0) (plain_fits w t (others a w p)))

  three_plain : (a b c : ℕ) (xs : List ℕ) → T (plain_bytes (a ∷ b ∷ c ∷ xs)) → T (plain_bytes (a ∷ b ∷ c ∷ []))
  three_plain a b c xs p =
      let q = others a (b ∷ c ∷ xs) p in
      let r = others b (c ∷ xs) q in
      again a (b ∷ c ∷ xs) (b ∷ c ∷ []) p (again b (c ∷ xs) (c ∷ []) q (again c xs [] r tt))
    where
      again : (a : ℕ) (xs ys : List ℕ) → T (plain_bytes (a ∷ xs)) → T (plain_bytes ys) → T (plain_bytes (a ∷ ys))
      again a xs ys p q =
          T_and (not (eqb a 48)) (ltb a 256 && plain_bytes ys) (T-left (not (eqb a 48)) (ltb a 256 && plain_bytes xs) p) (T_and (ltb a 256) (plain_bytes ys) (is_byte a xs p) q)

  nearest-names : (names : List ℕ) (p : T (plain_bytes names)) (k : ℕ) → nearest (words f names p k) t ≡ longest names t
  nearest-names [] p k = refl
  nearest-names (a ∷ []) p k = refl
  nearest-names (a ∷ b ∷ []) p k = refl
  nearest-names (a ∷ b ∷ c ∷ xs) p k =
      ap₂ larger (plain_fits (a ∷ b ∷ c ∷ []) t (three_plain a b c xs p)) (nearest-names xs (others c xs (others b (c ∷ xs) (others a (b ∷ c ∷ xs) p))) (suc k))

-- ## Months

abbrev named_month : ℕ → Grammar Name
named_month k = part (month (suc k)) empty

abbrev month_words : List (Word Name)
month_words = words named_month month_names tt 0

abbrev named_day : ℕ → Grammar Name
named_day k = part (weekday k) empty ⨾ forms (rest_of k) (rest_bytes k)

abbrev day_words : List (Word Name)
day_words = words named_day day_names tt 0

-- the last six months, and all
later-proper : proper 3 (words named_month (drop 18 month_names) tt 6)
later-proper = (refl, refl, refl, tt, (refl, refl, refl, tt, (refl, refl, refl, tt, (refl, refl, refl, tt, (refl, refl, refl, tt, (refl, refl, refl, tt, tt))))))

months-proper : proper 3 month_words
months-proper = (refl, refl, refl, tt, (refl, refl, refl, tt, (refl, refl, refl, tt, (refl, refl, refl, tt, (refl, refl, refl, tt, (refl, refl, refl, tt, later-proper))))))

days-proper : proper 3 day_words
days-proper = (refl, refl, refl, tt, (refl, refl, refl, tt, (refl, refl, refl, tt, (refl, refl, refl, tt, (refl, refl, refl, tt, (refl, refl, refl, tt, (refl, refl, refl, tt, tt)))))))

module _ (y : ℕ) (s : List ℕ) (cs : List (Part Name)) where
  -- an empty part says which name it was
  marked : (l : Name) (g : Grammar Name) → live g ≡ true → (i : ℕ)
      → from (rules y) s (ahead cs (then (part l empty) g)) i ≡ from (rules y) s (ahead (cs ++ record { label = l; start = i; text = [] } ∷ []) g) i
  marked l g v i = part-begins (rules y) s cs g v l empty i ∙ part-ends (rules y) s cs g v (record { label = l; start = i; text = [] }) empty i (λ at. refl) refl refl

  module _ (g : Grammar Name) (v : live g ≡ true) (firm : (x : Grammar Name) → then x g ≡ x ⨾ g) (i : ℕ) where
    month-found : (k : ℕ) → first_name 1 month_names (drop i s) ≡ suc k
        → from (rules y) s (ahead cs (months ⨾ g)) i ≡ from (rules y) s (ahead (cs ++ record { label = month (suc k); start = i + 3; text = [] } ∷ []) g) (i + 3)
    month-found k e =
        ap (λ (x : Grammar Name). from (rules y) s (ahead cs x) i) (sym (firm months))
        ∙ word-found (rules y) s (quiet y) cs (λ x. seq x g) (seq_tail g v firm) 3 month_words months-proper i (named_month k)
        (find-names named_month (drop i s) month_names tt 0 ∙ ap (mapped named_month) e)
        ∙ marked (month (suc k)) g v (i + 3)

    month_missed : first_name 1 month_names (drop i s) ≡ 0 → from (rules y) s (ahead cs (months ⨾ g)) i ≡ refused 1 (i + longest month_names (drop i s))
    month_missed e =
        ap (λ (x : Grammar Name). from (rules y) s (ahead cs x) i) (sym (firm months))
        ∙ missed ∙ ap (λ (n : ℕ). refused 1 (i + n)) (nearest-names named_month (drop i s) month_names tt 0)
      where
        missed : from (rules y) s (ahead cs (seq (choice month_words) g)) i ≡ refused 1 (i + nearest month_words (drop i s))
        missed =
            none_found (rules y) s (quiet y) cs (λ x. seq x g) (seq_tail g v firm) 3 month_words months-proper tt i
            (find-names named_month (drop i s) month_names tt 0 ∙ ap (mapped named_month) e)

over-length : (xs : List (Item Name)) (i : ℕ) → over xs i ≡ i + length (shape xs)
over-length [] i = omega arith
over-length (is b p ∷ xs) i = over-length xs (i + 1) ∙ omega arith
over-length (num l n ∷ xs) i = over-length xs (i + suc n) ∙ sum (shape xs) (zeros-long (suc n) (shape xs))
  where
    zeros-long : (n : ℕ) (w : List ℕ) → length (zeros n w) ≡ n + length w
    zeros-long zero w = omega arith
    zeros-long (suc n) w = ap suc (zeros-long n w) ∙ omega arith

    sum : (w : List ℕ) → length (zeros (suc n) w) ≡ suc n + length w → i + suc n + length w ≡ i + length (zeros (suc n) w)
    sum w e = omega arith

-- a month at `at`, and behind it the line xs, or a grammar that is the same there
module _ (y : ℕ) (s : List ℕ) (cs : List (Part Name)) (xs : List (Item Name)) (good : T (sound xs)) (some-shape : 0 < length (shape xs)) (g : Grammar Name) (v : live g ≡ true)
    (firm : (x : Grammar Name) → then x g ≡ x ⨾ g) (at : ℕ)
    (same : (ds : List (Part Name)) → from (rules y) s (ahead ds g) (at + 3) ≡ from (rules y) s (ahead ds (line xs empty)) (at + 3)) where
  abbrev n : ℕ
  n = fitting (shape xs) (drop (at + 3) s)

  abbrev month_part : ℕ → Part Name
  month_part m = record { label = month m; start = at + 3; text = [] }

  abbrev pub Reads : Result ℕ ℕ → Type 0
  Reads (Err p) = from (rules y) s (ahead cs (months ⨾ g)) at ≡ refused 1 p
  Reads (Ok m) = (from (rules y) s (ahead cs (months ⨾ g)) at ≡ finished (rules y) ((cs ++ month_part m ∷ []) ++ parts s xs (at + 3)))
      × (length s ≡ at + 3 + length (shape xs))

  module _ (k : ℕ) (h : first_name 1 month_names (drop at s) ≡ suc k) where
    abbrev ds : List (Part Name)
    ds = cs ++ month_part (suc k) ∷ []

    lined : Lined (rules y) s (quiet y) (cs ++ month_part (suc k) ∷ []) xs empty (at + 3)
    lined = line_reads (rules y) s (quiet y) xs empty good refl refl ds (at + 3)

    behind-month : from (rules y) s (ahead cs (months ⨾ g)) at ≡ from (rules y) s (ahead (cs ++ month_part (suc k) ∷ []) (line xs empty)) (at + 3)
    behind-month = month-found y s cs g v firm at k h ∙ same ds

    by_end : fitting (shape xs) (drop (at + 3) s) ≡ length (shape xs) → (t : Bool) → ltb (at + 3 + n) (length s) ≡ t
        → Reads (cond t (Err (at + 3 + n)) (Ok (suc k)))
    by_end e true f =
        let q : over xs (at + 3) ≡ at + 3 + n = over-length xs (at + 3) ∙ ap (λ (m : ℕ). at + 3 + m) (sym e) in
        behind-month ∙ lined.0 e
        ∙ goes_too_far (rules y) s (ds ++ parts s xs (at + 3)) (over xs (at + 3)) (omega (arith, ltb-true (at + 3 + n) (length s) f))
        ∙ ap (refused 1) q
    by_end e false f =
        let q = over-length xs (at + 3) in
        let low = ltb-false (at + 3 + n) (length s) f in (
          behind-month ∙ lined.0 e ∙ ends-well (rules y) s (ds ++ parts s xs (at + 3)) (over xs (at + 3)) (omega arith),
          omega (arith, fit-inside (shape xs) (drop (at + 3) s), length-drop (at + 3) s),
        )

    by_shape : (t : Bool) → ltb n (length (shape xs)) ≡ t
        → Reads (cond t (Err (at + 3 + n)) (cond (ltb (at + 3 + n) (length s)) (Err (at + 3 + n)) (Ok (suc k))))
    by_shape true f = behind-month ∙ lined.1 (ltb-true n (length (shape xs)) f)
    by_shape false f =
        by_end (omega (arith, ltb-false n (length (shape xs)) f, fit_bound (shape xs) (drop (at + 3) s))) (ltb (at + 3 + n) (length s)) refl

  pub tail_reads : Reads (month_then (shape xs) s at)
  unfolding month_then
  tail_reads = by_month (first_name 1 month_names (drop at s)) refl
    where
      by_month : (m : ℕ) → first_name 1 month_names (drop at s) ≡ m → Reads (tail_of s at (length (shape xs)) m n)
      by_month zero e = month_missed y s cs g v firm at e
      by_month (suc k) e =
          subst (λ (t : Bool). Reads (cond t (Err (at + longest month_names (drop at s))) (found k))) (sym (ne_eqb (suc k) 0 (λ z. omega arith)))
          (by_shape k e (ltb n (length (shape xs))) refl)
        where
          found : ℕ → Result ℕ ℕ
          found k = cond (ltb n (length (shape xs))) (Err (at + 3 + n)) (cond (ltb (at + 3 + n) (length s)) (Err (at + 3 + n)) (Ok (suc k)))

-- ## The forms: a head before the month, and a tail behind it

-- the parts of a date with the month m, whose head is hx and whose tail is tx
abbrev form_parts : (s : List ℕ) (k : ℕ) (hx tx : List (Item Name)) (m : ℕ) → List (Part Name)
form_parts s k hx tx m =
    ((day_part k ∷ parts s hx 3) ++ record { label = month m; start = over hx 3 + 3; text = [] } ∷ []) ++ parts s tx (over hx 3 + 3)

module _ (y : ℕ) (s : List ℕ) (k : ℕ) (hx : List (Item Name)) (hs : T (sound hx)) (tx : List (Item Name)) (ts : T (sound tx)) (some-tail : 0 < length (shape tx))
    (g : Grammar Name) (v : live g ≡ true) (c : held g ≡ []) (firm : (x : Grammar Name) → then x g ≡ x ⨾ g)
    (same : (ds : List (Part Name)) → from (rules y) s (ahead ds g) (over hx 3 + 3) ≡ from (rules y) s (ahead ds (line tx empty)) (over hx 3 + 3))
    (reads : header (rules y) s ≡ from (rules y) s (ahead (day_part k ∷ []) (line hx (months ⨾ g))) 3) where
  head-stops : fitting (shape hx) (drop 3 s) < length (shape hx) → header (rules y) s ≡ refused 1 (3 + fitting (shape hx) (drop 3 s))
  head-stops h = reads ∙ (line_reads (rules y) s (quiet y) hx (months ⨾ g) hs v c (day_part k ∷ []) 3).1 h

  module _ (fit : fitting (shape hx) (drop 3 s) ≡ length (shape hx)) where
    behind : header (rules y) s ≡ from (rules y) s (ahead (day_part k ∷ parts s hx 3) (months ⨾ g)) (over hx 3)
    behind = reads ∙ (line_reads (rules y) s (quiet y) hx (months ⨾ g) hs v c (day_part k ∷ []) 3).0 fit

    abbrev Found : Result ℕ ℕ → Type 0
    Found = Reads y s (day_part k ∷ parts s hx 3) tx ts some-tail g v firm (over hx 3) same

    found : Found (month_then (shape tx) s (over hx 3))
    found = tail_reads y s (day_part k ∷ parts s hx 3) tx ts some-tail g v firm (over hx 3) same

    stops_at : (q : ℕ) → month_then (shape tx) s (over hx 3) ≡ Err q → header (rules y) s ≡ refused 1 q
    stops_at q e = behind ∙ subst Found e found

    ends_as : (m : ℕ) → month_then (shape tx) s (over hx 3) ≡ Ok m
        → (header (rules y) s ≡ finished (rules y) (form_parts s k hx tx m)) × (length s ≡ over hx 3 + 3 + length (shape tx))
    ends_as m e =
        let r = subst Found e found in
        (behind ∙ r.0, r.1)

    form-ending : PresentYear y → (p : Places) → over hx 3 ≡ p.month → p.month + length (shape tx) < 8192
        → ((m : ℕ) → length s ≡ over hx 3 + 3 + length (shape tx) → finished (rules y) (form_parts s k hx tx m) ≡ judged k (fields_from y s m p))
        → (length s ≡ over hx 3 + 3 + length (shape tx) → Inside s p) → Ending y s k (shape tx) p
    form-ending within p at room says inside = record {
      within = within;
      room = room;
      stops = λ q e. stops_at q (rw at e);
      ends = λ m e. let r = ends_as m (rw at e) in r.0 ∙ says m r.1;
      inside = λ m e. inside (ends_as m (rw at e)).1;
    }

-- 00:00:00, and then xs
abbrev clock : List (Item Name) → List (Item Name)
clock xs = num hour 1 ∷ is 58 tt ∷ num minute 1 ∷ is 58 tt ∷ num second 1 ∷ xs

abbrev gmt_items : List (Item Name)
gmt_items = is 32 tt ∷ is 71 tt ∷ is 77 tt ∷ is 84 tt ∷ []

-- RFC 1123
abbrev rfc1123_head : List (Item Name)
rfc1123_head = is 44 tt ∷ is 32 tt ∷ num day 1 ∷ is 32 tt ∷ []

abbrev rfc1123_tail : List (Item Name)
rfc1123_tail = is 32 tt ∷ num year 3 ∷ is 32 tt ∷ clock gmt_items

abbrev pub rfc1123_places : Places
rfc1123_places = record { month = 8; year = Four 12; day = 5; time = 17 }

module _ (y : ℕ) (s : List ℕ) (k : ℕ) (a : Goes y rfc1123 s k) where
  rfc1123-ending : fitting (shape rfc1123_head) (drop 3 s) ≡ 5 → Ending y s k (shape rfc1123_tail) rfc1123_places
  unfolding judged
  rfc1123-ending f =
      form-ending y s k rfc1123_head tt rfc1123_tail tt (omega arith) (line rfc1123_tail empty) refl refl (λ x. refl) (λ ds. refl) a.reads f a.within rfc1123_places
      refl (omega arith) (λ m l. refl) (λ l. (omega arith, omega arith, omega arith))

-- RFC 850: the rest of a long name before the items xs
abbrev rest_items : (l : List ℕ) → T (bytes? l) → List (Item Name) → List (Item Name)
rest_items [] p xs = xs
rest_items (b ∷ l) p xs = is b (T-left (ltb b 256) (bytes? l) p) ∷ rest_items l (T-right (ltb b 256) (bytes? l) p) xs

abbrev rfc850_items : List (Item Name)
rfc850_items = is 44 tt ∷ is 32 tt ∷ num day 1 ∷ is 45 tt ∷ []

abbrev rfc850_tail : List (Item Name)
rfc850_tail = is 45 tt ∷ num short-year 1 ∷ is 32 tt ∷ clock gmt_items

abbrev pub rfc850_places : ℕ → Places
rfc850_places at = record { month = at; year = Two (at + 4); day = at - 3; time = at + 7 }

abbrev Rfc850Reads : ℕ → List ℕ → ℕ → Type 0
Rfc850Reads y s k =
    (fitting (rfc850_head k) (drop 3 s) < length (rfc850_head k) → header (rules y) s ≡ refused 1 (3 + fitting (rfc850_head k) (drop 3 s)))
    × (fitting (rfc850_head k) (drop 3 s) ≡ length (rfc850_head k) → Ending y s k (shape rfc850_tail) (rfc850_places (3 + length (rfc850_head k))))

-- that the line has the head's shape and places holds by computing, for each day
module _ (y : ℕ) (s : List ℕ) (k : ℕ) where
  abbrev hx : List (Item Name)
  hx = rest_items (rest_of k) (rest_bytes k) rfc850_items

  abbrev at : ℕ
  at = 3 + length (rfc850_head k)

  rfc850-line : PresentYear y → T (sound hx) → header (rules y) s ≡ from (rules y) s (ahead (day_part k ∷ []) (line hx (months ⨾ line rfc850_tail empty))) 3
      → shape hx ≡ rfc850_head k → over hx 3 ≡ at → length (rfc850_head k) ≤ 11
      → ((m : ℕ) → finished (rules y) (form_parts s k hx rfc850_tail m) ≡ judged k (fields_from y s m (rfc850_places at))) → Rfc850Reads y s k
  rfc850-line within hs reads Shape-is at-is low says = (
    λ h. rw Shape-is at (head-stops y s k hx hs rfc850_tail tt (omega arith) (line rfc850_tail empty) refl refl (λ x. refl) (λ ds. refl) reads (rw Shape-is h)),
    λ f. form-ending y s k hx hs rfc850_tail tt (omega arith) (line rfc850_tail empty) refl refl (λ x. refl) (λ ds. refl) reads (rw Shape-is f) within (rfc850_places at)
        at-is (omega arith) (λ m l. says m) (λ l. (omega arith, omega arith, omega arith)),
  )

rfc850-reads : (y : ℕ) (s : List ℕ) (k : ℕ) → AtRfc850 y s k → Rfc850Reads y s k
unfolding judged
rfc850-reads y s zero a = rfc850-line y s zero a.within tt a.reads refl refl (omega arith) (λ m. refl)
rfc850-reads y s (suc zero) a = rfc850-line y s (suc zero) a.within tt a.reads refl refl (omega arith) (λ m. refl)
rfc850-reads y s (suc (suc zero)) a = rfc850-line y s (suc (suc zero)) a.within tt a.reads refl refl (omega arith) (λ m. refl)
rfc850-reads y s (suc (suc (suc zero))) a = rfc850-line y s (suc (suc (suc zero))) a.within tt a.reads refl refl (omega arith) (λ m. refl)
rfc850-reads y s (suc (suc (suc (suc zero)))) a = rfc850-line y s (suc (suc (suc (suc zero)))) a.within tt a.reads refl refl (omega arith) (λ m. refl)
rfc850-reads y s (suc (suc (suc (suc (suc zero))))) a = rfc850-line y s (suc (suc (suc (suc (suc zero))))) a.within tt a.reads refl refl (omega arith) (λ m. refl)
rfc850-reads y s (suc (suc (suc (suc (suc (suc j)))))) a = rfc850-line y s (suc (suc (suc (suc (suc (suc j)))))) a.within tt a.reads refl refl (omega arith) (λ m. refl)

-- asctime
abbrev year_end : List (Item Name)
year_end = is 32 tt ∷ num year 3 ∷ []

abbrev two_tail : List (Item Name)
two_tail = is 32 tt ∷ num day 1 ∷ is 32 tt ∷ clock year_end

abbrev one_tail : List (Item Name)
one_tail = is 32 tt ∷ is 32 tt ∷ num day 0 ∷ is 32 tt ∷ clock year_end

abbrev two_day : Grammar Name
two_day = line (num day 1 ∷ is 32 tt ∷ clock year_end) empty

abbrev one_day : Grammar Name
one_day = line (is 32 tt ∷ num day 0 ∷ is 32 tt ∷ clock year_end) empty

abbrev pub asctime_places : Places
asctime_places = record { month = 4; year = Four 20; day = 8; time = 11 }

module _ (s : List ℕ) where
  standing-is : (i b : ℕ) → standing s i b ≡ true → (i < length s) × (get_or s i 0 ≡ b)
  standing-is i b e = go (ltb i (length s)) refl e
    where
      go : (t : Bool) → ltb i (length s) ≡ t → cond t (eqb (get_or s i 0) b) false ≡ true → (i < length s) × (get_or s i 0 ≡ b)
      go true f e = (ltb-true i (length s) f, eqb-true (get_or s i 0) b e)
      go false f e = absurd (true≢false (sym e))

  standing-not : (i b : ℕ) → standing s i b ≡ false → i < length s → eqb (get_or s i 0) b ≡ false
  standing-not i b e at = rw (lt-ltb i (length s) at) at e

module _ (y : ℕ) (s : List ℕ) where
  -- a byte leads to grammars that are judged alike
  same-behind : (ds : List (Part Name)) (b : ℕ) (p : T (ltb b 256)) (g h : Grammar Name) → live g ≡ true → live h ≡ true → (i : ℕ)
      → from (rules y) s (ahead ds g) (i + 1) ≡ from (rules y) s (ahead ds h) (i + 1) → from (rules y) s (ahead ds (byte (just b p) ⨾ g)) i ≡ from (rules y) s (ahead ds (byte (just b p) ⨾ h)) i
  same-behind ds b p g h v w i e = go (ltb i (length s)) refl
    where
      go : (t : Bool) → ltb i (length s) ≡ t → from (rules y) s (ahead ds (byte (just b p) ⨾ g)) i ≡ from (rules y) s (ahead ds (byte (just b p) ⨾ h)) i
      go false f = first-none (rules y) s ds (just b p) g v i (ltb-false i (length s) f) ∙ sym (first-none (rules y) s ds (just b p) h w i (ltb-false i (length s) f))
      go true f = is_it (eqb (get_or s i 0) b) refl
        where
          is_it : (t : Bool) → eqb (get_or s i 0) b ≡ t → from (rules y) s (ahead ds (byte (just b p) ⨾ g)) i ≡ from (rules y) s (ahead ds (byte (just b p) ⨾ h)) i
          is_it true q =
              first-is (rules y) s ds (just b p) g v i (ltb-true i (length s) f) q refl ∙ e ∙ sym (first-is (rules y) s ds (just b p) h w i (ltb-true i (length s) f) q refl)
          is_it false q = first-not (rules y) s ds (just b p) g v i (ltb-true i (length s) f) q ∙ sym (first-not (rules y) s ds (just b p) h w i (ltb-true i (length s) f) q)

  blank-day : standing s 8 32 ≡ true → (ds : List (Part Name)) → from (rules y) s (ahead ds (two_day ∣ one_day)) 8 ≡ from (rules y) s (ahead ds one_day) 8
  blank-day e ds = same-judge (rules y) s ds (two_day ∣ one_day) one_day 8 (λ at. rw (standing-is s 8 32 e).1 blank-deriv) refl refl
    where
      blank-deriv : deriv (two_day ∣ one_day) 8 32 ≡ deriv one_day 8 32
      blank-deriv = rw blank_digit

  full-day : standing s 8 32 ≡ false → (ds : List (Part Name)) → from (rules y) s (ahead ds (two_day ∣ one_day)) 8 ≡ from (rules y) s (ahead ds two_day) 8
  full-day e ds =
      same-judge (rules y) s ds (two_day ∣ one_day) two_day 8 (λ at. rw (standing-not s 8 32 e at) (alt-void (deriv two_day 8 (get_or s 8 0)))) refl refl

-- what stands behind the month
abbrev day_and_clock : Grammar Name
day_and_clock = byte (just 32 tt) ⨾ (two_day ∣ one_day)

module _ (y : ℕ) (s : List ℕ) (k : ℕ) (a : Goes y asctime s k) where
  module _ (fit : fitting (32 ∷ []) (drop 3 s) ≡ 1) where
    two-ending : standing s 8 32 ≡ false → Ending y s k (shape two_tail) asctime_places
    unfolding judged
    two-ending full =
        form-ending y s k (is 32 tt ∷ []) tt two_tail tt (omega arith) day_and_clock refl refl (λ x. refl)
        (λ ds. same-behind y s ds 32 tt (two_day ∣ one_day) two_day refl refl 7 (full-day y s full ds)) a.reads fit a.within asctime_places
        refl (omega arith) (λ m l. refl) (λ l. (omega arith, omega arith, omega arith))

    -- a blank before the day counts as 0
    blank-number : standing s 8 32 ≡ true → length s ≡ 24 → number (slice s 9 10) ≡ number (slice s 8 10)
    blank-number blank l =
        ap number (slice_snoc s 9 9 (omega arith) (omega arith) ∙ ap (λ (t : List ℕ). t ++ (get_or s 9 0 ∷ [])) (slice-none s 9))
        ∙ sym (ap number (two-slice s 8 (omega arith)) ∙ ap (λ (b : ℕ). number (b ∷ get_or s 9 0 ∷ [])) (standing-is s 8 32 blank).1)

    abbrev with_day : ℕ → ℕ → Fields
    with_day m d = record {
      year = number (slice s 20 24);
      month = m;
      day = d;
      hour = number (slice s 11 13);
      minute = number (slice s 14 16);
      second = number (slice s 17 19);
    }

    one-ending : standing s 8 32 ≡ true → Ending y s k (shape one_tail) asctime_places
    unfolding judged
    one-ending blank =
        form-ending y s k (is 32 tt ∷ []) tt one_tail tt (omega arith) day_and_clock refl refl (λ x. refl)
        (λ ds. same-behind y s ds 32 tt (two_day ∣ one_day) one_day refl refl 7 (blank-day y s blank ds)) a.reads fit a.within asctime_places
        refl (omega arith) (λ m l. ap (λ (d : ℕ). judged k (with_day m d)) (blank-number blank l)) (λ l. (omega arith, omega arith, omega arith))

-- ## The name of the day, and which form follows it

abbrev long : ℕ → Grammar Name
long k = lit (rest_of k) (rest_bytes k) rfc850

long-shut : (k : ℕ) → (deriv (long k) 3 44 ≡ void) × (deriv (long k) 3 32 ≡ void) × (nullable (long k) ≡ false) × (ends (long k) 3 ≡ void)
long-shut zero = (refl, refl, refl, refl)
long-shut (suc zero) = (refl, refl, refl, refl)
long-shut (suc (suc zero)) = (refl, refl, refl, refl)
long-shut (suc (suc (suc zero))) = (refl, refl, refl, refl)
long-shut (suc (suc (suc (suc zero)))) = (refl, refl, refl, refl)
long-shut (suc (suc (suc (suc (suc zero))))) = (refl, refl, refl, refl)
long-shut (suc (suc (suc (suc (suc (suc j)))))) = (refl, refl, refl, refl)

module _ (y : ℕ) (s : List ℕ) (k : ℕ) (a : AfterDay y s k) where
  -- the forms go on as g does, where they agree on the byte at 3 and on the end
  to : (g : Grammar Name) → (3 < length s → deriv (forms (rest_of k) (rest_bytes k)) 3 (get_or s 3 0) ≡ deriv g 3 (get_or s 3 0))
      → nullable (forms (rest_of k) (rest_bytes k)) ≡ nullable g → ends (forms (rest_of k) (rest_bytes k)) 3 ≡ ends g 3 → Goes y g s k
  to g d n e = record { within = a.within; short = a.short; reads = a.reads ∙ same-judge (rules y) s (day_part k ∷ []) (forms (rest_of k) (rest_bytes k)) g 3 d n e }

  no_text : nullable (forms (rest_of k) (rest_bytes k)) ≡ false
  no_text = ap (λ (t : Bool). false || (t || false)) (long-shut k).2

  no_end : ends (forms (rest_of k) (rest_bytes k)) 3 ≡ void
  no_end = ap (λ (x : Grammar Name). alt void (alt x void)) (long-shut k).3

  pub goes-rfc1123 : standing s 3 44 ≡ true → Goes y rfc1123 s k
  goes-rfc1123 e = to rfc1123 (λ at. rw ((standing-is s 3 44 e).1, (long-shut k).0) (alt-void (deriv rfc1123 3 44))) no_text no_end

  pub goes-long : standing s 3 44 ≡ false → standing s 3 32 ≡ false → AtRfc850 y s k
  goes-long e f =
      to (long k) (λ at. rw (standing-not s 3 44 e at, standing-not s 3 32 f at) (alt-void (deriv (long k) 3 (get_or s 3 0))))
      (or_none (nullable (long k))) (alt-void (ends (long k) 3))
    where
      or_none : (t : Bool) → (t || false) ≡ t
      or_none true = refl
      or_none false = refl

module _ (y : ℕ) (within : PresentYear y) (s : List ℕ) (short : length s ≤ 8192) where
  pub day-found : (k : ℕ) → first_name 1 day_names (drop 0 s) ≡ suc k → AfterDay y s k
  day-found k e = record {
    within = within;
    short = short;
    reads =
        header-short (rules y) s short
        ∙ word-found (rules y) s (quiet y) [] (λ x. x) no_tail 3 day_words days-proper 0 (named_day k)
        (find-names named_day (drop 0 s) day_names tt 0 ∙ ap (mapped named_day) e)
        ∙ marked y s [] (weekday k) (forms (rest_of k) (rest_bytes k)) refl 3;
  }

  pub day_missed : first_name 1 day_names (drop 0 s) ≡ 0 → header (rules y) s ≡ refused 1 (longest day_names (drop 0 s))
  day_missed e =
      header-short (rules y) s short
      ∙ none_found (rules y) s (quiet y) [] (λ x. x) no_tail 3 day_words days-proper tt 0
      (find-names named_day (drop 0 s) day_names tt 0 ∙ ap (mapped named_day) e)
      ∙ ap (refused 1) (zero-plus (nearest day_words (drop 0 s)) ∙ nearest-names named_day (drop 0 s) day_names tt 0)
    where
      zero-plus : (n : ℕ) → 0 + n ≡ n
      zero-plus n = omega arith

-- ## The same, with the numbers that the code has found

module _ (y : ℕ) (s : List ℕ) (k : ℕ) where
  module _ (a : Goes y rfc1123 s k) (n : ℕ) (e : n ≡ fitting (shape rfc1123_head) (drop 3 s)) where
    pub rfc1123-end : 5 ≤ n → Ending y s k (shape rfc1123_tail) rfc1123_places
    rfc1123-end h = rfc1123-ending y s k a (omega (arith, fit_bound (shape rfc1123_head) (drop 3 s)))

  module _ (a : Goes y asctime s k) (n : ℕ) (e : n ≡ fitting (32 ∷ []) (drop 3 s)) where
    pub asctime-one : 1 ≤ n → standing s 8 32 ≡ true → Ending y s k (shape one_tail) asctime_places
    asctime-one h f = one-ending y s k a (omega (arith, fit_bound (32 ∷ []) (drop 3 s))) f

    pub asctime-two : 1 ≤ n → standing s 8 32 ≡ false → Ending y s k (shape two_tail) asctime_places
    asctime-two h f = two-ending y s k a (omega (arith, fit_bound (32 ∷ []) (drop 3 s))) f

  module _ (a : AtRfc850 y s k) (head : List ℕ) (is-head : head ≡ rfc850_head k) (n : ℕ) (e : n ≡ fitting head (drop 3 s)) where
    fits : n ≡ fitting (rfc850_head k) (drop 3 s)
    fits = e ∙ ap (λ (w : List ℕ). fitting w (drop 3 s)) is-head

    pub rfc850-stop : n < length head → header (rules y) s ≡ refused 1 (3 + n)
    rfc850-stop h = (rfc850-reads y s k a).0 (omega (arith, fits, ap length is-head)) ∙ ap (λ (m : ℕ). refused 1 (3 + m)) (sym fits)

    pub rfc850-end : length head ≤ n → Ending y s k (shape rfc850_tail) (rfc850_places (3 + n))
    rfc850-end h =
        let f : fitting (rfc850_head k) (drop 3 s) ≡ length (rfc850_head k) = omega (arith, fits, ap length is-head, fit_bound (rfc850_head k) (drop 3 s)) in
        subst (λ (m : ℕ). Ending y s k (shape rfc850_tail) (rfc850_places (3 + m))) (sym (fits ∙ f)) ((rfc850-reads y s k a).1 f)

pub head-short : (k : ℕ) (head : List ℕ) → head ≡ rfc850_head k → length head ≤ 11
head-short k head e = omega (arith, ap length e, short k)
  where
    short : (k : ℕ) → length (rfc850_head k) ≤ 11
    short zero = omega arith
    short (suc zero) = omega arith
    short (suc (suc zero)) = omega arith
    short (suc (suc (suc zero))) = omega arith
    short (suc (suc (suc (suc zero)))) = omega arith
    short (suc (suc (suc (suc (suc zero))))) = omega arith
    short (suc (suc (suc (suc (suc (suc j)))))) = omega arith

pub other-heads : (k : ℕ) → (k ≡ 1 → ⊥) → (k ≡ 2 → ⊥) → (k ≡ 3 → ⊥) → (k ≡ 5 → ⊥) → rfc850_head k ≡ 100 ∷ 97 ∷ 121 ∷ 44 ∷ 32 ∷ 48 ∷ 48 ∷ 45 ∷ []
other-heads zero a b c d = refl
other-heads (suc zero) a b c d = absurd (a refl)
other-heads (suc (suc zero)) a b c d = absurd (b refl)
other-heads (suc (suc (suc zero))) a b c d = absurd (c refl)
other-heads (suc (suc (suc (suc zero)))) a b c d = refl
other-heads (suc (suc (suc (suc (suc zero))))) a b c d = absurd (d refl)
other-heads (suc (suc (suc (suc (suc (suc j)))))) a b c d = refl

module _ (y : ℕ) (within : PresentYear y) (s : List ℕ) (short : length s ≤ 8192) where
  pub found-day : (n : ℕ) → n ≡ first_name 1 day_names (drop 0 s) → (n ≡ 0 → ⊥) → AfterDay y s (n - 1)
  found-day zero e h = absurd (h refl)
  found-day (suc k) e h =
      let z : k ≡ suc k - 1 = omega arith in
      subst (AfterDay y s) z (day-found y within s short k (sym e))

  pub missed_day : (n l : ℕ) → n ≡ first_name 1 day_names (drop 0 s) → n ≡ 0 → l ≡ longest day_names (drop 0 s) → header (rules y) s ≡ refused 1 l
  missed_day n l e z f = day_missed y within s short (sym e ∙ z) ∙ ap (refused 1) (sym f)
