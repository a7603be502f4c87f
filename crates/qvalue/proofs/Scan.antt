-- The reader's scans against the grammar: the first digit, the point, the digits behind it, the end.
use Prim.Native.Nat.{ℕ, ◌+◌, ◌-◌, ◌*◌, ◌≤◌, ◌<◌, min}
use native.Mathlib.Omega.{arith}
use borrow.Author.Tests.{ne_eqb, eqb-true, ltb-true, ltb-false}
use mathlib.Core.Path.{◌≡◌, refl, sym, ap, ◌∙◌}
use mathlib.Core.Bool.{Bool, true, false}
use mathlib.Core.List.{List, [], ◌∷◌, ◌++◌, append-nil, head-eq_of_cons-eq}
use lib.Dec.{eqb, ltb}
use lib.ListN.{length, get_or, drop, take, length-drop, get_or-eq_default}
use lib.Seq.{take_all, drop-cons}
use Rattle.grammar.specs.Grammar.{Class, Part, empty, byte, up_to, part, just}
use Rattle.grammar.specs.Reading.{value, refused}
use Rattle.grammar.specs.helpers.Checks.{ahead}
use Rattle.grammar.specs.helpers.Judge.{header}
use Rattle.grammar.specs.helpers.Scans.{slice, from}
use Rattle.grammar.proofs.Loop.{header-short, judge-end}
use Rattle.grammar.proofs.Scans.{Run, goes_on, stops_at, ends-well, goes_too_far}
use Rattle.grammar.proofs.Repeats.{run_short, run-cut, part-up-to}
use Rattle.octets.specs.Bytes.{digit?}
use Rattle.octets.specs.Classes.{DIGIT}
use Rattle.octets.specs.Numbers.{grow, number_after}
use Rattle.octets.proofs.Bytes.{digit_low, digit_high}
use Rattle.octets.proofs.Tables.{bits, digit_bits}
use Rattle.scans.specs.helpers.Runs.{run_end}
use Rattle.scans.proofs.Runs.{run_is}
use Rattle.qvalue.specs.Grammar.{Name, fraction, decimals, qvalue, rules}
use Rattle.qvalue.specs.helpers.Scan.{whole_part, AfterWhole}

zero_digit : (b : ℕ) → eqb b 48 ≡ true → digit? b ≡ true
unfolding digit?
zero_digit b e = rw (eqb-true b 48 e)

pub digit_small : (b : ℕ) → digit? b ≡ true → (48 ≤ b) × (b ≤ 57)
digit_small b d = (digit_low b d, digit_high b d)

-- a place of the text, whatever stands for what is missing
pub any_default : (s : List ℕ) (k : ℕ) → k < length s → get_or s k 0 ≡ get_or s k 48
any_default s k h = head-eq_of_cons-eq (sym (drop-cons s k 0 h) ∙ drop-cons s k 48 h)

-- three digits behind the point, zeros in place of what is missing
pub padded : (t : List ℕ) → take 3 (t ++ (48 ∷ 48 ∷ 48 ∷ [])) ≡ get_or t 0 48 ∷ get_or t 1 48 ∷ get_or t 2 48 ∷ []
padded [] = refl
padded (a ∷ []) = refl
padded (a ∷ b ∷ []) = refl
padded (a ∷ b ∷ c ∷ t) = refl

padded-text : (s : List ℕ) → take 3 (drop 2 s ++ (48 ∷ 48 ∷ 48 ∷ [])) ≡ get_or s 2 48 ∷ get_or s 3 48 ∷ get_or s 4 48 ∷ []
padded-text [] = refl
padded-text (a ∷ []) = refl
padded-text (a ∷ b ∷ t) = padded t

-- four digits as thousandths
four-digits : (w a b d : ℕ) → number_after (grow 0 (48 + w)) (a ∷ b ∷ d ∷ []) ≡ w * 1000 + (a - 48) * 100 + (b - 48) * 10 + (d - 48)
four-digits w a b d = ap (λ (n : ℕ). ((n * 10 + (a - 48)) * 10 + (b - 48)) * 10 + (d - 48)) first ∙ sums w (a - 48) (b - 48) (d - 48)
  where
    first : grow 0 (48 + w) ≡ w
    first = omega arith

    sums : (w x y z : ℕ) → ((w * 10 + x) * 10 + y) * 10 + z ≡ w * 1000 + x * 100 + y * 10 + z
    sums w x y z = omega arith

-- ## The first digit

module _ (s : List ℕ) (short : length s ≤ 8192) where
  module _ (at : 0 < length s) where
    pub zero-whole : get_or s 0 0 ≡ 48 → AfterWhole s 0 (0x3ff000000000000 ∷ 0 ∷ 0 ∷ 0 ∷ [])
    zero-whole h = record {
      class = DIGIT;
      bits = digit_bits;
      only_digits = λ b e. e;
      small = omega arith;
      some = at;
      reads = header-short rules s short ∙ goes_on rules s [] qvalue 0 (ahead (whole_part 0 ∷ []) (decimals DIGIT)) at (rw h) refl refl;
    }

    pub one-whole : get_or s 0 0 ≡ 49 → AfterWhole s 1 (0x1000000000000 ∷ 0 ∷ 0 ∷ 0 ∷ [])
    one-whole h = record {
      class = just 48 tt;
      bits = bits (0x1000000000000 ∷ 0 ∷ 0 ∷ 0 ∷ []) (λ b. eqb b 48) refl;
      only_digits = zero_digit;
      small = omega arith;
      some = at;
      reads = header-short rules s short
          ∙ goes_on rules s [] qvalue 0 (ahead (whole_part 1 ∷ []) (decimals (just 48 tt))) at (rw h) refl refl;
    }

-- ## Behind it

module _ (s : List ℕ) (w : ℕ) (words : List ℕ) (a : AfterWhole s w words) where
  abbrev c : Class
  c = a.class

  abbrev cs : List (Part Name)
  cs = whole_part w ∷ []

  pub no_point : length s ≡ 1 → header rules s ≡ value (w * 1000)
  no_point h = a.reads ∙ judge-end rules s (ahead cs (decimals c)) 1 (omega arith) ∙ ap value (omega arith)

  module _ (more : length s ≡ 1 → ⊥) where
    at : 1 < length s
    at = omega (arith, a.some)

    pub point-not : (get_or s 1 0 ≡ 46 → ⊥) → header rules s ≡ refused 1 1
    point-not h = a.reads ∙ stops_at rules s cs (decimals c) 1 at (rw (ne_eqb (get_or s 1 0) 46 h))

    module _ (h : get_or s 1 0 ≡ 46) where
      pointed : header rules s ≡ from rules s (ahead cs (part fraction (up_to 3 (byte c)))) 2
      pointed = a.reads ∙ goes_on rules s cs (decimals c) 1 (part fraction (up_to 3 (byte c))) at (rw h) refl refl

      -- the run of digits ends at e
      module _ (e : ℕ) (is : e ≡ run_end c.has s 2) where
        run : Run c.has s 2 e
        run = rw is (run_is c.has s 2 (omega (arith, at)))

        abbrev fraction_part : ℕ → Part Name
        fraction_part t = record { label = fraction; start = 2; text = slice s 2 t }

        too_many : 5 < e → header rules s ≡ refused 1 5
        too_many k =
            pointed ∙ part-up-to rules s cs fraction c empty refl refl (λ j b f. refl) 2 5 3
            (run-cut c.has s 3 2 e 5 run refl (omega arith)) (λ m x y. refl)
            ∙ goes_too_far rules s (cs ++ fraction_part 5 ∷ []) 5 (omega (arith, run.within))

        -- no more than three are read
        pub no_more : length s ≤ 5 → e ≤ 5
        no_more h = omega (arith, run.within)

        module _ (few : e ≤ 5) where
          read-on : header rules s ≡ from rules s (ahead (cs ++ fraction_part e ∷ []) empty) e
          read-on =
              pointed ∙ part-up-to rules s cs fraction c empty refl refl (λ j b f. refl) 2 e 3 (run_short c.has s 3 2 e run few)
              (λ m x y. refl)

          decimals_go_on : e < length s → header rules s ≡ refused 1 e
          decimals_go_on k = read-on ∙ goes_too_far rules s (cs ++ fraction_part e ∷ []) e k

          module _ (all : length s ≤ e) where
            pub digit_there : (k : ℕ) → 2 ≤ k → digit? (get_or s k 48) ≡ true
            digit_there k h = go (ltb k (length s)) refl
              where
                go : (x : Bool) → ltb k (length s) ≡ x → digit? (get_or s k 48) ≡ true
                go true f =
                    let l = ltb-true k (length s) f in
                    ap digit? (sym (any_default s k l)) ∙ a.only_digits (get_or s k 0) (run.inside k h (omega arith))
                go false f = ap digit? (get_or-eq_default s 48 (ltb-false k (length s) f)) ∙ zero_digit 48 refl

            tail : slice s 2 e ++ [] ≡ drop 2 s
            tail = append-nil (slice s 2 e) ∙ take_all (e - 2) (drop 2 s) (omega (arith, length-drop 2 s))

            pub decimals-read : header rules s ≡ value (w * 1000 + (get_or s 2 48 - 48) * 100 + (get_or s 3 48 - 48) * 10 + (get_or s 4 48 - 48))
            decimals-read =
                read-on ∙ ends-well rules s (cs ++ fraction_part e ∷ []) e all
                ∙ ap (λ (t : List ℕ). value (number_after (grow 0 (48 + w)) (take 3 (t ++ (48 ∷ 48 ∷ 48 ∷ []))))) tail
                ∙ ap (λ (t : List ℕ). value (number_after (grow 0 (48 + w)) t)) (padded-text s)
                ∙ ap value (four-digits w (get_or s 2 48) (get_or s 3 48) (get_or s 4 48))

        -- behind up to three digits nothing may stand
        pub behind_digits : (m : ℕ) → m ≡ min e 5 → m < length s → header rules s ≡ refused 1 m
        behind_digits m d k = go (ltb 5 e) refl
          where
            go : (x : Bool) → ltb 5 e ≡ x → header rules s ≡ refused 1 m
            go true f =
                let a = ltb-true 5 e f in
                let b : 5 ≡ m = omega arith in
                too_many a ∙ ap (refused 1) b
            go false f =
                let a = ltb-false 5 e f in
                let b : m ≡ e = omega arith in
                rw b (decimals_go_on a (omega arith))
