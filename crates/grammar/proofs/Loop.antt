-- For a reader's loop or scan: what the judgement of a text finds from the place i on, one byte at a time.
use Prim.Native.Nat.{ℕ, suc, ◌+◌, ◌≤◌, ◌<◌}
use native.Mathlib.Numerals.{add-one}
use borrow.Author.Tests.{lt-ltb, le-ltb}
use mathlib.Core.Path.{◌≡◌, sym, ap, ◌∙◌}
use mathlib.Core.Bool.{true, false}
use mathlib.Core.List.{List, []}
use mathlib.Core.Option.{none, some}
use lib.ListN.{length, get_or, drop, drop_of_length-le}
use lib.Seq.{drop-cons}
use Rattle.grammar.specs.Grammar.{Grammar}
use Rattle.grammar.specs.helpers.Derivative.{live, deriv}
use Rattle.grammar.specs.Reading.{value_limit, Limit, limit_number, Rules, refused}
use Rattle.grammar.specs.helpers.Judge.{held, turn, judge, header}

module _ {L A : Type 0} (r : Rules L A) (s : List ℕ) where
  pub header-long : value_limit < length s → header r s ≡ refused 13 value_limit
  header-long h = rw (lt-ltb value_limit (length s) h)

  pub header-short : length s ≤ value_limit → header r s ≡ judge r r.grammar s 0
  header-short h = rw (le-ltb value_limit (length s) h)

  module _ (g : Grammar L) (i : ℕ) where
    pub judge-end : length s ≤ i → judge r g (drop i s) i ≡ judge r g [] i
    judge-end l = ap (λ (t : List ℕ). judge r g t i) (drop_of_length-le s l)

    -- h is what is left after the byte at i
    module _ (h : Grammar L) (at : i < length s) (e : h ≡ deriv g i (get_or s i 0)) where
      turned : judge r g (drop i s) i ≡ turn (live h) (r.limit i (held h)) i (judge r h (drop (suc i) s) (suc i))
      turned = rw (drop-cons s i 0 at, e)

      pub judge-dead : live h ≡ false → judge r g (drop i s) i ≡ refused 1 i
      judge-dead d = turned ∙ rw d

      pub judge-next : live h ≡ true → r.limit i (held h) ≡ none → judge r g (drop i s) i ≡ judge r h (drop (i + 1) s) (i + 1)
      judge-next l q = turned ∙ rw (l, q) (ap (λ (j : ℕ). judge r h (drop j s) j) (sym (add-one i)))

      pub judge-broken : {x : Limit} → live h ≡ true → r.limit i (held h) ≡ some x → judge r g (drop i s) i ≡ refused (limit_number x) i
      judge-broken l q = turned ∙ rw (l, q)
