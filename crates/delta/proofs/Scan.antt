-- The reader's scan against the grammar: the number, then the end. All of it is the law of caps at the place 0.
use Prim.Native.Nat.{ℕ, ◌≤◌, ◌<◌}
use native.Mathlib.Omega.{arith}
use borrow.Author.Tests.{ltb-false}
use mathlib.Core.Path.{◌≡◌, refl, sym, ap, ◌∙◌}
use mathlib.Core.Bool.{true, false}
use mathlib.Core.List.{List, [], ◌∷◌}
use mathlib.Core.Option.{some}
use lib.ListN.{length}
use Rattle.grammar.specs.Grammar.{void, empty}
use Rattle.grammar.specs.helpers.Derivative.{deriv}
use Rattle.grammar.specs.Reading as G
use Rattle.grammar.specs.Reading.{refused}
use Rattle.grammar.specs.helpers.Judge.{header}
use Rattle.grammar.specs.helpers.Scans.{slice}
use Rattle.grammar.proofs.Loop.{header-short}
use Rattle.grammar.proofs.Scans.{ends-well, goes_too_far}
use Rattle.octets.specs.Bytes.{digit?}
use Rattle.octets.specs.Numbers.{number, Capped}
use Rattle.scans.specs.declared.Decimal.{Decimal}
use Rattle.scans.specs.declared.Decimal.TheVariants.{Number, Above, Missing}
use Rattle.scans.specs.helpers.Decimals.{decimal_at, with_cap, capped_at}
use Rattle.scans.proofs.Scans.{number_of, number_fits, number_missing, digits-read}
use Rattle.scans.proofs.Caps.{caps, capped-of}
use Rattle.delta.specs.declared.Seconds.{Seconds}
use Rattle.delta.specs.Grammar.{Name, seconds, largest, cap, as_seconds, rules}
use Rattle.delta.specs.helpers.Scan.{seconds_part, AfterDigits}

apart : (j b : ℕ) → digit? b ≡ true → deriv {L = Name} empty j b ≡ void
apart j b d = refl

module _ (s : List ℕ) (short : length s ≤ 8192) where
  pub seconds_missing : decimal_at largest s 0 ≡ Missing → header rules s ≡ refused 1 0
  seconds_missing d = header-short rules s short ∙ number_missing rules s [] seconds empty refl refl apart 0 (omega arith) largest d

  -- an answer of the reading, capped
  told : (d : Decimal) → decimal_at largest s 0 ≡ d → capped_at largest cap s 0 ≡ with_cap cap d
  told d e = sym (caps largest cap s 0) ∙ ap (with_cap cap) e

  found : (c : Capped) (e : ℕ) → capped_at largest cap s 0 ≡ some (c, e) → AfterDigits s (as_seconds c) e
  found c e d =
      let w = capped-of largest cap s 0 c e d in
      record {
        is = ap as_seconds w.is;
        reads = header-short rules s short
            ∙ digits-read rules s [] seconds empty refl refl apart 0 (omega arith) e w.some w.end (λ n y z. refl);
      }

  pub seconds-within : (v e : ℕ) → decimal_at largest s 0 ≡ Number v e → AfterDigits s (record { value = v; capped = false }) e
  seconds-within v e d = found (record { value = v; capped = false }) e (told (Number v e) d)

  pub seconds-beyond : (p e : ℕ) → decimal_at largest s 0 ≡ Above p e → AfterDigits s (record { value = cap; capped = true }) e
  seconds-beyond p e d = found (record { value = cap; capped = true }) e (told (Above p e) d)

-- behind the digits
module _ (s : List ℕ) (v : Seconds) (e : ℕ) (a : AfterDigits s v e) where
  pub seconds_go_on : e < length s → header rules s ≡ refused 1 e
  seconds_go_on h = a.reads ∙ goes_too_far rules s (seconds_part s e ∷ []) e h

  pub seconds-read : length s ≤ e → header rules s ≡ G.value v
  seconds-read h = a.reads ∙ ends-well rules s (seconds_part s e ∷ []) e h ∙ ap G.value a.is

-- the number fits the answer
pub seconds-small : (s : List ℕ) (v e : ℕ) → decimal_at largest s 0 ≡ Number v e → v ≤ 2147483647
seconds-small s v e d =
    let w = number_of largest s 0 v e d in
    omega (arith, ltb-false largest (number (slice s 0 e)) (number_fits largest s 0 v e w), w.is)
