-- For the contracts of the reader's helpers.
use Rattle.std.specs.Prelude.{ℕ, zero, suc, ◌≤◌, ◌<◌, ◌≡◌, false, List, [], ◌∷◌, ◌++◌, length, Option, Some, None, Result, Ok, Err}
use Rattle.grammar.specs.Grammar.{Part, Grammar, ◌⨾◌}
use Rattle.grammar.specs.Reading.{refused}
use Rattle.grammar.specs.Endings.{ended}
use Rattle.grammar.specs.helpers.Judge.{header}
use Rattle.grammar.specs.helpers.Checks.{ahead}
use Rattle.grammar.specs.helpers.Scans.{slice, from}
use Rattle.octets.specs.Bytes.{digit?}
use Rattle.octets.specs.Reading.{number_of, place_of}
use Rattle.octets.specs.declared.Refusal.{Refusal}
use Rattle.scans.specs.helpers.Runs.{run_end}
use Rattle.octets.specs.Numbers.{length_limit}
use Rattle.ranges.specs.declared.Element.{Element}
use Rattle.ranges.specs.declared.Step.{Step}
use Rattle.ranges.specs.declared.Number.{Number}
use Rattle.ranges.specs.Grammar.{Name, element, others, element_limit, capped, elements, opened, forward, rules}

-- what is left of the grammar behind so many elements
abbrev pub left : ℕ → Grammar Name
left zero = element ⨾ others
left (suc n) = others

-- the digits that stand at i, and what they mean
pub record DigitsAt (s : List ℕ) (i v e : ℕ) : Type 0 where
  pub some : i < e
  pub ends : e ≡ run_end digit? s i
  pub is : capped (slice s i e) ≡ v

abbrev pub NumberAt : List ℕ → ℕ → Option Number → Type 0
NumberAt s i (Some d) = DigitsAt s i d.value d.end
NumberAt s i None = run_end digit? s i ≡ i

module _ (n : ℕ) (s : List ℕ) where
  -- the parts of the elements xs stand before the place i, and no byte from there on breaks a limit by them alone
  pub record Before (xs : List Element) (i : ℕ) : Type 0 where
    pub parts : List (Part Name)
    pub extends : (us : List (Part Name)) → elements capped (parts ++ us) ≡ xs ++ elements capped us
    pub begun : opened parts ≡ length xs
    pub over : (k : ℕ) → i ≤ k → ended forward s k parts ≡ false
    pub few : length xs ≤ element_limit
    pub inside : i ≤ length s

  -- the answer is what is found from i on, where g is left of the grammar
  pub record FoundBefore (g : Grammar Name) (xs : List Element) (i : ℕ) : Type 0 where
    pub before : Before xs i
    pub reads : header (rules n s) s ≡ from (rules n s) s (ahead before.parts g) i

  abbrev pub Found : List Element → ℕ → Type 0
  Found xs i = FoundBefore (left (length xs)) xs i

  abbrev pub ElementAt : List Element → ℕ → Type 0
  ElementAt xs i = FoundBefore (element ⨾ others) xs i

  -- the entity is not too long, and `bytes=` stands in front
  pub record Begun : Type 0 where
    pub length_within : n ≤ length_limit
    pub found : Found [] 6

  -- behind xs, one more element was read; a step that stopped has the answer
  pub record Read (xs : List Element) (i : ℕ) (x : Element) (e : ℕ) : Type 0 where
    pub found : FoundBefore others (xs ++ x ∷ []) e
    pub further : i < e

  abbrev pub StepAt : List Element → ℕ → Result Step Refusal → Type 0
  StepAt xs i (Ok p) = Read xs i p.element p.end
  StepAt xs i (Err r) = header (rules n s) s ≡ refused (number_of r) (place_of r)

-- what a step answers, whatever entity there is and whatever elements stand before it
module _ (s : List ℕ) where
  abbrev pub ElementRead : ℕ → Result Step Refusal → Type 0
  ElementRead i r = (n : ℕ) (xs : List Element) → length xs < element_limit → ElementAt n s xs i → StepAt n s xs i r

  abbrev pub SeventeenthAt : ℕ → Refusal → Type 0
  SeventeenthAt i r = (n : ℕ) (xs : List Element) → length xs ≡ element_limit → ElementAt n s xs i → StepAt n s xs i (Err r)

  abbrev pub NextAt : ℕ → ℕ → Result Step Refusal → Type 0
  NextAt count i r = (n : ℕ) (xs : List Element) → length xs ≡ count → i < length s → Found n s xs i → StepAt n s xs i r
