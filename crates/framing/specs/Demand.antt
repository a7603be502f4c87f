-- What is asked of a reader of bodies, in the words of a grammar and its limits: of no machine. `demands` in proofs/Demands.antt shows it
-- of `decode` and `decoded` in specs/Reading.antt, with the grammar and the limits of specs/Grammar.antt.
use Rattle.std.specs.Prelude.{◌≡◌, cond, List, [], ◌∷◌, ◌++◌, ◌↔◌, ℕ, suc, ◌<◌, ◌≤◌, eqb, length, take}
use Rattle.grammar.specs.Refusals.{MALFORMED, BODY_TOO_LARGE}
use Rattle.framing.specs.Answer.{Answer}

-- ## What readers differ in

-- a format of bodies, W being what is told of a whole one
pub record Format (W : Type 0) : Type 1 where
  -- these bytes are a body with that joined data, limits aside
  pub Body : List ℕ → List ℕ → Type 0
  -- this is to be told of a body of these bytes, with that data
  pub Tells : W → List ℕ → List ℕ → Type 0
  -- the limits, by number, in their order at one byte
  pub limits : List ℕ
  -- in that room, the last of these bytes breaks the limit of that number
  pub Broken : ℕ → ℕ → List ℕ → Type 0

-- the rank of a limit is its place in that order; what is no limit ranks behind all
abbrev pub rank : List ℕ → ℕ → ℕ
rank [] n = 0
rank (l ∷ ls) n = cond (eqb n l) 0 (suc (rank ls n))

-- n is one of the limits: its rank is below their number
abbrev pub Among : List ℕ → ℕ → Type 0
Among limits n = rank limits n < length limits

-- ## Answers

-- some continuation, limits aside, makes it a body
abbrev pub Live : (List ℕ → List ℕ → Type 0) → List ℕ → Type 0
Live Body p = (u d : List ℕ) × Body (p ++ u) d

-- no beginning of s, of at most n bytes, is a body
abbrev pub Unended : (List ℕ → List ℕ → Type 0) → List ℕ → ℕ → Type 0
Unended Body s n = (i : ℕ) (d : List ℕ) → i ≤ n → Body (take i s) d → ⊥

module _ {W : Type 0} (f : Format W) (room : ℕ) where
  -- no limit is broken at a byte of s below n
  abbrev pub Unbroken : List ℕ → ℕ → Type 0
  Unbroken s n = (m i : ℕ) → Among f.limits m → i < n → f.Broken room m (take (suc i) s) → ⊥

  -- the first `count` bytes of s are a body with the joined data d, w is to be told of it, and they break no limit
  pub record BeginsWhole (s : List ℕ) (w : W) (d : List ℕ) : Type 0 where
    pub count : ℕ
    pub inside : count ≤ length s
    pub body : f.Body (take count s) d
    pub tells : f.Tells w (take count s) d
    pub unbroken : Unbroken s count

  -- a body may begin with all of s
  pub record Unfinished (s : List ℕ) : Type 0 where
    pub unbroken : Unbroken s (length s)
    pub unended : Unended f.Body s (length s)
    pub live : Live f.Body s

  -- before the byte at p no limit was broken and no body ended
  pub record Reaches (s : List ℕ) (p : ℕ) : Type 0 where
    pub inside : p < length s
    pub unbroken : Unbroken s p
    pub unended : Unended f.Body s p

  -- the byte at p is the first that leaves no continuation
  pub record Malformed (s : List ℕ) (p : ℕ) : Type 0 where
    pub reaches : Reaches s p
    pub live : Live f.Body (take p s)
    pub dead : Live f.Body (take (suc p) s) → ⊥

  -- the byte at p breaks the limit of that number, and none of a lower rank
  pub record Over (s : List ℕ) (n p : ℕ) : Type 0 where
    pub reaches : Reaches s p
    pub limit : Among f.limits n
    pub broken : f.Broken room n (take (suc p) s)
    pub lowest : (m : ℕ) → rank f.limits m < rank f.limits n → f.Broken room m (take (suc p) s) → ⊥

-- ## One limit more, on the number of bytes

-- the limits of f, and one of that number, behind them all: a body has at most so many bytes
pub data BrokenOr {W : Type 0} (f : Format W) (number most room : ℕ) : ℕ → List ℕ → Type 0 where
  inner : {n : ℕ} {p : List ℕ} → Among f.limits n → f.Broken room n p → BrokenOr f number most room n p
  -- the byte after so many, where it leaves a continuation
  longer : {p : List ℕ} → Live f.Body p → length p ≡ suc most → BrokenOr f number most room number p

abbrev pub capped : {W : Type 0} → ℕ → ℕ → Format W → Format W
capped number most f = record {
  Body = f.Body;
  Tells = f.Tells;
  limits = f.limits ++ (number ∷ []);
  Broken = BrokenOr f number most;
}

-- ## Readers

-- document 01: "No refusal writes into a lent buffer", nor does "more"
abbrev pub Nothing : List ℕ → List ℕ → Type 0
Nothing p d = d ≡ []

-- a reader in each room, with the data that it writes, which does what is asked on every input; `Early p d`: d is to be written of the
-- bytes p that it accepted, where these are not a whole body
pub record Decodes {W : Type 0} (f : Format W) (Early : List ℕ → List ℕ → Type 0) (decode : ℕ → List ℕ → Answer W)
    (decoded : ℕ → List ℕ → List ℕ) : Type 0 where
  pub whole : (r : ℕ) (s : List ℕ) (w : W) → (decode r s ≡ Answer.whole w) ↔ ((d : List ℕ) × BeginsWhole f r s w d)
  pub more : (r : ℕ) (s : List ℕ) → (decode r s ≡ Answer.more) ↔ Unfinished f r s
  pub malformed : (r : ℕ) (s : List ℕ) (p : ℕ) → (decode r s ≡ Answer.refused MALFORMED p) ↔ Malformed f r s p
  pub limit : (r : ℕ) (s : List ℕ) (n p : ℕ) → (n ≡ MALFORMED → ⊥) → (decode r s ≡ Answer.refused n p) ↔ Over f r s n p
  pub writes : (r : ℕ) (s : List ℕ) (w : W) (d : List ℕ) → BeginsWhole f r s w d → decoded r s ≡ d
  pub keeps_more : (r : ℕ) (s : List ℕ) → decode r s ≡ Answer.more → Early s (decoded r s)
  pub keeps_refused : (r : ℕ) (s : List ℕ) (n p : ℕ) → decode r s ≡ Answer.refused n p → Early (take p s) (decoded r s)
  pub stands : (r : ℕ) (s t : List ℕ) → (decode r s ≡ Answer.more → ⊥)
      → (decode r (s ++ t) ≡ decode r s) × (decoded r (s ++ t) ≡ decoded r s)
  pub roomier : (r q : ℕ) (s : List ℕ) → r ≤ q → ((p : ℕ) → decode r s ≡ Answer.refused BODY_TOO_LARGE p → ⊥)
      → (decode q s ≡ decode r s) × (decoded q s ≡ decoded r s)
