-- Where a body stands as numbers, and back. What the numbers are is said in src/lib.rt.
use Rattle.std.specs.Prelude.{ℕ, zero, suc, List, [], ◌∷◌}
use Rattle.framing.specs.declared.ExtPos.{ExtPos}
use Rattle.framing.specs.declared.LinePos.{LinePos}
use Rattle.framing.specs.declared.LinePos.TheVariants.{First, Size, Ext}
use Rattle.framing.specs.declared.TrailPos.{TrailPos}
use Rattle.framing.specs.declared.State.{State}
use Rattle.framing.specs.declared.State.TheVariants.{Line, LineFeed, Data, DataCr, DataLf, Trail, EndLf, Done, Dead}
use Rattle.position_numbers.specs.declared.Numbers.{Numbers}

abbrev pub ext_number : ExtPos → ℕ
ext_number ExtPos.Between = 2
ext_number ExtPos.NameStart = 3
ext_number ExtPos.Name = 4
ext_number ExtPos.ValueStart = 5
ext_number ExtPos.Token = 6
ext_number ExtPos.Quoted = 7
ext_number ExtPos.Pair = 8
ext_number ExtPos.Dead = 9

abbrev pub trail_number : TrailPos → ℕ
trail_number TrailPos.LineStart = 0
trail_number (TrailPos.Name c) = 1
trail_number TrailPos.Value = 2
trail_number TrailPos.Forbidden = 3
trail_number TrailPos.Lf = 4
trail_number TrailPos.Dead = 5

-- what is remembered of a name
abbrev pub name_of : TrailPos → ℕ
name_of TrailPos.LineStart = 0
name_of (TrailPos.Name c) = c
name_of TrailPos.Value = 0
name_of TrailPos.Forbidden = 0
name_of TrailPos.Lf = 0
name_of TrailPos.Dead = 0

-- without a name
abbrev pub as_numbers : ℕ → ℕ → ℕ → ℕ → ℕ → Numbers
as_numbers p q v k t = record { position = p; part = q; name = 0; size = v; length = k; total = t }

abbrev pub line_numbers : LinePos → ℕ → ℕ → Numbers
line_numbers First k t = as_numbers 0 0 0 k t
line_numbers (Size v) k t = as_numbers 0 1 v k t
line_numbers (Ext v e) k t = as_numbers 0 (ext_number e) v k t

abbrev pub trail_numbers : TrailPos → ℕ → ℕ → Numbers
trail_numbers p k t = record { position = 5; part = trail_number p; name = name_of p; size = 0; length = k; total = t }

abbrev pub numbers_of : State → Numbers
numbers_of (Line p k t) = line_numbers p k t
numbers_of (LineFeed v t) = as_numbers 1 0 v 0 t
numbers_of (Data m t) = as_numbers 2 0 m 0 t
numbers_of (DataCr t) = as_numbers 3 0 0 0 t
numbers_of (DataLf t) = as_numbers 4 0 0 0 t
numbers_of (Trail p k t) = trail_numbers p k t
numbers_of (EndLf t n) = as_numbers 6 0 0 n t
numbers_of (Done t n) = as_numbers 7 0 0 n t
numbers_of Dead = as_numbers 8 0 0 0 0

-- ## And back: numbers that stand for no case are Dead
-- the n-th of the cases, from 0; the other one where they are fewer
abbrev pub nth : {A : Type 0} → ℕ → List A → A → A
nth n [] other = other
nth zero (x ∷ xs) other = x
nth (suc n) (x ∷ xs) other = nth n xs other

-- 0 and 1 are no place of an extension
abbrev pub exts : List ExtPos
exts =
    ExtPos.Dead ∷ ExtPos.Dead ∷ ExtPos.Between ∷ ExtPos.NameStart ∷ ExtPos.Name ∷ ExtPos.ValueStart ∷ ExtPos.Token ∷ ExtPos.Quoted ∷
    ExtPos.Pair ∷ []

abbrev pub ext_of : ℕ → ExtPos
ext_of n = nth n exts ExtPos.Dead

abbrev pub line_of : ℕ → ℕ → LinePos
line_of n v = nth n (First ∷ Size v ∷ []) (Ext v (ext_of n))

abbrev pub trails : ℕ → List TrailPos
trails name = TrailPos.LineStart ∷ TrailPos.Name name ∷ TrailPos.Value ∷ TrailPos.Forbidden ∷ TrailPos.Lf ∷ []

abbrev pub trail_of : ℕ → ℕ → TrailPos
trail_of n name = nth n (trails name) TrailPos.Dead

abbrev pub places : Numbers → List State
places n =
    Line (line_of n.part n.size) n.length n.total ∷ LineFeed n.size n.total ∷ Data n.size n.total ∷
    DataCr n.total ∷ DataLf n.total ∷ Trail (trail_of n.part n.name) n.length n.total ∷
    EndLf n.total n.length ∷ Done n.total n.length ∷ []

abbrev pub place_of : Numbers → State
place_of n = nth n.position (places n) Dead
