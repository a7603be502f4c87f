-- What is kept as numbers comes back.
use mathlib.Core.Path.{◌≡◌, refl, ap}
use Prim.Native.Nat.{ℕ}
use Rattle.framing.specs.declared.ExtPos.{ExtPos}
use Rattle.framing.specs.declared.LinePos.{LinePos}
use Rattle.framing.specs.declared.LinePos.TheVariants.{First, Size, Ext}
use Rattle.framing.specs.declared.TrailPos.{TrailPos}
use Rattle.framing.specs.declared.State.{State}
use Rattle.framing.specs.declared.State.TheVariants.{Line, LineFeed, Data, DataCr, DataLf, Trail, EndLf, Done, Dead}
use Rattle.position_numbers.specs.Numbers.{ext_number, trail_number, name_of, numbers_of, line_of, trail_of, place_of}

line_kept : (v : ℕ) → (line_of 0 v ≡ First) × (line_of 1 v ≡ Size v) × ((e : ExtPos) → line_of (ext_number e) v ≡ Ext v e)
line_kept v = (refl, refl, λ e. go e)
  where
    go : (e : ExtPos) → line_of (ext_number e) v ≡ Ext v e
    go ExtPos.Between = refl
    go ExtPos.NameStart = refl
    go ExtPos.Name = refl
    go ExtPos.ValueStart = refl
    go ExtPos.Token = refl
    go ExtPos.Quoted = refl
    go ExtPos.Pair = refl
    go ExtPos.Dead = refl

trail_kept : (p : TrailPos) → trail_of (trail_number p) (name_of p) ≡ p
trail_kept TrailPos.LineStart = refl
trail_kept (TrailPos.Name c) = refl
trail_kept TrailPos.Value = refl
trail_kept TrailPos.Forbidden = refl
trail_kept TrailPos.Lf = refl
trail_kept TrailPos.Dead = refl

-- a position that was kept as numbers
pub place_kept : (p : State) → place_of (numbers_of p) ≡ p
place_kept (Line First k t) = refl
place_kept (Line (Size v) k t) = refl
place_kept (Line (Ext v e) k t) = ap (λ (p : LinePos). Line p k t) ((line_kept v).2 e)
place_kept (LineFeed v t) = refl
place_kept (Data m t) = refl
place_kept (DataCr t) = refl
place_kept (DataLf t) = refl
place_kept (Trail p k t) = ap (λ (q : TrailPos). Trail q k t) (trail_kept p)
place_kept (EndLf t n) = refl
place_kept (Done t n) = refl
place_kept Dead = refl
