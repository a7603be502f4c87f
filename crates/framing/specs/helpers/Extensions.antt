-- The machine for chunk extensions. Definitions alone.
use Rattle.std.specs.Prelude.{Bool, true, false, cond, ℕ, eqb}
use Prim.Native.Char.{code}
use Rattle.octets.specs.Bytes.{token?, text?, escaped?}
use Rattle.framing.specs.helpers.Scan.{Part}
use Rattle.framing.specs.declared.ExtPos.{ExtPos}

-- the position behind a byte
abbrev pub ext_step : ExtPos → ℕ → ExtPos
ext_step ExtPos.Between b = cond (eqb b (code ";")) ExtPos.NameStart ExtPos.Dead
ext_step ExtPos.NameStart b = cond (token? b) ExtPos.Name ExtPos.Dead
ext_step ExtPos.Name b =
    cond (token? b) ExtPos.Name (cond (eqb b (code "=")) ExtPos.ValueStart (cond (eqb b (code ";")) ExtPos.NameStart ExtPos.Dead))
ext_step ExtPos.ValueStart b = cond (token? b) ExtPos.Token (cond (eqb b (code "\"")) ExtPos.Quoted ExtPos.Dead)
ext_step ExtPos.Token b = cond (token? b) ExtPos.Token (cond (eqb b (code ";")) ExtPos.NameStart ExtPos.Dead)
ext_step ExtPos.Quoted b =
    cond (text? b) ExtPos.Quoted (cond (eqb b (code "\\")) ExtPos.Pair (cond (eqb b (code "\"")) ExtPos.Between ExtPos.Dead))
ext_step ExtPos.Pair b = cond (escaped? b) ExtPos.Quoted ExtPos.Dead
ext_step ExtPos.Dead b = ExtPos.Dead

-- may the line end here
abbrev pub ext_ends : ExtPos → Bool
ext_ends ExtPos.Between = true
ext_ends ExtPos.NameStart = false
ext_ends ExtPos.Name = true
ext_ends ExtPos.ValueStart = false
ext_ends ExtPos.Token = true
ext_ends ExtPos.Quoted = false
ext_ends ExtPos.Pair = false
ext_ends ExtPos.Dead = false

abbrev pub ext_live : ExtPos → Bool
ext_live ExtPos.Between = true
ext_live ExtPos.NameStart = true
ext_live ExtPos.Name = true
ext_live ExtPos.ValueStart = true
ext_live ExtPos.Token = true
ext_live ExtPos.Quoted = true
ext_live ExtPos.Pair = true
ext_live ExtPos.Dead = false

abbrev pub extensions : Part ExtPos
extensions = record { begin = ExtPos.Between; next = ext_step; ends = ext_ends; alive = ext_live }
