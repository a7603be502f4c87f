-- `ffi_media::entries_of` meets its contract: the first entries are converted, and the others are still to come.
use mathlib.Core.Path.{◌≡◌}
use Rattle.octets.proofs.Entries.{converted}
use Rattle.ffi_media.specs.Fields.{parameter_fields}
use Rattle.ffi_media.proofs.entries_of.Given as goal

abbrev pub invariant-loop-i : goal.invariant-loop-i
invariant-loop-i l = l.entries ≡ converted parameter_fields l.i l.table l.initial.entries
