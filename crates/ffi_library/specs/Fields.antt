-- The version of the library; docs/CHANGELOG.md says what each version changed.
use Rattle.ffi_library.specs.declared.QzLibraryVersion.{QzLibraryVersion}

abbrev pub library_version : QzLibraryVersion
library_version = record { major = 0; minor = 9; patch = 0 }
