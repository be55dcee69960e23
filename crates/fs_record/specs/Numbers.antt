-- The numbers of errors.
use Rattle.std.specs.Prelude.{ℕ}
use Rattle.fs_record.specs.declared.error.RestoreError.{RestoreError}
use Rattle.fs_record.specs.declared.error.RestoreError.TheVariants.{Truncated, BadMagic, BadVersion, BadCount}
use Rattle.fs_record.specs.declared.error.RestoreError.TheVariants.{BadReserved, BadQueue, BadOptions}
use Rattle.fs_record.specs.declared.error.RestoreError.TheVariants.{ReadFault, OutOfMemory, Mismatch}

-- the number of the error for which nothing is restored, 1 to 10
abbrev pub restore_error_number : RestoreError → ℕ
restore_error_number Truncated = 1
restore_error_number BadMagic = 2
restore_error_number BadVersion = 3
restore_error_number BadCount = 4
restore_error_number BadReserved = 5
restore_error_number (BadQueue i) = 6
restore_error_number BadOptions = 7
restore_error_number ReadFault = 8
restore_error_number OutOfMemory = 9
restore_error_number Mismatch = 10
