-- The numbers of the errors of `SharedDevice::new`.
use Rattle.std.specs.Prelude.{ℕ}
use Rattle.fs_shared.specs.declared.share_error.ShareError.{ShareError}
use Rattle.fs_shared.specs.declared.share_error.ShareError.TheVariants as share

-- the number of an error
abbrev pub share_error_number : ShareError → ℕ
share_error_number share.OutOfMemory = 1
share_error_number share.NoPass = 2
