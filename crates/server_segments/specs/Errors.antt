-- The numbers of the faults.
use Rattle.std.specs.Prelude.{ℕ, Bool, true, false, Result, Ok, Err}
use Rattle.server_segments.specs.declared.error.Error.{Error}
use Rattle.server_segments.specs.declared.error.Error.TheVariants.{DecodeMessage, EncodeMessage, FlushMessage}
use Rattle.server_segments.specs.declared.error.Error.TheVariants.{MissingParameter, MissingExtension}
use Rattle.server_segments.specs.declared.error.Error.TheVariants.{InvalidHeaderLength, InvalidCString}
use Rattle.server_segments.specs.declared.error.Error.TheVariants.{InvalidCString2, InvalidXattrSize}
use Rattle.server_segments.specs.declared.error.Error.TheVariants.{DescriptorChainOverflow, SplitOutOfBounds}
use Rattle.server_segments.specs.declared.error.Error.TheVariants.{IoError, OutOfMemory}

-- the number of a fault
abbrev pub error_number : Error → ℕ
error_number DecodeMessage = 1
error_number EncodeMessage = 2
error_number FlushMessage = 3
error_number MissingParameter = 4
error_number MissingExtension = 5
error_number InvalidHeaderLength = 6
error_number InvalidCString = 7
error_number InvalidCString2 = 8
error_number (InvalidXattrSize sizes) = 9
error_number DescriptorChainOverflow = 10
error_number (SplitOutOfBounds offset) = 11
error_number (IoError kind) = 12
error_number OutOfMemory = 13

-- a fault is a failed allocation
abbrev pub is_memory : Error → Bool
is_memory OutOfMemory = true
is_memory _ = false

-- a result is the fault of a failed allocation
abbrev pub lacks_memory : Result ℕ Error → Bool
lacks_memory (Ok n) = false
lacks_memory (Err e) = is_memory e
