-- Worked records that compute: a queue of 4 that returned one chain. Its table is at 0, its rings are at
-- 0x100 and 0x200.
use Rattle.std.specs.Prelude.{◌≡◌, ◌^◌, false, [], ◌∷◌, ◌++◌, codes, Some, refl}
use lib.Count.{ones}
use Rattle.bitflags.specs.Sets.{known_from}
use Rattle.vm_values.specs.Fields.{field_bytes}
use Rattle.fs_queue.specs.Queue.{Queue}
use Rattle.fs_record.specs.declared.error.RestoreError.TheVariants.{BadMagic, BadVersion, BadReserved}
use Rattle.fs_record.specs.declared.error.RestoreError.TheVariants.{Mismatch, BadOptions}
use Rattle.fs_record.specs.Record.{First, Second, head_of, head_error, is_queue, record_bytes, saved}

-- the queue
abbrev one_queue : Queue
one_queue = record { size = 4; desc = 0; avail = 0x100; used = 0x200; position = 1; stopped = false }

-- its record in version 1, without options
first_record : record_bytes First 0 (one_queue ∷ []) ≡
    codes "VFSD" ++ 1 ∷ 0 ∷ 0 ∷ 0 ∷ 1 ∷ 0 ∷ 0 ∷ 0 ∷ 0 ∷ 0 ∷ 0 ∷ 0 ∷ 0 ∷ 0 ∷ 0 ∷ 0 ∷ 0 ∷ 0 ∷ 0 ∷ 0
    ∷ 4 ∷ 0 ∷ 1 ∷ 0 ∷ 0 ∷ 0 ∷ 0 ∷ 0 ∷ 0 ∷ 0 ∷ 0 ∷ 0 ∷ 0 ∷ 0 ∷ 0 ∷ 0
    ∷ 0 ∷ 1 ∷ 0 ∷ 0 ∷ 0 ∷ 0 ∷ 0 ∷ 0 ∷ 0 ∷ 2 ∷ 0 ∷ 0 ∷ 0 ∷ 0 ∷ 0 ∷ 0 ∷ []
unfolding field_bytes
first_record = refl

-- its record in version 2, with pages of 4096 bytes and a limit of 0x101000
second_record : record_bytes (Second 4096 0x101000) 0 (one_queue ∷ []) ≡
    codes "VFSD" ++ 2 ∷ 0 ∷ 0 ∷ 0 ∷ 1 ∷ 0 ∷ 0 ∷ 0 ∷ 0 ∷ 16 ∷ 0 ∷ 0 ∷ 0 ∷ 0 ∷ 0 ∷ 0 ∷ 0 ∷ 0 ∷ 0 ∷ 0
    ∷ 4 ∷ 0 ∷ 1 ∷ 0 ∷ 0 ∷ 0 ∷ 0 ∷ 0 ∷ 0 ∷ 0 ∷ 0 ∷ 0 ∷ 0 ∷ 0 ∷ 0 ∷ 0
    ∷ 0 ∷ 1 ∷ 0 ∷ 0 ∷ 0 ∷ 0 ∷ 0 ∷ 0 ∷ 0 ∷ 2 ∷ 0 ∷ 0 ∷ 0 ∷ 0 ∷ 0 ∷ 0
    ∷ 0 ∷ 16 ∷ 16 ∷ 0 ∷ 0 ∷ 0 ∷ 0 ∷ 0 ∷ []
unfolding field_bytes
second_record = refl

-- the first error of a head is the result
first_wrong : head_error 4096 (record (head_of First 0 1) { magic = 0; version = 3 }) ≡ Some BadMagic
first_wrong = refl

later_wrong : head_error 4096 (record (head_of First 0 1) { version = 3; count = 0 }) ≡ Some BadVersion
later_wrong = refl

reserved_wrong :
    head_error 4096 (record (head_of First 0 64) { page_size = 1; options = 2 ^ 63 }) ≡ Some BadReserved
reserved_wrong = refl

-- version 1 has no page size; version 2's has to be this one, which is checked before the options
page_size_wrong :
    head_error 8192 (record (head_of (Second 4096 0x101000) 0 64) { options = 2 ^ 63 }) ≡ Some Mismatch
page_size_wrong = refl

options_wrong :
    head_error 4096 (record (head_of (Second 4096 0x101000) 0 64) { options = 2 ^ 63 }) ≡ Some BadOptions
unfolding known_from
options_wrong = refl

-- 2 is no `stopped` of a queue
second_spelling : is_queue (record (saved one_queue) { stopped = 2 }) ≡ false
unfolding ones
second_spelling = refl
