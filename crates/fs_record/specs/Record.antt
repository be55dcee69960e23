-- The saved record of a device, in its two versions.
use Rattle.std.specs.Prelude.{◌≡◌, ◌⊎◌, ℕ, ◌<◌, ◌≤◌, ◌^◌, Bool, true, false, not, ◌||◌, ◌&&◌, ◌==◌, nat_lt}
use Rattle.std.specs.Prelude.{bit_and, List, [], ◌++◌, length, All, Option, Some, None, is_none}
use Rattle.std.specs.Prelude.{if◌then◌else◌}
use Rattle.std.specs.List.{flat_map}
use Rattle.bitflags.specs.Sets.{known_bits}
use Rattle.vm_values.specs.Fields.{spelled}
use Rattle.fuse_base.specs.Flags.{fs_options}
use Rattle.fs_queue.specs.Queue.{Queue}
use Rattle.fs_queue.specs.Lawful.{layout_error}
use Rattle.fs_record.specs.Fields.{head_fields, queue_fields, limit_fields}
use Rattle.fs_record.specs.declared.fields.RecordHead.{RecordHead}
use Rattle.fs_record.specs.declared.fields.SavedQueue.{SavedQueue}
use Rattle.fs_record.specs.declared.error.RestoreError.{RestoreError}
use Rattle.fs_record.specs.declared.error.RestoreError.TheVariants.{BadMagic, BadVersion, BadCount}
use Rattle.fs_record.specs.declared.error.RestoreError.TheVariants.{BadReserved, BadOptions, Mismatch}

-- "VFSD" as a le32 number
abbrev pub magic_number : ℕ
magic_number = 0x44534656

-- a version, with the values that a record has besides options and queues: none in version 1, the page
-- size and the limit in version 2
pub data Version : Type 0 where
  First : Version
  Second : (page_size limit : ℕ) → Version

-- the number of a version
abbrev pub version_number : Version → ℕ
version_number First = 1
version_number (Second page_size limit) = 2

-- the number after the number of queues in a head: 0 in version 1, the page size in version 2
abbrev pub page_size_word : Version → ℕ
page_size_word First = 0
page_size_word (Second page_size limit) = page_size

-- the head of a record of `count` queues
abbrev pub head_of : Version → (options count : ℕ) → RecordHead
head_of v options count =
    record {
      magic = magic_number;
      version = version_number v;
      count = count;
      page_size = page_size_word v;
      options = options;
    }

-- the bytes after the queues: none in version 1, the limit in version 2
abbrev pub end_bytes : Version → List ℕ
end_bytes First = []
end_bytes (Second page_size limit) = spelled (limit_fields limit)

-- a truth value as a number: true is 1, false is 0
abbrev pub flag : Bool → ℕ
flag true = 1
flag false = 0

-- a queue as the record's fields
abbrev pub saved : Queue → SavedQueue
saved q =
    record {
      size = q.size;
      position = q.position;
      stopped = flag q.stopped;
      desc = q.desc;
      avail = q.avail;
      used = q.used;
    }

-- the bytes of a queue in a record
abbrev pub queue_bytes : Queue → List ℕ
queue_bytes q = spelled (queue_fields (saved q))

-- the bytes of the head of a record of `count` queues, and of these queues
abbrev pub record_front : Version → (options count : ℕ) → List Queue → List ℕ
record_front v options count queues =
    spelled (head_fields (head_of v options count)) ++ flat_map queue_bytes queues

-- the bytes of a whole record
abbrev pub record_bytes : Version → (options : ℕ) → List Queue → List ℕ
record_bytes v options queues = record_front v options (length queues) queues ++ end_bytes v

-- each bit that is set is that of an option with a name
abbrev pub HasKnownBits : (options : ℕ) → Type 0
HasKnownBits options = bit_and options (known_bits fs_options) ≡ options

-- a queue may have this layout (VIRTIO 1.2, 2.7), and its size and its position fit 16 bits
abbrev pub IsSavedQueue : Queue → Type 0
IsSavedQueue q =
    (layout_error q.size q.desc q.avail q.used ≡ None) × (q.size < 2 ^ 16) × (q.position < 2 ^ 16)

-- these can be saved: options with a name, and 1 to 64 queues
abbrev pub IsSavable : (options : ℕ) → List Queue → Type 0
IsSavable options queues =
    HasKnownBits options × (1 ≤ length queues) × (length queues ≤ 64) × All IsSavedQueue queues

-- the page size fits 32 bits, and the limit 64 bits
abbrev pub HasItsBits : Version → Type 0
HasItsBits First = Unit {0}
HasItsBits (Second page_size limit) = (page_size < 2 ^ 32) × (limit < 2 ^ 64)

-- the bytes are the record of this version with these options and queues
abbrev pub IsRecord : List ℕ → Version → (options : ℕ) → List Queue → Type 0
IsRecord bytes v options queues =
    (bytes ≡ record_bytes v options queues) × HasItsBits v × IsSavable options queues

-- a version fits this page size and this limit: version 1, which has neither, or version 2 with these
-- two
abbrev pub ProceedsWith : (page_size limit : ℕ) → Version → Type 0
ProceedsWith page_size limit v = (v ≡ First) ⊎ (v ≡ Second page_size limit)

-- the bytes are a record of these options and queues that fits this page size and this limit
abbrev pub IsRecordFor : List ℕ → (page_size limit : ℕ) → (options : ℕ) → List Queue → Type 0
IsRecordFor bytes page_size limit options queues =
    (v : Version) × ProceedsWith page_size limit v × IsRecord bytes v options queues

-- the first error of a head for guest pages of this size, if it has one
abbrev pub head_error : (page_size : ℕ) → RecordHead → Option RestoreError
head_error page_size h =
    if not (h.magic == magic_number) then Some BadMagic
    else if not (h.version == 1 || h.version == 2) then Some BadVersion
    else if (h.count == 0) || nat_lt 64 h.count then Some BadCount
    else if (h.version == 1) && not (h.page_size == 0) then Some BadReserved
    else if (h.version == 2) && not (h.page_size == page_size) then Some Mismatch
    else if not (bit_and h.options (known_bits fs_options) == h.options) then Some BadOptions
    else None

-- whether the fields are those of a queue: its layout is one, and `stopped` is 0 or 1
abbrev pub is_queue : SavedQueue → Bool
is_queue s = is_none (layout_error s.size s.desc s.avail s.used) && nat_lt s.stopped 2
