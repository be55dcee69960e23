-- The bytes of a source from which a record is restored.
use Rattle.std.specs.Prelude.{◌≡◌, ◌≢◌, ℕ, ◌<◌, ◌≤◌, ◌^◌, ◌⊎◌, Bool, true, false, List, [], ◌++◌, length, All}
use Rattle.std.specs.Prelude.{Option, Some}
use Rattle.std.specs.Io.KnownBytes.{IsAtEnd}
use Rattle.memory_requests.specs.Refused.{RoomWasRefused}
use Rattle.vm_values.specs.Fields.{spelled, AllFit}
use Rattle.fs_queue.specs.Queue.{Queue}
use Rattle.fs_record.specs.Fields.{head_fields, queue_fields, limit_fields}
use Rattle.fs_record.specs.Record.{Version, First, Second, ProceedsWith, record_front, HasKnownBits}
use Rattle.fs_record.specs.Record.{IsSavedQueue}
use Rattle.fs_record.specs.Record.{head_error, is_queue}
use Rattle.fs_record.specs.declared.fields.RecordVersion.{RecordVersion}
use Rattle.fs_record.specs.declared.fields.RecordVersion.TheVariants as versions
use Rattle.fs_record.specs.declared.fields.RecordHead.{RecordHead}
use Rattle.fs_record.specs.declared.fields.SavedQueue.{SavedQueue}
use Rattle.fs_record.specs.declared.error.RestoreError.{RestoreError}
use Rattle.fs_record.specs.declared.error.RestoreError.TheVariants.{Truncated, BadMagic, BadVersion, BadCount}
use Rattle.fs_record.specs.declared.error.RestoreError.TheVariants.{BadReserved, BadQueue, BadOptions}
use Rattle.fs_record.specs.declared.error.RestoreError.TheVariants.{ReadFault, OutOfMemory, Mismatch}

-- the bytes are the head of a record of `count` queues, and the first of these queues
abbrev pub IsRecordFront : List ℕ → Version → (options count : ℕ) → List Queue → Type 0
IsRecordFront bytes v options count queues =
    (bytes ≡ record_front v options count queues)
    × HasKnownBits options
    × (1 ≤ count)
    × (count ≤ 64)
    × (length queues ≤ count)
    × All IsSavedQueue queues

-- the bytes end within a queue, after the front of a record that fits this page size and this limit
abbrev pub EndsWithinQueue : List ℕ → (page_size limit : ℕ) → Type 0
EndsWithinQueue bytes page_size limit =
    (v : Version) × (options count : ℕ) × (queues : List Queue) × (front part : List ℕ)
    × ProceedsWith page_size limit v
    × IsRecordFront front v options count queues
    × (length queues < count)
    × (bytes ≡ front ++ part)
    × (length part < 32)

-- the bytes end within the limit, after all queues of a record of version 2 with this page size
abbrev pub EndsWithinLimit : List ℕ → (page_size limit : ℕ) → Type 0
EndsWithinLimit bytes page_size limit = (options count : ℕ) × (queues : List Queue) × (front part : List ℕ)
    × IsRecordFront front (Second page_size limit) options count queues
    × (length queues ≡ count)
    × (bytes ≡ front ++ part)
    × (length part < 8)

-- the bytes end within the head, a queue or the limit
abbrev pub EndsWithin : List ℕ → (page_size limit : ℕ) → Type 0
EndsWithin bytes page_size limit =
    (length bytes < 24) ⊎ EndsWithinQueue bytes page_size limit ⊎ EndsWithinLimit bytes page_size limit

-- the bytes are a head whose first error is this one
abbrev pub IsBadHead : List ℕ → (page_size : ℕ) → RestoreError → Type 0
IsBadHead bytes page_size error =
    (head : RecordHead)
    × (bytes ≡ spelled (head_fields head))
    × AllFit (head_fields head)
    × (head_error page_size head ≡ Some error)

-- the bytes are a front with i queues, and then the fields of no queue
abbrev pub HasBadQueue : List ℕ → (page_size limit : ℕ) → ℕ → Type 0
HasBadQueue bytes page_size limit i =
    (v : Version) × (options count : ℕ) × (queues : List Queue) × (front : List ℕ) × (bad : SavedQueue)
    × ProceedsWith page_size limit v
    × IsRecordFront front v options count queues
    × (length queues ≡ i)
    × (i < count)
    × (bytes ≡ front ++ spelled (queue_fields bad))
    × AllFit (queue_fields bad)
    × (is_queue bad ≡ false)

-- the bytes are all queues of a record of version 2 with this page size, and then another limit
abbrev pub HasOtherLimit : List ℕ → (page_size limit : ℕ) → Type 0
HasOtherLimit bytes page_size limit =
    (options count : ℕ) × (queues : List Queue) × (front : List ℕ) × (other : ℕ)
    × IsRecordFront front (Second page_size limit) options count queues × (length queues ≡ count)
    × (bytes ≡ front ++ spelled (limit_fields other)) × (other < 2 ^ 64) × (other ≢ limit)

-- the bytes that were read explain the error, for this page size and this limit
abbrev pub RefusesRecord : List ℕ → (page_size limit : ℕ) → RestoreError → Type 0
RefusesRecord bytes page_size limit Truncated = EndsWithin bytes page_size limit
RefusesRecord bytes page_size limit BadMagic = IsBadHead bytes page_size BadMagic
RefusesRecord bytes page_size limit BadVersion = IsBadHead bytes page_size BadVersion
RefusesRecord bytes page_size limit BadCount = IsBadHead bytes page_size BadCount
RefusesRecord bytes page_size limit BadReserved = IsBadHead bytes page_size BadReserved
RefusesRecord bytes page_size limit (BadQueue i) = HasBadQueue bytes page_size limit i
RefusesRecord bytes page_size limit BadOptions = IsBadHead bytes page_size BadOptions
RefusesRecord bytes page_size limit ReadFault = EndsWithin bytes page_size limit
RefusesRecord bytes page_size limit OutOfMemory =
    (v : Version) × (options count : ℕ)
    × ProceedsWith page_size limit v
    × IsRecordFront bytes v options count []
    × RoomWasRefused count
RefusesRecord bytes page_size limit Mismatch =
    IsBadHead bytes page_size Mismatch ⊎ HasOtherLimit bytes page_size limit

-- the source after an error: at its end, failed, or failed exactly if it had failed before
abbrev pub LeavesSource : RestoreError → (has : Option (List ℕ)) → (failed fails : Bool) → Type 0
LeavesSource Truncated has failed fails = IsAtEnd has × (fails ≡ failed)
LeavesSource ReadFault has failed fails = fails ≡ true
LeavesSource _ has failed fails = fails ≡ failed

-- whether an error ends a read before it has all of its bytes
abbrev pub ends_early : RestoreError → Bool
ends_early Truncated = true
ends_early ReadFault = true
ends_early _ = false

-- the bytes that were read for a queue explain the error: too few, or the fields of no queue
abbrev pub RefusesQueue : List ℕ → (index : ℕ) → RestoreError → Type 0
RefusesQueue bytes index Truncated = length bytes < 32
RefusesQueue bytes index (BadQueue i) =
    (i ≡ index)
    × (bad : SavedQueue)
    × (bytes ≡ spelled (queue_fields bad))
    × AllFit (queue_fields bad)
    × (is_queue bad ≡ false)
RefusesQueue bytes index ReadFault = length bytes < 32
RefusesQueue bytes index _ = ⊥

-- the bytes that were read after the queues explain the error: too few for the limit of version 2, or
-- another limit
abbrev pub RefusesEnd : List ℕ → RecordVersion → (limit : ℕ) → RestoreError → Type 0
RefusesEnd bytes version limit Truncated = (version ≡ versions.Second) × (length bytes < 8)
RefusesEnd bytes version limit ReadFault = (version ≡ versions.Second) × (length bytes < 8)
RefusesEnd bytes version limit Mismatch =
    (version ≡ versions.Second)
    × (other : ℕ)
    × (bytes ≡ spelled (limit_fields other))
    × (other < 2 ^ 64)
    × (other ≢ limit)
RefusesEnd bytes version limit _ = ⊥

-- a version with the page size and the limit that version 2 has
abbrev pub versioned : RecordVersion → (page_size limit : ℕ) → Version
versioned versions.First page_size limit = First
versioned versions.Second page_size limit = Second page_size limit
