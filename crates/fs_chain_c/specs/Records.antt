-- The record of a device and its queues, as C has them.
use Rattle.std.specs.Prelude.{◌≡◌, ◌⊎◌, ◌==◌, ◌≤◌, ◌<◌, ◌+◌, ◌%◌, ◌^◌, ◌++◌, [], ◌∷◌, ℕ, false, not, List}
use Rattle.std.specs.Prelude.{All, map, length, drop, slice_get, Option, Some, None, if◌then◌else◌}
use Rattle.memory_requests.specs.Refused.{RoomWasRefused}
use Rattle.fs_queue.specs.Queue.{Queue, resumed}
use Rattle.fs_record.specs.Numbers.{restore_error_number}
use Rattle.fs_record.specs.Record.{HasKnownBits, IsRecordFor, Second, record_bytes}
use Rattle.fs_record.specs.Restoring.{LeavesSource, RefusesRecord}
use Rattle.fs_record.specs.declared.error.RestoreError.{RestoreError}
use Rattle.fs_chain.specs.declared.error.ChainError.TheVariants.{BadArgument, ChainInFlight, OutOfMemory}
use Rattle.fs_chain.specs.declared.error.ChainError.TheVariants.{ShortBuffer}
use Rattle.fs_chain.specs.Numbers.{chain_error_number}
use Rattle.fs_chain_c.specs.declared.device.FsDevice.{FsDevice}
use Rattle.fs_chain_c.specs.declared.queue.FsQueue.{FsQueue}
use Rattle.fs_chain_c.specs.Memory.{IsDevice}
use Rattle.fs_chain_c.specs.Queues.{IsQueue, chains_in_flight}
use Rattle.fs_chain_c.specs.Statuses.{device_status, queue_status, refusal_status}
use Rattle.fs_chain_c.specs.declared.status.StatusRefusal.{StatusRefusal}
use Rattle.fs_chain_c.specs.declared.status.StatusRefusal.TheVariants.{Of, Invalid}

-- the queue that a record keeps of these numbers
abbrev pub queue_of : FsQueue → Queue
queue_of q = resumed q.size q.desc q.avail q.used q.next_avail (not (q.stopped == 0))

-- no chain of the queue is in flight
abbrev pub HasNoneOut : FsQueue → Type 0
HasNoneOut q = chains_in_flight q ≡ 0

-- ---- saving a record

-- a device may have a record with `n` queues: its options are known, and there are 1 to 64 queues
abbrev pub CanSaveSome : FsDevice → (count : ℕ) → Type 0
CanSaveSome d n = IsDevice d × HasKnownBits d.options × (1 ≤ n) × (n ≤ 64)

-- a device and queues may have a record: the same, and the queues' numbers are valid
abbrev pub CanSave : FsDevice → List FsQueue → Type 0
CanSave d qs = IsDevice d × HasKnownBits d.options × (1 ≤ length qs) × (length qs ≤ 64) × All IsQueue qs

-- why a record can't keep a queue: its numbers aren't a queue's, or a chain of it is in flight
abbrev pub RefusesToSave : FsQueue → StatusRefusal → Type 0
RefusesToSave q (Invalid status) = (IsQueue q → ⊥) × (status ≡ queue_status q)
RefusesToSave q (Of ChainInFlight) = IsQueue q × (HasNoneOut q → ⊥)
RefusesToSave q _ = ⊥

-- why a record can't keep some queues: the reason of the first that it can't keep
pub record RefusesQueues (qs : List FsQueue) (why : StatusRefusal) : Type 0 where
  pub before : List FsQueue
  pub queue : FsQueue
  pub after : List FsQueue
  pub parts : qs ≡ before ++ queue ∷ after
  pub are : All IsQueue before
  pub none_out : All HasNoneOut before
  pub refused : RefusesToSave queue why

-- the bytes of the record, of version 2
abbrev pub bytes_of : FsDevice → List FsQueue → List ℕ
bytes_of d qs = record_bytes (Second d.page_size d.limit) d.options (map queue_of qs)

-- the record is written to the front of a buffer, or it is refused. The device is checked first, then its
-- options and the count of queues, then each queue in order, then memory, then the buffer's length
abbrev pub SavesSo :
    FsDevice → List FsQueue → (buffer : List ℕ) → Option StatusRefusal → (len : ℕ) → (buffer' : List ℕ) →
    Type 0
SavesSo d qs buffer None len buffer' =
    CanSave d qs
    × All HasNoneOut qs
    × (len ≡ length (bytes_of d qs))
    × (buffer' ≡ bytes_of d qs ++ drop len buffer)
SavesSo d qs buffer (Some (Of ShortBuffer)) len buffer' =
    CanSave d qs
    × All HasNoneOut qs
    × (len ≡ length (bytes_of d qs))
    × (length buffer < len)
    × (buffer' ≡ buffer)
SavesSo d qs buffer (Some (Invalid status)) len buffer' =
    (((IsDevice d → ⊥) × (status ≡ device_status))
    ⊎ (CanSaveSome d (length qs) × RefusesQueues qs (Invalid status)))
    × (len ≡ 0)
    × (buffer' ≡ buffer)
SavesSo d qs buffer (Some (Of BadArgument)) len buffer' =
    IsDevice d × (CanSaveSome d (length qs) → ⊥) × (len ≡ 0) × (buffer' ≡ buffer)
SavesSo d qs buffer (Some (Of ChainInFlight)) len buffer' =
    CanSaveSome d (length qs) × RefusesQueues qs (Of ChainInFlight) × (len ≡ 0) × (buffer' ≡ buffer)
SavesSo d qs buffer (Some (Of OutOfMemory)) len buffer' =
    CanSave d qs × All HasNoneOut qs × RoomWasRefused (length qs) × (len ≡ 0) × (buffer' ≡ buffer)
SavesSo d qs buffer (Some _) len buffer' = ⊥

-- the status of saving a record
abbrev pub saved_status : Option StatusRefusal → ℕ
saved_status None = 0
saved_status (Some why) = refusal_status why

abbrev pub Saves :
    FsDevice → List FsQueue → (buffer : List ℕ) → (status len : ℕ) → (buffer' : List ℕ) → Type 0
Saves d qs buffer status len buffer' =
    (how : Option StatusRefusal) × (status ≡ saved_status how) × SavesSo d qs buffer how len buffer'

-- ---- restoring a record

-- the numbers of a queue that is reset from a record. The record doesn't keep the refusal that stopped the
-- queue: `stopped` is 1 then. How many chains may be in flight stays
abbrev pub numbers_over : FsQueue → Queue → FsQueue
numbers_over old q = record old {
  desc = q.desc;
  avail = q.avail;
  used = q.used;
  size = q.size;
  next_avail = q.position;
  next_used = q.position;
  stopped = if q.stopped then 1 else 0;
  pushing = 0;
  reset_count = (old.reset_count + 1) % 2 ^ 32;
}

-- the record's queues written over the first of some
abbrev pub restored_over : List FsQueue → List Queue → List FsQueue
restored_over olds [] = olds
restored_over [] (q ∷ qs) = []
restored_over (old ∷ olds) (q ∷ qs) = numbers_over old q ∷ restored_over olds qs

-- queues fit a record: each of the record's, over the earlier numbers at its place, has a queue's numbers. So
-- no more chains may be in flight than it has descriptors, and the event index is 0 or 1
abbrev pub FitRecord : (olds : List FsQueue) → List Queue → Type 0
FitRecord olds qs =
    (k : ℕ) (old : FsQueue) (q : Queue)
    → slice_get olds k ≡ Some old
    → slice_get qs k ≡ Some q
    → IsQueue (numbers_over old q)

-- the first so many queues fit a record
abbrev pub FitBefore : (olds : List FsQueue) → List Queue → (count : ℕ) → Type 0
FitBefore olds qs n =
    (k : ℕ) (old : FsQueue) (q : Queue)
    → k < n
    → slice_get olds k ≡ Some old
    → slice_get qs k ≡ Some q
    → IsQueue (numbers_over old q)

-- the first queue that doesn't fit a record has this status
pub record HasUnfit (olds : List FsQueue) (qs : List Queue) (status : ℕ) : Type 0 where
  pub at : ℕ
  pub old : FsQueue
  pub queue : Queue
  pub was : slice_get olds at ≡ Some old
  pub is : slice_get qs at ≡ Some queue
  pub before : FitBefore olds qs at
  pub unfit : IsQueue (numbers_over old queue) → ⊥
  pub why : status ≡ queue_status (numbers_over old queue)

-- some bytes begin with a record that matches the device's page size and limit
abbrev pub HasRecord : FsDevice → (saved : List ℕ) → (options : ℕ) → List Queue → Type 0
HasRecord d saved options qs =
    (taken rest : List ℕ) × (saved ≡ taken ++ rest) × IsRecordFor taken d.page_size d.limit options qs

-- they don't: reading a record fails by this error
abbrev pub HasNoRecord : FsDevice → (saved : List ℕ) → RestoreError → Type 0
HasNoRecord d saved e =
    (taken rest : List ℕ)
    × (saved ≡ taken ++ rest)
    × RefusesRecord taken d.page_size d.limit e
    × LeavesSource e (Some rest) false false

-- how restoring ends: the record is read; there are too few queues for it; they don't fit it; the bytes
-- aren't a record for this device; or the numbers aren't a device's
pub data RestoreOutcome : Type 0 where
  Restored : (options : ℕ) → List Queue → RestoreOutcome
  TooFewQueues : (options : ℕ) → List Queue → RestoreOutcome
  UnfitQueues : (options : ℕ) → List Queue → (status : ℕ) → RestoreOutcome
  NoRecord : RestoreError → RestoreOutcome
  NoDevice : RestoreOutcome

-- the status of restoring a record
abbrev pub read_status : RestoreOutcome → ℕ
read_status (Restored options qs) = 0
read_status (TooFewQueues options qs) = chain_error_number ShortBuffer
read_status (UnfitQueues options qs status) = status
read_status (NoRecord e) = 80 + restore_error_number e
read_status NoDevice = device_status

-- the effect of each: device and queues go on from the record, or don't change
abbrev pub ReadsSo : FsDevice → List FsQueue → (saved : List ℕ) → RestoreOutcome → (count : ℕ) → FsDevice →
    List FsQueue → Type 0
ReadsSo d queues saved (Restored options qs) count d' queues' =
    IsDevice d
    × HasRecord d saved options qs
    × (count ≡ length qs)
    × (count ≤ length queues)
    × (d' ≡ record d { options = options })
    × (queues' ≡ restored_over queues qs)
    × FitRecord queues qs
ReadsSo d queues saved (TooFewQueues options qs) count d' queues' =
    IsDevice d
    × HasRecord d saved options qs
    × (count ≡ length qs)
    × (length queues < count)
    × (d' ≡ d)
    × (queues' ≡ queues)
ReadsSo d queues saved (UnfitQueues options qs status) count d' queues' =
    IsDevice d
    × HasRecord d saved options qs
    × (count ≡ 0)
    × (length qs ≤ length queues)
    × HasUnfit queues qs status
    × (d' ≡ d)
    × (queues' ≡ queues)
ReadsSo d queues saved (NoRecord e) count d' queues' =
    IsDevice d × HasNoRecord d saved e × (count ≡ 0) × (d' ≡ d) × (queues' ≡ queues)
ReadsSo d queues saved NoDevice count d' queues' =
    (IsDevice d → ⊥) × (count ≡ 0) × (d' ≡ d) × (queues' ≡ queues)

abbrev pub Restores :
    FsDevice → List FsQueue → (saved : List ℕ) → (status count : ℕ) → FsDevice → List FsQueue → Type 0
Restores d queues saved status count d' queues' =
    (how : RestoreOutcome) × (status ≡ read_status how) × ReadsSo d queues saved how count d' queues'
