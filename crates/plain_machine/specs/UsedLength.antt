-- The length in a used element (VIRTIO 1.2, 2.7.8).
use Rattle.std.specs.Prelude.{◌≡◌, ℕ, ◌<◌, Bool, List, ◌++◌, zip, length, take, Some, slice_get}
use Rattle.std.specs.Int.{w16, w32, to_le_bytes}
use Rattle.vm_memory.specs.Memory.{Memory, addresses, stored_all}
use Rattle.fs_queue.specs.Queue.{Queue, element_at, index_at}
use Rattle.fs_queue.specs.Returning.{next_position}
use Rattle.fs_queue.specs.Taking.{RequestAndRoom, Offers, offer, room_of}
use Rattle.server_meanings.specs.Serving.{May}
use Rattle.plain_machine.specs.Step.{State, Exchange, Exchanged, Calls, Step}

-- the length in a reply's header: its first le32 (linux/fuse.h, struct fuse_out_header)
abbrev pub header_length : (reply : List ℕ) → List ℕ
header_length reply = take 4 reply

-- the writes of a reply: its bytes, one at each address of the reply buffer from the first on
abbrev pub reply_writes : (room reply : List ℕ) → List (ℕ × ℕ)
reply_writes room reply = zip room reply

-- the writes to the used ring: the used element, which is le32 head and le32 used length, and then the
-- le16 used index
abbrev pub ring_writes : Queue → (head used_length : ℕ) → List (ℕ × ℕ)
ring_writes q head used_length =
    zip (addresses (element_at q) 8) (to_le_bytes w32 head ++ to_le_bytes w32 used_length)
    ++ zip (addresses (index_at q) 2) (to_le_bytes w16 (next_position q))

-- the used length is the number of reply bytes written, and if it isn't 0, the length in the reply's
-- header as le32. If it is 0, only the used element and the used index are written
pub record ReportsLength (before : Memory) (q : Queue) (head : ℕ) (room reply : List ℕ) (used_length : ℕ)
    (after : Memory) : Type 0 where
  pub written : after ≡ stored_all before (reply_writes room reply ++ ring_writes q head used_length)
  pub count : length (reply_writes room reply) ≡ used_length
  pub header : 0 < used_length → header_length reply ≡ to_le_bytes w32 used_length
  pub nothing : used_length ≡ 0 → after ≡ stored_all before (ring_writes q head 0)

-- a queue that offered this exchange's chain in the state before, and the request and reply buffer of
-- that chain
pub record IsOffered {F : Type 0} (s : State F) (i : ℕ) (x : Exchange) : Type 0 where
  pub queue : Queue
  pub fetched : RequestAndRoom
  pub there : slice_get s.queues i ≡ Some queue
  pub offered : offer s.memory s.limit queue ≡ Offers x.head fetched

-- theorem: the used length of each exchange is the length of its reply
abbrev pub LengthsAreOfReplies : {F : Type 0} → May F → Type 0
LengthsAreOfReplies {F} may =
    (s after : State F) (i : ℕ) (calls : Calls) (x : Exchange) (notice : Bool) →
    Step may s i calls (Exchanged x notice) after →
    (o : IsOffered s i x)
    × ReportsLength s.memory o.queue x.head (room_of o.fetched) x.reply (length x.reply) after.memory
