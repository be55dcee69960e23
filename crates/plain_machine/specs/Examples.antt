-- Worked examples that compute: one region from 0 to 0x10000, and a queue of four descriptors, its table at
-- 0, its rings at 0x100 and 0x200.
use Rattle.std.specs.Prelude.{◌≡◌, ℕ, true, false, List, [], ◌∷◌, ◌++◌, length, refl, None}
use Rattle.std.specs.List.{zip}
use Rattle.vm_memory_core.specs.Host.{new_block}
use Rattle.vm_memory.specs.Layout.{place}
use Rattle.vm_memory.specs.Memory.{Memory, memory_of, addresses, bytes, stored_all}
use Rattle.fs_queue.specs.declared.fault.ChainFault.TheVariants as chain_fault
use Rattle.fs_queue.specs.declared.fault.QueueError.TheVariants as queue_error
use Rattle.fs_queue.specs.Queue.{Queue, with_stop}
use Rattle.fs_queue.specs.Chain.{path, found}
use Rattle.fs_queue.specs.Taking.{Offer, Idle, Refuses, Offers, IsRequest, CannotFetch, offer}
use Rattle.server_segments.specs.declared.error.Error.TheVariants as error
use Rattle.vm_values.specs.Fields as fields
use Rattle.server_requests.specs.Reading.{record_parser}
use Rattle.server_replies.specs.WholeReplies.{error_bytes}
use Rattle.server_meanings.specs.Examples.{zeros, le16, le32, le64, in_header_bytes}
use Rattle.server_meanings.specs.Grammar.{IsFault, Replies, meaning, meant}
use Rattle.server_meanings.specs.Serving.{May}
use Rattle.plain_machine.specs.declared.error.DeviceError.TheVariants as device_error
use Rattle.plain_machine.specs.Step.{State, Exchange, Refused, Exchanged, Step, after_return}

-- 64 KiB of zeros from address 0 on
abbrev pub blank : Memory
blank =
    memory_of (record { blocks = new_block 0x10000 ∷ []; tables = []; io_marks = [] })
    (record { start = 0; size = 0x10000; block = 0 } ∷ [])

-- a queue of four descriptors, none of whose chains was taken so far
abbrev pub queue : Queue
queue = record { size = 4; desc = 0; avail = 0x100; used = 0x200; position = 0; stopped = false }

-- the memory after the guest wrote bytes at an address
abbrev pub put : Memory → ℕ → List ℕ → Memory
put m a bs = stored_all m (zip (addresses a (length bs)) bs)

-- a descriptor of this address, length, flags and next (VIRTIO 1.2, 2.7.5)
abbrev pub descriptor_bytes : ℕ → ℕ → ℕ → ℕ → List ℕ
descriptor_bytes addr len flags next = le64 addr ++ le32 len ++ le16 flags ++ le16 next

-- a request that is only a header, with an unknown opcode
abbrev pub request : List ℕ
request = in_header_bytes 40 7 1 0

-- the request at 0x1000 in a chain with a reply buffer of 16 bytes at 0x2000
abbrev pub with_one_request : Memory
with_one_request =
    let a = put blank 0x1000 request in
    let b = put a 0 (descriptor_bytes 0x1000 40 1 1 ++ descriptor_bytes 0x2000 16 2 0) in
    put b 0x100 (le16 0 ++ le16 1 ++ le16 0)

-- the offer of the queue over a memory
abbrev gives : Memory → Offer
gives m = offer m 0x101000 queue

-- in a memory of zeros no chain is available
nothing_waits : gives blank ≡ Idle
unfolding offer place addresses stored_all path found
nothing_waits = refl

-- 40 bytes of request, 16 bytes of reply buffer
one_request : gives with_one_request ≡ Offers 0 (IsRequest request (addresses 0x2000 16))
unfolding offer place addresses stored_all path found
one_request = refl

-- a descriptor whose `next` is itself
too_long : gives (put with_one_request 0 (descriptor_bytes 0x1000 40 1 0))
    ≡ Offers 0 (CannotFetch chain_fault.TooLong)
unfolding offer place addresses stored_all path found
too_long = refl

next_past_table : gives (put with_one_request 0 (descriptor_bytes 0x1000 40 1 4))
    ≡ Offers 0 (CannotFetch chain_fault.NextOutOfTable)
unfolding offer place addresses stored_all path found
next_past_table = refl

index_too_far : gives (put with_one_request 0x102 (le16 5)) ≡ Refuses queue_error.AvailTooFar
unfolding offer place addresses stored_all path found
index_too_far = refl

head_past_table : gives (put with_one_request 0x104 (le16 4)) ≡ Refuses queue_error.HeadOutOfTable
unfolding offer place addresses stored_all path found
head_past_table = refl

past_64_bits : gives (put with_one_request 0 (descriptor_bytes 0xfffffffffffffff8 8 1 1))
    ≡ Offers 0 (CannotFetch chain_fault.AddressOverflow)
unfolding offer place addresses stored_all path found
past_64_bits = refl

over_limit : gives (put with_one_request 0 (descriptor_bytes 0x1000 0x101001 1 1))
    ≡ Offers 0 (CannotFetch chain_fault.OverLimit)
unfolding offer place addresses stored_all path found
over_limit = refl

request_far_away : gives (put with_one_request 0 (descriptor_bytes 0xfff0 40 1 1))
    ≡ Offers 0 (CannotFetch chain_fault.RequestUnreachable)
unfolding offer place addresses stored_all path found
request_far_away = refl

room_far_away : gives (put with_one_request 16 (descriptor_bytes 0x20000 16 2 0))
    ≡ Offers 0 (CannotFetch chain_fault.RoomUnreachable)
unfolding offer place addresses stored_all path found
room_far_away = refl

-- ---- indirect tables

-- the two descriptors as a table of 32 bytes at 0x3000, which the first descriptor names
abbrev pub with_descriptors : Memory
with_descriptors =
    let a = put with_one_request 0x3000 (descriptor_bytes 0x1000 40 1 1 ++ descriptor_bytes 0x2000 16 2 0) in
    put a 0 (descriptor_bytes 0x3000 32 4 0)

-- the same request and reply buffer
by_table : gives with_descriptors ≡ Offers 0 (IsRequest request (addresses 0x2000 16))
unfolding offer place addresses stored_all path found
by_table = refl

-- VIRTQ_DESC_F_WRITE of a descriptor with an indirect table is ignored (2.7.5.3.2)
by_table_to_write : gives (put with_descriptors 0 (descriptor_bytes 0x3000 32 6 0))
    ≡ Offers 0 (IsRequest request (addresses 0x2000 16))
unfolding offer place addresses stored_all path found
by_table_to_write = refl

-- descriptors of the queue's table come first, and the last of them has the indirect table
after_own : gives (put (put with_descriptors 0 (descriptor_bytes 0x1000 40 1 1
    ++ descriptor_bytes 0x3010 16 4 0)) 0x3010 (descriptor_bytes 0x2000 16 2 0)) ≡ Offers 0
    (IsRequest request (addresses 0x2000 16))
unfolding offer place addresses stored_all path found
after_own = refl

table_with_next : gives (put with_descriptors 0 (descriptor_bytes 0x3000 32 5 1))
    ≡ Offers 0 (CannotFetch chain_fault.IndirectWithNext)
unfolding offer place addresses stored_all path found
table_with_next = refl

table_in_table : gives (put with_descriptors 0x3000 (descriptor_bytes 0x3000 32 4 0))
    ≡ Offers 0 (CannotFetch chain_fault.IndirectNested)
unfolding offer place addresses stored_all path found
table_in_table = refl

table_of_no_entry : gives (put with_descriptors 0 (descriptor_bytes 0x3000 0 4 0))
    ≡ Offers 0 (CannotFetch chain_fault.IndirectLength)
unfolding offer place addresses stored_all path found
table_of_no_entry = refl

table_of_half_entries : gives (put with_descriptors 0 (descriptor_bytes 0x3000 40 4 0))
    ≡ Offers 0 (CannotFetch chain_fault.IndirectLength)
unfolding offer place addresses stored_all path found
table_of_half_entries = refl

table_past_64_bits : gives (put with_descriptors 0 (descriptor_bytes 0xfffffffffffffff0 16 4 0))
    ≡ Offers 0 (CannotFetch chain_fault.AddressOverflow)
unfolding offer place addresses stored_all path found
table_past_64_bits = refl

table_far_away : gives (put with_descriptors 0 (descriptor_bytes 0x20000 32 4 0))
    ≡ Offers 0 (CannotFetch chain_fault.TableUnreachable)
unfolding offer place addresses stored_all path found
table_far_away = refl

next_past_named_table : gives (put with_descriptors 0x3000 (descriptor_bytes 0x1000 40 1 2))
    ≡ Offers 0 (CannotFetch chain_fault.NextOutOfTable)
unfolding offer place addresses stored_all path found
next_past_named_table = refl

-- a descriptor of an indirect table whose `next` is itself
loop_in_table : gives (put with_descriptors 0x3000 (descriptor_bytes 0x1000 40 1 0))
    ≡ Offers 0 (CannotFetch chain_fault.TooLong)
unfolding offer place addresses stored_all path found
loop_in_table = refl

-- ---- requests

unknown : meaning 0 request 16 ≡ Replies (0x10 ∷ 0 ∷ 0 ∷ 0 ∷ 0xda ∷ 0xff ∷ 0xff ∷ 0xff ∷ 1 ∷ zeros 7)
unfolding meaning record_parser meant error_bytes fields.field_bytes
unknown = refl

too_great_a_length : meaning 0 (in_header_bytes 0x101001 7 1 0) 16
    ≡ Replies (0x10 ∷ 0 ∷ 0 ∷ 0 ∷ 0xf4 ∷ 0xff ∷ 0xff ∷ 0xff ∷ 1 ∷ zeros 7)
unfolding meaning record_parser meant error_bytes fields.field_bytes
too_great_a_length = refl

too_short : meaning 0 (zeros 39) 16 ≡ IsFault error.DecodeMessage
unfolding meaning record_parser meant error_bytes fields.field_bytes
too_short = refl

-- ---- whole steps of a device that calls no file system

-- a file system without a state
abbrev pub Nothing : Type 0
Nothing = Unit {0}

-- this file system answers no call
abbrev pub may : May Nothing
may before call answer after = ⊥

-- a device of one queue over a memory
abbrev pub device : Memory → Queue → State Nothing
device m q =
    record { memory = m; queues = q ∷ []; options = 0; files = tt; limit = 0x101000; page_size = 4096 }

-- struct fuse_out_header with ENOSYS
abbrev pub unknown_reply : List ℕ
unknown_reply = 0x10 ∷ 0 ∷ 0 ∷ 0 ∷ 0xda ∷ 0xff ∷ 0xff ∷ 0xff ∷ 1 ∷ zeros 7

-- the exchange of the request with that reply
abbrev pub unknown_exchange : Exchange
unknown_exchange = record { head = 0; request = request; reply = unknown_reply; fault = None }

-- the state after that reply, over a memory
abbrev pub after_reply : Memory → Queue → State Nothing
after_reply m q = after_return (device m q) 0 q 0 (addresses 0x2000 16) unknown_reply 0 tt

-- the chain is taken, answered and returned, and the driver is notified
pub one_step : Step may (device with_one_request queue) 0 [] (Exchanged unknown_exchange true)
    (after_reply with_one_request queue)
unfolding offer place addresses stored_all path found meaning record_parser meant error_bytes
    fields.field_bytes
one_step = record {
  given = record { calls = []; options = 0; reply = unknown_reply; fault = None };
  serves = record { gives = refl; asks = refl; run = refl };
  returns = record { exchange = refl; state = refl; reported = refl };
}

-- the bytes in memory afterwards
reply_stands : bytes (after_reply with_one_request queue).memory 0x2000 16 ≡ unknown_reply
unfolding offer place addresses stored_all path found
reply_stands = refl

element_stands :
    bytes (after_reply with_one_request queue).memory 0x202 10 ≡ 1 ∷ 0 ∷ 0 ∷ 0 ∷ 0 ∷ 0 ∷ 0x10 ∷ 0 ∷ 0 ∷ 0 ∷ []
unfolding offer place addresses stored_all path found
element_stands = refl

-- the driver suppresses notifications (VIRTQ_AVAIL_F_NO_INTERRUPT)
not_notified : Step may (device (put with_one_request 0x100 (le16 1)) queue) 0 []
    (Exchanged unknown_exchange false) (after_reply (put with_one_request 0x100 (le16 1)) queue)
unfolding offer place addresses stored_all path found meaning record_parser meant error_bytes
    fields.field_bytes
not_notified = record {
  given = record { calls = []; options = 0; reply = unknown_reply; fault = None };
  serves = record { gives = refl; asks = refl; run = refl };
  returns = record { exchange = refl; state = refl; reported = refl };
}

-- an available index that is too far ahead stops the queue
far_stops : Step may (device (put with_one_request 0x102 (le16 5)) queue) 0 [] (Refused (device_error.Queue
    queue_error.AvailTooFar)) (device (put with_one_request 0x102 (le16 5)) (with_stop queue))
unfolding offer place addresses stored_all path found
far_stops = (refl, refl, refl)

no_queue : Step may (device with_one_request queue) 1 [] (Refused device_error.NoSuchQueue)
    (device with_one_request queue)
unfolding offer
no_queue = (refl, record { same = refl; no_call = refl })
