-- Worked read sets that compute: of offers, of a step that returns a chain, and of runs over small
-- memories.
use Rattle.std.specs.Prelude.{◌≡◌, ℕ, true, false, List, [], ◌∷◌, ◌++◌, map, Some, None, refl}
use Rattle.vm_iotlb.specs.declared.permissions.Permissions.TheVariants.{Read, Write, ReadWrite}
use Rattle.vm_iotlb.specs.Ranges.{table_held}
use Rattle.vm_memory_core.specs.Host.{Place, new_block}
use Rattle.vm_memory.specs.Layout.{place}
use Rattle.vm_memory.specs.Memory.{Memory, addresses, io_memory, memory_of, stored_all}
use Rattle.fs_queue.specs.declared.fault.QueueError.TheVariants as queue_error
use Rattle.fs_queue.specs.Queue.{with_stop}
use Rattle.fs_queue.specs.Chain.{path, found}
use Rattle.fs_queue.specs.Taking.{offer}
use Rattle.server_meanings.specs.Examples.{le16}
use Rattle.plain_machine.specs.Step.{State, Exchanged}
use Rattle.plain_machine.specs.declared.error.DeviceError.TheVariants as device_error
use Rattle.plain_machine.specs.declared.refusal.Refusal.TheVariants as why
use Rattle.plain_machine.specs.Run as run
use Rattle.plain_machine.specs.Run.{Command, Answer, Turn, KickRun, RunReported, effect}
use Rattle.plain_machine.specs.Examples.{blank, queue, put, descriptor_bytes, with_one_request}
use Rattle.plain_machine.specs.Examples.{with_descriptors, Nothing, may, device, unknown_exchange}
use Rattle.plain_machine.specs.Examples.{after_reply, one_step}
use Rattle.fs_confinement.specs.ReadSet.{is_among, offer_reads, flag_reads, places_for, nothing, kick_touches}
use Rattle.fs_confinement.specs.ReadSet.{run_touches}

-- ---- the reads of a step before its calls; the queue's table is at 0, its rings are at 0x100 and
-- 0x200

-- the reads of the queue's offer
abbrev reads : Memory → List ℕ
reads m = offer_reads m 0x101000 queue

-- no chain is available: only the index is read
index_alone : reads blank ≡ 0x102 ∷ 0x103 ∷ []
unfolding offer place addresses stored_all path found
index_alone = refl

-- a request of 40 bytes at 0x1000: index, ring entry, two descriptors, request; the reply buffer at
-- 0x2000 isn't read
one_request_read : reads with_one_request ≡ addresses 0x102 2 ++ addresses 0x104 2 ++ addresses 0 16
    ++ addresses 16 16 ++ addresses 0x1000 40
unfolding offer place addresses stored_all path found
one_request_read = refl

-- an indirect table at 0x3000: the descriptor with its address is read, and its entries
by_table_read : reads with_descriptors ≡ addresses 0x102 2 ++ addresses 0x104 2 ++ addresses 0 16
    ++ addresses 0x3000 16 ++ addresses 0x3010 16 ++ addresses 0x1000 40
unfolding offer place addresses stored_all path found
by_table_read = refl

-- the index is too far ahead: no entry of the ring is read
too_far_read : reads (put with_one_request 0x102 (le16 5)) ≡ 0x102 ∷ 0x103 ∷ []
unfolding offer place addresses stored_all path found
too_far_read = refl

-- the head is past the table's end: no descriptor is read
past_table_read : reads (put with_one_request 0x104 (le16 4)) ≡ addresses 0x102 2 ++ addresses 0x104 2
unfolding offer place addresses stored_all path found
past_table_read = refl

-- `next` is past the table's end: the descriptor before it is read, and no request
past_next_read : reads (put with_one_request 0 (descriptor_bytes 0x1000 40 1 4))
    ≡ addresses 0x102 2 ++ addresses 0x104 2 ++ addresses 0 16
unfolding offer place addresses stored_all path found
past_next_read = refl

-- the reply buffer isn't mapped: both descriptors are read, and no request
no_room_read : reads (put with_one_request 16 (descriptor_bytes 0x20000 16 2 0))
    ≡ addresses 0x102 2 ++ addresses 0x104 2 ++ addresses 0 16 ++ addresses 16 16
unfolding offer place addresses stored_all path found
no_room_read = refl

-- a descriptor whose `next` is itself is read at each step: four times as one of the chain, and once
-- more to find that the chain is too long
loop_read : reads (put with_one_request 0 (descriptor_bytes 0x1000 40 1 0))
    ≡ addresses 0x102 2 ++ addresses 0x104 2 ++ addresses 0 16 ++ addresses 0 16 ++ addresses 0 16
    ++ addresses 0 16 ++ addresses 0 16
unfolding offer place addresses stored_all path found
loop_read = refl

-- an indirect table isn't mapped: the descriptor with its address is read, and none of its entries
no_table_read : reads (put with_one_request 0 (descriptor_bytes 0x20000 32 4 0))
    ≡ addresses 0x102 2 ++ addresses 0x104 2 ++ addresses 0 16
unfolding offer place addresses stored_all path found
no_table_read = refl

-- one byte more than the limit: both descriptors are read, and no request
over_limit_read : offer_reads with_one_request 39 queue ≡ addresses 0x102 2 ++ addresses 0x104 2
    ++ addresses 0 16 ++ addresses 16 16
unfolding offer place addresses stored_all path found
over_limit_read = refl

-- a stopped queue reads nothing
stopped_read : offer_reads with_one_request 0x101000 (with_stop queue) ≡ []
unfolding offer
stopped_read = refl

-- after a chain was returned, the flags are read
flags_read : flag_reads queue (Exchanged unknown_exchange true) ≡ 0x100 ∷ 0x101 ∷ []
unfolding addresses
flags_read = refl

-- ---- places: two I/O addresses that are mapped to the same byte are one place of the block

abbrev twice : Memory
twice =
    io_memory (record {
      blocks = new_block 16 ∷ [];
      tables = (record { start = 0; end = 4; target = 8; perm = ReadWrite } ∷ record {
        start = 4;
        end = 8;
        target = 8;
        perm = Read;
      } ∷ []) ∷ [];
      io_marks = [];
    })
    (record { start = 0; size = 16; block = 0 } ∷ []) 0 0

one_place : map (λ a. is_among 0 9 (places_for twice Read (a ∷ []))) (0 ∷ 1 ∷ 5 ∷ 9 ∷ [])
    ≡ false ∷ true ∷ true ∷ false ∷ []
unfolding place table_held
one_place = refl

-- a request at an I/O address that is mapped to 0x1000; the other addresses are mapped to themselves
abbrev translated : Memory
translated =
    record (put with_one_request 0 (descriptor_bytes 0x8000 40 1 1)) {
      host = record (put with_one_request 0 (descriptor_bytes 0x8000 40 1 1)).host {
        tables = (record { start = 0; end = 0x1000; target = 0; perm = ReadWrite }
            ∷ record { start = 0x2000; end = 0x3000; target = 0x2000; perm = Write }
            ∷ record { start = 0x8000; end = 0x9000; target = 0x1000; perm = Read } ∷ []) ∷ [];
      };
      translates = true;
    }

-- the request is read at the address that it is mapped to
translated_read : map (λ a. is_among 0 a (places_for translated Read (reads translated)))
    (0x1000 ∷ 0x1027 ∷ 0x1028 ∷ 0x8000 ∷ 0x2000 ∷ []) ≡ true ∷ true ∷ false ∷ false ∷ false ∷ []
unfolding offer place addresses stored_all path found table_held
translated_read = refl

-- ---- runs

-- 4 zeros from address 0 on, and a second block that no region shows
abbrev small : State Nothing
small =
    device (memory_of (record { blocks = new_block 4 ∷ new_block 2 ∷ []; tables = []; io_marks = [] })
    (record { start = 0; size = 4; block = 0 } ∷ [])) queue

-- a place of the first block, with the IOMMU off
abbrev at : (offset : ℕ) → Place
at offset = record { block = 0; offset = offset; io = None }

-- the state after the guest wrote 7 at address 3
abbrev written : State Nothing
written =
    record small {
      memory = record small.memory {
        host = record small.memory.host {
          blocks = record { bytes = 0 ∷ 0 ∷ 0 ∷ 7 ∷ []; marks = true ∷ [] } ∷ new_block 2 ∷ [];
        };
      };
    }

-- a guest reads two bytes and writes one
abbrev accesses : List (Command × Answer)
accesses = (run.GuestRead 1 2, run.Bytes (0 ∷ 0 ∷ [])) ∷ (run.GuestWrite 3 (7 ∷ []), run.Done) ∷ []

accessed : RunReported may small accesses ([] ∷ [] ∷ []) written
unfolding RunReported effect place addresses stored_all
accessed = (small, refl, (written, refl, refl))

accesses_touch : run_touches may small accesses ([] ∷ [] ∷ []) written accessed
    ≡ record { read = at 1 ∷ at 2 ∷ []; written = at 3 ∷ [] }
unfolding run_touches accessed place addresses
accesses_touch = refl

-- a byte that is read matters: with 9 at address 1 the same command has another answer
abbrev other : State Nothing
other =
    record small {
      memory = record small.memory {
        host = record small.memory.host {
          blocks = record { bytes = 0 ∷ 9 ∷ 0 ∷ 0 ∷ []; marks = false ∷ [] } ∷ new_block 2 ∷ [];
        };
      };
    }

read_byte_matters : effect other (run.GuestRead 1 2) ≡ Some (run.Bytes (9 ∷ 0 ∷ []), other)
unfolding effect place addresses
read_byte_matters = refl

-- a refused access touches nothing
abbrev past_the_end : List (Command × Answer)
past_the_end = (run.GuestRead 3 2, run.IsRefused why.NoPlace) ∷ []

refused : RunReported may small past_the_end ([] ∷ []) small
unfolding RunReported effect place addresses
refused = (small, refl, refl)

refused_touches :
    run_touches may small past_the_end ([] ∷ []) small refused ≡ record { read = []; written = [] }
unfolding run_touches refused
refused_touches = refl

-- ---- kicks

-- an exchange without a call
abbrev turn : Turn
turn = record { exchange = unknown_exchange; notice = true; calls = [] }

served : KickRun may (device with_one_request queue) 0 1 (turn ∷ []) None (after_reply with_one_request queue)
unfolding KickRun
served = (after_reply with_one_request queue, one_step, refl)

-- a kick of one chain writes the reply buffer, the used element and the used index
kick_writes : (kick_touches may (device with_one_request queue) 0 1 (turn ∷ []) None
    (after_reply with_one_request queue) served).written
    ≡ map at (addresses 0x2000 16 ++ addresses 0x204 8 ++ addresses 0x202 2)
unfolding kick_touches served offer place addresses stored_all path found
kick_writes = refl

-- the reads of a step that takes the chain
abbrev all_read : List ℕ
all_read = addresses 0x102 2 ++ addresses 0x104 2 ++ addresses 0 16 ++ addresses 16 16 ++ addresses 0x1000 40

-- the kick reads just that, and the flags
kick_reads : (kick_touches may (device with_one_request queue) 0 1 (turn ∷ []) None
    (after_reply with_one_request queue) served).read ≡ map at (all_read ++ addresses 0x100 2)
unfolding kick_touches served offer place addresses stored_all path found
kick_reads = refl

-- a kick for no chain touches nothing
none_served : KickRun may (device with_one_request queue) 0 0 [] None (device with_one_request queue)
unfolding KickRun
none_served = refl

none_touched : kick_touches may (device with_one_request queue) 0 0 [] None (device with_one_request queue)
    none_served ≡ nothing
unfolding kick_touches
none_touched = refl

-- a kick that ends with a failed allocation counts as if it had read all of its offer; it writes
-- nothing
lacking : KickRun may (device with_one_request queue) 0 1 []
    (Some (device_error.Queue queue_error.OutOfMemory)) (device with_one_request queue)
unfolding KickRun offer place addresses stored_all path found
lacking = (refl, record { same = refl; no_call = refl })

lacking_touches : kick_touches may (device with_one_request queue) 0 1 []
    (Some (device_error.Queue queue_error.OutOfMemory)) (device with_one_request queue) lacking
    ≡ record { read = map at all_read; written = [] }
unfolding kick_touches offer place addresses stored_all path found
lacking_touches = refl
