-- Worked runs that compute: guest accesses, layouts and tables that change, two regions, harvests, images
-- and marks. Pages are compared by their offsets, or are small.
use Rattle.std.specs.Prelude.{◌≡◌, ℕ, ◌+◌, ◌-◌, ◌^◌, true, false, List, [], ◌∷◌, ◌++◌, map, refl, Option}
use Rattle.std.specs.Prelude.{Some, None, if◌then◌else◌, option_map, unwrap_or}
use Rattle.std.proofs.Common.{arith}
use Rattle.std.proofs.lemmas.Bool.Decides.{nat_tests}
use Rattle.vm_iotlb.specs.declared.permissions.Permissions.{Permissions}
use Rattle.vm_iotlb.specs.declared.permissions.Permissions.TheVariants.{ReadWrite, Write}
use Rattle.vm_iotlb.specs.declared.range.IotlbRange.{IotlbRange}
use Rattle.vm_iotlb.specs.Table.{is_within, unmapped}
use Rattle.vm_iotlb.specs.Ranges.{mapping_in, table_held}
use Rattle.vm_memory_core.specs.Host.{new_block, cleared}
use Rattle.vm_memory.specs.Layout.{Region, place}
use Rattle.vm_memory.specs.Memory.{Memory, memory_behind, memory_of, addresses, reach, stored_all}
use Rattle.fs_queue.specs.declared.fault.QueueError.TheVariants as queue_error
use Rattle.fs_queue.specs.Queue.{with_stop}
use Rattle.fs_queue.specs.Chain.{path, found}
use Rattle.fs_queue.specs.Taking.{offer}
use Rattle.vm_values.specs.Fields as fields
use Rattle.server_requests.specs.Reading.{record_parser}
use Rattle.server_replies.specs.WholeReplies.{error_bytes}
use Rattle.server_meanings.specs.Examples.{le16, zeros}
use Rattle.server_meanings.specs.Grammar.{meaning, meant}
use Rattle.plain_machine.specs.declared.error.DeviceError.TheVariants as device_error
use Rattle.plain_machine.specs.declared.refusal.Refusal.TheVariants as why
use Rattle.plain_machine.specs.Step.{State, Exchanged, Step}
use Rattle.plain_machine.specs.Harvested.{block_pages, host_pages, harvested}
use Rattle.plain_machine.specs.Run as run
use Rattle.plain_machine.specs.Run.{Command, Answer, Affects, Run, RunReported, KickRun}
use Rattle.plain_machine.specs.Run.{command_takes_memory, effect, with_ranges}
use Rattle.fs_device.specs.Marks.{SameButMarks, SameEvents}
use Rattle.plain_machine.specs.Examples.{queue, put, descriptor_bytes, request, with_one_request}
use Rattle.plain_machine.specs.Examples.{Nothing, may, device, unknown_reply, unknown_exchange, after_reply}

-- ---- 32 bytes at 0, and a guest's accesses to them

-- a machine of 32 bytes at 0
abbrev small : State Nothing
small =
    device (memory_of (record { blocks = new_block 32 ∷ []; tables = []; io_marks = [] })
    (record { start = 0; size = 32; block = 0 } ∷ [])) queue

-- the state after some commands, each decided by `effect`
abbrev comes_to : State Nothing → List Command → State Nothing
comes_to s [] = s
comes_to s (command ∷ commands) = comes_to (unwrap_or (option_map (λ e. e.1) (effect s command)) s) commands

-- the answer to the last command, after others
abbrev answers : State Nothing → List Command → Command → Option Answer
answers s commands last = option_map (λ e. e.0) (effect (comes_to s commands) last)

-- the guest writes two bytes at 5
abbrev guest_writes : List Command
guest_writes = run.GuestWrite 5 (7 ∷ 8 ∷ []) ∷ []

reads_what_was_written :
    answers small guest_writes (run.GuestRead 4 4) ≡ Some (run.Bytes (0 ∷ 7 ∷ 8 ∷ 0 ∷ []))
unfolding effect place addresses stored_all
reads_what_was_written = refl

reads_nothing_past_the_end : answers small [] (run.GuestRead 32 1) ≡ Some (run.IsRefused why.NoPlace)
unfolding effect place addresses
reads_nothing_past_the_end = refl

-- one of the addresses isn't mapped: no byte is written
writes_whole_or_not_at_all :
    effect small (run.GuestWrite 31 (7 ∷ 8 ∷ [])) ≡ Some (run.IsRefused why.NoPlace, small)
unfolding effect place addresses
writes_whole_or_not_at_all = refl

-- a read of no byte is allowed at any address
reads_none : answers small [] (run.GuestRead 0x10000 0) ≡ Some (run.Bytes [])
unfolding effect addresses
reads_none = refl

-- ---- layouts that change

makes_no_empty_block : effect small (run.NewBlock 0) ≡ Some (run.IsRefused why.EmptyBlock, small)
unfolding effect
makes_no_empty_block = refl

numbers_blocks : answers small (run.NewBlock 2 ∷ []) (run.NewBlock 1) ≡ Some (run.NewBlockIs 2)
unfolding effect
numbers_blocks = refl

inserts_no_unknown_block :
    answers small [] (run.InsertRegion 0x20000 7) ≡ Some (run.IsRefused why.UnknownBlock)
unfolding effect
inserts_no_unknown_block = refl

-- a block of one byte fits at the very end of the addresses, one of two doesn't
inserts_last_byte : answers small (run.NewBlock 1 ∷ []) (run.InsertRegion (2 ^ 64 - 1) 1) ≡ Some run.Done
unfolding effect
inserts_last_byte = refl

inserts_nothing_past_it :
    answers small (run.NewBlock 2 ∷ []) (run.InsertRegion (2 ^ 64 - 1) 1) ≡ Some (run.IsRefused why.BadRegion)
unfolding effect
inserts_nothing_past_it = refl

-- a command that is refused anyway allocates nothing, nor does a read of no byte. The refusals: not
-- mapped, an empty block, an unknown block, an end past the last address (a region, a mapping), an
-- overlap, no region with this base or size
takes_none_to_refuse : map (run.command_takes_memory small)
    (run.GuestRead 32 1 ∷ run.GuestRead 31 0 ∷ run.NewBlock 0 ∷ run.InsertRegion 0x20000 7
    ∷ run.InsertRegion (2 ^ 64 - 31) 0 ∷ run.Unmap (2 ^ 64 - 1) 1
    ∷ run.InsertRegion 31 0 ∷ run.RemoveRegion 1 32 ∷ run.RemoveRegion 0 31 ∷ [])
    ≡ false ∷ false ∷ false ∷ false ∷ false ∷ false ∷ false ∷ false ∷ false ∷ []
unfolding place addresses
takes_none_to_refuse = refl

-- the same commands allocate if they may be done
takes_some_to_do : map (run.command_takes_memory small)
    (run.GuestRead 31 1 ∷ run.NewBlock 1 ∷ run.InsertRegion (2 ^ 64 - 32) 0 ∷ run.InsertRegion 32 0
    ∷ run.RemoveRegion 0 32 ∷ []) ≡ true ∷ true ∷ true ∷ true ∷ true ∷ []
unfolding place addresses
takes_some_to_do = refl

inserts_no_overlap :
    answers small (run.NewBlock 2 ∷ []) (run.InsertRegion 31 1) ≡ Some (run.IsRefused why.Overlap)
unfolding effect
inserts_no_overlap = refl

-- a block with two regions has one set of bytes
sees_one_block_twice : answers small (run.InsertRegion 64 0 ∷ run.GuestWrite 65 (7 ∷ []) ∷ [])
    (run.GuestRead 0 3) ≡ Some (run.Bytes (0 ∷ 7 ∷ 0 ∷ []))
unfolding effect place addresses stored_all
sees_one_block_twice = refl

removes_once :
    answers small (run.RemoveRegion 0 32 ∷ []) (run.RemoveRegion 0 32) ≡ Some (run.IsRefused why.NoRegion)
unfolding effect
removes_once = refl

removes_all_of_a_region : answers small [] (run.RemoveRegion 0 31) ≡ Some (run.IsRefused why.NoRegion)
unfolding effect
removes_all_of_a_region = refl

-- removed addresses are unmapped, and their block keeps its bytes
keeps_the_block : answers small (run.GuestWrite 5 (7 ∷ []) ∷ run.RemoveRegion 0 32 ∷ run.InsertRegion 64 0
    ∷ []) (run.GuestRead 69 1) ≡ Some (run.Bytes (7 ∷ []))
unfolding effect place addresses stored_all
keeps_the_block = refl

has_no_place_then :
    answers small (run.RemoveRegion 0 32 ∷ []) (run.GuestRead 0 1) ≡ Some (run.IsRefused why.NoPlace)
unfolding effect place addresses
has_no_place_then = refl

-- a region over block 0
abbrev region : ℕ → ℕ → Region
region start size = record { start = start; size = size; block = 0 }

sets_no_unknown_block : answers small [] (run.SetLayout (record { start = 0; size = 32; block = 1 } ∷ []))
    ≡ Some (run.IsRefused why.UnknownBlock)
unfolding effect
sets_no_unknown_block = refl

sets_no_other_length :
    answers small [] (run.SetLayout (region 0 31 ∷ [])) ≡ Some (run.IsRefused why.UnknownBlock)
unfolding effect
sets_no_other_length = refl

sets_nothing_past_the_end :
    answers small [] (run.SetLayout (region (2 ^ 64 - 31) 32 ∷ [])) ≡ Some (run.IsRefused why.BadRegion)
unfolding effect
sets_nothing_past_the_end = refl

sets_no_overlap :
    answers small [] (run.SetLayout (region 0 32 ∷ region 31 32 ∷ [])) ≡ Some (run.IsRefused why.Overlap)
unfolding effect
sets_no_overlap = refl

sets_the_same_block_twice : answers small (run.SetLayout (region 0 32 ∷ region 32 32 ∷ [])
    ∷ run.GuestWrite 5 (7 ∷ []) ∷ []) (run.GuestRead 37 1) ≡ Some (run.Bytes (7 ∷ []))
unfolding effect place addresses stored_all
sets_the_same_block_twice = refl

-- without any region nothing is mapped, and a kick is refused since the available index is unreachable
abbrev nowhere : State Nothing
nowhere = comes_to (device with_one_request queue) (run.SetLayout [] ∷ [])

kick_without_memory : Run may nowhere
    ((
      run.Kick 0 1,
      run.Served
          (record { exchanges = []; refused = Some (device_error.Queue queue_error.AvailIndexUnreachable) }),
    ) ∷ [])
    (record nowhere { queues = with_stop queue ∷ [] })
unfolding RunReported KickRun effect offer place addresses stored_all
kick_without_memory =
    ([] ∷ [], (record nowhere { queues = with_stop queue ∷ [] }, ((refl, refl, refl), refl), refl))

-- ---- a table that changes

-- 32 bytes at 0 behind an IOMMU that is off, a table in which nothing is mapped, and a set of two I/O pages
abbrev behind : State Nothing
behind =
    device (memory_behind
    (record { blocks = new_block 32 ∷ []; tables = [] ∷ []; io_marks = (false ∷ false ∷ []) ∷ [] })
    (region 0 32 ∷ []) 0 0 false) queue

-- addresses up to an end are mapped from a target on
abbrev mapped_to : ℕ → ℕ → ℕ → Permissions → IotlbRange
mapped_to start end target perm = record { start = start; end = end; target = target; perm = perm }

-- sixteen addresses, to the sixteen bytes from 8 on
abbrev sixteen : List IotlbRange
sixteen = mapped_to 0x1000 0x1010 8 ReadWrite ∷ []

-- such a command, on a table of these ranges, is done and leaves those
abbrev leaves : List IotlbRange → Command → List IotlbRange → Type 0
leaves before command ranges =
    Affects (with_ranges behind before) command run.Done (with_ranges behind ranges)

-- such a command is refused with `BadMapping`
abbrev maps_badly : Command → Type 0
maps_badly command = Affects behind command (run.IsRefused why.BadMapping) behind

maps_sixteen : leaves [] (run.Map 0x1000 8 16 ReadWrite) sixteen
unfolding table_held
maps_sixteen = (refl, (sixteen, ((omega arith, omega arith, omega arith), tt, tt), (λ a. refl), refl))

-- no address is among 0 addresses
within_none : (start a : ℕ) → is_within start 0 a ≡ false
within_none start a = grind (arith, nat_tests)

-- a mapping of no address at the very end of the addresses
maps_none : leaves [] (run.Map (2 ^ 64 - 1) 0 0 ReadWrite) []
unfolding table_held
maps_none = (refl, ([], tt, (λ a. rw (within_none (2 ^ 64 - 1) a) refl), refl))

maps_nothing_past_it : maps_badly (run.Map (2 ^ 64 - 1) 0 1 ReadWrite)
maps_nothing_past_it = refl

maps_to_nothing_past_it : maps_badly (run.Map 0 (2 ^ 64 - 1) 1 ReadWrite)
maps_to_nothing_past_it = refl

unmaps_sixteen : leaves sixteen (run.Unmap 0x1000 16) []
unfolding table_held
unmaps_sixteen =
    let none : (a : ℕ) → None ≡ unmapped 0x1000 16 (table_held sixteen) a =
    λ a. elim (is_within 0x1000 16 a) as (λ b. None ≡ (if b then None
    else if b then Some (mapping_in (mapped_to 0x1000 0x1010 8 ReadWrite) a)
    else None)) [ true ↦ refl | false ↦ refl ] in
    (refl, ([], tt, none, refl))

unmaps_nothing_past_the_end : maps_badly (run.Unmap (2 ^ 64 - 1) 1)
unmaps_nothing_past_the_end = refl

unmaps_all : leaves sixteen run.UnmapAll []
unfolding table_held
unmaps_all = (refl, ([], tt, (λ a. refl), refl))

-- a removal of mappings allocates only if it leaves addresses behind it that are mapped in one piece
-- with its last. That is so for the front and the middle of the sixteen, not for all of them, their
-- end, none of them or others
unmapping_takes : map (command_takes_memory (with_ranges behind sixteen))
    (run.Unmap 0x1000 16 ∷ run.Unmap 0x1008 8 ∷ run.Unmap 0x1008 0 ∷ run.Unmap 0x2000 8 ∷ run.Unmap 0x1000 8
    ∷ run.Unmap 0x1004 8 ∷ []) ≡ false ∷ false ∷ false ∷ false ∷ true ∷ true ∷ []
unfolding table_held
unmapping_takes = refl

-- a mapping allocates only if a new run of addresses begins. None begins for the sixteen as they are,
-- elsewhere as a whole, for a part as it is, or right behind them; one does for a part elsewhere, and
-- for other addresses
mapping_takes : map (command_takes_memory (with_ranges behind sixteen)) (run.Map 0x1000 8 16 ReadWrite
    ∷ run.Map 0x1000 0 16 Write ∷ run.Map 0x1004 12 4 ReadWrite ∷ run.Map 0x1010 24 8 ReadWrite
    ∷ run.Map 0x1004 0 4 ReadWrite ∷ run.Map 0x2000 0 8 ReadWrite ∷ [])
    ≡ false ∷ false ∷ false ∷ false ∷ true ∷ true ∷ []
unfolding table_held
mapping_takes = refl

-- the table is used from now on; the guest's own accesses still use physical addresses
abbrev turned_on : List IotlbRange → State Nothing
turned_on ranges = comes_to (with_ranges behind ranges) (run.SetIommu true ∷ [])

turns_on : effect behind (run.SetIommu true)
    ≡ Some (run.Done, record behind { memory = record behind.memory { translates = true } })
unfolding effect
turns_on = refl

turns_off : comes_to behind (run.SetIommu true ∷ run.SetIommu false ∷ []) ≡ behind
unfolding effect
turns_off = refl

reaches_what_is_mapped : reach (turned_on sixteen).memory Write 0x1000 16 ≡ true
unfolding effect table_held place addresses
reaches_what_is_mapped = refl

reaches_no_more : reach (turned_on sixteen).memory Write 0x1000 17 ≡ false
unfolding effect table_held place addresses
reaches_no_more = refl

guest_proceeds_by_physical_addresses :
    answers (turned_on sixteen) guest_writes (run.GuestRead 4 4) ≡ Some (run.Bytes (0 ∷ 7 ∷ 8 ∷ 0 ∷ []))
unfolding effect place addresses stored_all
guest_proceeds_by_physical_addresses = refl

-- a device whose queue isn't in the table stops the queue
kick_without_mapping : Run may (turned_on [])
    ((
      run.Kick 0 1,
      run.Served
          (record { exchanges = []; refused = Some (device_error.Queue queue_error.AvailIndexUnreachable) }),
    ) ∷ [])
    (record (turned_on []) { queues = with_stop queue ∷ [] })
unfolding RunReported KickRun effect offer table_held place addresses
kick_without_mapping =
    ([] ∷ [], (record (turned_on []) { queues = with_stop queue ∷ [] }, ((refl, refl, refl), refl), refl))

-- ---- two regions, of 0x1000 and 0xf000 bytes, and a request that is in both

-- two blocks whose regions adjoin
abbrev two : Memory
two = memory_of (record { blocks = new_block 0x1000 ∷ new_block 0xf000 ∷ []; tables = []; io_marks = [] })
    (record { start = 0; size = 0x1000; block = 0 }
    ∷ record { start = 0x1000; size = 0xf000; block = 1 } ∷ [])

-- a request on both sides of the border
abbrev across : Memory
across =
    let a = put two 0xfe8 request in
    let b = put a 0 (descriptor_bytes 0xfe8 40 1 1 ++ descriptor_bytes 0x2000 16 2 0) in
    let c = put b 0x100 (le16 0 ++ le16 1 ++ le16 0) in
    record c { host = cleared c.host }

serves_across :
    Step may (device across queue) 0 [] (Exchanged unknown_exchange true) (after_reply across queue)
unfolding offer place addresses stored_all path found meaning record_parser meant error_bytes
    fields.field_bytes
serves_across = record {
  given = record { calls = []; options = 0; reply = unknown_reply; fault = None };
  serves = record { gives = refl; asks = refl; run = refl };
  returns = record { exchange = refl; state = refl; reported = refl };
}

-- the offsets of the harvested pages, each in its block
abbrev places_of_pages : Memory → List (ℕ × ℕ)
places_of_pages m = map (λ p. (p.block, p.offset)) (harvested m.host)

-- the element and the index are in one block, the reply is in the other
harvests_both_blocks : places_of_pages (after_reply across queue).memory ≡ (0, 0) ∷ (1, 0x1000) ∷ []
unfolding offer place addresses stored_all block_pages host_pages
harvests_both_blocks = refl

-- ---- harvests

harvests_nothing_yet : harvested small.memory.host ≡ []
unfolding block_pages host_pages
harvests_nothing_yet = refl

-- the last page of a block ends with its block
harvests_what_was_written : harvested (comes_to small guest_writes).memory.host
    ≡ record { block = 0; offset = 0; bytes = zeros 5 ++ 7 ∷ 8 ∷ zeros 25 } ∷ []
unfolding effect place addresses stored_all block_pages host_pages
harvests_what_was_written = refl

harvests_once : harvested (cleared (comes_to small guest_writes).memory.host) ≡ []
unfolding effect place addresses stored_all block_pages host_pages
harvests_once = refl

-- a read marks nothing
harvests_no_read : harvested (comes_to small (run.GuestRead 0 32 ∷ [])).memory.host ≡ []
unfolding effect place addresses stored_all block_pages host_pages
harvests_no_read = refl

answers_the_pages : answers small guest_writes run.Harvest
    ≡ Some (run.Pages (record { block = 0; offset = 0; bytes = zeros 5 ++ 7 ∷ 8 ∷ zeros 25 } ∷ []))
unfolding effect place addresses stored_all block_pages host_pages
answers_the_pages = refl

answers_them_once : answers small (guest_writes ++ run.Harvest ∷ []) run.Harvest ≡ Some (run.Pages [])
unfolding effect place addresses stored_all block_pages host_pages
answers_them_once = refl

-- ---- images

-- the copy has the bytes, and a later harvest has none of the earlier writes
answers_the_copy : answers small guest_writes run.Image
    ≡ Some (run.Copied (cleared (comes_to small guest_writes).memory.host))
unfolding effect place addresses stored_all
answers_the_copy = refl

harvests_nothing_of_before : answers small (guest_writes ++ run.Image ∷ []) run.Harvest ≡ Some (run.Pages [])
unfolding effect place addresses stored_all block_pages host_pages
harvests_nothing_of_before = refl

-- ---- marks

-- the states after a harvest and without it differ only in marks
differs_in_marks :
    SameButMarks (comes_to small guest_writes) (comes_to small (guest_writes ++ run.Harvest ∷ []))
unfolding effect place addresses stored_all
differs_in_marks = refl

-- another harvest answers other pages, and no other answer differs
differs_in_pages : SameEvents ((run.Harvest, run.Pages (harvested (comes_to small guest_writes).memory.host))
    ∷ (run.GuestRead 4 4, run.Bytes (0 ∷ 7 ∷ 8 ∷ 0 ∷ [])) ∷ [])
    ((run.Harvest, run.Pages []) ∷ (run.GuestRead 4 4, run.Bytes (0 ∷ 7 ∷ 8 ∷ 0 ∷ [])) ∷ [])
unfolding effect
differs_in_pages = (refl, tt, (refl, refl, tt))
