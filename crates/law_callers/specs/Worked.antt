-- Worked machines: a chain with FORGET, which is one file call without a reply; a chain with an unknown
-- request, whose reply is an error without a file call; 32 bytes that the guest wrote to.
use Rattle.std.specs.Prelude.{ℕ, false, true, List, [], ◌∷◌, ◌++◌, None, Some}
use Rattle.vm_memory_core.specs.Host.{cleared, new_block}
use Rattle.vm_memory.specs.Memory.{Memory, addresses, memory_of}
use Rattle.fs_queue.specs.Chain.{Descriptor, Visit}
use Rattle.fs_queue.specs.Loads.{Load}
use Rattle.fs_queue.specs.Taking.{IsRequest, Offer, Offers}
use Rattle.fuse_fs.specs.Calls.{Forget, Done}
use Rattle.server_meanings.specs.Examples.{in_header_bytes, le16, le64, nobody}
use Rattle.plain_machine.specs.Examples.{blank, descriptor_bytes, put, queue, request, with_one_request}
use Rattle.plain_machine.specs.Examples.{unknown_exchange, unknown_reply}
use Rattle.plain_machine.specs.Harvested.{harvested}
use Rattle.plain_machine.specs.Run.{Answer, Bytes, Command, GuestRead, Harvest, Kick, Pages, Served, Turn}
use Rattle.plain_machine.specs.Run.{guest_written}
use Rattle.plain_machine.specs.Step.{Exchange, State, after_return}
use Rattle.plain_machine.specs.StepBy.{Effects, StepLoads, return_acts, return_stores}

-- a machine of one queue over a memory
abbrev pub machine : {F : Type 0} → Memory → F → State F
machine m files =
    record { memory = m; queues = queue ∷ []; options = 0; files = files; limit = 0x101000; page_size = 4096 }

-- a descriptor
abbrev pub piece : (addr len flags next : ℕ) → Descriptor
piece addr len flags next = record { addr = addr; len = len; flags = flags; next = next }

-- ---- FORGET of node 5 with nlookup 3 (linux/fuse.h), in a chain without a reply buffer

abbrev pub forget : List ℕ
forget = in_header_bytes 48 2 9 5 ++ le64 3

abbrev pub with_forget : Memory
with_forget =
    let a = put blank 0x1000 forget in
    let b = put a 0 (descriptor_bytes 0x1000 48 0 0) in
    put b 0x100 (le16 0 ++ le16 1 ++ le16 0)

abbrev pub forget_exchange : Exchange
forget_exchange = record { head = 0; request = forget; reply = []; fault = None }

-- the exchange with its one call
abbrev pub forget_turn : Turn
forget_turn = record { exchange = forget_exchange; notice = true; calls = (Forget nobody 5 3, Done) ∷ [] }

-- the command and its answer
abbrev pub forget_kick : Command × Answer
forget_kick = (Kick 0 1, Served (record { exchanges = (forget_exchange, true) ∷ []; refused = None }))

-- the state after it
abbrev pub forgotten : {F : Type 0} → (before after : F) → State F
forgotten before after = after_return (machine with_forget before) 0 queue 0 [] [] 0 after

-- ---- an unknown request, with a reply of 16 bytes

abbrev pub unknown_turn : Turn
unknown_turn = record { exchange = unknown_exchange; notice = true; calls = [] }

abbrev pub unknown_kick : Command × Answer
unknown_kick = (Kick 0 1, Served (record { exchanges = (unknown_exchange, true) ∷ []; refused = None }))

abbrev pub replied : {F : Type 0} → F → State F
replied files =
    after_return (machine with_one_request files) 0 queue 0 (addresses 0x2000 16) unknown_reply 0 files

-- the load of its first descriptor
abbrev pub first_load : Load
first_load = record { address = 0; came = Some (descriptor_bytes 0x1000 40 1 1) }

-- its loads: the available index, the ring's entry, two descriptors and the request
abbrev pub unknown_loads : StepLoads
unknown_loads =
    record {
      index = Some (le16 1);
      entry = Some (le16 0);
      entries =
          first_load ∷ record { address = 16; came = Some (descriptor_bytes 0x2000 16 2 0) } ∷ [];
      request = request;
    }

-- what it offers: the request, and the reply buffer at 0x2000
abbrev pub unknown_offer : Offer
unknown_offer = Offers 0 (IsRequest request (addresses 0x2000 16))

-- its stores of the reply, the used element and the used index, and then its load of the flags
abbrev pub unknown_effects : Effects
unknown_effects =
    record {
      acts = return_acts (return_stores queue 0 (addresses 0x2000 16) unknown_reply 0) (le16 0);
      last = 0;
    }

-- its two descriptors, and the request's cut into two pieces, with the reply buffer at 0x2800
abbrev pub two_descriptors : List Descriptor
two_descriptors = piece 0x1000 40 1 1 ∷ piece 0x2000 16 2 0 ∷ []

abbrev pub three_descriptors : List Descriptor
three_descriptors = piece 0x1000 16 1 1 ∷ piece 0x1010 24 1 2 ∷ piece 0x2800 16 2 0 ∷ []

abbrev pub with_three : Memory
with_three =
    put with_one_request 0 (descriptor_bytes 0x1000 16 1 1 ++ descriptor_bytes 0x1010 24 1 2
    ++ descriptor_bytes 0x2800 16 2 0)

-- the visit of an entry of the queue's table, after as many descriptors
abbrev pub visit_at : (index : ℕ) → Visit
visit_at index =
    record { table = record { address = 0; entries = 4; indirect = false }; index = index; earlier = index }

-- the second step of the walk through its chain
abbrev pub second_step : Visit
second_step = visit_at 1

-- ---- 32 bytes at 0, where the guest wrote two bytes at 5

abbrev pub small : Memory
small =
    memory_of (record { blocks = new_block 32 ∷ []; tables = []; io_marks = [] })
    (record { start = 0; size = 32; block = 0 } ∷ [])

abbrev pub written : Memory
written = guest_written small 5 (7 ∷ 8 ∷ [])

-- the same bytes, and no page is marked
abbrev pub unmarked_bytes : Memory
unmarked_bytes = record written { host = cleared written.host }

-- the guest reads them, and a migration takes the pages
abbrev pub read_and_harvest : List (Command × Answer)
read_and_harvest =
    (GuestRead 4 4, Bytes (0 ∷ 7 ∷ 8 ∷ 0 ∷ [])) ∷ (Harvest, Pages (harvested written.host)) ∷ []

-- ---- two bytes at 0, of which the guest wrote the second

abbrev pub tiny : (second : ℕ) → Memory
tiny second =
    guest_written (memory_of (record { blocks = new_block 2 ∷ []; tables = []; io_marks = [] })
    (record { start = 0; size = 2; block = 0 } ∷ [])) 1 (second ∷ [])

-- the guest reads the first
abbrev pub one_read : List (Command × Answer)
one_read = (GuestRead 0 1, Bytes (0 ∷ [])) ∷ []
