-- The driver rewrites the available ring's one entry after its load, while its chain is in flight.
use Rattle.std.specs.Prelude.{ℕ, true, false, List, [], ◌∷◌, ◌++◌, Some, None}
use Rattle.fs_queue.specs.declared.fault.QueueError.TheVariants.{HeadOutOfTable}
use Rattle.fs_queue.specs.Chain.{Descriptor}
use Rattle.fs_queue.specs.Queue.{Queue, with_stop}
use Rattle.fs_queue.specs.Returning.{Store}
use Rattle.fs_regions.specs.declared.step.CourseStep.TheVariants as step
use Rattle.fs_regions.specs.Walks.{Loaded}
use Rattle.fuse_fs.specs.Calls.{FileCall, Forget, Done}
use Rattle.server_meanings.specs.Examples.{le16, le64, in_header_bytes, nobody}
use Rattle.server_meanings.specs.Serving.{May}
use Rattle.plain_machine.specs.Examples.{blank, descriptor_bytes}
use Rattle.plain_machine.specs.Step.{Exchange}
use Rattle.live_machine.specs.Several.{LiveQueue, by_flags}
use Rattle.live_machine.specs.Live.{Fetched, Asked, InFlightChain, EndsPop, DecodesRequest, ReceivesAnswer}
use Rattle.live_machine.specs.Live.{PushesChain, LiveRun}
use Rattle.live_machine.specs.Overlap.{entry, state, used_of}

-- FORGET of node 5, with an nlookup of 3: it has no reply
abbrev pub forget : List ℕ
forget = in_header_bytes 48 2 2 5 ++ le64 3

-- FORGET's call
abbrev pub forgets : FileCall
forgets = Forget nobody 5 3

-- a queue of one descriptor: each chain is in the ring's one entry
abbrev pub queue : Queue
queue = record { size = 1; desc = 0; avail = 0x100; used = 0x200; position = 0; stopped = false }

-- the queue with its two positions
abbrev pub at_positions : (taken next_used : ℕ) → LiveQueue
at_positions taken next_used = by_flags (record queue { position = taken }) next_used 2

-- the queue with its two positions, once it is stopped
abbrev pub stopped_at : (taken next_used : ℕ) → LiveQueue
stopped_at taken next_used = by_flags (with_stop (record queue { position = taken })) next_used 2

-- the loads of the first pop: an index of 1, head 0, and the table's one entry
abbrev pub first_loads : Loaded
first_loads =
    record {
      index = Some (le16 1);
      entry = Some (le16 0);
      entries = entry 0 (descriptor_bytes 0x1000 48 0 0) ∷ [];
    }

-- the loads of the second pop: an index of 2, and in the same entry head 1, which is outside the table
abbrev pub second_loads : Loaded
second_loads = record { index = Some (le16 2); entry = Some (le16 1); entries = [] }

-- the chain's descriptor
abbrev pub table : List Descriptor
table = record { addr = 0x1000; len = 48; flags = 0; next = 0 } ∷ []

-- the chain, as it is popped
abbrev pub first : InFlightChain
first =
    record {
      places = blank;
      queue = 0;
      taken = queue;
      loaded = first_loads;
      descriptors = table;
      head = 0;
      phase = Fetched;
    }

-- the chain was decoded without options
abbrev pub first_asked : InFlightChain
first_asked = record first { phase = Asked forget 0 [] }

-- FORGET was answered
abbrev pub first_answered : InFlightChain
first_answered = record first { phase = Asked forget 0 ((forgets, Done) ∷ []) }

-- the chain is returned without a reply
abbrev pub exchange : Exchange
exchange = record { head = 0; request = forget; reply = []; fault = None }

-- head 0 and no length in the used ring's one element, and an index of 1
abbrev pub used : List Store
used = used_of 0 0 0

-- the rewritten entry stops the queue; the chain in flight is served as it was loaded, and is returned
abbrev pub Rewritten : {F : Type 0} → May F → Type 0
Rewritten {F} may =
    (before after : F) → may before forgets Done after → LiveRun may (state before (at_positions 0 0) 0 [])
    (
    EndsPop 0 first_loads table (step.Chain 0 None)
    ∷ EndsPop 0 second_loads [] (step.Refused HeadOutOfTable)
    ∷ DecodesRequest first forget (forgets ∷ [])
    ∷ ReceivesAnswer first_asked forgets Done
    ∷ PushesChain first_answered exchange true 0 used (le16 0) ∷ []
    )
    (state after (stopped_at 1 1) 0 [])
