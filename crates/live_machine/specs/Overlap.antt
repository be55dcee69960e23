-- Two chains in flight at once, which are returned in the other order.
use Rattle.std.specs.Prelude.{ℕ, true, List, [], ◌∷◌, ◌+◌, ◌*◌, Some, None}
use Rattle.fs_queue.specs.Chain.{Descriptor}
use Rattle.fs_queue.specs.Loads.{Load}
use Rattle.fs_queue.specs.Returning.{Store}
use Rattle.fs_regions.specs.declared.step.CourseStep.TheVariants as step
use Rattle.fs_regions.specs.Walks.{Loaded}
use Rattle.fuse_fs.specs.Calls.{Destroy, Done}
use Rattle.server_meanings.specs.Examples.{le16, le32, in_header_bytes, zeros}
use Rattle.server_meanings.specs.Serving.{May}
use Rattle.plain_machine.specs.Examples.{blank, descriptor_bytes, queue}
use Rattle.plain_machine.specs.Step.{Exchange}
use Rattle.live_machine.specs.Several.{LiveQueue, by_flags}
use Rattle.live_machine.specs.Live.{Fetched, Asked, InFlightChain, LiveState, EndsPop, DecodesRequest}
use Rattle.live_machine.specs.Live.{ReceivesAnswer, PushesChain, LiveRun}

-- DESTROY, which makes a call
abbrev pub destroy : List ℕ
destroy = in_header_bytes 40 38 9 0

-- a request with an opcode that no request has
abbrev pub unknown : List ℕ
unknown = in_header_bytes 40 7 2 0

-- a load of a table's entry
abbrev pub entry : (address : ℕ) → List ℕ → Load
entry address bytes = record { address = address; came = Some bytes }

-- the loads of a chain's pop: an index of 2, its head, and the table's two entries from there on, with a
-- request of n bytes and a reply buffer of m
abbrev pub loads_of : (head request n reply m : ℕ) → Loaded
loads_of head request n reply m =
    record {
      index = Some (le16 2);
      entry = Some (le16 head);
      entries = entry (16 * head) (descriptor_bytes request n 1 (head + 1))
          ∷ entry (16 * head + 16) (descriptor_bytes reply m 2 0) ∷ [];
    }

-- these two descriptors
abbrev pub table_of : (head request n reply m : ℕ) → List Descriptor
table_of head request n reply m =
    record { addr = request; len = n; flags = 1; next = head + 1 }
    ∷ record { addr = reply; len = m; flags = 2; next = 0 } ∷ []

-- a chain of the queue, as it is popped at this position
abbrev pub popped : (position head : ℕ) → Loaded → List Descriptor → InFlightChain
popped position head loaded descriptors =
    record {
      places = blank;
      queue = 0;
      taken = record queue { position = position };
      loaded = loaded;
      descriptors = descriptors;
      head = head;
      phase = Fetched;
    }

-- what the return of a head with this length stores for the used ring's element k: the element, and the index
abbrev pub used_of : (k head len : ℕ) → List Store
used_of k head len =
    record { address = 0x204 + 8 * k; bytes = le32 head }
    ∷ record { address = 0x208 + 8 * k; bytes = le32 len }
    ∷ record { address = 0x202; bytes = le16 (k + 1) } ∷ []

-- the first pop's loads: head 0
abbrev pub first_loads : Loaded
first_loads = loads_of 0 0x1000 40 0x2000 16

-- the second pop's: head 2
abbrev pub second_loads : Loaded
second_loads = loads_of 2 0x3000 40 0x4000 16

-- the first chain's descriptors
abbrev pub first_table : List Descriptor
first_table = table_of 0 0x1000 40 0x2000 16

-- the second chain's
abbrev pub second_table : List Descriptor
second_table = table_of 2 0x3000 40 0x4000 16

-- the queue with its two positions
abbrev pub at_positions : (taken next_used : ℕ) → LiveQueue
at_positions taken next_used = by_flags (record queue { position = taken }) next_used 4

-- one queue over 64 KiB from address 0 on
abbrev pub state : {F : Type 0} → F → LiveQueue → (options : ℕ) → List InFlightChain → LiveState F
state files w options chains =
    record {
      places = blank;
      limit = 0x101000;
      page_size = 4096;
      queues = w ∷ [];
      options = options;
      chains = chains;
      files = files;
    }

-- the first chain, as it is popped
abbrev pub first : InFlightChain
first = popped 0 0 first_loads first_table

-- the second chain, as it is popped
abbrev pub second : InFlightChain
second = popped 1 2 second_loads second_table

-- the first chain was decoded with the options 1
abbrev pub first_asked : InFlightChain
first_asked = record first { phase = Asked destroy 1 [] }

-- the first chain, once DESTROY was answered
abbrev pub first_answered : InFlightChain
first_answered = record first { phase = Asked destroy 1 ((Destroy, Done) ∷ []) }

-- the second chain was decoded, and makes no call
abbrev pub second_asked : InFlightChain
second_asked = record second { phase = Asked unknown 1 [] }

-- DESTROY's chain has no reply
abbrev pub first_exchange : Exchange
first_exchange = record { head = 0; request = destroy; reply = []; fault = None }

-- the reply to the unknown opcode: ENOSYS
abbrev pub second_exchange : Exchange
second_exchange =
    record {
      head = 2;
      request = unknown;
      reply = 0x10 ∷ 0 ∷ 0 ∷ 0 ∷ 0xda ∷ 0xff ∷ 0xff ∷ 0xff ∷ 2 ∷ zeros 7;
      fault = None;
    }

-- the second chain is in the used ring's first element
abbrev pub second_used : List Store
second_used = used_of 0 2 16

-- the first chain is in the second element
abbrev pub first_used : List Store
first_used = used_of 1 0 0

-- the second chain is popped, decoded and returned while the call of the first one is pending; DESTROY's
-- answer leaves no options
abbrev pub Overlap : {F : Type 0} → May F → Type 0
Overlap {F} may =
    (before after : F) → may before Destroy Done after → LiveRun may (state before (at_positions 0 0) 1 [])
    (
    EndsPop 0 first_loads first_table (step.Chain 0 None)
    ∷ DecodesRequest first destroy (Destroy ∷ [])
    ∷ EndsPop 0 second_loads second_table (step.Chain 2 None)
    ∷ DecodesRequest second unknown []
    ∷ PushesChain second_asked second_exchange true 0 second_used (le16 0)
    ∷ ReceivesAnswer first_asked Destroy Done
    ∷ PushesChain first_answered first_exchange true 0 first_used (le16 0) ∷ []
    )
    (state after (at_positions 2 2) 0 [])
