-- Two chains of one queue, one after the other, over a memory that has their bytes.
use Rattle.std.specs.Prelude.{ℕ, true, List, [], ◌∷◌, ◌++◌, None}
use Rattle.vm_memory.specs.Memory.{Memory}
use Rattle.fs_queue.specs.Returning.{Store}
use Rattle.fuse_fs.specs.Calls.{Destroy, Done}
use Rattle.server_meanings.specs.Examples.{le16, zeros}
use Rattle.plain_machine.specs.Examples.{blank, descriptor_bytes, put}
use Rattle.plain_machine.specs.Step.{Exchange}
use Rattle.plain_machine.specs.StepBy.{after_stores, stores_among}
use Rattle.live_machine.specs.Live.{Asked, DecodesRequest, InFlightChain, ReceivesAnswer, event_acts}
use Rattle.live_machine.specs.Overlap.{destroy, first, first_loads, first_table, second, second_loads}
use Rattle.live_machine.specs.Overlap.{second_table, unknown, used_of}
use Rattle.live_machine.specs.Serial.{Single, return_in}

-- the table's four descriptors
abbrev pub table : List ℕ
table =
    (descriptor_bytes 0x1000 40 1 1 ++ descriptor_bytes 0x2000 16 2 0)
    ++ (descriptor_bytes 0x3000 40 1 3 ++ descriptor_bytes 0x4000 16 2 0)

-- both requests, the table, and an available ring with flags 0, index 2, and the heads 0 and 2
abbrev pub with_both : Memory
with_both =
    put (put (put (put blank 0x1000 unknown) 0x3000 destroy) 0 table) 0x100
    (le16 0 ++ le16 2 ++ le16 0 ++ le16 2)

-- the first chain, decoded with the options 1: it makes no call
abbrev pub first_asked : InFlightChain
first_asked = record first { phase = Asked unknown 1 [] }

-- the second chain, decoded with the options 1
abbrev pub second_asked : InFlightChain
second_asked = record second { phase = Asked destroy 1 [] }

-- the second chain, after DESTROY was answered
abbrev pub second_answered : InFlightChain
second_answered = record second { phase = Asked destroy 1 ((Destroy, Done) ∷ []) }

-- the reply to the first chain: ENOSYS
abbrev pub first_exchange : Exchange
first_exchange =
    record {
      head = 0;
      request = unknown;
      reply = 0x10 ∷ 0 ∷ 0 ∷ 0 ∷ 0xda ∷ 0xff ∷ 0xff ∷ 0xff ∷ 2 ∷ zeros 7;
      fault = None;
    }

-- DESTROY has no reply
abbrev pub second_exchange : Exchange
second_exchange = record { head = 2; request = destroy; reply = []; fault = None }

-- the first used element's head and length, and the used index; then those of the second one
abbrev pub first_used : List Store
first_used = used_of 0 0 16

abbrev pub second_used : List Store
second_used = used_of 1 2 0

-- the first chain, from its pop to its return
abbrev pub one : Single
one = record {
  queue = 0;
  loaded = first_loads;
  descriptors = first_table;
  head = 0;
  fault = None;
  between = DecodesRequest first unknown [] ∷ [];
  chain = first_asked;
  exchange = first_exchange;
  notice = true;
  last = 0;
  used = first_used;
  seen = le16 0;
}

-- the second chain, from its pop to its return
abbrev pub two : Single
two = record {
  queue = 0;
  loaded = second_loads;
  descriptors = second_table;
  head = 2;
  fault = None;
  between = DecodesRequest second destroy (Destroy ∷ []) ∷ ReceivesAnswer second_asked Destroy Done ∷ [];
  chain = second_answered;
  exchange = second_exchange;
  notice = true;
  last = 0;
  used = second_used;
  seen = le16 0;
}

-- the memory between both chains, and the memory after them
abbrev pub after_one : Memory
after_one = after_stores with_both (stores_among (event_acts (return_in one)))

abbrev pub after_both : Memory
after_both = after_stores after_one (stores_among (event_acts (return_in two)))
