-- INIT is answered while the call of a chain that was decoded before it is still pending.
use Rattle.std.specs.Prelude.{ℕ, true, List, [], ◌∷◌, ◌++◌, ◌^◌, None}
use Rattle.fs_queue.specs.Chain.{Descriptor}
use Rattle.fs_queue.specs.Returning.{Store}
use Rattle.fs_regions.specs.declared.step.CourseStep.TheVariants as step
use Rattle.fs_regions.specs.Walks.{Loaded}
use Rattle.fuse_fs.specs.Calls.{FileCall, Failed, Init, Lookup, Wants}
use Rattle.server_meanings.specs.Examples.{le16, le32, le64, in_header_bytes, nobody, zeros}
use Rattle.server_meanings.specs.Serving.{May}
use Rattle.plain_machine.specs.Step.{Exchange}
use Rattle.live_machine.specs.Live.{Asked, InFlightChain, EndsPop, DecodesRequest, ReceivesAnswer}
use Rattle.live_machine.specs.Live.{PushesChain, LiveRun}
use Rattle.live_machine.specs.Overlap.{at_positions, loads_of, popped, state, table_of, used_of}

-- LOOKUP of `a` in node 1
abbrev pub lookup : List ℕ
lookup = in_header_bytes 42 1 1 1 ++ 97 ∷ 0 ∷ []

-- INIT of version 7.38 with a readahead and option 1
abbrev pub init : List ℕ
init = in_header_bytes 56 26 2 0 ++ le32 7 ++ le32 38 ++ le32 0x20000 ++ le32 1

-- LOOKUP's call
abbrev pub looks : FileCall
looks = Lookup nobody 1 (97 ∷ [])

-- INIT's call
abbrev pub starts : FileCall
starts = Init 1

-- the first pop's loads: head 0
abbrev pub first_loads : Loaded
first_loads = loads_of 0 0x1000 42 0x2000 144

-- the second pop's: head 2
abbrev pub second_loads : Loaded
second_loads = loads_of 2 0x3000 56 0x4000 80

-- the first chain's descriptors
abbrev pub first_table : List Descriptor
first_table = table_of 0 0x1000 42 0x2000 144

-- the second chain's
abbrev pub second_table : List Descriptor
second_table = table_of 2 0x3000 56 0x4000 80

-- the first chain, as it is popped
abbrev pub first : InFlightChain
first = popped 0 0 first_loads first_table

-- the second chain, as it is popped
abbrev pub second : InFlightChain
second = popped 1 2 second_loads second_table

-- the first chain was decoded without options
abbrev pub first_asked : InFlightChain
first_asked = record first { phase = Asked lookup 0 [] }

-- LOOKUP was answered
abbrev pub first_answered : InFlightChain
first_answered = record first { phase = Asked lookup 0 ((looks, Failed 2) ∷ []) }

-- the second chain was decoded without options too
abbrev pub second_asked : InFlightChain
second_asked = record second { phase = Asked init 0 [] }

-- INIT was answered: the file system asks for no further option
abbrev pub second_answered : InFlightChain
second_answered = record second { phase = Asked init 0 ((starts, Wants 0) ∷ []) }

-- the reply to LOOKUP: ENOENT
abbrev pub first_exchange : Exchange
first_exchange =
    record {
      head = 0;
      request = lookup;
      reply = 0x10 ∷ 0 ∷ 0 ∷ 0 ∷ 0xfe ∷ 0xff ∷ 0xff ∷ 0xff ∷ 1 ∷ zeros 7;
      fault = None;
    }

-- the reply to INIT: struct fuse_init_out, with option 1
abbrev pub second_exchange : Exchange
second_exchange = record {
  head = 2;
  request = init;
  reply = le32 80 ++ le32 0 ++ le64 2 ++ le32 7 ++ le32 38 ++ le32 0x20000 ++ le32 1 ++ le16 65535
      ++ le16 49149 ++ le32 (2 ^ 20) ++ le32 1 ++ le16 256 ++ zeros 34;
  fault = None;
}

-- INIT's chain is in the used ring's first element
abbrev pub second_used : List Store
second_used = used_of 0 2 80

-- LOOKUP's chain is in the second element
abbrev pub first_used : List Store
first_used = used_of 1 0 16

-- the session has option 1 from INIT's answer on. The chain that was decoded before is answered with the
-- options of its decoding, and leaves option 1 in the session
abbrev pub InitBeside : {F : Type 0} → May F → Type 0
InitBeside {F} may =
    (before between after : F) →
    may before starts (Wants 0) between →
    may between looks (Failed 2) after →
    LiveRun may (state before (at_positions 0 0) 0 [])
    (
    EndsPop 0 first_loads first_table (step.Chain 0 None)
    ∷ DecodesRequest first lookup (looks ∷ [])
    ∷ EndsPop 0 second_loads second_table (step.Chain 2 None)
    ∷ DecodesRequest second init (starts ∷ [])
    ∷ ReceivesAnswer second_asked starts (Wants 0)
    ∷ PushesChain second_answered second_exchange true 0 second_used (le16 0)
    ∷ ReceivesAnswer first_asked looks (Failed 2)
    ∷ PushesChain first_answered first_exchange true 0 first_used (le16 0) ∷ []
    )
    (state after (at_positions 2 2) 1 [])
