-- Worked kicks that compute: refusals, several chains, the accounts of nodes, and replies that do not fit.
use Rattle.std.specs.Prelude.{◌≡◌, ℕ, ◌+◌, true, false, List, [], ◌∷◌, ◌++◌, zip, refl, Some, None}
use Rattle.vm_memory.specs.Layout.{place}
use Rattle.vm_memory.specs.Memory.{Memory, addresses, stored_all}
use Rattle.fs_queue.specs.declared.fault.QueueError.TheVariants as queue_error
use Rattle.fs_queue.specs.Queue.{fresh, with_stop}
use Rattle.fs_queue.specs.Chain.{path, found}
use Rattle.fs_queue.specs.Taking.{offer}
use Rattle.fs_queue.specs.Returning.{advanced}
use Rattle.vm_values.specs.Fields as fields
use Rattle.fuse_fs.specs.declared.answers.Entry.{Entry}
use Rattle.fuse_fs.specs.Calls as files
use Rattle.server_segments.specs.declared.error.Error.TheVariants.{EncodeMessage}
use Rattle.server_requests.specs.Fronts.{counted}
use Rattle.server_requests.specs.Reading.{record_parser, last_name}
use Rattle.server_replies.specs.Entries.{no_node, fit_of, dirent_bytes, node_bytes}
use Rattle.server_replies.specs.WholeReplies.{error_bytes, reply_bytes}
use Rattle.server_meanings.specs.Examples.{le16, le32, le64, zeros, nobody, in_header_bytes}
use Rattle.server_meanings.specs.Grammar.{meaning, meant, row}
use Rattle.server_meanings.specs.Listings.{list_entries}
use Rattle.server_meanings.specs.Serving.{May, ServedMessage, served, setting}
use Rattle.plain_machine.specs.declared.error.DeviceError.TheVariants as device_error
use Rattle.plain_machine.specs.declared.fault.Fault.TheVariants as fault
use Rattle.plain_machine.specs.declared.refusal.Refusal.TheVariants as why
use Rattle.plain_machine.specs.Step.{State, Exchange, Exchanged, Step, after_return}
use Rattle.plain_machine.specs.Run as run
use Rattle.plain_machine.specs.Run.{Turn, Affects, Run, RunReported, KickRun, command_takes_memory, effect}
use Rattle.fs_device.specs.Books.{answered, sent, written, accepted, nodes_listed}
use Rattle.plain_machine.specs.Examples.{blank, queue, put, descriptor_bytes, request, with_one_request}
use Rattle.plain_machine.specs.Examples.{Nothing, may, device, unknown_reply, unknown_exchange, after_reply}
use Rattle.plain_machine.specs.Examples.{one_step}

-- ---- kicks

-- an exchange without a call
abbrev unknown_turn : Turn
unknown_turn = record { exchange = unknown_exchange; notice = true; calls = [] }

-- one exchange, and then no chain is available
kick_serves_one : Run may (device with_one_request queue)
    ((run.Kick 0 9, run.Served (record { exchanges = (unknown_exchange, true) ∷ []; refused = None })) ∷ [])
    (after_reply with_one_request queue)
unfolding RunReported KickRun offer place addresses stored_all path found
kick_serves_one = (
  (unknown_turn ∷ []) ∷ [],
  (
    after_reply with_one_request queue,
    ((after_reply with_one_request queue, one_step, (refl, record { same = refl; no_call = refl })), refl),
    refl,
  ),
)

-- a kick of 0 chains serves none
kick_of_none : Run may (device with_one_request queue)
    ((run.Kick 0 0, run.Served (record { exchanges = []; refused = None })) ∷ [])
    (device with_one_request queue)
unfolding RunReported KickRun
kick_of_none = ([] ∷ [], (device with_one_request queue, (refl, refl), refl))

-- a refusal is listed, and stops the queue; the next kick lists that it is stopped
abbrev far : Memory
far = put with_one_request 0x102 (le16 5)

kick_stops : Run may (device far queue)
    ((
      run.Kick 0 9,
      run.Served (record { exchanges = []; refused = Some (device_error.Queue queue_error.AvailTooFar) }),
    )
    ∷ (
      run.Kick 0 9,
      run.Served (record { exchanges = []; refused = Some (device_error.Queue queue_error.Stopped) }),
    ) ∷ [])
    (device far (with_stop queue))
unfolding RunReported KickRun offer place addresses stored_all path found
kick_stops = (
  [] ∷ [] ∷ [],
  (
    device far (with_stop queue),
    ((refl, refl, refl), refl),
    (device far (with_stop queue), ((refl, refl, refl), refl), refl),
  ),
)

-- a kick isn't done by doing nothing: it has exchanges
no_kick_does_nothing :
    Affects (device with_one_request queue) (run.Kick 0 9) run.Done (device with_one_request queue) → ⊥
no_kick_does_nothing done = done

-- a kick and a change of mappings aren't decided by `effect`
decides_no_kick : effect (device with_one_request queue) (run.Kick 0 9) ≡ None
unfolding effect
decides_no_kick = refl

-- a kick of a missing queue is refused with `NoSuchQueue`, even one of 0 chains
kick_of_missing : Run may (device with_one_request queue)
    ((run.Kick 1 0, run.Served (record { exchanges = []; refused = Some device_error.NoSuchQueue })) ∷ [])
    (device with_one_request queue)
unfolding RunReported
kick_of_missing = ([] ∷ [], (device with_one_request queue, (refl, refl, refl), refl))

-- a kick may be refused because an allocation fails: its chain stays available, and the next kick
-- serves it
kick_lacks_memory : Run may (device with_one_request queue)
    ((run.Kick 0 9, run.IsRefused why.OutOfMemory)
    ∷ (run.Kick 0 1, run.Served (record { exchanges = (unknown_exchange, true) ∷ []; refused = None })) ∷ [])
    (after_reply with_one_request queue)
unfolding RunReported KickRun
kick_lacks_memory = (
  [] ∷ (unknown_turn ∷ []) ∷ [],
  (
    device with_one_request queue,
    (refl, refl),
    (after_reply with_one_request queue, ((after_reply with_one_request queue, one_step, refl), refl), refl),
  ),
)

-- a kick of a stopped queue allocates nothing
stopped_takes_none : command_takes_memory (device far (with_stop queue)) (run.Kick 0 9) ≡ false
stopped_takes_none = refl

-- two chains are available
abbrev two_wait : Memory
two_wait = put with_one_request 0x102 (le16 2 ++ le16 0 ++ le16 0)

-- a step over a memory exchanges the unknown request
abbrev exchanges_unknown : (m : Memory) → Type 0
exchanges_unknown m = Step may (device m queue) 0 [] (Exchanged unknown_exchange true) (after_reply m queue)

first_of_two : exchanges_unknown two_wait
unfolding offer place addresses stored_all path found meaning record_parser meant error_bytes
    fields.field_bytes
first_of_two = record {
  given = record { calls = []; options = 0; reply = unknown_reply; fault = None };
  serves = record { gives = refl; asks = refl; run = refl };
  returns = record { exchange = refl; state = refl; reported = refl };
}

kick_of_one : Run may (device two_wait queue)
    ((run.Kick 0 1, run.Served (record { exchanges = (unknown_exchange, true) ∷ []; refused = None })) ∷ [])
    (after_reply two_wait queue)
unfolding RunReported KickRun
kick_of_one = (
  (unknown_turn ∷ []) ∷ [],
  (after_reply two_wait queue, ((after_reply two_wait queue, first_of_two, refl), refl), refl),
)

-- an exchange, and then a refusal: the second head is past the end of the table
abbrev no_such_head : Memory
no_such_head = put with_one_request 0x102 (le16 2 ++ le16 0 ++ le16 4)

-- the reply was stored, and then the queue stopped
abbrev stopped_after_one : State Nothing
stopped_after_one = record (after_reply no_such_head queue) { queues = with_stop (advanced queue) ∷ [] }

first_before_refusal : exchanges_unknown no_such_head
unfolding offer place addresses stored_all path found meaning record_parser meant error_bytes
    fields.field_bytes
first_before_refusal = record {
  given = record { calls = []; options = 0; reply = unknown_reply; fault = None };
  serves = record { gives = refl; asks = refl; run = refl };
  returns = record { exchange = refl; state = refl; reported = refl };
}

kick_stops_after_one : Run may (device no_such_head queue)
    ((
      run.Kick 0 9,
      run.Served (record {
        exchanges = (unknown_exchange, true) ∷ [];
        refused = Some (device_error.Queue queue_error.HeadOutOfTable);
      }),
    ) ∷ []) stopped_after_one
unfolding RunReported KickRun offer place addresses stored_all path found
kick_stops_after_one = (
  (unknown_turn ∷ []) ∷ [],
  (
    stopped_after_one,
    ((after_reply no_such_head queue, first_before_refusal, (refl, refl, refl)), refl),
    refl,
  ),
)

-- a file system that counts FORGETs; the request is FORGET of node 5 with nlookup 3, in a chain without
-- a reply buffer
abbrev forget : List ℕ
forget = in_header_bytes 48 2 9 5 ++ le64 3

-- each FORGET adds its count
abbrev counts : May ℕ
counts before (files.Forget who node count) files.Done after = after ≡ before + count
counts before call answer after = ⊥

-- a memory with that request in a chain of one descriptor
abbrev with_forget : Memory
with_forget =
    let a = put blank 0x1000 forget in
    let b = put a 0 (descriptor_bytes 0x1000 48 0 0) in
    put b 0x100 (le16 0 ++ le16 1 ++ le16 0)

-- a device of that queue whose file system has counted n
abbrev with_count : ℕ → State ℕ
with_count n =
    record {
      memory = with_forget;
      queues = queue ∷ [];
      options = 0;
      files = n;
      limit = 0x101000;
      page_size = 4096;
    }

-- three more were counted, and the chain was returned without a reply
abbrev forgotten : State ℕ
forgotten = after_return (with_count 4) 0 queue 0 [] [] 0 7

-- the exchange, with its one call
abbrev forgets_turn : Turn
forgets_turn =
    record {
      exchange = record { head = 0; request = forget; reply = []; fault = None };
      notice = true;
      calls = (files.Forget nobody 5 3, files.Done) ∷ [];
    }

kick_calls_the_files : Run counts (with_count 4)
    ((
      run.Kick 0 1,
      run.Served (record {
        exchanges = (record { head = 0; request = forget; reply = []; fault = None }, true) ∷ [];
        refused = None;
      }),
    ) ∷ []) forgotten
unfolding RunReported KickRun offer place addresses stored_all path found meaning record_parser meant row
kick_calls_the_files =
    let step : Step counts (with_count 4) 0 ((files.Forget nobody 5 3, files.Done) ∷ [])
    (Exchanged (record { head = 0; request = forget; reply = []; fault = None }) true) forgotten =
    record {
      given = record { calls = files.Forget nobody 5 3 ∷ []; options = 0; reply = []; fault = None };
      serves = record { gives = refl; asks = refl; run = (7, refl, refl, refl) };
      returns = record { exchange = refl; state = refl; reported = refl };
    } in
    ((forgets_turn ∷ []) ∷ [], (forgotten, ((forgotten, step, refl), refl), refl))

-- the three counts were sent to the file system and accepted from the driver; nothing was written
forget_is_sent : sent 5 forgets_turn ≡ 3
forget_is_sent = refl

forget_is_accepted : accepted 5 forgets_turn ≡ 3
unfolding meaning record_parser meant row
forget_is_accepted = refl

forget_of_no_other_node : accepted 6 forgets_turn ≡ 0
unfolding meaning record_parser meant row
forget_of_no_other_node = refl

-- a reply to LOOKUP with node 5
lookup_turn : Turn
lookup_turn =
    record {
      exchange = record {
        head = 0;
        request = in_header_bytes 42 1 9 1 ++ 97 ∷ 0 ∷ [];
        reply = zeros 16 ++ le64 5 ++ zeros 120;
        fault = None;
      };
      notice = true;
      calls = [];
    }

reply_reports_of_one : written 5 lookup_turn ≡ 1
unfolding lookup_turn
reply_reports_of_one = refl

-- a reply to READDIRPLUS with node 5, whose name has one letter, and with `.`, which has no node
listing_turn : Turn
listing_turn = record {
  exchange = record {
    head = 0;
    request = in_header_bytes 80 44 9 1 ++ zeros 40;
    reply = zeros 16 ++ le64 5 ++ zeros 120 ++ zeros 16 ++ le32 1 ++ le32 8 ++ 97 ∷ zeros 7 ++ zeros 128
        ++ zeros 16 ++ le32 1 ++ le32 4 ++ 46 ∷ zeros 7;
    fault = None;
  };
  notice = true;
  calls = [];
}

list_reports_of_one : written 5 listing_turn ≡ 1
unfolding listing_turn nodes_listed
list_reports_of_one = refl

-- the accounts of node 2 over one exchange: answered, sent, written, accepted
abbrev accounts : Turn → List ℕ
accounts t = answered 2 t ∷ sent 2 t ∷ written 2 t ∷ accepted 2 t ∷ []

-- a file `a` in a directory
abbrev listed_a : files.Listed
listed_a = record { ino = 2; offset = 2; kind = 8; name = 97 ∷ [] }

-- the entry of its node, which is node 2
abbrev entry_of_a : Entry ℕ
entry_of_a = record (no_node listed_a) { inode = 2 }

-- this file system answers each LOOKUP with that entry, and counts it; a FORGET takes counts back
abbrev finds : May ℕ
finds before (files.Lookup who parent name) (files.HasEntry entry) after =
    (entry ≡ entry_of_a) × (after ≡ before + 1)
finds before (files.Forget who node count) files.Done after = after + count ≡ before
finds before call answer after = ⊥

-- a LOOKUP of `a` in the root
abbrev look_up : List ℕ
look_up = in_header_bytes 42 1 9 1 ++ 97 ∷ 0 ∷ []

-- a device whose file system has counted nothing so far, and that request in a chain whose reply buffer
-- is one byte too short
abbrev short_of_room : State ℕ
short_of_room =
    let a = put blank 0x1000 look_up in
    let b = put a 0 (descriptor_bytes 0x1000 42 1 1 ++ descriptor_bytes 0x2000 143 2 0) in
    let c = put b 0x100 (le16 0 ++ le16 1 ++ le16 0) in
    record { memory = c; queues = queue ∷ []; options = 0; files = 0; limit = 0x101000; page_size = 4096 }

-- the exchange without its reply
abbrev unheard_exchange : Exchange
unheard_exchange =
    record { head = 0; request = look_up; reply = []; fault = Some (fault.Served EncodeMessage) }

-- that exchange, with its calls: a FORGET of the entry that was answered
abbrev unheard_turn : Turn
unheard_turn =
    record {
      exchange = unheard_exchange;
      notice = true;
      calls = (files.Lookup nobody 1 (97 ∷ []), files.HasEntry entry_of_a)
          ∷ (files.Forget nobody 2 1, files.Done) ∷ [];
    }

-- the chain was returned without a reply, and the file system counts nothing
abbrev entry_forgotten : State ℕ
entry_forgotten = after_return short_of_room 0 queue 0 (addresses 0x2000 143) [] 0 0

kick_gives_an_entry_back : Run finds short_of_room
    ((run.Kick 0 1, run.Served (record { exchanges = (unheard_exchange, true) ∷ []; refused = None })) ∷ [])
    entry_forgotten
unfolding RunReported KickRun offer place addresses stored_all path found meaning record_parser meant row
    counted
    last_name reply_bytes fields.field_bytes
kick_gives_an_entry_back =
    let step : Step finds short_of_room 0 unheard_turn.calls (Exchanged unheard_exchange true)
    entry_forgotten =
    record {
      given = record {
        calls = files.Lookup nobody 1 (97 ∷ []) ∷ files.Forget nobody 2 1 ∷ [];
        options = 0;
        reply = [];
        fault = Some EncodeMessage;
      };
      serves = record { gives = refl; asks = refl; run = (1, refl, (refl, refl), (0, refl, refl, refl)) };
      returns = record { exchange = refl; state = refl; reported = refl };
    } in
    ((unheard_turn ∷ []) ∷ [], (entry_forgotten, ((entry_forgotten, step, refl), refl), refl))

-- the node was answered once and forgotten once, and the driver never saw it
unheard_balances : accounts unheard_turn ≡ 1 ∷ 1 ∷ 0 ∷ 0 ∷ []
unfolding meaning record_parser meant row counted last_name
unheard_balances = refl

-- READDIRPLUS of `.` and `a` with space for one of them: `a`, which was looked up, is forgotten
abbrev list_two : List ℕ
list_two = in_header_bytes 80 44 9 1 ++ zeros 16 ++ le32 160 ++ zeros 20

-- the answers to its calls
abbrev list_answers : List files.FileAnswer
list_answers =
    files.Entries (record { ino = 1; offset = 1; kind = 4; name = 46 ∷ [] } ∷ listed_a ∷ [])
    ∷ files.HasEntry entry_of_a ∷ files.Done ∷ []

-- the server's result for it
abbrev as_listed : ServedMessage
as_listed = served (setting 4096 0 176) (meaning 0 list_two 176) list_answers

-- its exchange; the reply has only the entry of `.`
abbrev listed_turn : Turn
listed_turn =
    record {
      exchange = record { head = 0; request = list_two; reply = as_listed.reply; fault = None };
      notice = true;
      calls = zip as_listed.calls list_answers;
    }

-- the node was answered once and forgotten once
forgotten_once : accounts listed_turn ≡ 1 ∷ 1 ∷ 0 ∷ 0 ∷ []
unfolding meaning record_parser meant row reply_bytes fields.field_bytes list_entries fit_of dirent_bytes
    node_bytes nodes_listed
forgotten_once = refl

-- a stopped queue is reset
resets : (size desc avail used : ℕ) → effect (device far (with_stop queue))
    (run.ResetQueue 0 size desc avail used) ≡ Some (run.Done, device far (fresh size desc avail used))
unfolding effect
resets size desc avail used = refl

resets_no_missing : (size desc avail used : ℕ) → effect (device far queue)
    (run.ResetQueue 1 size desc avail used) ≡ Some (run.IsRefused why.NoSuchQueue, device far queue)
unfolding effect
resets_no_missing size desc avail used = refl
