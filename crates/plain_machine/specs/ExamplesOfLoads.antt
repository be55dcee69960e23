-- Worked steps by loads and stores: a request with an unknown opcode, in a chain with a reply buffer of
-- 16 bytes.
use Rattle.std.specs.Prelude.{◌≡◌, ℕ, true, List, [], ◌∷◌, Some, None, refl}
use Rattle.std.proofs.Common.{inl}
use Rattle.vm_memory.specs.Layout.{place}
use Rattle.vm_memory.specs.Memory.{addresses, stored_all}
use Rattle.fs_queue.specs.declared.fault.ChainFault.TheVariants as chain_fault
use Rattle.fs_queue.specs.declared.fault.QueueError.TheVariants as queue_error
use Rattle.fs_queue.specs.Taking.{Idle, Offers, Refuses, IsRequest, CannotFetch}
use Rattle.fs_queue.specs.Loads.{Load, found_exactly}
use Rattle.fs_queue.specs.Queue.{with_stop}
use Rattle.fs_queue.specs.Returning.{advanced}
use Rattle.server_replies.specs.WholeReplies.{error_bytes}
use Rattle.server_meanings.specs.Examples.{le16, le32}
use Rattle.vm_values.specs.Fields as fields
use Rattle.server_requests.specs.Reading.{record_parser}
use Rattle.server_meanings.specs.Grammar.{meaning, meant}
use Rattle.plain_machine.specs.declared.error.DeviceError.TheVariants as device_error
use Rattle.plain_machine.specs.Step.{Exchanged, Refused}
use Rattle.plain_machine.specs.Examples.{blank, descriptor_bytes, device, may, queue, request}
use Rattle.plain_machine.specs.Examples.{unknown_exchange, unknown_reply}
use Rattle.plain_machine.specs.StepBy.{StepBy, StepLoads, Effects, offered_by, byte_store, return_stores}
use Rattle.plain_machine.specs.StepBy.{StoresBytes, LoadsFlags, return_acts, FindFlags, MayStoreLast}
use Rattle.plain_machine.specs.StepBy.{return_addresses, stores_among}

-- an entry of the table at 0
abbrev entry : (index : ℕ) → List ℕ → Load
entry index bytes = record { address = index; came = Some bytes }

-- the loads of a step, with these entries of the table
abbrev loads_with : List Load → StepLoads
loads_with entries =
    record { index = Some (le16 1); entry = Some (le16 0); entries = entries; request = request }

-- the loads of a request of 40 bytes and a reply buffer of 16
abbrev loads : StepLoads
loads = loads_with (entry 0 (descriptor_bytes 0x1000 40 1 1) ∷ entry 16 (descriptor_bytes 0x2000 16 2 0) ∷ [])

-- the memory that maps the addresses holds none of these bytes
offered : offered_by blank 0x101000 queue loads ≡ Some (Offers 0 (IsRequest request (addresses 0x2000 16)))
unfolding place addresses stored_all found_exactly
offered = refl

-- an entry that changes during the walk: its second load has another `next` than the first; no request
-- is loaded then
changing : offered_by blank 0x101000 queue (record {
  index = Some (le16 1);
  entry = Some (le16 0);
  entries = entry 0 (descriptor_bytes 0x1000 40 1 0) ∷ entry 0
      (descriptor_bytes 0x1000 40 1 4) ∷ [];
  request = [];
}) ≡ Some (Offers 0 (CannotFetch chain_fault.NextOutOfTable))
unfolding place addresses stored_all found_exactly
changing = refl

-- too few loads determine no offer
cut_short :
    offered_by blank 0x101000 queue (loads_with (entry 0 (descriptor_bytes 0x1000 40 1 1) ∷ [])) ≡ None
unfolding place addresses stored_all found_exactly
cut_short = refl

-- an index that is too far ahead, after which nothing more is loaded
too_far : offered_by blank 0x101000 queue
    (record { index = Some (le16 5); entry = None; entries = []; request = [] })
    ≡ Some (Refuses queue_error.AvailTooFar)
unfolding place addresses stored_all found_exactly
too_far = refl

-- a reply of 4 bytes of which 2 are stored last: the data, the header, the element's halves, the index
returned_in_order : return_stores queue 0 (0x2000 ∷ 0x2001 ∷ 0x3000 ∷ 0x3001 ∷ []) (1 ∷ 2 ∷ 3 ∷ 4 ∷ []) 2
    ≡ byte_store (0x3000, 3) ∷ byte_store (0x3001, 4) ∷ byte_store (0x2000, 1) ∷ byte_store (0x2001, 2)
    ∷ record { address = 0x204; bytes = le32 0 } ∷ record { address = 0x208; bytes = le32 4 }
    ∷ record { address = 0x202; bytes = le16 1 } ∷ []
returned_in_order = refl

-- the flags are loaded after all of the stores
flags_behind : return_acts (record { address = 0x202; bytes = le16 1 } ∷ []) (le16 1)
    ≡ StoresBytes (record { address = 0x202; bytes = le16 1 }) ∷ LoadsFlags (le16 1) ∷ []
flags_behind = refl

-- the flags are loaded as a store wrote them before, and as they were before the store (a ring at
-- 0x100, whose flags are at 0x100)
flags_as_stored : FindFlags blank queue
    (LoadsFlags (le16 0) ∷ StoresBytes (record { address = 0x100; bytes = le16 1 })
    ∷ LoadsFlags (le16 1) ∷ [])
unfolding place addresses stored_all
flags_as_stored = (refl, (refl, tt))

-- a load of the flags is no store
stores_alone : stores_among (LoadsFlags (le16 0) ∷ StoresBytes (byte_store (0x2000, 7)) ∷ LoadsFlags (le16 1)
    ∷ StoresBytes (byte_store (0x2001, 8)) ∷ []) ≡ byte_store (0x2000, 7) ∷ byte_store (0x2001, 8) ∷ []
stores_alone = refl

-- to return a chain, the device stores to its reply buffer, the used element and the used index
return_with_room : return_addresses queue (Offers 0 (IsRequest [] (0x2000 ∷ 0x2001 ∷ [])))
    ≡ 0x2000 ∷ 0x2001 ∷ 0x204 ∷ 0x205 ∷ 0x206 ∷ 0x207 ∷ 0x208 ∷ 0x209 ∷ 0x20a ∷ 0x20b ∷ 0x202 ∷ 0x203 ∷ []
unfolding addresses
return_with_room = refl

-- a faulty chain has no reply buffer
return_without_room : return_addresses queue (Offers 0 (CannotFetch chain_fault.TooLong))
    ≡ 0x204 ∷ 0x205 ∷ 0x206 ∷ 0x207 ∷ 0x208 ∷ 0x209 ∷ 0x20a ∷ 0x20b ∷ 0x202 ∷ 0x203 ∷ []
unfolding addresses
return_without_room = refl

-- the device stores nothing if no chain is available
nothing_is_returned : return_addresses queue Idle ≡ []
nothing_is_returned = refl

-- a reply buffer may have a byte twice if none of its first bytes is stored last
none_last : MayStoreLast blank (0x2000 ∷ 0x2000 ∷ []) 0
none_last = inl refl

-- a whole step by these loads: it stores the reply to the unknown request, the element and the index,
-- and then loads the flags, which ask for a notification
abbrev stored_in_order : Effects
stored_in_order =
    record {
      acts = return_acts (return_stores queue 0 (addresses 0x2000 16) unknown_reply 0) (le16 0);
      last = 0;
    }

step_by_loads : StepBy may (device blank queue) 0 loads [] (Exchanged unknown_exchange true) stored_in_order
    (record (device blank queue) { queues = advanced queue ∷ [] })
unfolding place addresses stored_all found_exactly meaning record_parser meant error_bytes fields.field_bytes
step_by_loads = (
  Offers 0 (IsRequest request (addresses 0x2000 16)),
  offered,
  record {
    given = record { calls = []; options = 0; reply = unknown_reply; fault = None };
    serves = record { gives = refl; asks = refl; run = refl };
    returns =
        record {
          exchange = refl;
          flags = le16 0;
          flags_len = refl;
          acts = refl;
          state = refl;
          reported = refl;
        };
  },
)

-- a refused step stores nothing and loads no flags
step_stops : StepBy may (device blank queue) 0
    (record { index = Some (le16 5); entry = None; entries = []; request = [] }) []
    (Refused (device_error.Queue queue_error.AvailTooFar))
    (record { acts = []; last = 0 }) (device blank (with_stop queue))
unfolding place addresses stored_all found_exactly
step_stops = (Refuses queue_error.AvailTooFar, too_far, (refl, refl, refl, refl))
