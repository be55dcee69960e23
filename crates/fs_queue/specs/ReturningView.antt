-- The values of the code's returns, in the definitions' terms: stores, and the windows of a `Taken`. No
-- definition of a device's behaviour needs this file.
use Rattle.std.specs.Prelude.{ℕ, Bool, List, [], ◌∷◌, zip, map}
use Rattle.std.specs.Int.{w16, w32, to_le_bytes}
use Rattle.vm_memory_core.specs.Host.{Host}
use Rattle.vm_memory_core.specs.Window.{byte_in, places, put_all}
use Rattle.fs_queue.specs.declared.returning.Return.{Return}
use Rattle.fs_queue.specs.Queue.{Queue}
use Rattle.fs_queue.specs.Returning.{Store, notifies, used_bytes}
use Rattle.fs_queue.specs.Windows.{Taken, chain_places}

-- the stores after the reply, from a return of the code
abbrev pub stores_of : Return → List Store
stores_of r =
    record { address = r.head.address; bytes = to_le_bytes w32 r.head.value }
    ∷ record { address = r.len.address; bytes = to_le_bytes w32 r.len.value }
    ∷ record { address = r.index.address; bytes = to_le_bytes w16 r.index.value } ∷ []

-- the host after any `Taken` is returned: bytes are stored at the first places of its room, and the
-- return's bytes at their own places. Nothing else changes
abbrev pub put_back : Host → Queue → Taken → (front : List ℕ) → (len : ℕ) → Host
put_back h q t front len =
    put_all (put_all h (zip (chain_places t.chain) front))
    (zip (places t.return_windows.used.items) (used_bytes q t.head len))

-- whether the driver asks for a used buffer notification, by the flags at the windows of a `Taken`
abbrev pub notifies_by : Host → Taken → Bool
notifies_by h t = notifies (map (byte_in h) (places t.return_windows.flags.items))
