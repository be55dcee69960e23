-- The data that a caller stores in a reply buffer, as an event of a run.
use Rattle.std.specs.Prelude.{◌≡◌, ◌≤◌, ◌%◌, ◌^◌, ℕ, true, List, [], ◌∷◌, ◌++◌, length, map, take, drop}
use Rattle.std.specs.Prelude.{zip, Some}
use Rattle.vm_iotlb.specs.declared.permissions.Permissions.TheVariants.{Write}
use Rattle.vm_memory_core.specs.Window.{Window, places_of}
use Rattle.vm_memory.specs.Memory.{located, location}
use Rattle.fs_queue.specs.Returning.{Store}
use Rattle.fs_regions.specs.Places.{places_in}
use Rattle.fs_regions.specs.Windows.{IsRangeFrom, IsWindowFrom}
use Rattle.server_meanings.specs.Serving.{May}
use Rattle.fs_chain.specs.declared.chain_handle.ChainHandle.{ChainHandle}
use Rattle.plain_machine.specs.StepBy.{byte_store}
use Rattle.live_machine.specs.Live.{Abandoned, FillsBuffer, Happens, LiveState, InFlightChain, Phase}
use Rattle.live_machine.specs.Live.{PoppedFaulty, room_of}
use Rattle.live_machine.specs.Runs.{marks_of}

-- a chain that has its reply buffer still: it isn't faulty, and its handle wasn't freed
abbrev pub HasRoom : Phase → Type 0
HasRoom (PoppedFaulty why) = ⊥
HasRoom (Abandoned fault) = ⊥
HasRoom _ = Unit {0}

-- bytes that are stored one by one from byte `from` of a reply buffer on
abbrev pub data_stores : (room : List ℕ) → (from : ℕ) → (bytes : List ℕ) → List Store
data_stores room from bytes = map byte_store (zip (drop from room) bytes)

-- bytes that a caller stores at the start of a window of the reply buffer are the event `FillsBuffer`, if the
-- handle has the mappings of the chain's pop. Then the window has the places of their addresses by these
-- mappings
abbrev pub HandleFillsBuffer : {F : Type 0} → May F → Type 0
HandleFillsBuffer {F} may =
    (s : LiveState F) (c : InFlightChain) (before behind : List InFlightChain) (w : ChainHandle) (from : ℕ)
    (v : Window) (bytes : List ℕ) →
    s.chains ≡ before ++ c ∷ behind →
    HasRoom c.phase →
    c.descriptors ≡ w.descriptors.items →
    location (places_in w.regions) ≡ location c.places →
    IsWindowFrom w.regions true w.descriptors.items from v →
    length bytes ≤ v.len →
    Happens may s (FillsBuffer c (data_stores (room_of c) from bytes)) s
    × (located (location c.places Write) (take (length bytes) (drop from (room_of c)))
    ≡ Some (take (length bytes) (places_of v)))

-- bytes that a caller stores from the first address of a range of the reply buffer on are this event too. It
-- reports these addresses
abbrev pub HandleFillsRange : {F : Type 0} → May F → Type 0
HandleFillsRange {F} may =
    (s : LiveState F) (c : InFlightChain) (before behind : List InFlightChain) (w : ChainHandle)
    (from guest len : ℕ) (bytes : List ℕ) →
    s.chains ≡ before ++ c ∷ behind →
    HasRoom c.phase →
    c.descriptors ≡ w.descriptors.items →
    IsRangeFrom true w.descriptors.items from guest len →
    length bytes ≤ len →
    (address : ℕ)
    × (guest ≡ address % 2 ^ 64)
    × (let fills = FillsBuffer c (record { address = address; bytes = bytes } ∷ []) in
    Happens may s fills s × (marks_of s fills ≡ take (length bytes) (drop from (room_of c))))
