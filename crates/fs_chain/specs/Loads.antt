-- A pop whose loads the caller makes in parts, where one crosses the end of a region or of a mapping.
use Rattle.std.specs.Prelude.{◌≡◌, ◌<◌, ◌+◌, ◌-◌, ◌⊎◌, ◌==◌, ℕ, List, [], ◌++◌, length, min, Some, None}
use Rattle.std.specs.Prelude.{if◌then◌else◌, vec_capacity}
use Rattle.memory_requests.specs.Refused.{RoomWasRefused}
use Rattle.vm_memory_core.specs.Window.{Window}
use Rattle.vm_iotlb.specs.declared.permissions.Permissions.TheVariants.{Read}
use Rattle.vm_memory.specs.Memory.{location}
use Rattle.vm_memory.specs.Slices.{IsWindowAt}
use Rattle.fs_regions.specs.Places.{left_in, places_in}
use Rattle.fs_regions.specs.Walks.{asked_by, asked_len}
use Rattle.fs_chain.specs.declared.error.ChainError.{ChainError}
use Rattle.fs_chain.specs.declared.error.ChainError.TheVariants.{OutOfMemory, BadArgument}
use Rattle.fs_chain.specs.declared.loads.LoadOutcome as outcome
use Rattle.fs_chain.specs.declared.loads.LoadOutcome.TheVariants as proceeds
use Rattle.fs_chain.specs.declared.queue.QueueState.{QueueState}
use Rattle.fs_chain.specs.declared.chain_handle.ChainHandle.{ChainHandle}
use Rattle.fs_chain.specs.Orders.{IfPopping, IsPopping, load_len, walk_error}
use Rattle.fs_chain.specs.Walks.{IsAllBut, IsAllButPart, LacksRoom, WalksOn}

-- the window of the bytes that a pop still needs, after the first `from` bytes of its load: it ends with
-- their region and mapping at the latest
abbrev pub IsLoadWindow : ChainHandle → (from : ℕ) → Window → Type 0
IsLoadWindow w from v = IsPopping w.state × IfPopping w.state (λ walk.
    (from < asked_len walk)
    × IsWindowAt (location (places_in w.regions) Read) (asked_by walk + from) (asked_len walk - from) v
    × (v.len ≡ min (asked_len walk - from) (left_in (places_in w.regions) (asked_by walk + from))))

-- the bytes that a pop still needs aren't mapped
abbrev pub HasNoPlace : ChainHandle → (from : ℕ) → Type 0
HasNoPlace w from =
    IfPopping w.state (λ walk. from < asked_len walk →
    location (places_in w.regions) Read (asked_by walk + from) ≡ None)

-- how many bytes of the load the handle has
abbrev pub came : ChainHandle → ℕ
came w = length w.part.items

-- `len` bytes are a whole load, given at once: all that the pop asked for, and the handle has none of them
-- yet
abbrev pub AreWhole : ChainHandle → (len : ℕ) → Type 0
AreWhole w len = (w.part.items ≡ []) × (len ≡ load_len w.state)

-- `len` bytes are those that a pop still needs, up to the end of their region or mapping
abbrev pub AreWanted : ChainHandle → (len : ℕ) → Type 0
AreWanted w len = (v : Window) × IsLoadWindow w (came w) v × (v.len ≡ len)

-- they are neither a whole load nor the bytes that the pop still needs
abbrev pub AreOthers : ChainHandle → (len : ℕ) → Type 0
AreOthers w len =
    (AreWhole w len → ⊥)
    × (HasNoPlace w (came w) ⊎ ((v : Window) × IsLoadWindow w (came w) v × (v.len ≡ len → ⊥)))

-- the bytes of the load, if the pop asked for one: those that the handle has, and these
abbrev pub whole : ChainHandle → List ℕ → List ℕ
whole w loaded = if load_len w.state == 0 then loaded else w.part.items ++ loaded

-- the result of these bytes: a part of the load, or the pop continues, if nothing is wrong with it. The
-- session stays as it was
abbrev pub ProceedsSo : (before : ChainHandle) → (q : QueueState) → (loaded : List ℕ) → outcome.LoadOutcome →
    (after : ChainHandle) → (q' : QueueState) → Type 0
ProceedsSo w q loaded proceeds.Part w' q' =
    AreWanted w (length loaded)
    × (came w + length loaded < load_len w.state)
    × (walk_error w.state q (load_len w.state) ≡ None)
    × IsAllButPart w w'
    × (w'.part.items ≡ w.part.items ++ loaded)
    × (q' ≡ q)
ProceedsSo w q loaded (proceeds.On result) w' q' =
    ((load_len w.state ≡ 0) ⊎ AreWhole w (length loaded) ⊎ AreWanted w (length loaded))
    × (w'.part.items ≡ [])
    × (w'.session ≡ w.session)
    × (walk_error w.state q (length (whole w loaded)) ≡ None)
    × WalksOn (whole w loaded) w w' q q' result

-- nothing changed: regions, limit, state, descriptors, the part of a load, and session are as they were
abbrev pub IsSame : ChainHandle → ChainHandle → Type 0
IsSame w w' =
    IsAllBut w w'
    × (w'.state ≡ w.state)
    × (w'.descriptors.items ≡ w.descriptors.items)
    × (w'.part.items ≡ w.part.items)
    × (w'.session ≡ w.session)

-- these bytes begin a pop, or they are the load that it asked for, or the part that it still needs
abbrev pub AreDue : ChainHandle → (loaded : List ℕ) → Type 0
AreDue w loaded =
    (load_len w.state ≡ 0)
    ⊎ ((0 < load_len w.state) × (AreWhole w (length loaded) ⊎ AreWanted w (length loaded)))

-- how many bytes the pop takes next
abbrev pub due_len : ChainHandle → (loaded : List ℕ) → ℕ
due_len w loaded = if load_len w.state == 0 then length loaded else load_len w.state

-- a call with this many due bytes can run out of memory in two cases. They end the load, and the
-- descriptors of its entries lack room; or they are a part that doesn't fit behind the others, and the
-- allocator refused to enlarge it
abbrev pub LoadLacksMemory : ChainHandle → (len : ℕ) → Type 0
LoadLacksMemory w len =
    ((came w + len ≡ load_len w.state) × LacksRoom w)
    ⊎ ((len < load_len w.state) × (vec_capacity w.part < came w + len) × RoomWasRefused len)

-- why a pop doesn't continue with these bytes, in three cases. The state or the queue forbids it, also
-- if they are only a part of the load. Or nothing else is wrong, and the allocation failed. Or they are
-- neither the whole load nor the part that is needed
abbrev pub RefusesAPop : ChainHandle → QueueState → (loaded : List ℕ) → ChainError → Type 0
RefusesAPop w q loaded e =
    (AreDue w loaded × (walk_error w.state q (due_len w loaded) ≡ Some e))
    ⊎ ((e ≡ OutOfMemory)
    × LoadLacksMemory w (length loaded)
    × AreDue w loaded
    × (walk_error w.state q (due_len w loaded) ≡ None))
    ⊎ ((e ≡ BadArgument) × (0 < load_len w.state) × AreOthers w (length loaded))
