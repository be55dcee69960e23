-- A run beside a guest that writes: its writes may lie between any two events.
use Rattle.std.specs.Prelude.{◌≡◌, ℕ, List, [], ◌∷◌, ◌++◌, map}
use Rattle.std.specs.List.{AllByRecursion}
use Rattle.vm_memory.specs.Memory.{Memory, physical, stored_all}
use Rattle.vm_memory_core.specs.Host.{Host}
use Rattle.server_meanings.specs.Serving.{May}
use Rattle.plain_machine.specs.MarkedPages.{block_mark, io_mark, marked_by, marks_block, marks_io}
use Rattle.plain_machine.specs.StepBy.{after_stores, reply_stores}
use Rattle.fs_queue.specs.Returning.{Store}
use Rattle.live_machine.specs.Live.{FillsBuffer, LiveEvent, LiveRun, LiveState, MovesDevice, PushesChain}
use Rattle.live_machine.specs.Live.{Remaps, StoresNotification, room_of}
use Rattle.live_machine.specs.Runs.{marks_of}

-- the guest writes these bytes, each at its physical address; or the device's next event happens. The guest's
-- reads change nothing, and the device's events have the bytes that its loads find
pub data Moment : Type 0 where
  Writes : List (ℕ × ℕ) → Moment
  DeviceEvent : LiveEvent → Moment

-- the device's events among these moments
abbrev pub events_of : List Moment → List LiveEvent
events_of [] = []
events_of (Writes ws ∷ ms) = events_of ms
events_of (DeviceEvent e ∷ ms) = e ∷ events_of ms

-- the mappings of a memory alone, without its bytes and marks
abbrev pub mappings_of : Memory → Memory
mappings_of m = record m { host = record (m.host) { blocks = []; io_marks = [] } }

-- the bytes and marks of a memory, over the mappings of `places`
abbrev pub over_mappings : (places m : Memory) → Memory
over_mappings places m = record places { host = record (m.host) { tables = places.host.tables } }

-- the memory after some stores over the mappings of `places`
abbrev pub after_stores_over : (places m : Memory) → List Store → Memory
after_stores_over places m stores =
    over_mappings m (after_stores (over_mappings places m) stores)

-- the memory after an event. What is stored in the reply buffer of a chain is stored over the mappings of its
-- pop, and all else over those of this moment
abbrev pub after_event : Memory → LiveEvent → Memory
after_event m (PushesChain c x notice last used seen) =
    after_stores (after_stores_over c.places m (reply_stores (room_of c) x.reply last)) used
after_event m (FillsBuffer c stores) = after_stores_over c.places m stores
after_event m (StoresNotification i store) = after_stores m (store ∷ [])
after_event m (Remaps places) = over_mappings places m
after_event m (MovesDevice places queues) = over_mappings places m
after_event m _ = m

-- the memory after the guest's writes: no table translates their addresses
abbrev pub after_writes : Memory → List (ℕ × ℕ) → Memory
after_writes m ws = record m { host = (stored_all (physical m) ws).host }

-- the memory after all these moments
abbrev pub after_moments : Memory → List Moment → Memory
after_moments m [] = m
after_moments m (Writes ws ∷ ms) = after_moments (after_writes m ws) ms
after_moments m (DeviceEvent e ∷ ms) = after_moments (after_event m e) ms

-- an event that leaves the mappings as they are
abbrev pub StaysThere : LiveEvent → Type 0
StaysThere (Remaps m) = ⊥
StaysThere (MovesDevice m queues) = ⊥
StaysThere _ = Unit {0}

-- the physical addresses that the guest wrote
abbrev pub written_by_guest : List Moment → List ℕ
written_by_guest [] = []
written_by_guest (Writes ws ∷ ms) = map (λ w. w.0) ws ++ written_by_guest ms
written_by_guest (DeviceEvent e ∷ ms) = written_by_guest ms

-- the addresses that the events reported: the device's own, so I/O addresses behind an IOMMU's table
abbrev pub addresses_marked : {F : Type 0} → (may : May F) → (s : LiveState F) → (ms : List Moment) →
    (after : LiveState F) → LiveRun may s (events_of ms) after → List ℕ
addresses_marked may s [] after run = []
addresses_marked may s (Writes ws ∷ ms) after run = addresses_marked may s ms after run
addresses_marked may s (DeviceEvent e ∷ ms) after run =
    marks_of s e ++ addresses_marked may run.0 ms after run.2

-- the guest writes at its addresses and marks pages of blocks, even if there is an IOMMU. The device writes
-- at its own and marks pages of blocks, or pages of I/O addresses if it is behind a table. No other mark
-- changes
pub record MarksOfBoth (m : Memory) (guest device : List ℕ) (after : Host) : Type 0 where
  pub blocks : (block page : ℕ) →
      block_mark after block page
      ≡ marked_by (marks_block m block page) device
      (marked_by (marks_block (physical m) block page) guest (block_mark m.host block page))
  pub io_sets : (set page : ℕ) →
      io_mark after set page ≡ marked_by (marks_io m set page) device (io_mark m.host set page)

-- a memory has the mappings of this state, and those of the pops of its chains in flight
abbrev pub HasMappings : {F : Type 0} → LiveState F → Memory → Type 0
HasMappings s m =
    (mappings_of s.places ≡ mappings_of m)
    × AllByRecursion (λ c. mappings_of c.places ≡ mappings_of m) s.chains

-- the guest may write between any two events of a run, over whose mappings all of its chains are popped. The
-- pages that are marked in the end are those marked before, those of the guest's writes, and those that the
-- events reported. No others are marked
abbrev pub PagesOfRun : {F : Type 0} → May F → Type 0
PagesOfRun {F} may =
    (s after : LiveState F) (ms : List Moment) (m : Memory) (run : LiveRun may s (events_of ms) after) →
    HasMappings s m →
    AllByRecursion StaysThere (events_of ms) →
    MarksOfBoth m (written_by_guest ms) (addresses_marked may s ms after run) (after_moments m ms).host
