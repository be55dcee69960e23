-- Whole runs of the plain machine.
use Rattle.std.specs.Prelude.{◌≡◌, ◌==◌, ◌&&◌, ◌||◌, not, nat_lt, ℕ, zero, suc, ◌+◌, ◌^◌, Bool, false, true}
use Rattle.std.specs.Prelude.{IsTrue, List, [], ◌∷◌, length, map, zip, Option, Some, None, if◌then◌else◌}
use Rattle.std.specs.Prelude.{slice_get}
use Rattle.std.specs.List.{list_all, list_any}
use Rattle.vm_iotlb.specs.declared.permissions.Permissions.{Permissions}
use Rattle.vm_iotlb.specs.declared.permissions.Permissions.TheVariants.{Read, Write}
use Rattle.vm_iotlb.specs.declared.range.IotlbRange.{IotlbRange}
use Rattle.vm_iotlb.specs.Table.{Table, AreSame, mapped, nothing_mapped, unmapped}
use Rattle.vm_iotlb.specs.Ranges.{AreRanges, table_held}
use Rattle.vm_iotlb.specs.AddressRuns.{begins_anew_about, carries_on_at}
use Rattle.vm_memory_core.specs.Host.{Host, Block, cleared, new_block, with_block}
use Rattle.vm_memory_core.specs.Lending.{with_table_at}
use Rattle.vm_memory.specs.Layout.{Region, fits, overlap, with_region, is_region, without_region}
use Rattle.vm_memory.specs.Memory.{Memory, addresses, reach, bytes, stored_all, physical, table_of}
use Rattle.fs_queue.specs.Queue.{Queue, fresh}
use Rattle.server_meanings.specs.Serving.{May}
use Rattle.plain_machine.specs.Harvested.{Page, harvested}
use Rattle.plain_machine.specs.declared.error.DeviceError.{DeviceError}
use Rattle.plain_machine.specs.declared.error.DeviceError.TheVariants as device
use Rattle.plain_machine.specs.declared.refusal.Refusal.{Refusal}
use Rattle.plain_machine.specs.declared.refusal.Refusal.TheVariants as why
use Rattle.plain_machine.specs.Step.{State, Exchange, Idle, Refused, Exchanged, Calls, Step, with_queue}

-- the commands that a guest, its VMM or a migration can give to the machine
pub data Command : Type 0 where
  GuestRead : (addr len : ℕ) → Command
  GuestWrite : (addr : ℕ) → (bytes : List ℕ) → Command
  NewBlock : (len : ℕ) → Command
  InsertRegion : (base block : ℕ) → Command
  RemoveRegion : (base size : ℕ) → Command
  SetLayout : List Region → Command
  Map : (iova target len : ℕ) → Permissions → Command
  Unmap : (iova len : ℕ) → Command
  UnmapAll : Command
  SetIommu : Bool → Command
  Kick : (queue most : ℕ) → Command
  ResetQueue : (queue size desc avail used : ℕ) → Command
  Image : Command
  Harvest : Command

-- the exchanges of a kick, each with whether the driver is notified of it, and the refusal that ended
-- it
pub record KickAnswer : Type 0 where
  pub exchanges : List (Exchange × Bool)
  pub refused : Option DeviceError

-- the answers of the machine
pub data Answer : Type 0 where
  Done : Answer
  Bytes : List ℕ → Answer
  NewBlockIs : ℕ → Answer
  Served : KickAnswer → Answer
  Copied : Host → Answer
  Pages : List Page → Answer
  IsRefused : Refusal → Answer

-- ---- the effect of each command but a kick

-- a command's answer, and the state after it
abbrev pub Effect : Type 0 → Type 0
Effect F = Answer × State F

-- the command is refused, and nothing changes
abbrev pub no : {F : Type 0} → Refusal → State F → Effect F
no refusal s = (IsRefused refusal, s)

-- a guest reads physical addresses: all of them, or none
abbrev pub guest_read : {F : Type 0} → State F → ℕ → ℕ → Effect F
guest_read s a n =
    if reach (physical s.memory) Read a n then (Bytes (bytes (physical s.memory) a n), s)
    else no why.NoPlace s

-- the memory after a guest's write
abbrev pub guest_written : Memory → ℕ → List ℕ → Memory
guest_written m a bs = record m { host = (stored_all (physical m) (zip (addresses a (length bs)) bs)).host }

-- a guest writes to physical addresses: to all of them, or to none
abbrev pub guest_write : {F : Type 0} → State F → ℕ → List ℕ → Effect F
guest_write s a bs =
    if reach (physical s.memory) Write a (length bs)
    then (Done, record s { memory = guest_written s.memory a bs })
    else no why.NoPlace s

-- the state with another host under the same layout
abbrev pub with_host : {F : Type 0} → State F → Host → State F
with_host s h = record s { memory = record s.memory { host = h } }

-- the state with another layout over the same host
abbrev pub with_layout : {F : Type 0} → State F → List Region → State F
with_layout s layout = record s { memory = record s.memory { layout = layout } }

-- a new block of zeros, without a marked page; the answer is its number
abbrev pub make_block : {F : Type 0} → State F → ℕ → Effect F
make_block s n =
    if n == 0 then no why.EmptyBlock s
    else (NewBlockIs (length s.memory.host.blocks), with_host s (with_block s.memory.host (new_block n)))

-- a new region: its last address must fit 64 bits, and it must overlap no other region
abbrev pub insert : {F : Type 0} → State F → Region → Effect F
insert s r =
    if not (fits r) then no why.BadRegion s
    else if list_any (overlap r) s.memory.layout then no why.Overlap s
    else (Done, with_layout s (with_region r s.memory.layout))

-- a new region from an address on that shows all of a block
abbrev pub insert_block : {F : Type 0} → State F → (base block : ℕ) → Option Block → Effect F
insert_block s base block None = no why.UnknownBlock s
insert_block s base block (Some b) = insert s (record { start = base; size = length b.bytes; block = block })

-- the region with these numbers is removed
abbrev pub remove_region : {F : Type 0} → State F → (base size : ℕ) → Effect F
remove_region s base size =
    if list_any (is_region base size) s.memory.layout
    then (Done, with_layout s (without_region base size s.memory.layout))
    else no why.NoRegion s

-- whether a block exists and has this length
abbrev pub has_len : ℕ → Option Block → Bool
has_len n None = false
has_len n (Some b) = length b.bytes == n

-- whether the host has a region's block, with the region's length
abbrev pub is_known : Host → Region → Bool
is_known h r = has_len r.size (slice_get h.blocks r.block)

-- whether two regions of a layout have an address in common
abbrev pub some_overlap : List Region → Bool
some_overlap [] = false
some_overlap (r ∷ rs) = list_any (overlap r) rs || some_overlap rs

-- another layout: its blocks must be known, its regions must fit 64 bits and must not overlap
abbrev pub set_layout : {F : Type 0} → State F → List Region → Effect F
set_layout s layout =
    if not (list_all (is_known s.memory.host) layout) then no why.UnknownBlock s
    else if not (list_all fits layout) then no why.BadRegion s
    else if some_overlap layout then no why.Overlap s
    else (Done, with_layout s layout)

-- a queue is reset to this one
abbrev pub reset : {F : Type 0} → State F → ℕ → (anew : Queue) → Option Queue → Effect F
reset s i anew None = no why.NoSuchQueue s
reset s i anew (Some q) = (Done, with_queue s i anew)

-- the IOMMU is turned on or off: the table that translates the device's addresses is used, or isn't
abbrev pub set_iommu : {F : Type 0} → State F → Bool → Effect F
set_iommu s on = (Done, record s { memory = record s.memory { translates = on } })

-- the state in which no page of a block is marked; the I/O pages stay
abbrev pub with_marks_cleared : {F : Type 0} → State F → State F
with_marks_cleared s = with_host s (cleared s.memory.host)

-- a copy of the host, and the same host; afterwards neither has a marked page of a block
abbrev pub image : {F : Type 0} → State F → Effect F
image s = (Copied (cleared s.memory.host), with_marks_cleared s)

-- each marked page of a block with its bytes, by block and page; afterwards none is marked
abbrev pub harvest : {F : Type 0} → State F → Effect F
harvest s = (Pages (harvested s.memory.host), with_marks_cleared s)

-- a command's answer and the state after it; None for a kick and for a change of the table, which have
-- their own definitions (`Kicks`, `ChangesTable`)
unfoldable pub effect : {F : Type 0} → State F → Command → Option (Effect F)
effect s (GuestRead a n) = Some (guest_read s a n)
effect s (GuestWrite a bs) = Some (guest_write s a bs)
effect s (NewBlock n) = Some (make_block s n)
effect s (InsertRegion base block) = Some (insert_block s base block (slice_get s.memory.host.blocks block))
effect s (RemoveRegion base size) = Some (remove_region s base size)
effect s (SetLayout layout) = Some (set_layout s layout)
effect s (SetIommu on) = Some (set_iommu s on)
effect s (ResetQueue queue size desc avail used) =
    Some (reset s queue (fresh size desc avail used) (slice_get s.queues queue))
effect s Image = Some (image s)
effect s Harvest = Some (harvest s)
effect s (Map iova target n perm) = None
effect s (Unmap iova n) = None
effect s UnmapAll = None
effect s (Kick queue most) = None

-- the command has this effect, if it is decided by `effect`
abbrev pub IsDecided : {F : Type 0} → Option (Effect F) → Answer → State F → Type 0
IsDecided None answer after = ⊥
IsDecided (Some decided) answer after = (answer, after) ≡ decided

-- ---- changes of the table

-- whether the end of n addresses from a on is below 2^64
abbrev pub ends_fit : ℕ → ℕ → Bool
ends_fit a n = nat_lt (a + n) (2 ^ 64)

-- the state with these ranges as its table
abbrev pub with_ranges : {F : Type 0} → State F → List IotlbRange → State F
with_ranges s ranges = with_host s (with_table_at s.memory.host s.memory.table ranges)

-- the table becomes this one, and all else stays. A host keeps a table as ranges that ascend and are as
-- long as possible: each table has just one such list
abbrev pub TableBecomes : {F : Type 0} → State F → Table → State F → Type 0
TableBecomes s table after =
    (ranges : List IotlbRange)
    × AreRanges ranges
    × AreSame (table_held ranges) table
    × (after ≡ with_ranges s ranges)

-- the table becomes this one if the ends of its ranges are below 2^64; else `BadMapping`, and nothing
-- changes
abbrev pub ChangesTable : {F : Type 0} → State F → (fit : Bool) → Table → Answer → State F → Type 0
ChangesTable s true table answer after = (answer ≡ Done) × TableBecomes s table after
ChangesTable s false table answer after = (answer, after) ≡ no why.BadMapping s

-- n addresses from iova on are mapped to those from target on
abbrev pub Maps : {F : Type 0} → State F → (iova target n : ℕ) → Permissions → Answer → State F → Type 0
Maps s iova target n perm answer after =
    ChangesTable s (ends_fit iova n && ends_fit target n) (mapped iova target n perm (table_of s.memory))
    answer after

-- the mappings of n addresses from iova on are removed
abbrev pub Unmaps : {F : Type 0} → State F → (iova n : ℕ) → Answer → State F → Type 0
Unmaps s iova n answer after =
    ChangesTable s (ends_fit iova n) (unmapped iova n (table_of s.memory)) answer after

-- a command that isn't a kick may have this answer and leave this state. Never holds for a kick, which
-- has exchanges (`Kicks`)
abbrev pub Affects : {F : Type 0} → State F → Command → Answer → State F → Type 0
Affects s (Map iova target n perm) answer after = Maps s iova target n perm answer after
Affects s (Unmap iova n) answer after = Unmaps s iova n answer after
Affects s UnmapAll answer after = ChangesTable s true nothing_mapped answer after
Affects s (Kick queue most) answer after = ⊥
Affects s command answer after = IsDecided (effect s command) answer after

-- ---- kicks

-- an exchange, whether the driver is notified of it, and the calls that it made
pub record Turn : Type 0 where
  pub exchange : Exchange
  pub notice : Bool
  pub calls : Calls

-- the exchanges behind the answer to a command: those of a kick, one after another; none for other
-- commands
abbrev pub Turns : Type 0
Turns = List Turn

-- the part of a turn that a kick's answer lists
abbrev pub shown : Turn → Exchange × Bool
shown t = (t.exchange, t.notice)

-- a kick ends after `most` exchanges, or at a step that is idle or refused and makes no call
abbrev pub KickEnds : {F : Type 0} → May F → State F → ℕ → ℕ → Option DeviceError → State F → Type 0
KickEnds may s i zero None after = after ≡ s
KickEnds may s i (suc most) None after = Step may s i [] Idle after
KickEnds may s i zero (Some e) after = ⊥
KickEnds may s i (suc most) (Some e) after = Step may s i [] (Refused e) after

-- a kick makes these exchanges, one after another, each with its calls, and ends so
unfoldable pub KickRun :
    {F : Type 0} → May F → State F → ℕ → ℕ → Turns → Option DeviceError → State F → Type 0
KickRun may s i most [] refused after = KickEnds may s i most refused after
KickRun may s i zero (t ∷ ts) refused after = ⊥
KickRun {F} may s i (suc most) (t ∷ ts) refused after =
    (mid : State F)
    × Step may s i t.calls (Exchanged t.exchange t.notice) mid
    × KickRun may mid i most ts refused after

-- a kick of a queue that may be missing; a missing one is refused with `NoSuchQueue`
abbrev pub Kicks :
    {F : Type 0} → May F → State F → ℕ → ℕ → Option Queue → Turns → KickAnswer → State F → Type 0
Kicks may s i most None reported k after =
    (after ≡ s) × (reported ≡ []) × (k ≡ record { exchanges = []; refused = Some device.NoSuchQueue })
Kicks may s i most (Some q) reported k after =
    KickRun may s i most reported k.refused after × (k.exchanges ≡ map shown reported)

-- ---- runs

-- whether a queue exists and isn't stopped
abbrev pub is_open : Option Queue → Bool
is_open None = false
is_open (Some q) = not q.stopped

-- whether a kick allocates a list of its exchanges: not if its queue is missing or stopped, or `most`
-- is 0
abbrev pub kick_takes_memory : {F : Type 0} → State F → (queue most : ℕ) → Bool
kick_takes_memory s queue most = is_open (slice_get s.queues queue) && nat_lt 0 most

-- whether a region may join a layout: its last address fits 64 bits, and it overlaps no other region
abbrev pub fits_in : List Region → Region → Bool
fits_in layout r = fits r && not (list_any (overlap r) layout)

-- whether a block exists, and a region from an address on that shows all of it may join the layout
abbrev pub block_fits_in : List Region → (base block : ℕ) → Option Block → Bool
block_fits_in layout base block None = false
block_fits_in layout base block (Some b) =
    fits_in layout (record { start = base; size = length b.bytes; block = block })

-- whether a command allocates memory, and so may be refused with `OutOfMemory`: a read of at least one
-- byte, a new block, a region added or removed, or a changed mapping, but only if no other refusal
-- applies. A mapping allocates only if a new run of addresses begins at its first address or right
-- behind it. A removal allocates only if the addresses before and behind its end are mapped in one
-- piece
abbrev pub command_takes_memory : {F : Type 0} → State F → Command → Bool
command_takes_memory s (Map iova target n perm) =
    (nat_lt 0 n && (ends_fit iova n && ends_fit target n))
    && begins_anew_about (table_of s.memory) (mapped iova target n perm (table_of s.memory)) iova (iova + n)
command_takes_memory s (Unmap iova n) =
    (nat_lt 0 n && ends_fit iova n) && carries_on_at (table_of s.memory) (iova + n)
command_takes_memory s (Kick queue most) = kick_takes_memory s queue most
command_takes_memory s (GuestRead a n) = nat_lt 0 n && reach (physical s.memory) Read a n
command_takes_memory s (NewBlock n) = nat_lt 0 n
command_takes_memory s (InsertRegion base block) =
    block_fits_in s.memory.layout base block (slice_get s.memory.host.blocks block)
command_takes_memory s (RemoveRegion base size) = list_any (is_region base size) s.memory.layout
command_takes_memory s Image = true
command_takes_memory s Harvest = true
command_takes_memory s _ = false

-- a command has this effect, and there is no exchange behind its answer
abbrev pub HasEffect : {F : Type 0} → State F → Command → Turns → Answer → State F → Type 0
HasEffect s command [] answer after = Affects s command answer after
HasEffect s command (t ∷ ts) answer after = ⊥

-- a command for which the allocations succeed
abbrev pub Does : {F : Type 0} → May F → State F → Command → Turns → Answer → State F → Type 0
Does may s (Kick queue most) reported (Served k) after =
    Kicks may s queue most (slice_get s.queues queue) reported k after
Does may s (Kick queue most) reported answer after = ⊥
Does may s command reported answer after = HasEffect s command reported answer after

-- an allocation fails, and nothing changes
abbrev pub LacksMemory : {F : Type 0} → State F → Command → Turns → State F → Type 0
LacksMemory s command [] after = IsTrue (command_takes_memory s command) × (after ≡ s)
LacksMemory s command (t ∷ ts) after = ⊥

-- a command may have this answer, with these exchanges behind it, and leave this state
abbrev pub Performs : {F : Type 0} → May F → State F → Command → Turns → Answer → State F → Type 0
Performs may s command reported (IsRefused why.OutOfMemory) after = LacksMemory s command reported after
Performs may s command reported answer after = Does may s command reported answer after

-- these commands have these answers, one after another, each with the exchanges behind it
unfoldable pub RunReported :
    {F : Type 0} → May F → State F → List (Command × Answer) → List Turns → State F → Type 0
RunReported may s [] [] after = after ≡ s
RunReported may s [] (reported ∷ all_reported) after = ⊥
RunReported may s (e ∷ es) [] after = ⊥
RunReported {F} may s (e ∷ es) (reported ∷ all_reported) after =
    (mid : State F) × Performs may s e.0 reported e.1 mid × RunReported may mid es all_reported after

-- these commands may have these answers, one after another, and leave this state
abbrev pub Run : {F : Type 0} → May F → State F → List (Command × Answer) → State F → Type 0
Run may s events after = (all_reported : List Turns) × RunReported may s events all_reported after
