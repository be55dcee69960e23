-- The statuses of numbers of C's that aren't valid: each cause has its own.
use Rattle.std.specs.Prelude.{ℕ, ◌%◌, ◌==◌, not, nat_lt, Option, Some, None, if◌then◌else◌}
use Rattle.fs_queue.specs.Lawful.{layout_error}
use Rattle.fs_queue.specs.declared.fault.QueueLayoutError.{QueueLayoutError}
use Rattle.fs_queue.specs.declared.fault.QueueLayoutError.TheVariants.{BadSize, Misaligned, EndOverflow}
use Rattle.fs_chain.specs.Numbers.{chain_error_number}
use Rattle.fs_chain_c.specs.declared.memory.FsRegion.{FsRegion}
use Rattle.fs_chain_c.specs.declared.queue.FsQueue.{FsQueue}
use Rattle.fs_chain_c.specs.declared.status.StatusRefusal.{StatusRefusal}
use Rattle.fs_chain_c.specs.declared.status.StatusRefusal.TheVariants.{Of, Invalid}

-- the status of a refusal
abbrev pub refusal_status : StatusRefusal → ℕ
refusal_status (Of e) = chain_error_number e
refusal_status (Invalid status) = status

-- the status of numbers that aren't a device's: PK_BAD_DEVICE
abbrev pub device_status : ℕ
device_status = 96

-- ---- queues

-- the status of a queue whose layout has this error, or else of its other fields that are the caller's; or of
-- those that are the library's
abbrev pub fields_status : Option QueueLayoutError → FsQueue → ℕ
fields_status (Some BadSize) q = 97
fields_status (Some Misaligned) q = 98
fields_status (Some EndOverflow) q = 99
fields_status None q =
    if nat_lt q.size q.max_in_flight then 100
    else if nat_lt 1 q.event_index then 101
    else 102

-- the status of numbers that aren't a queue's: that of the first cause
abbrev pub queue_status : FsQueue → ℕ
queue_status q = fields_status (layout_error q.size q.desc q.avail q.used) q

-- the status of numbers that aren't those of a queue that was begun
abbrev pub begun_status : FsQueue → ℕ
begun_status q = if q.reset_count == 0 then 103 else queue_status q

-- ---- regions

-- the status of numbers that aren't a region's, that of the first cause: the region is empty; its host
-- address, guest address or length isn't a multiple of 4096; or else it ends past 2^64
abbrev pub region_status : FsRegion → ℕ
region_status r =
    if r.len == 0 then 104
    else if not (r.host % 4096 == 0) then 105
    else if not (r.guest % 4096 == 0) then 106
    else if not (r.len % 4096 == 0) then 107
    else 108

-- the status of more than 64 regions
abbrev pub many_status : ℕ
many_status = 109

-- the status of regions that overlap
abbrev pub overlap_status : ℕ
overlap_status = 110
