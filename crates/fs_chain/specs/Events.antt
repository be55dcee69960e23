-- Notifications of driver and device, enabled by VIRTIO_F_EVENT_IDX or by the flags of the rings
-- (VIRTIO 1.2, 2.7.7 and 2.7.10).
use Rattle.std.specs.Prelude.{ℕ, Bool, List, Option}
use Rattle.std.specs.Int.{w16, to_le_bytes}
use Rattle.vm_iotlb.specs.declared.iova.IovaRange.{IovaRange}
use Rattle.vm_iotlb.specs.declared.permissions.Permissions.{Permissions}
use Rattle.vm_memory.specs.Memory.{Memory}
use Rattle.fs_queue.specs.declared.fault.QueueError.{QueueError}
use Rattle.fs_queue.specs.declared.layout.QueueLayout.{QueueLayout}
use Rattle.fs_queue.specs.Returning.{Store}
use Rattle.fs_queue.specs.WalkingView.{at_position}
use Rattle.live_machine.specs.Several as live
use Rattle.fs_chain.specs.declared.notifications.NotificationStore.{NotificationStore}
use Rattle.fs_chain.specs.declared.queue.QueueState.{QueueState}
use Rattle.fs_chain.specs.Queues.{live_of}

-- the driver's used_event lies behind the available ring, the device's avail_event behind the used ring
abbrev pub used_event_at : QueueLayout → ℕ
used_event_at l = live.used_event_at (at_position l 0)

abbrev pub avail_event_at : QueueLayout → ℕ
avail_event_at l = live.avail_event_at (at_position l 0)

-- the guest address of the two bytes by which the driver enables used buffer notifications, in these areas:
-- used_event, or the available ring's flags
abbrev pub seen_at : QueueState → QueueLayout → ℕ
seen_at q l = live.seen_at (record (live_of q) { queue = at_position l q.next_avail })

-- whether to notify the driver of the next chain that is pushed. With the event index, this is so if
-- used_event is that chain's position in the used ring
abbrev pub notifies_of : QueueState → (seen : List ℕ) → Bool
notifies_of q seen = live.wants (live_of q) seen

-- why no chain can be popped from a queue with the event index: used_event or avail_event isn't mapped
abbrev pub event_fault : Memory → QueueState → Option QueueError
event_fault m q = live.event_refusal m (live_of q)

-- the first of their addresses that the table doesn't map, with the access that is needed
abbrev pub event_miss : Memory → QueueState → Option (IovaRange × Permissions)
event_miss m q = live.event_miss_of m (live_of q)

-- the store that enables or disables the driver's notifications of new chains. With the event index it
-- stores the next chain's position, and nothing to disable; without it, the used flags, whose bit 0
-- disables
abbrev pub notification_store : QueueState → (wanted : Bool) → Option Store
notification_store q wanted = live.sleep_store (live_of q) wanted

-- the same store, from its form in the code
abbrev pub store_of : NotificationStore → Store
store_of s = record { address = s.address; bytes = to_le_bytes w16 s.value }
