-- The results of a handle's calls, as reports of a world.
use Rattle.std.specs.Prelude.{◌≡◌, ℕ, ◌-◌, ◌^◌, ◌<◌, Bool, true, false, IsTrue, Option, Some, None}
use Rattle.std.specs.Prelude.{nat_le, nat_lt, if◌then◌else◌}
use Rattle.fs_queue.specs.Returning.{Store}
use Rattle.fs_regions.specs.Walks.{Loaded}
use Rattle.fs_chain.specs.declared.error.ChainError.TheVariants.{ChainInFlight}
use Rattle.fs_chain.specs.declared.queue.QueueState.{QueueState}
use Rattle.fs_chain.specs.declared.state.ChainState as state
use Rattle.fs_chain.specs.declared.state.ChainState.TheVariants as at
use Rattle.fs_chain.specs.declared.state.InFlight.{InFlight}
use Rattle.live_machine.specs.Several.{HasEventIndex, LacksEventIndex}
use Rattle.notify.specs.Kicks.{back}
use Rattle.fs_chain.specs.declared.popping.PopOutcome as walked
use Rattle.fs_chain.specs.declared.popping.PopOutcome.TheVariants as shows
use Rattle.fs_chain.specs.declared.chain_handle.ChainHandle.{ChainHandle}
use Rattle.fs_chain.specs.Events.{notification_store}
use Rattle.fs_chain.specs.Orders.{begin_error, end_error, give_up_error}
use Rattle.fs_chain.specs.Queues.{gave, gave_up, in_flight, live_of}
use Rattle.fs_chain.specs.Holds.{EndsBy, IsRunQueue, RunState}
use Rattle.fs_notify.specs.Takers.{ways_of, HasU16Numbers, HasPopped, IsIndex, ShowsWish, wish_at}
use Rattle.fs_turns.specs.declared.machine.TurnPhase.TheVariants.{Mutes, Pops}
use Rattle.fs_turns.specs.declared.machine.TurnEvent.TheVariants.{Popped, Idle, Full, Muted}
use Rattle.fs_turns.specs.Worlds.{World, may_report, done}

-- the world's queue has the same next position and as many chains in flight
abbrev pub IsWorldOf : QueueState → World → Type 0
IsWorldOf q w = (w.position ≡ q.next_avail) × (w.out ≡ in_flight q)

-- by the index that was loaded now, or last
abbrev pub PopReports : Type 0
PopReports =
    (m : RunState) (i : ℕ) (before after : QueueState) (loaded : Loaded) (new : ChainHandle)
    (result : walked.PopOutcome) (w : World) (fresh : Bool)
    → HasU16Numbers before
    → HasPopped result
    → IsRunQueue m i before
    → EndsBy m i before after loaded new result
    → IsWorldOf before w
    → (index : ℕ)
    × IsIndex loaded index
    × ((if fresh then w.index else w.known) ≡ index
    → IsTrue (may_report (ways_of before) Pops w Popped fresh) × IsWorldOf after (done w Popped fresh))

-- by the index in memory
abbrev pub IdleReports : Type 0
IdleReports =
    (m : RunState) (i : ℕ) (before after : QueueState) (loaded : Loaded) (new : ChainHandle)
    (w : World) (polls fresh : Bool)
    → HasU16Numbers before
    → w.index < 2 ^ 16
    → IsRunQueue m i before
    → EndsBy m i before after loaded new shows.Idle
    → IsWorldOf before w
    → (index : ℕ)
    × IsIndex loaded index
    × (w.index ≡ index
    → IsTrue (may_report (ways_of before) Pops w (Idle polls) fresh)
    × IsWorldOf after (done w (Idle polls) fresh))

-- and it is as the machine is told that it is full
abbrev pub FullReports : Type 0
FullReports =
    (q : QueueState) (w : World) (fresh : Bool)
    → begin_error q 0 ≡ Some ChainInFlight
    → IsWorldOf q w
    → IsTrue (may_report (ways_of q) Pops w Full fresh)

-- the store is what StoresWish stores, and WishArrives has in memory
abbrev pub ArmsByStore : Type 0
ArmsByStore =
    (q : QueueState) (w : World)
    → HasU16Numbers q
    → IsWorldOf q w
    → (store : Store)
    × (notification_store q true ≡ Some store)
    × (store.address ≡ wish_at q)
    × ShowsWish q store.bytes w.position false

-- the store that disables notifications has in memory what Muted reports; with the event index there is none
abbrev pub HasMuted : QueueState → World → Option Store → Type 0
HasMuted q w None = HasEventIndex (live_of q)
HasMuted q w (Some store) =
    LacksEventIndex (live_of q)
    × (store.address ≡ wish_at q)
    × ShowsWish q store.bytes (done w Muted true).event (done w Muted true).muted

abbrev pub MuteReports : Type 0
MuteReports =
    (q : QueueState) (w : World)
    → IsWorldOf q w
    → HasMuted q w (notification_store q false)
    × IsTrue (may_report (ways_of q) Mutes w Muted true)
    × IsWorldOf q (done w Muted true)

-- a chain that is given up is dropped, as EntersDropping has it
abbrev pub DropReports : Type 0
DropReports =
    (q : QueueState) (out : InFlight) (w : World)
    → HasU16Numbers q
    → give_up_error (at.Popped out) q ≡ None
    → IsWorldOf q w
    → IsTrue (nat_lt 0 w.out)
    × IsWorldOf (gave_up q) (record w { position = back w.position 1; out = w.out - 1 })

abbrev pub PushReports : Type 0
PushReports =
    (q : QueueState) (from : state.ChainState) (w : World)
    → HasU16Numbers q
    → end_error from q ≡ None
    → IsWorldOf q w
    → IsTrue (nat_le 1 w.out) × IsWorldOf (gave q) (record w { out = w.out - 1 })
