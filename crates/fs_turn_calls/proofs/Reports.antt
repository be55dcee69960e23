-- What a call's result allows in the model, it allows in a world.
use Rattle.std.proofs.Common.{arith, ◌≡◌, ℕ, ◌+◌, false, refl, inl, inr}
use Rattle.std.proofs.lemmas.Bool.{or_cases, both_ways}
use Rattle.std.proofs.lemmas.Bool.Decides.{nat_tests}
use Rattle.std.specs.Prelude.{◌==◌, nat_le, if◌then◌else◌, Option, Some, None}
use Rattle.notify.specs.Threads.{Holder, Walker, Rearmer, ThreadedQueue}
use Rattle.fs_notify.specs.Takers.{TakesByPop, FindsNoneByPop, FullIsAnAct, RearmsByStore, ReturnIsAnAct, ways_of}
use Rattle.fs_notify.specs.Takers.{DropIsAnAct, MutesBy, MutesByStore}
use Rattle.fs_queue.specs.Returning.{Store}
use Rattle.fs_chain.specs.declared.queue.QueueState.{QueueState}
use Rattle.fs_chain.specs.Events.{notification_store}
use Rattle.fs_turns.specs.Worlds.{World}
use Rattle.fs_turn_calls.specs.Calls.{PopReports, IdleReports, FullReports, ArmsByStore, PushReports}
use Rattle.fs_turn_calls.specs.Calls.{HasMuted, MuteReports, DropReports}

-- a state of the model with this world's queue
abbrev queue_of : World → (index known : ℕ) → Holder → ThreadedQueue
queue_of w index known holder =
    record {
      index = index;
      event = w.event;
      muted = w.muted;
      pending = false;
      published = w.published;
      unchecked = w.unchecked;
      owes = false;
      position = w.position;
      known = known;
      wish = w.wish;
      hidden = false;
      out = w.out;
      holder = holder;
      sleepers = 0;
      comers = 0;
      busy = 0;
      paused = false;
    }

pub pop_reports : TakesByPop → PopReports
pop_reports takes m i before after loaded new result w fresh u16 popped is ends world =
    takes m i before after loaded new result (queue_of w w.index
    (if fresh then w.index else w.known) Walker) u16 popped is ends world refl

pub idle_reports : FindsNoneByPop → IdleReports
idle_reports finds m i before after loaded new w polls fresh u16 fits is ends world =
    finds m i before after loaded new (queue_of w w.index w.known Rearmer) u16 fits is ends world refl refl

other : (n : ℕ) → (n + 1 == n) ≡ false
other n = grind (arith, nat_tests)

pub full_reports : FullIsAnAct → FullReports
full_reports full q w fresh error world =
    elim (or_cases (w.position + 1 == w.position) (nat_le (ways_of q).max_in_flight w.out)
    (full q (queue_of w (w.position + 1) w.known Rearmer) error world refl refl).0) [
      | inl same ↦ absurd (both_ways (w.position + 1 == w.position) (other w.position) same)
      | inr is ↦ is
    ]

pub arms_by_store : RearmsByStore → ArmsByStore
arms_by_store rearms q w u16 world =
    let got = rearms q (queue_of w w.index w.known Walker) u16 world refl in
    (got.0, got.1, got.2, got.5)

muted_by : (q : QueueState) (w : World) (store : Option Store) → MutesBy q (queue_of w w.index w.known Walker) store → HasMuted q w store
muted_by q w None h = h
muted_by q w (Some store) h = (h.0, h.1, h.2)

pub mute_reports : MutesByStore → MuteReports
mute_reports mutes q w world =
    (muted_by q w (notification_store q false) (mutes q (queue_of w w.index w.known Walker) world refl).0, refl, world)

pub drop_reports : DropIsAnAct → DropReports
drop_reports drops q out w u16 given world = drops q out (queue_of w w.index w.known Walker) u16 given world refl

pub push_reports : ReturnIsAnAct → PushReports
push_reports returns q from w u16 ends world = returns q from (queue_of w w.index w.known Walker) u16 ends world refl
