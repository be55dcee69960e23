-- what is told of a guest's write and of another layout
use Rattle.std.proofs.Common.{◌≡◌, ℕ, Bool, true, false, List, [], length, ap, sym, refl, ◌∙◌}
use Rattle.std.specs.Prelude.{if◌then◌else◌}
use Rattle.std.specs.List.{list_all}
use Rattle.vm_iotlb.specs.declared.permissions.Permissions.TheVariants.{Write}
use Rattle.vm_memory_core.specs.Host.{lengths}
use Rattle.vm_memory.specs.Layout.{Region, fits, AreHeld, IsLayout}
use Rattle.vm_memory.specs.Memory.{addresses, physical, reach}
use Rattle.server_meanings.specs.Serving.{May}
use Rattle.plain_machine.specs.declared.refusal.Refusal.TheVariants as why
use Rattle.plain_machine.specs.Step.{State}
use Rattle.plain_machine.specs.Run.{GuestWrite, SetLayout, Affects, Answer, Done, Bytes, NewBlockIs, Served, Copied, Pages, IsRefused}
use Rattle.plain_machine.specs.Run.{Effect, Performs, effect, guest_written, is_known, no, set_layout, some_overlap, with_layout}
use Rattle.fs_device.proofs.LayoutLemmas.{all_apart, all_fit, all_known, not_known}
use Rattle.fs_device.specs.CommandView.{command_of}
use Rattle.fs_shared.specs.declared.recorded.Recorded.{Recorded}
use Rattle.fs_shared.specs.Held.{WouldDo, came_of}
use Rattle.fs_shared.specs.Keeping.{KeepsEvent}
use Rattle.fs_shared.specs.Replay as replay
use Rattle.fs_shared.specs.Replay.{WritesPages}

-- ---- a guest's write

-- where it reaches it is done
decided : {F : Type 0} (b : Bool) (answer : Answer) (s after : State F) (done other : Effect F) → b ≡ true →
    (answer, after) ≡ (if◌then◌else◌ {A = Effect F} b done other) → (answer, after) ≡ done
decided true answer s after done other reaches is = is
decided false answer s after done other reaches is = absurd (cc)

write_done : {F : Type 0} (s after : State F) (a : ℕ) (bytes : List ℕ) (answer : Answer) →
    reach (physical s.memory) Write a (length bytes) ≡ true → Affects s (GuestWrite a bytes) answer after →
    Affects s (GuestWrite a bytes) Done after
unfolding effect
write_done {F} s after a bytes answer reaches is =
    let done = decided (reach (physical s.memory) Write a (length bytes)) answer s after
    (Done, record s { memory = guest_written s.memory a bytes }) (no why.NoPlace s) reaches is in
    rw reaches (ap (λ (e : Effect F). (Done, e.1)) done)

pub write_performed : {F : Type 0} (may : May F) (s after : State F) (a : ℕ) (bytes : List ℕ) (answer : Answer) →
    reach (physical s.memory) Write a (length bytes) ≡ true →
    Performs may s (GuestWrite a bytes) [] answer after → Affects s (GuestWrite a bytes) Done after
write_performed may s after a bytes (IsRefused why.OutOfMemory) reaches is = absurd (cc)
write_performed may s after a bytes (IsRefused why.NoPlace) reaches is = write_done s after a bytes (IsRefused why.NoPlace) reaches is
write_performed may s after a bytes (IsRefused why.EmptyBlock) reaches is = write_done s after a bytes (IsRefused why.EmptyBlock) reaches is
write_performed may s after a bytes (IsRefused why.UnknownBlock) reaches is =
    write_done s after a bytes (IsRefused why.UnknownBlock) reaches is
write_performed may s after a bytes (IsRefused why.BadRegion) reaches is = write_done s after a bytes (IsRefused why.BadRegion) reaches is
write_performed may s after a bytes (IsRefused why.Overlap) reaches is = write_done s after a bytes (IsRefused why.Overlap) reaches is
write_performed may s after a bytes (IsRefused why.NoRegion) reaches is = write_done s after a bytes (IsRefused why.NoRegion) reaches is
write_performed may s after a bytes (IsRefused why.BadMapping) reaches is = write_done s after a bytes (IsRefused why.BadMapping) reaches is
write_performed may s after a bytes (IsRefused why.NoSuchQueue) reaches is =
    write_done s after a bytes (IsRefused why.NoSuchQueue) reaches is
write_performed may s after a bytes Done reaches is = write_done s after a bytes Done reaches is
write_performed may s after a bytes (Bytes bs) reaches is = write_done s after a bytes (Bytes bs) reaches is
write_performed may s after a bytes (NewBlockIs n) reaches is = write_done s after a bytes (NewBlockIs n) reaches is
write_performed may s after a bytes (Served k) reaches is = write_done s after a bytes (Served k) reaches is
write_performed may s after a bytes (Copied h) reaches is = write_done s after a bytes (Copied h) reaches is
write_performed may s after a bytes (Pages ps) reaches is = write_done s after a bytes (Pages ps) reaches is

-- where it doesn't it is refused
pub write_refused : {F : Type 0} (s : State F) (a : ℕ) (bytes : List ℕ) → reach (physical s.memory) Write a (length bytes) ≡ false →
    Affects s (GuestWrite a bytes) (IsRefused why.NoPlace) s
unfolding effect
write_refused s a bytes misses = rw misses refl

-- the machine makes it if it reaches
pub write_would : {F : Type 0} (s : State F) (a : ℕ) (bytes : List ℕ) → reach (physical s.memory) Write a (length bytes) ≡ true →
    WouldDo s (GuestWrite a bytes)
unfolding effect
write_would s a bytes reaches = (record s { memory = guest_written s.memory a bytes }, rw reaches refl)

-- what is kept of it is an event
pub write_keeps : {F : Type 0} (may : May F) (s after : State F) (a : ℕ) (bytes pages : List ℕ) (recorded : Recorded) →
    Affects s (GuestWrite a bytes) Done after →
    WritesPages (physical s.memory) (addresses a (length bytes)) pages →
    (command_of recorded.entry.command ≡ GuestWrite a bytes) × (came_of recorded.entry.outcome ≡ replay.Done)
    × (recorded.entry.pages.items ≡ pages) →
    (command_of recorded.receipt.command ≡ GuestWrite a bytes) × (came_of recorded.receipt.outcome ≡ replay.Done)
    × (recorded.receipt.pages.items ≡ pages) → KeepsEvent may s (GuestWrite a bytes) recorded after
write_keeps may s after a bytes pages recorded done are entry receipt = record {
  plays = (entry.1, done, rw entry.2 are);
  entry = entry.0;
  receipt = receipt.0;
  outcome = receipt.1 ∙ sym entry.1;
  pages = receipt.2 ∙ sym entry.2;
}

-- ---- another layout

-- the machine takes it if the host has all its blocks
pub layout_would : {F : Type 0} (s : State F) (layout : List Region) → list_all (is_known s.memory.host) layout ≡ true →
    list_all fits layout ≡ true → some_overlap layout ≡ false → WouldDo s (SetLayout layout)
unfolding effect
layout_would s layout known fit apart = (with_layout s layout, rw (known, fit, apart) refl)

pub layout_held : {F : Type 0} (s : State F) (layout : List Region) → AreHeld (lengths s.memory.host) layout → IsLayout layout →
    WouldDo s (SetLayout layout)
layout_held s layout held sound =
    layout_would s layout (all_known s.memory.host layout held) (all_fit layout sound) (all_apart layout sound)

-- else it is refused
pub layout_refused : {F : Type 0} (s : State F) (layout : List Region) → (AreHeld (lengths s.memory.host) layout → ⊥) →
    Affects s (SetLayout layout) (IsRefused why.UnknownBlock) s
unfolding effect
layout_refused s layout none = rw (not_known s.memory.host layout none) refl

-- what the machine would do it does
does_so : {F : Type 0} (decided : Effect F) (answer : Answer) (next after : State F) → (Done, next) ≡ decided → (answer, after) ≡ decided →
    (Done, after) ≡ decided
does_so {F} decided answer next after would is = ap {B = Effect F} (λ (e : Effect F). (Done, e.1)) (is ∙ sym would) ∙ would

layout_does : {F : Type 0} (s after : State F) (layout : List Region) (answer : Answer) → WouldDo s (SetLayout layout) →
    Affects s (SetLayout layout) answer after → Affects s (SetLayout layout) Done after
unfolding effect
layout_does s after layout answer would is = does_so (set_layout s layout) answer would.0 after would.1 is

pub layout_performed : {F : Type 0} (may : May F) (s after : State F) (layout : List Region) (answer : Answer) →
    WouldDo s (SetLayout layout) → Performs may s (SetLayout layout) [] answer after →
    Affects s (SetLayout layout) Done after
layout_performed may s after layout (IsRefused why.OutOfMemory) would is = absurd (cc)
layout_performed may s after layout (IsRefused why.NoPlace) would is = layout_does s after layout (IsRefused why.NoPlace) would is
layout_performed may s after layout (IsRefused why.EmptyBlock) would is = layout_does s after layout (IsRefused why.EmptyBlock) would is
layout_performed may s after layout (IsRefused why.UnknownBlock) would is = layout_does s after layout (IsRefused why.UnknownBlock) would is
layout_performed may s after layout (IsRefused why.BadRegion) would is = layout_does s after layout (IsRefused why.BadRegion) would is
layout_performed may s after layout (IsRefused why.Overlap) would is = layout_does s after layout (IsRefused why.Overlap) would is
layout_performed may s after layout (IsRefused why.NoRegion) would is = layout_does s after layout (IsRefused why.NoRegion) would is
layout_performed may s after layout (IsRefused why.BadMapping) would is = layout_does s after layout (IsRefused why.BadMapping) would is
layout_performed may s after layout (IsRefused why.NoSuchQueue) would is = layout_does s after layout (IsRefused why.NoSuchQueue) would is
layout_performed may s after layout Done would is = layout_does s after layout Done would is
layout_performed may s after layout (Bytes bs) would is = layout_does s after layout (Bytes bs) would is
layout_performed may s after layout (NewBlockIs n) would is = layout_does s after layout (NewBlockIs n) would is
layout_performed may s after layout (Served k) would is = layout_does s after layout (Served k) would is
layout_performed may s after layout (Copied h) would is = layout_does s after layout (Copied h) would is
layout_performed may s after layout (Pages ps) would is = layout_does s after layout (Pages ps) would is

-- what is kept of it is an event
pub layout_keeps :
    {F : Type 0} (may : May F) (s after : State F) (layout : List Region) (recorded : Recorded) → Affects s (SetLayout layout) Done after →
    (command_of recorded.entry.command ≡ SetLayout layout) × (came_of recorded.entry.outcome ≡ replay.Done)
    × (recorded.entry.pages.items ≡ []) →
    (command_of recorded.receipt.command ≡ SetLayout layout) × (came_of recorded.receipt.outcome ≡ replay.Done)
    × (recorded.receipt.pages.items ≡ []) →
    KeepsEvent may s (SetLayout layout) recorded after
layout_keeps may s after layout recorded done entry receipt = record {
  plays = (entry.1, done, entry.2);
  entry = entry.0;
  receipt = receipt.0;
  outcome = receipt.1 ∙ sym entry.1;
  pages = receipt.2 ∙ sym entry.2;
}
