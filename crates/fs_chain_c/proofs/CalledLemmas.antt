-- Calls of the exports meet the hypotheses of the laws of notifications.
use Rattle.std.proofs.Common.{arith, ◌≡◌, ◌<◌, ◌^◌, ◌∙◌, ℕ, max, Bool, true, false, List, Option, Some, None, refl, subst, sym}
use Rattle.std.proofs.Common.{if◌then◌else◌, nat_lt}
use Rattle.std.specs.Int.{w16, from_le_bytes, to_le_bytes}
use Rattle.fs_queue.specs.Lawful.{layout_error}
use Rattle.fs_queue.specs.Queue.{has_bit}
use Rattle.fs_queue.specs.declared.fault.QueueLayoutError.{QueueLayoutError}
use Rattle.fs_queue.specs.declared.fault.QueueLayoutError.TheVariants.{BadSize, Misaligned, EndOverflow}
use Rattle.fs_chain.specs.Numbers.{chain_error_number}
use Rattle.fs_chain.specs.declared.chain_handle.ChainHandle.{ChainHandle}
use Rattle.fs_chain.specs.declared.error.ChainError.{ChainError}
use Rattle.fs_chain.specs.declared.error.ChainError.TheVariants as error
use Rattle.fs_chain.specs.declared.queue.QueueState.{QueueState}
use Rattle.fs_notify.specs.Takers.{HasU16Numbers, ShowsWishBy, ways_of}
use Rattle.fs_chain_c.specs.declared.notifications.FsStore.{FsStore}
use Rattle.fs_chain_c.specs.declared.queue.FsQueue.{FsQueue}
use Rattle.fs_chain_c.specs.Handles.{EndsPush}
use Rattle.fs_chain_c.specs.LawsCalled.{ChecksSo, WishesSo, published_by, walked_by}
use Rattle.fs_chain_c.specs.Notifications.{SetsNotifying, SetsNotification}
use Rattle.fs_chain_c.specs.Notifying.{NotifyIsACheck, StoresAWish}
use Rattle.fs_chain_c.specs.Pushing.{EndsHandlePush}
use Rattle.fs_chain_c.specs.Queues.{IsQueueState}
use Rattle.fs_chain_c.specs.Statuses.{fields_status, queue_status}

-- a refusal has a number
pub no_error : (e : ChainError) → 0 ≡ chain_error_number e → ⊥
no_error error.OutOfMemory is = cc
no_error error.BadArgument is = cc
no_error e is = cc

abbrev which : (a b : Bool) → ℕ
which a b = if a then 100 else if b then 101 else 102

no_which : (a b : Bool) → 0 ≡ which a b → ⊥
no_which true b is = cc
no_which false true is = cc
no_which false false is = cc

no_fields : (error : Option QueueLayoutError) (q : FsQueue) → 0 ≡ fields_status error q → ⊥
no_fields (Some BadSize) q is = cc
no_fields (Some Misaligned) q is = cc
no_fields (Some EndOverflow) q is = cc
no_fields None q is = no_which (nat_lt q.size q.max_in_flight) (nat_lt 1 q.event_index) is

-- and so has a queue whose numbers aren't valid
pub no_queue : (q : FsQueue) → 0 ≡ queue_status q → ⊥
no_queue q is = no_fields (layout_error q.size q.desc q.avail q.used) q is

most : (n : ℕ) → n < 2 ^ 16 → max 1 n < 2 ^ 16
most n low = grind arith

pub counted : (q : FsQueue) (k : QueueState) → IsQueueState q k → q.next_avail < 2 ^ 16 → q.next_used < 2 ^ 16 → q.max_in_flight < 2 ^ 16
    → HasU16Numbers k
counted q k is avail used few =
    let P : FsQueue → Type 0 = λ x. (x.next_avail < 2 ^ 16) × (x.next_used < 2 ^ 16) × (x.max_in_flight < 2 ^ 16) in
    subst P (sym is.numbers) (avail, used, most q.max_in_flight few)

pub wishes_so : StoresAWish → (before after : Option ChainHandle) (q : FsQueue) (filled : FsStore) (status : ℕ)
    → SetsNotifying before q 1 status filled after → q.next_avail < 2 ^ 16 → q.next_used < 2 ^ 16 → q.max_in_flight < 2 ^ 16
    → status ≡ 0 → WishesSo before q filled
wishes_so law None None q filled status asks avail used few done = absurd (no_error error.WrongOrder (sym done ∙ asks.0))
wishes_so law (Some b) (Some b') q filled status asks avail used few done =
    let made = law b q filled (subst (λ (n : ℕ). SetsNotification b q 1 filled n) done asks.0) in
    let k = made.0 in
    (b, k, refl, made.1, λ s. made.2 (walked_by k s) (counted q k made.1 avail used few) (refl, refl) refl)
wishes_so law _ _ q filled status asks avail used few done = absurd asks

-- the driver's two bytes are its wish, as flags and as an event
shows_so : (by_event : Bool) (bytes : List ℕ)
    → ShowsWishBy by_event bytes (from_le_bytes w16 bytes) (has_bit (from_le_bytes w16 bytes) 0)
shows_so true bytes = refl
shows_so false bytes = refl

pub checks_so : NotifyIsACheck → (before now : Option ChainHandle) (q q' : FsQueue) (seen notify status : ℕ)
    → EndsPush before q seen status notify now q' → seen < 2 ^ 16 → q.next_used < 2 ^ 16 → status ≡ 0 → ChecksSo q seen notify
checks_so law None None q q' seen notify status ends fits used done = absurd (no_error error.WrongOrder (sym done ∙ ends.0))
checks_so law (Some b) (Some b') q q' seen notify status ends fits used done =
    let made = law b b' q q' seen notify (subst (λ (n : ℕ). EndsHandlePush b q seen notify n b' q') done ends) fits in
    let k = made.0 in
    let small = subst (λ (x : FsQueue). x.next_used < 2 ^ 16) (sym made.1.numbers) used in
    (k, made.1, λ u. made.2 (published_by k seen u) small refl refl (shows_so (ways_of k).by_event (to_le_bytes w16 seen)))
checks_so law _ _ q q' seen notify status ends fits used done = absurd ends
