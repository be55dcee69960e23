-- Records that C saves and restores, by the core's queues.
use Rattle.std.proofs.Common.{arith, ◌≡◌, ℕ, suc, ◌+◌, ◌-◌, ◌%◌, ◌^◌, ◌<◌, ◌≤◌, ◌==◌, max, All, Bool, true, false, not, List, [], ◌∷◌, ◌++◌}
use Rattle.std.proofs.Common.{inl, inr}
use Rattle.std.proofs.Common.{IsTrue, is_some, drop, length, map, take, Option, Some, None, refl, subst, sym, ap, ◌∙◌, if◌then◌else◌}
use Rattle.std.specs.List.{AllByRecursion}
use Rattle.std.proofs.lemmas.Bool.Decides.{nat_tests}
use Rattle.std.proofs.lemmas.List.{length-map}
use Rattle.std.proofs.Math.Seq.{take-append_seam}
use Rattle.std.proofs.lemmas.List.Elements.{All-cons, All-head, All-nil, All-tail}
use Rattle.server_replies.specs.PageSizes.{is_page_size}
use Rattle.fs_queue.specs.Queue.{Queue, resumed}
use Rattle.fs_queue.specs.declared.fault.QueueError.{QueueError}
use Rattle.fs_queue.specs.declared.fault.QueueError.TheVariants as stop
use Rattle.fs_queue.specs.Numbers.{queue_number}
use Rattle.fs_record.specs.Numbers.{restore_error_number}
use Rattle.fs_record.specs.Record.{IsRecord, IsSavedQueue, Second, Version}
use Rattle.fs_record.proofs.ReadingLemmas.{one_reading}
use Rattle.fs_chain.specs.declared.error.ChainError.TheVariants as error
use Rattle.fs_chain.specs.declared.queue.QueueState.{QueueState}
use Rattle.fs_chain_c.specs.declared.device.FsDevice.{FsDevice}
use Rattle.fs_chain_c.specs.declared.queue.FsQueue.{FsQueue}
use Rattle.fs_chain_c.specs.Moving.{AreQueueStates, HasItsWidths, HasNoChain, HasFittingMaximum, MovesByRecord, RestoresARecord}
use Rattle.fs_chain_c.specs.Moving.{SavesARecord, recorded}
use Rattle.fs_chain_c.specs.Queues.{IsQueue, IsQueueState, stop_number}
use Rattle.fs_chain_c.specs.Records.{HasNoneOut, Restored, HasRecord, TooFewQueues, NoDevice, NoRecord, ReadsSo, RestoreOutcome, SavesSo}
use Rattle.fs_chain_c.specs.Records.{UnfitQueues, bytes_of, numbers_over, queue_of, read_status, restored_over, saved_status}
use Rattle.fs_chain_c.specs.Statuses.{device_status}
use Rattle.fs_chain_c.specs.declared.status.StatusRefusal.{StatusRefusal}
use Rattle.fs_chain_c.specs.declared.status.StatusRefusal.TheVariants.{Of, Invalid}
use Rattle.fs_chain_c.proofs.CalledLemmas.{no_error, no_queue}

-- ---- a queue's numbers, and the core's queue

positive : (e : QueueError) → (queue_number e == 0) ≡ false
positive stop.Stopped = refl
positive _ = refl

stopped_is : (x : Option QueueError) → not (stop_number x == 0) ≡ is_some x
stopped_is None = refl
stopped_is (Some e) = ap (λ (b : Bool). not b) (positive e)

pub recorded_is : (q : FsQueue) (k : QueueState) → IsQueueState q k → queue_of q ≡ recorded k
recorded_is q k is =
    ap queue_of (sym is.numbers)
    ∙ ap (λ (b : Bool). resumed k.layout.size k.layout.desc k.layout.avail k.layout.used k.next_avail b) (stopped_is k.stopped)

all_recorded : (qs : List FsQueue) (ks : List QueueState) → AreQueueStates qs ks → map queue_of qs ≡ map recorded ks
all_recorded [] [] are = refl
all_recorded (q ∷ qs) (k ∷ ks) are =
    ap (λ (x : Queue). x ∷ map queue_of qs) (recorded_is q k are.0)
    ∙ ap (λ (l : List Queue). recorded k ∷ l) (all_recorded qs ks are.1)
all_recorded _ _ are = absurd are

-- ---- saving

no_device : (status : ℕ) → 0 ≡ status → status ≡ device_status → ⊥
no_device status is device = cc

saved_so : (d : FsDevice) (qs : List FsQueue) (buffer buffer' : List ℕ) (len : ℕ) (how : Option StatusRefusal) → 0 ≡ saved_status how
    → SavesSo d qs buffer how len buffer' → SavesSo d qs buffer None len buffer'
saved_so d qs buffer buffer' len None is so = so
saved_so d qs buffer buffer' len (Some (Of e)) is so = absurd (no_error e is)
saved_so d qs buffer buffer' len (Some (Invalid status)) is so = elim so.0 [
  | inl device ↦ absurd (no_device status is device.1)
  | inr queues ↦ absurd (no_queue queues.1.queue (is ∙ queues.1.refused.1))
]

one_position : (p r : ℕ) → p < 2 ^ 16 → r < 2 ^ 16 → (p + (2 ^ 16 - r)) % 2 ^ 16 ≡ 0 → r ≡ p
one_position p r fp fr none = omega arith

all_even : (qs : List FsQueue) (ks : List QueueState) → AllByRecursion HasItsWidths qs → All HasNoneOut qs → AreQueueStates qs ks →
    AllByRecursion HasNoChain ks
all_even [] [] bits none are = tt
all_even (q ∷ qs) (k ∷ ks) bits none are =
    let at = one_position q.next_avail q.next_used bits.0.1 bits.0.2 (All-head HasNoneOut q qs none) in
    let next_avail = ap (λ (x : FsQueue). x.next_avail) are.0.numbers in
    let next_used = ap (λ (x : FsQueue). x.next_used) are.0.numbers in (
      (next_used ∙ at ∙ sym next_avail, subst (λ (n : ℕ). n < 2 ^ 16) (sym next_avail) bits.0.1),
      all_even qs ks bits.1 (All-tail HasNoneOut q qs none) are.1,
    )
all_even _ _ bits none are = absurd are

all_saved : (qs : List FsQueue) → All IsQueue qs → AllByRecursion HasItsWidths qs → All IsSavedQueue (map queue_of qs)
all_saved [] are bits = All-nil IsSavedQueue
all_saved (q ∷ qs) are bits =
    All-cons IsSavedQueue (queue_of q) (map queue_of qs) ((All-head IsQueue q qs are).0, bits.0.0, bits.0.1)
    (all_saved qs (All-tail IsQueue q qs are) bits.1)

page_size_low : (n : ℕ) → IsTrue (is_page_size n) → n < 2 ^ 32
page_size_low n is = grind (arith, nat_tests)

limit_low : (n : ℕ) → n ≤ 2 ^ 31 → n < 2 ^ 64
limit_low n few = omega arith

pub saves : SavesARecord
saves d qs ks buffer buffer' len saved bits are =
    let so = saved_so d qs buffer buffer' len saved.0 saved.1 saved.2 in
    let can = so.0 in
    let queues = map queue_of qs in
    let v : Version = Second d.page_size d.limit in
    let count : length queues ≡ length qs = length-map qs queue_of in
    let made : IsRecord (bytes_of d qs) v d.options queues = (
      refl,
      (page_size_low d.page_size can.0.0, limit_low d.limit can.0.2),
      (can.1, subst (λ (n : ℕ). 1 ≤ n) (sym count) can.2, subst (λ (n : ℕ). n ≤ 64) (sym count) can.3, all_saved qs can.4 bits),
    ) in (
      bytes_of d qs,
      v,
      so.3,
      so.2,
      subst (λ (l : List Queue). IsRecord (bytes_of d qs) v d.options l) (all_recorded qs ks are) made,
      all_even qs ks bits so.1 are,
    )

-- ---- restoring

no_record : (n : ℕ) → 0 ≡ 80 + n → ⊥
no_record n is = omega (arith, is)

abbrev ReadsBack : FsDevice → List FsQueue → (saved : List ℕ) → (count : ℕ) → FsDevice → List FsQueue → Type 0
ReadsBack d queues saved count d' queues' =
    (options : ℕ) × (qs : List Queue) × ReadsSo d queues saved (Restored options qs) count d' queues'

read_so : (d : FsDevice) (queues : List FsQueue) (saved : List ℕ) (how : RestoreOutcome) (count : ℕ) (d' : FsDevice)
    (queues' : List FsQueue) → 0 ≡ read_status how → ReadsSo d queues saved how count d' queues' → ReadsBack d queues saved count d' queues'
read_so d queues saved (Restored options qs) count d' queues' is so = (options, qs, so)
read_so d queues saved (TooFewQueues options qs) count d' queues' is so = absurd (no_error error.ShortBuffer is)
read_so d queues saved (NoRecord e) count d' queues' is so = absurd (no_record (restore_error_number e) is)
read_so d queues saved (UnfitQueues options qs status) count d' queues' is so =
    absurd (no_queue (numbers_over so.4.old so.4.queue) (is ∙ so.4.why))
read_so d queues saved NoDevice count d' queues' is so = absurd (cc is)

flag_back : (b : Bool) → not ((if b then 1 else 0) == 0) ≡ b
flag_back true = refl
flag_back false = refl

over_back : (old : FsQueue) (q : Queue) → queue_of (numbers_over old q) ≡ q
over_back old q = ap (λ (b : Bool). resumed q.size q.desc q.avail q.used q.position b) (flag_back q.stopped)

one_at_least : (m : ℕ) → 1 ≤ max 1 m
one_at_least m = grind arith

no_more_than : (m n : ℕ) → m ≤ n → 0 < n → max 1 m ≤ n
no_more_than m n few some = grind arith

none_left : (n : ℕ) → suc n ≤ 0 → ⊥
none_left n few = omega (arith, few)

abbrev GoOn : List QueueState → List Queue → Type 0
GoOn ks qs = (map recorded ks ≡ qs) × AllByRecursion HasNoChain ks × AllByRecursion HasFittingMaximum ks

go_on : (olds : List FsQueue) (qs : List Queue) (ks : List QueueState) → length qs ≤ length olds → All IsSavedQueue qs
    → AreQueueStates (take (length qs) (restored_over olds qs)) ks → GoOn ks qs
go_on olds [] [] few all are = (refl, tt, tt)
go_on [] (q ∷ qs) ks few all are = absurd (none_left (length qs) few)
go_on (old ∷ olds) (q ∷ qs) (k ∷ ks) few all are =
    let one = are.0 in
    let low : q.position < 2 ^ 16 = (All-head IsSavedQueue q qs all).2 in
    let size : q.size ≡ k.layout.size = sym (ap (λ (x : FsQueue). x.size) one.numbers) in
    let next_avail = ap (λ (x : FsQueue). x.next_avail) one.numbers in
    let next_used = ap (λ (x : FsQueue). x.next_used) one.numbers in
    let most = ap (λ (x : FsQueue). x.max_in_flight) one.numbers in
    let rest = go_on olds qs ks (omega (arith, few)) (All-tail IsSavedQueue q qs all) are.1 in (
      ap (λ (x : Queue). x ∷ map recorded ks) (sym (recorded_is (numbers_over old q) k one) ∙ over_back old q)
          ∙ ap (λ (l : List Queue). q ∷ l) rest.0,
      ((next_used ∙ sym next_avail, subst (λ (n : ℕ). n < 2 ^ 16) (sym next_avail) low), rest.1),
      (
        (
          subst (λ (n : ℕ). 1 ≤ n) (sym most) (one_at_least old.max_in_flight),
          subst (λ (n : ℕ). n ≤ k.layout.size) (sym most)
              (no_more_than old.max_in_flight k.layout.size (subst (λ (n : ℕ). old.max_in_flight ≤ n) size one.valid.2) k.layout.sized),
        ),
        rest.2,
      ),
    )
go_on _ _ _ few all are = absurd are

pub restores : RestoresARecord
restores d d' queues queues' ks saved count restored are =
    let so = read_so d queues saved restored.0 count d' queues' restored.1 restored.2 in
    let options = so.0 in
    let qs = so.1 in
    let read = so.2 in
    let has : HasRecord d saved options qs = read.1 in
    let bytes = has.0 in
    let v = has.3.0 in
    let is : IsRecord bytes v options qs = has.3.2 in
    let few : length qs ≤ length queues = subst (λ (n : ℕ). n ≤ length queues) read.2 read.3 in
    let are' : AreQueueStates (take (length qs) (restored_over queues qs)) ks =
    subst (λ (l : List FsQueue). AreQueueStates (take (length qs) l) ks) read.5
    (subst (λ (n : ℕ). AreQueueStates (take n queues') ks) read.2 are) in
    let go = go_on queues qs ks few is.2.3 are' in
    let as_recorded : IsRecord bytes v d'.options qs =
    subst (λ (n : ℕ). IsRecord bytes v n qs) (sym (ap (λ (x : FsDevice). x.options) read.4)) is in (
      bytes,
      has.1,
      v,
      has.2,
      subst (λ (l : List Queue). IsRecord bytes v d'.options l) (sym go.0) as_recorded,
      go.1,
      go.2,
    )

-- ---- both

pub moves : MovesByRecord
moves d there d' qs olds queues' here ks buffer saved rest len count made bits are restored are' =
    let one = saves d qs here buffer saved len made bits are in
    let two = restores there d' olds queues' ks (take len saved ++ rest) count restored are' in
    let bytes = one.0 in
    let front : take len saved ≡ bytes =
    ap (λ (l : List ℕ). take len l) one.2
    ∙ ap (λ (n : ℕ). take n (bytes ++ drop len buffer)) one.3
    ∙ take-append_seam bytes (drop len buffer) in
    let v = one.1 in
    let same = one_reading v two.2 d.options d'.options (map recorded here) (map recorded ks) bytes two.0 rest two.1
    one.4 two.4 (ap (λ (l : List ℕ). l ++ rest) (sym front) ∙ two.3) in (
      bytes,
      v,
      one.4,
      subst (λ (l : List Queue). IsRecord bytes v d'.options l) same.2
          (subst (λ (n : ℕ). IsRecord bytes v n (map recorded here)) same.1 one.4),
      sym same.1,
      sym same.2,
      two.5,
      two.6,
    )
