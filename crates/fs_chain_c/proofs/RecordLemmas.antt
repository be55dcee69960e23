-- A record has a place of 2080 bytes, which it never fills; and which queue is the first that it can't have.
use Rattle.std.proofs.Common.{◌≡◌, ℕ, zero, suc, ◌+◌, ◌*◌, ◌<◌, ◌≤◌, All, Bool, true, List, [], ◌∷◌, ◌++◌, drop, get_or, length, take}
use Rattle.std.proofs.Common.{arith, refl, ap, sym}
use Rattle.std.proofs.lemmas.List.{length-append}
use Rattle.std.specs.List.{flat_map}
use Rattle.vm_values.specs.Fields.{spelled, field_bytes}
use Rattle.fs_queue.specs.Queue.{Queue}
use Rattle.fs_record.specs.Fields.{head_fields}
use Rattle.fs_record.specs.Record.{Second, end_bytes, head_of, queue_bytes, record_bytes}
use Rattle.fs_chain_c.specs.declared.queue.FsQueue.{FsQueue}
use Rattle.fs_chain_c.specs.Queues.{IsQueue}
use Rattle.fs_chain_c.specs.Records.{HasNoneOut, RefusesToSave, RefusesQueues}
use Rattle.fs_chain_c.specs.declared.status.StatusRefusal.{StatusRefusal}

-- the numbers that lie where no queue does
abbrev pub no_numbers : FsQueue
no_numbers = record {
  desc = 0;
  avail = 0;
  used = 0;
  size = 0;
  next_avail = 0;
  next_used = 0;
  max_in_flight = 0;
  stopped = 0;
  pushing = 0;
  event_index = 0;
  reset_count = 0;
  pop_count = 0;
}

head_length : (page_size limit options count : ℕ) → length (spelled (head_fields (head_of (Second page_size limit) options count))) ≡ 24
unfolding field_bytes
head_length page_size limit options count = refl

end_length : (page_size limit : ℕ) → length (end_bytes (Second page_size limit)) ≡ 8
unfolding field_bytes
end_length page_size limit = refl

queue_length : (q : Queue) → length (queue_bytes q) ≡ 32
unfolding field_bytes
queue_length q = refl

queues_length : (qs : List Queue) → length (flat_map queue_bytes qs) ≡ 32 * length qs
queues_length [] = refl
queues_length (q ∷ qs) =
    let join = length-append (queue_bytes q) (flat_map queue_bytes qs) in
    let one = queue_length q in let more = queues_length qs in omega (arith, join, one, more)

record_length :
    (page_size limit options : ℕ) (qs : List Queue) → length (record_bytes (Second page_size limit) options qs) ≡ 32 + 32 * length qs
record_length page_size limit options qs =
    let v = Second page_size limit in
    let head = spelled (head_fields (head_of v options (length qs))) in
    let first = length-append (head ++ flat_map queue_bytes qs) (end_bytes v) in
    let second = length-append head (flat_map queue_bytes qs) in
    let h = head_length page_size limit options (length qs) in
    let q = queues_length qs in
    let e = end_length page_size limit in omega (arith, first, second, h, q, e)

-- a place that is full has more than some bytes of a record with others behind them
pub never_full : (page_size limit options : ℕ) (qs : List Queue) (has part rest : List ℕ) (full : Bool) → length qs ≤ 64
    → (full ≡ true → 2080 ≤ length has)
    → full ≡ true → record_bytes (Second page_size limit) options qs ≡ part ++ rest → 0 < length rest → has ≡ part → ⊥
never_full page_size limit options qs has part rest full few known is cut more same =
    let long = known is in
    let whole = record_length page_size limit options qs in
    let parts = ap length cut in
    let sum = length-append part rest in
    let all = ap length same in omega (arith, few, long, whole, parts, sum, more, all)

-- what stands before one of some, it, and what stands behind it
pub parted : {A : Type 0} (xs : List A) (k : ℕ) (x : A) → k < length xs → x ≡ get_or xs k x → xs ≡ take k xs ++ x ∷ drop (suc k) xs
parted [] k x within is = absurd (omega (arith, within))
parted {A} (y ∷ xs) zero x within is = ap (λ (z : A). z ∷ xs) (sym is)
parted {A} (y ∷ xs) (suc k) x within is = ap (λ (l : List A). y ∷ l) (parted xs k x (omega (arith, within)) is)

-- one that is refused is the first, if those before it aren't
pub first_refused : (qs : List FsQueue) (k : ℕ) (q : FsQueue) (why : StatusRefusal) → k < length qs → q ≡ get_or qs k q →
    All IsQueue (take k qs)
    → All HasNoneOut (take k qs)
    → RefusesToSave q why → RefusesQueues qs why
first_refused qs k q why within is are none_out refused = record {
  before = take k qs;
  queue = q;
  after = drop (suc k) qs;
  parts = parted qs k q within is;
  are = are;
  none_out = none_out;
  refused = refused;
}
