-- A chain that is offered within the limit: its lengths aren't cut.
use Rattle.std.proofs.Common.{◌≡◌, ℕ, ◌≤◌, true, false, List, ◌++◌, length, ◌^◌, subst, ◌∙◌, arith, replicate}
use Rattle.std.proofs.lemmas.List.{length-replicate}
use Rattle.vm_memory.specs.Memory.{Memory}
use Rattle.fs_queue.specs.Queue.{Queue}
use Rattle.fs_queue.specs.Chain.{Descriptor}
use Rattle.fs_queue.specs.Taking.{readable, writable, total_len, IsRequest, Offers, addresses_of}
use Rattle.fs_queue.proofs.TakeLemmas.{length-addresses_of}
use Rattle.fs_regions.specs.Walks.{Loaded, OffersBy}
use Rattle.live_machine.proofs.Within.{is_within}
use Rattle.fs_chain.specs.Walks.{count}

-- its lengths aren't cut at 2^64, and its room is at most 2^31 bytes long, if the limit is
pub fits_limit : (m : Memory) (limit : ℕ) (q : Queue) (loaded : Loaded) (ds : List Descriptor) (head : ℕ) → limit ≤ 2 ^ 31
    → ((request : List ℕ) → length request ≡ total_len (readable ds)
    → OffersBy m limit q loaded request (Offers head (IsRequest request (addresses_of (writable ds)))))
    → (count false ds ≡ total_len (readable ds)) × (length (addresses_of (writable ds)) ≡ count true ds) × (count true ds ≤ 2 ^ 31)
fits_limit m limit q loaded ds head small offers =
    let n = total_len (readable ds) in
    let by = offers (replicate n 0) (length-replicate n 0) in
    let within = is_within m limit q loaded.index loaded.entry (loaded.entries ++ by.1) (replicate n 0)
    (Offers head (IsRequest (replicate n 0) (addresses_of (writable ds)))) by.3 in
    let few : n ≤ limit = subst (λ (k : ℕ). k ≤ limit) (length-replicate n 0) within.0 in
    let room_is = length-addresses_of (writable ds) in
    let fits : total_len (writable ds) ≤ limit = subst (λ (k : ℕ). k ≤ limit) room_is within.1 in
    (omega (arith, few, small), room_is ∙ omega (arith, fits, small), omega (arith, fits, small))
