-- The loads of a pop are of mapped addresses.
use Rattle.std.proofs.Common.{◌≡◌, ◌+◌, ◌-◌, ◌^◌, ℕ, true, Bool, List, [], ◌∷◌, ◌++◌, length, subst, sym, ap, ◌∙◌, arith}
use Rattle.std.specs.Prelude.{All, is_some, nat_lt}
use Rattle.std.specs.List.{AllByRecursion, list_all}
use Rattle.std.proofs.lemmas.Bool.{and_parts, ltb-true, false≢true}
use Rattle.std.proofs.lemmas.List.Elements.{All-head, All-tail}
use Rattle.vm_iotlb.specs.declared.permissions.Permissions.TheVariants.{Read}
use Rattle.vm_memory.specs.Memory.{Memory, addresses, location, reach}
use Rattle.vm_memory.proofs.Places.{addresses-append}
use Rattle.fs_queue.specs.Chain.{Descriptor, entry_address}
use Rattle.fs_queue.specs.Loads.{Load}
use Rattle.fs_queue.specs.Queue.{Queue, avail_index_at, ring_entry_at}
use Rattle.fs_queue.specs.SteppingView.{visit_of}
use Rattle.fs_queue.proofs.TakeLemmas.{list_all-append, reach-each}
use Rattle.fs_regions.specs.Walks.{AddsBytes, IsReadOut, IsThere, IsWalkAt, Loaded, asked_len, nothing}
use Rattle.fs_regions.specs.declared.step.CourseStep as comes
use Rattle.fs_regions.specs.declared.walk.QueueWalk.{QueueWalk}
use Rattle.fs_regions.specs.declared.walk.QueueWalk.TheVariants as asks
use Rattle.live_machine.specs.Live.{IsMappedEntry, LoadsAreMapped}
use Rattle.live_machine.proofs.Alone.{all_both}

-- n bytes of a range that is mapped, from its j-th on
part_there : (m : Memory) (a j n k : ℕ) → reach m Read a (j + (n + k)) ≡ true → reach m Read (a + j) n ≡ true
part_there m a j n k there =
    let has : ℕ → Bool = λ x. is_some (location m Read x) in
    let parts = and_parts (nat_lt (a + (j + (n + k))) (2 ^ 64)) (list_all has (addresses a (j + (n + k)))) there in
    let ends = ltb-true (a + (j + (n + k))) (2 ^ 64) parts.0 in
    let cut : addresses a (j + (n + k)) ≡ addresses a j ++ (addresses (a + j) n ++ addresses (a + j + n) k) =
    addresses-append j (n + k) a ∙ ap (λ (l : List ℕ). addresses a j ++ l) (addresses-append n k (a + j)) in
    let back = and_parts (list_all has (addresses a j)) (list_all has (addresses (a + j) n ++ addresses (a + j + n) k))
    (list_all-append (addresses a j) (addresses (a + j) n ++ addresses (a + j + n) k) (location m Read) ∙ sym (ap (list_all has) cut)
    ∙ parts.1) in
    let front = and_parts (list_all has (addresses (a + j) n)) (list_all has (addresses (a + j + n) k))
    (list_all-append (addresses (a + j) n) (addresses (a + j + n) k) (location m Read) ∙ back.1) in
    reach-each m Read (a + j) n (omega (arith, ends)) ∙ front.0

-- an entry that was read out of a stretch is mapped as the stretch is
entry_there : (m : Memory) (a n : ℕ) (bs : List ℕ) (l : Load) → length bs ≡ n → reach m Read a n ≡ true → IsReadOut a bs l →
    IsMappedEntry m l
entry_there m a n bs l len there out =
    let offset = out.0 in
    let within = out.2 in
    let k = n - offset - 16 in
    let cut : n ≡ offset + (16 + k) = omega (arith, len, within) in
    let here = part_there m a offset 16 k (ap (reach m Read a) (sym cut) ∙ there) in
    (ap is_some out.3, subst (λ (x : ℕ). reach m Read x 16 ≡ true) (sym out.1) here)

entries_there : (m : Memory) (a n : ℕ) (bs : List ℕ) (ls : List Load) → length bs ≡ n → reach m Read a n ≡ true →
    All (IsReadOut a bs) ls → AllByRecursion (IsMappedEntry m) ls
entries_there m a n bs [] len there all = tt
entries_there m a n bs (l ∷ ls) len there all = (
  entry_there m a n bs l len there (All-head (IsReadOut a bs) l ls all),
  entries_there m a n bs ls len there (All-tail (IsReadOut a bs) l ls all),
)

-- before any load
pub none_mapped : (m : Memory) (q : Queue) → LoadsAreMapped m q nothing
none_mapped m q = record { index = λ some. absurd (false≢true some); entry = λ some. absurd (false≢true some); entries = tt }

-- so they stay with a load that was asked for
pub more_mapped : (m : Memory) (q : Queue) (loaded after : Loaded) (ds : List Descriptor) (walk : QueueWalk) (bs : List ℕ)
    (came : comes.CourseStep) → IsWalkAt m q loaded ds walk → IsThere m walk → length bs ≡ asked_len walk
    → AddsBytes walk bs came loaded after → LoadsAreMapped m q loaded → LoadsAreMapped m q after
more_mapped m q loaded after ds (asks.Index w) bs came at there len adds mapped =
    subst (λ (l : Loaded). LoadsAreMapped m q l) (sym adds) (record {
      index = λ some. subst (λ (k : Queue). reach m Read (avail_index_at k) 2 ≡ true) at.0 there;
      entry = mapped.entry;
      entries = mapped.entries;
    })
more_mapped m q loaded after ds (asks.RingEntry w) bs came at there len adds mapped =
    subst (λ (l : Loaded). LoadsAreMapped m q l) (sym adds) (record {
      index = mapped.index;
      entry = λ some. subst (λ (k : Queue). reach m Read (ring_entry_at k) 2 ≡ true) at.0 there;
      entries = mapped.entries;
    })
more_mapped m q loaded after ds (asks.Entries w) bs came at there len adds mapped =
    subst (λ (l : Loaded). LoadsAreMapped m q l) (sym adds.added) (record {
      index = mapped.index;
      entry = mapped.entry;
      entries = all_both (IsMappedEntry m) loaded.entries adds.reads mapped.entries
          (entries_there m (entry_address (visit_of w.walk)) (asked_len (asks.Entries w)) bs adds.reads len there adds.read_out.each);
    })
