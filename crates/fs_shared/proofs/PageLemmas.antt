-- the pages of a guest's write
use Rattle.std.proofs.Common.{◌≡◌, ℕ, Bool, true, false, zero, suc, List, [], ◌++◌, length, map, take, append-nil, ap, sym, refl, ◌∙◌}
use Rattle.std.proofs.Common.{subst, Option, Some, None, arith}
use Rattle.std.specs.Prelude.{if◌then◌else◌, is_some}
use Rattle.std.specs.List.{filter_map}
use Rattle.std.proofs.lemmas.List.{take_all}
use Rattle.vm_iotlb.specs.declared.permissions.Permissions.TheVariants.{Write}
use Rattle.vm_memory_core.specs.Host.{Host, Place, lengths}
use Rattle.vm_memory_core.specs.Window.{Window, places}
use Rattle.vm_memory.specs.Layout.{Region}
use Rattle.vm_memory.specs.Memory.{addresses, after, located, location, memory_of, places_from, reach}
use Rattle.vm_memory.proofs.RangeLemmas.{places_from-is, reach-from}
use Rattle.fs_queue.proofs.TakeLemmas.{length-range}
use Rattle.fs_shared.specs.Pages.{ArePagesOf, page_of}
use Rattle.fs_shared.specs.Runs.{AreRuns}
use Rattle.fs_device.proofs.GuestLemmas.{reach_ends}
use Rattle.fs_shared.specs.Replay.{WritesPages}
use Rattle.fs_shared.proofs.Returning.{whole}

some_places : (o : Option (List Place)) → is_some o ≡ true → (ps : List Place) × (o ≡ Some ps)
some_places None there = absurd (cc)
some_places (Some ps) there = (ps, refl)

joined : (ws : List Window) (all : Bool) (found : Option (List Place)) (ps : List Place) → found ≡ Some ps →
    after [] found ≡ (if all then Some (places ws) else None) → found ≡ Some (places ws)
joined ws true None ps there is = absurd (cc)
joined ws true (Some qs) ps there is = is
joined ws false _ ps there is = absurd (cc)

-- windows that were joined hold the places of what is reached
pub windows_hold :
    (h : Host) (l : List Region) (a n : ℕ) (old new : List Window) (all : Bool) → reach (memory_of h l) Write a n ≡ true → old ≡ [] →
    after (places old) (places_from (memory_of h l) Write a n) ≡ (if all then Some (places new) else None) →
    located (location (memory_of h l) Write) (addresses a n) ≡ Some (places new)
windows_hold h l a n old new all reaches none is =
    let m = memory_of h l in
    let ends = reach_ends h l Write a n reaches in
    let ps = some_places (places_from m Write a n) (reach-from m Write a n ends ∙ reaches) in
    let first : after [] (places_from m Write a n) ≡ (if all then Some (places new) else None) =
    ap (λ (ws : List Window). after (places ws) (places_from m Write a n)) (sym none) ∙ is in
    sym (places_from-is m Write a n ends) ∙ joined new all (places_from m Write a n) ps.0 ps.1 first

-- there are as many as bytes
pub as_many : (h : Host) (l : List Region) (a n : ℕ) (ws : List Window) →
    located (location (memory_of h l) Write) (addresses a n) ≡ Some (places ws) → length (places ws) ≡ n
as_many h l a n ws is = length-range n a (location (memory_of h l) Write) (places ws) is

-- no runs are those of no bytes
pub no_runs : (block_lengths : List ℕ) → AreRuns (map (page_of block_lengths) []) []
no_runs block_lengths zero page = (λ has. has, λ has. has)
no_runs block_lengths (suc count) page = (λ has. has, λ has. has)

-- their pages are those that are written
pub pages_written : (h : Host) (l : List Region) (a n : ℕ) (ws : List Window) (pages : List ℕ) →
    located (location (memory_of h l) Write) (addresses a n) ≡ Some (places ws) →
    ArePagesOf (lengths h) (take n (places ws) ++ take 0 []) pages → WritesPages (memory_of h l) (addresses a n) pages
pages_written h l a n ws pages is are =
    let f = location (memory_of h l) Write in
    let long = as_many h l a n ws is in
    let same : take n (places ws) ++ [] ≡ filter_map f (addresses a n) =
    append-nil (take n (places ws)) ∙ take_all n (places ws) (omega (arith, long)) ∙ sym (whole f (addresses a n) (places ws) is) in
    subst (λ (ps : List Place). ArePagesOf (lengths h) ps pages) same are
