-- Theorems about a walk whose loads may have any bytes, since the guest may write meanwhile (VIRTIO 1.2,
-- 2.7.5).
use Rattle.std.specs.Prelude.{◌≡◌, ◌⊎◌, ℕ, ◌+◌, ◌<◌, ◌≤◌, List, [], ◌∷◌, ◌++◌, length, map, Option, Some}
use Rattle.std.specs.Prelude.{if◌then◌else◌}
use Rattle.fs_queue.specs.declared.fault.ChainFault.TheVariants.{NextOutOfTable}
use Rattle.fs_queue.specs.Queue.{Queue}
use Rattle.fs_queue.specs.Chain.{Descriptor, Visit, WalkStep, Ordinary, Indirect, Faulty, Stops, next_visit}
use Rattle.fs_queue.specs.Chain.{onward, first_visit, Found, IsChain, HasFault, StopsQueue}
use Rattle.fs_queue.specs.Chain.{entry_address}
use Rattle.fs_queue.specs.Loads.{Load, Ahead, Reads, Ends, reads_entry, step_by, ahead_at, ahead_after}
use Rattle.fs_queue.specs.Loads.{chain_by}

-- the state of the walk from a head before its first load
abbrev pub ahead_of_head : Queue → ℕ → Ahead
ahead_of_head q head = ahead_at q.size (first_visit q head)

-- the load of a step's entry with these bytes, or none if it isn't mapped
abbrev pub load_at : Visit → Option (List ℕ) → Load
load_at v came = record { address = entry_address v; came = came }

-- the loads of a walk, if the caller passes these bytes one after another; those after its end stay
-- unused
unfoldable pub loads_by : (size : ℕ) → (came : List (Option (List ℕ))) → Ahead → List Load
loads_by size [] a = []
loads_by size (c ∷ cs) (Ends f) = []
loads_by size (c ∷ cs) (Reads v) =
    load_at v c ∷ loads_by size cs (ahead_after size v (step_by size v (load_at v c)))

-- theorem: a walk makes at most size + 2 loads, for any bytes
abbrev pub FewLoads : Type 0
FewLoads =
    (q : Queue) (head : ℕ) (came : List (Option (List ℕ))) →
    length (loads_by q.size came (ahead_of_head q head)) ≤ q.size + 2

-- theorem: a walk ends if the caller passes the bytes of size + 2 loads
abbrev pub LoadsEnd : Type 0
LoadsEnd =
    (q : Queue) (head : ℕ) (came : List (Option (List ℕ))) → q.size + 2 ≤ length came →
    (f : Found) × (chain_by (loads_by q.size came (ahead_of_head q head)) q head ≡ Some f)

-- the steps of a walk by some loads. Each step reads its entry by the next load; a last step past its
-- table's end is a fault without a load
unfoldable pub steps_by : (size : ℕ) → List Load → Visit → List Visit
steps_by size [] v = if reads_entry v then [] else v ∷ []
steps_by size (l ∷ ls) v =
    v ∷ (if reads_entry v then onward (steps_by size ls) (next_visit v (step_by size v l)) else [])

-- the descriptors that join the chain at a step: one or none
abbrev pub joined : WalkStep → List Descriptor
joined (Ordinary d) = d ∷ []
joined (Indirect table) = []
joined (Faulty fault) = []
joined Stops = []

-- the descriptors that join the chain, in order: the k-th load is that of the k-th step
abbrev pub joined_by : (size : ℕ) → List Visit → List Load → List Descriptor
joined_by size [] ls = []
joined_by size (v ∷ vs) [] = []
joined_by size (v ∷ vs) (l ∷ ls) = joined (step_by size v l) ++ joined_by size vs ls

-- the last step of a walk by some loads
pub record LastStep (size : ℕ) (ls : List Load) (first : Visit) : Type 0 where
  pub front : List Visit
  pub last : Visit
  pub steps : steps_by size ls first ≡ front ++ last ∷ []

-- the last step has this result, by the load at the same position in the list, whose address is the
-- step's entry
pub record WasReadBy (size : ℕ) (ls : List Load) (first : Visit) (w : WalkStep) : Type 0 where
  pub step : LastStep size ls first
  pub before : List Load
  pub load : Load
  pub rest : List Load
  pub loads : ls ≡ before ++ load ∷ rest
  pub place : length before ≡ length step.front
  pub entry : load.address ≡ entry_address step.last
  pub reports : step_by size step.last load ≡ w

-- the last step is past its table's end, so it makes no load
pub record PastTable (size : ℕ) (ls : List Load) (first : Visit) : Type 0 where
  pub step : LastStep size ls first
  pub past : step.last.table.entries ≤ step.last.index

-- a walk's result follows from its loads. A chain follows from the loads of its steps. A fault follows
-- from the load of the last step, unless that is past its table's end. A stop follows from a load that
-- isn't mapped
abbrev pub IsReadIn : (size : ℕ) → List Load → (first : Visit) → Found → Type 0
IsReadIn size ls first (IsChain ds) = ds ≡ joined_by size (steps_by size ls first) ls
IsReadIn size ls first (HasFault fault) =
    WasReadBy size ls first (Faulty fault) ⊎ ((fault ≡ NextOutOfTable) × PastTable size ls first)
IsReadIn size ls first StopsQueue = WasReadBy size ls first Stops

-- theorem: the result of a walk by any loads follows from them
abbrev pub EndsAreRead : Type 0
EndsAreRead =
    (q : Queue) (head : ℕ) (ls : List Load) (f : Found) →
    chain_by ls q head ≡ Some f →
    IsReadIn q.size ls (first_visit q head) f

-- the steps of a walk by some loads that read an entry
unfoldable pub visits_by : (size : ℕ) → List Load → Ahead → List Visit
visits_by size [] a = []
visits_by size (l ∷ ls) (Ends f) = []
visits_by size (l ∷ ls) (Reads v) = v ∷ visits_by size ls (ahead_after size v (step_by size v l))

-- the loads that a walk uses are one for each step, in their order, at the step's entry
pub record OneForEach (size : ℕ) (ls : List Load) (a : Ahead) : Type 0 where
  pub used : List Load
  pub left : List Load
  pub parts : ls ≡ used ++ left
  pub each : map (λ l. l.address) used ≡ map entry_address (visits_by size ls a)

-- theorem: an entry is loaded again only if the chain visits it again
abbrev pub Once : Type 0
Once =
    (q : Queue) (head : ℕ) (ls : List Load) (f : Found) →
    chain_by ls q head ≡ Some f →
    OneForEach q.size ls (ahead_of_head q head)

-- theorem: no two entries of a table have an address in common
abbrev pub EntriesApart : Type 0
EntriesApart =
    (v w : Visit) →
    v.table ≡ w.table →
    entry_address v < entry_address w + 16 →
    entry_address w < entry_address v + 16 →
    v.index ≡ w.index
