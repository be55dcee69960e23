-- A move to another host: an image, its stale bytes, and the pages that make it equal to the host
-- again.
use Rattle.std.specs.Prelude.{◌≡◌, ◌≢◌, ℕ, ◌/◌, Bool, true, false, not, IsTrue, List, [], ◌∷◌, ◌++◌, length}
use Rattle.std.specs.Prelude.{Option, Some, None, slice_get, option_and_then}
use Rattle.std.specs.List.{AllByRecursion, flat_map}
use Rattle.vm_memory_core.specs.Host.{Host, Place, byte_at, lengths, page_count}
use Rattle.vm_memory.specs.Memory.{memory_behind}
use Rattle.fs_queue.specs.Queue.{Queue}
use Rattle.fs_record.specs.Record.{Version, IsRecord}
use Rattle.plain_machine.specs.Harvested.{Page}
use Rattle.fs_device.specs.Applying.{first_refused, pages_put}
use Rattle.server_meanings.specs.Serving.{May}
use Rattle.plain_machine.specs.Step.{State}
use Rattle.plain_machine.specs.Run.{Command, NewBlock, Map, Unmap, UnmapAll, SetIommu, Image, Harvest, Answer}
use Rattle.plain_machine.specs.Run.{Copied, Pages, Run}

-- a place where an image, with pages applied, differs from the host
abbrev pub IsStale : (image : Host) → List Page → (host : Host) → Place → Type 0
IsStale image pages host p = byte_at (pages_put image pages) p ≢ byte_at host p

-- the mark of a place's page in its block, if there is such a page
abbrev pub page_mark : Host → Place → Option Bool
page_mark h p = option_and_then (λ b. slice_get b.marks (p.offset / 4096)) (slice_get h.blocks p.block)

-- each block has a mark for each of its pages
abbrev pub HasItsMarks : Host → Type 0
HasItsMarks h = AllByRecursion (λ b. length b.marks ≡ page_count (length b.bytes)) h.blocks

-- the commands that may follow an image during a move: not a new block, a change of mappings, turning
-- on the IOMMU, or another image
abbrev pub follows_image : Command → Bool
follows_image (NewBlock n) = false
follows_image (Map iova target n perm) = false
follows_image (Unmap iova n) = false
follows_image UnmapAll = false
follows_image (SetIommu on) = not on
follows_image Image = false
follows_image _ = true

-- the pages of an answer; only a harvest's has any
abbrev pub pages_of_answer : Answer → List Page
pages_of_answer (Pages pages) = pages
pages_of_answer _ = []

-- the pages in the answers of a run's harvests, in order
abbrev pub pages_answered : List (Command × Answer) → List Page
pages_answered events = flat_map (λ e. pages_of_answer e.1) events

-- a run of an image and then only commands that may follow it, with the IOMMU off
pub record RunsFromImage {F : Type 0} (may : May F) (s : State F) (copy : Host) (events : List (Command
    × Answer)) (after : State F) : Type 0 where
  pub off : s.memory.translates ≡ false
  pub marks : HasItsMarks s.memory.host
  pub follow : AllByRecursion (λ e. IsTrue (follows_image e.0)) events
  pub run : Run may s ((Image, Copied copy) ∷ events) after

-- theorem: at each moment, a stale place of the image, with all harvested pages applied, is on a marked
-- page
abbrev pub StaleIsMarked : {F : Type 0} → May F → Type 0
StaleIsMarked {F} may =
    (s after : State F) (copy : Host) (events : List (Command × Answer)) (p : Place) →
    RunsFromImage may s copy events after →
    IsStale copy (pages_answered events) after.memory.host p →
    page_mark after.memory.host p ≡ Some true

-- theorem: after a last harvest the image, with all harvested pages applied in order, equals the host,
-- marks and all
abbrev pub ImageCatchesUp : {F : Type 0} → May F → Type 0
ImageCatchesUp {F} may =
    (s after : State F) (copy : Host) (events : List (Command × Answer)) (last : List Page) →
    let all = events ++ (Harvest, Pages last) ∷ [] in
    RunsFromImage may s copy all after → pages_put copy (pages_answered all) ≡ after.memory.host

-- theorem: each harvested page fits into the image
abbrev pub PagesHavePlaces : {F : Type 0} → May F → Type 0
PagesHavePlaces {F} may =
    (s after : State F) (copy : Host) (events : List (Command × Answer)) →
    RunsFromImage may s copy events after →
    first_refused (lengths copy) 0 (pages_answered events) ≡ None

-- the state over another host, with the options and queues of a record, and the layout, IOMMU, limit,
-- page size and file system of the old state
abbrev pub made_over : {F : Type 0} → Host → (options : ℕ) → List Queue → State F → State F
made_over host options queues s =
    record {
      memory = memory_behind host s.memory.layout s.memory.table s.memory.io_pages s.memory.translates;
      queues = queues;
      options = options;
      files = s.files;
      limit = s.limit;
      page_size = s.page_size;
    }

-- theorem: after a last harvest, the state made over the image, with all harvested pages applied in
-- order, and from the last state's record equals that last state, marks and all
abbrev pub MovedIsLast : {F : Type 0} → May F → Type 0
MovedIsLast {F} may =
    (s after : State F) (copy : Host) (events : List (Command
    × Answer)) (last : List Page) (v v' : Version) (bytes : List ℕ) (options : ℕ)
    (queues : List Queue) →
    let all = events ++ (Harvest, Pages last) ∷ [] in
    RunsFromImage may s copy all after →
    IsRecord bytes v after.options after.queues →
    IsRecord bytes v' options queues →
    made_over (pages_put copy (pages_answered all)) options queues after ≡ after

-- theorem: the state after such a run meets the conditions for another such run
abbrev pub CanMoveAgain : {F : Type 0} → May F → Type 0
CanMoveAgain {F} may =
    (s after : State F) (copy : Host) (events : List (Command × Answer)) →
    RunsFromImage may s copy events after →
    (after.memory.translates ≡ false) × HasItsMarks after.memory.host
