-- The marks of a shared device's calls in its bitmap of pages, and those that a harvest takes.
use Rattle.std.specs.Prelude.{◌≡◌, ◌≢◌, ◌⊎◌, ℕ, ◌/◌, ◌<◌, ◌≤◌, true, List, [], drop, length, All, Result, Ok}
use Rattle.std.specs.Prelude.{Err}
use Rattle.std.specs.List.{Contains}
use Rattle.vm_bitmaps.specs.Words.{page_bit}
use Rattle.vm_atomic_bitmaps.specs.declared.counts.Tally.{Tally}
use Rattle.vm_atomic_bitmaps.specs.Counts.{first_pass, tally_of, both_passes, IsWhole}
use Rattle.vm_atomic_bitmaps.specs.Passes.{Pass, SharedPages}
use Rattle.fs_shared.specs.Portion.{IsMarkedSince}
use Rattle.vm_memory_core.specs.Host.{Host, Place, byte_at, lengths}
use Rattle.fs_shared.specs.Pages.{first_page, page_of}
use Rattle.plain_machine.specs.declared.error.DeviceError.{DeviceError}
use Rattle.plain_machine.specs.declared.refusal.Refusal.{Refusal}
use Rattle.plain_machine.specs.Step.{State}
use Rattle.fs_shared.specs.declared.entry.JournalEntry.{JournalEntry}
use Rattle.fs_shared.specs.declared.entry.Kicked as kicked
use Rattle.fs_shared.specs.declared.entry.Receipt.{Receipt}
use Rattle.fs_shared.specs.Audit.{AreAllReceipts}
use Rattle.fs_shared.specs.Held.{journal_of}
use Rattle.fs_shared.specs.Replay.{Replays}

-- a harvest: its device's bitmap, and the pass with which it gathers
pub record Harvest : Type 0 where
  pub bitmap : SharedPages
  pub pass : Pass

-- the harvest is of the device with this bitmap
abbrev pub IsHarvestOf : SharedPages → Harvest → Type 0
IsHarvestOf bitmap h = h.bitmap ≡ bitmap

-- a bitmap has one page for each page of a host; pages have 4096 bytes and are numbered block by block
pub record HasPagesOf (host : Host) (bitmap : SharedPages) : Type 0 where
  pub page_size : bitmap.page_size ≡ 4096
  pub len : bitmap.len ≡ first_page (lengths host) (length (lengths host))

-- the first pass of a clear bitmap: it has every part, and has counted nothing
abbrev pub first_of : SharedPages → Pass
first_of bitmap = record { name = bitmap.name; counts = first_pass bitmap.len }

-- the pages of a kick's receipt, none without receipt
abbrev pub kicked_pages : Result (kicked.Kicked) DeviceError → List ℕ
kicked_pages (Ok (kicked.TheVariants.Done r)) = r.pages.items
kicked_pages _ = []

-- the pages of the receipt of a guest's write or a new layout, none if it was refused
abbrev pub pages_of_result : Result Receipt Refusal → List ℕ
pages_of_result (Ok r) = r.pages.items
pages_of_result (Err e) = []

-- the pass has marked each page of the receipts that lies in its bitmap
abbrev pub HasMarked : List Tally → List Receipt → Type 0
HasMarked pages receipts =
    All (λ r. (page : ℕ) →
    page < length pages →
    Contains r.pages.items page →
    (tally_of pages page).marked ≡ true) receipts

-- the page is set in the words, or the harvest has taken it
abbrev pub IsSetOrTaken : (words : List ℕ) → Harvest → (page : ℕ) → Type 0
IsSetOrTaken words h page = (page_bit words page ≡ 1) ⊎ (0 < (tally_of h.pass.counts.pages page).off)

-- each page of the bitmap in which the hosts differ is set in the words, or the harvest has taken it; this
-- supposes that share and harvest have every part of the passes, and that the share has marked the pages of
-- receipts that match the journal
abbrev pub AccountsFor :
    Pass → Harvest → List JournalEntry → (before after : Host) → (words : List ℕ) → Type 0
AccountsFor share h journal before after words =
    IsWhole (both_passes h.pass.counts share.counts) →
    (receipts : List Receipt) →
    AreAllReceipts journal receipts →
    HasMarked share.counts.pages receipts →
    (p : Place) →
    byte_at after p ≢ byte_at before p →
    page_of (lengths before) p < h.bitmap.len →
    IsSetOrTaken words h (page_of (lengths before) p)

-- the pages of a word, of the receipts with numbers from `first` on, are all marked since another pass's last
-- clear of them; pages past the bitmap are left out
abbrev pub HasMarkedSince : (word first : ℕ) → (taken pages : List Tally) → List Receipt → Type 0
HasMarkedSince word first taken pages receipts =
    All (λ r. first ≤ r.number →
    (page : ℕ) →
    page / 64 ≡ word →
    page < length pages →
    Contains r.pages.items page →
    IsMarkedSince taken pages page) receipts

-- each page of the bitmap that the share marked since the harvest took it is set in the words, if share and
-- harvest have every part of the passes
abbrev pub LeavesMarked : Pass → Harvest → (words : List ℕ) → Type 0
LeavesMarked share h words =
    IsWhole (both_passes h.pass.counts share.counts) →
    (page : ℕ) →
    page < h.bitmap.len →
    IsMarkedSince h.pass.counts.pages share.counts.pages page →
    page_bit words page ≡ 1

-- each page of a word in which the machine differs from the state before entry `first` is set in the words;
-- this supposes that share and harvest have every part of the passes, and that since the word's last gather
-- the share has marked its pages in the receipts from `first` on, of receipts that match the journal
abbrev pub AccountsSince : Pass → Harvest → List JournalEntry → State (Unit {0}) → (words : List ℕ) → Type 0
AccountsSince share h journal after words =
    IsWhole (both_passes h.pass.counts share.counts) →
    (receipts : List Receipt) →
    AreAllReceipts journal receipts →
    (word first : ℕ) →
    HasMarkedSince word first h.pass.counts.pages share.counts.pages receipts →
    (since : State (Unit {0})) →
    Replays since (drop first (journal_of journal)) after →
    (p : Place) →
    byte_at after.memory.host p ≢ byte_at since.memory.host p →
    page_of (lengths since.memory.host) p < h.bitmap.len →
    page_of (lengths since.memory.host) p / 64 ≡ word →
    page_bit words (page_of (lengths since.memory.host) p) ≡ 1
