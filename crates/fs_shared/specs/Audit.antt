-- Receipts that match a journal.
use Rattle.std.specs.Prelude.{◌≡◌, ℕ, ◌<◌, ◌==◌, List, length, All, count_by, IsSomeAnd, slice_get}
use Rattle.fs_device.specs.CommandView.{command_of}
use Rattle.fs_shared.specs.declared.entry.JournalEntry.{JournalEntry}
use Rattle.fs_shared.specs.declared.entry.Receipt.{Receipt}
use Rattle.fs_shared.specs.Held.{came_of}

-- a receipt has the same command, outcome and pages as an entry; layouts are equal if their regions have the
-- same bases, lengths and blocks
pub record IsReceiptOf (entry : JournalEntry) (r : Receipt) : Type 0 where
  pub command : command_of r.command ≡ command_of entry.command
  pub outcome : came_of r.outcome ≡ came_of entry.outcome
  pub pages : r.pages.items ≡ entry.pages.items

-- a receipt matches the entry of its number
abbrev pub MatchesJournal : List JournalEntry → Receipt → Type 0
MatchesJournal journal r = IsSomeAnd (slice_get journal r.number) (λ entry. IsReceiptOf entry r)

-- how many of the receipts have this number
abbrev pub times : (number : ℕ) → List Receipt → ℕ
times number receipts = count_by (λ r. r.number == number) receipts

-- each entry's number is that of exactly one receipt, and each receipt matches the entry of its number
pub record AreAllReceipts (journal : List JournalEntry) (receipts : List Receipt) : Type 0 where
  pub matched : All (MatchesJournal journal) receipts
  pub once : (number : ℕ) → number < length journal → times number receipts ≡ 1
