-- Listings that C answers entry by entry.
use Rattle.std.specs.Prelude.{◌≡◌, ◌==◌, ◌/◌, ◌%◌, ◌&&◌, ◌||◌, not, nat_le, ℕ, Bool, true, false, List}
use Rattle.std.specs.Prelude.{length, Option, Some, None, Result, Ok, Err, OnErr, if◌then◌else◌}
use Rattle.std.specs.List.{list_any}
use Rattle.fuse_fs.specs.Calls.{Listed}
use Rattle.fuse_fs.specs.declared.answers.Entry.{Entry}
use Rattle.fuse_values.specs.declared.answer.FileAnswer.TheVariants as answer
use Rattle.server_replies.specs.Entries.{no_node}
use Rattle.server_phases.specs.declared.listing.Listing.{Listing}
use Rattle.server_phases.specs.declared.listing.NotAdded as reason
use Rattle.server_phases.specs.Gathering.{Brought, added_found, added_plain}
use Rattle.fs_chain.specs.declared.error.ChainError.{ChainError}
use Rattle.fs_chain.specs.declared.error.ChainError.TheVariants.{BadArgument, WrongOrder}
use Rattle.fs_chain.specs.declared.listing.AddOutcome.{AddOutcome}
use Rattle.fs_chain.specs.declared.listing.AddOutcome.TheVariants as added
use Rattle.fs_chain.specs.Listings.{AddsTo, EndsByEntries, EndsByError, adding_error, list_after}
use Rattle.fs_chain.specs.Numbers.{chain_error_number}
use Rattle.fs_chain.specs.Orders.{is_listing}
use Rattle.fs_chain.specs.Tickets.{UnlessRefused, ticket_error}
use Rattle.fs_chain.specs.Walks.{IsAllButPlace}
use Rattle.fs_chain_c.specs.declared.answers.FsEntry.{FsEntry}
use Rattle.fs_chain.specs.declared.chain_handle.ChainHandle.{ChainHandle}
use Rattle.fs_chain_c.specs.Decoding.{AnswersHandle}
use Rattle.fs_chain_c.specs.Handles.{OnHandle}

-- ---- entries

-- the status of an added entry: 0 if it is in the list, 36 if the list is full, 37 if the listing fails, or
-- the error's number
abbrev pub added_status : Result AddOutcome ChainError → ℕ
added_status (Ok added.In) = 0
added_status (Ok added.Full) = 36
added_status (Ok added.NoRoom) = 37
added_status (Ok added.TooLong) = 37
added_status (Err e) = chain_error_number e

-- an entry is added to a `ChainHandle`'s listing, by the chain's ticket, behind the entries already in the
-- list. On an error nothing changes
abbrev pub AddsToHandle : ChainHandle → (ticket : ℕ) → Brought → (outcome : Listing → Result (Unit {0})
    reason.NotAdded) → (list : List ℕ) → (status : ℕ) → ChainHandle → (list' : List ℕ) → Type 0
AddsToHandle b ticket e outcome list status b' list' =
    (result : Result AddOutcome ChainError)
    × UnlessRefused (adding_error b ticket (length list)) result ((b' ≡ b)
    × (list' ≡ list)) (AddsTo b.state b'.state list list' e outcome result)
    × (b'.list_len ≡ list_after b.list_len (length list) result)
    × IsAllButPlace b b'
    × (status ≡ added_status result)

-- whether a directory may have an entry of this name: 1 to 255 bytes, and no slash among them
abbrev pub is_name : List ℕ → Bool
is_name name = nat_le 1 (length name) && nat_le (length name) 255 && not (list_any (λ b. b == 47) name)

-- whether a number is a type of dirent.h: unknown, FIFO, character device, directory, block device, regular
-- file, link, socket
abbrev pub is_type : ℕ → Bool
is_type t = t == 0 || t == 1 || t == 2 || t == 4 || t == 6 || t == 8 || t == 10 || t == 12

abbrev pub is_entry : (name : List ℕ) → (type : ℕ) → Bool
is_entry name type = is_name name && is_type type

abbrev pub listed_as : (name : List ℕ) → (ino offset type : ℕ) → Listed
listed_as name ino offset type = record { ino = ino; offset = offset; kind = type; name = name }

-- an entry of READDIR is added; `BadArgument`, if the name or the type isn't an entry's
abbrev pub AddsEntry : (is : Bool) → Listed → (ticket : ℕ) → Option ChainHandle → (list : List ℕ) →
    (status : ℕ) → Option ChainHandle → (list' : List ℕ) → Type 0
AddsEntry false d ticket before list status after list' =
    (status ≡ chain_error_number BadArgument) × (after ≡ before) × (list' ≡ list)
AddsEntry true d ticket before list status after list' =
    OnHandle (λ b b'. AddsToHandle b ticket (d, no_node d) (λ l. added_plain l (length list) (length d.name))
    list status b' list')
    ((status ≡ chain_error_number WrongOrder) × (list' ≡ list)) before after

-- the kind of an entry with these attributes: the bits of S_IFMT
abbrev pub type_of : FsEntry → ℕ
type_of e = e.attr.mode / 4096 % 16

-- an entry of READDIRPLUS is added; `BadArgument`, if the name or the type isn't an entry's, or a time isn't
-- valid
abbrev pub AddsNode : (is : Bool) → Listed → Option (Entry ℕ) → (ticket : ℕ) → Option ChainHandle →
    (list : List ℕ) → (status : ℕ) → Option ChainHandle → (list' : List ℕ) → Type 0
AddsNode true d (Some entry) ticket before list status after list' =
    OnHandle (λ b b'. AddsToHandle b ticket (d, entry) (λ l. added_found l (length list) (length d.name)) list
    status b' list')
    ((status ≡ chain_error_number WrongOrder) × (list' ≡ list)) before after
AddsNode true d None ticket before list status after list' =
    (status ≡ chain_error_number BadArgument) × (after ≡ before) × (list' ≡ list)
AddsNode false d entry ticket before list status after list' =
    (status ≡ chain_error_number BadArgument) × (after ≡ before) × (list' ≡ list)

-- ---- the reply

-- the status of a listing's end: 0, or the error's number. A listing that fails with entries in the list is
-- answered by them (38)
abbrev pub ended_status : Result ℕ ChainError → ℕ
ended_status (Ok n) = 0
ended_status (Err e) = chain_error_number e

abbrev pub failed_status : Result ℕ ChainError → ℕ
failed_status (Ok n) = if n == 0 then 0 else 38
failed_status (Err e) = chain_error_number e

-- how many bytes of the list are the data
abbrev pub ended_len : Result ℕ ChainError → ℕ
ended_len (Ok n) = n
ended_len (Err e) = 0

-- a `ChainHandle`'s listing is answered by the entries so far
abbrev pub EndsListing : ChainHandle → (ticket status len : ℕ) → ChainHandle → Type 0
EndsListing b ticket status len b' =
    (result : Result ℕ ChainError)
    × UnlessRefused (ticket_error b.state b.ticket ticket) result (b' ≡ b)
    (EndsByEntries b.state b'.state result)
    × OnErr result (b' ≡ b)
    × IsAllButPlace b b'
    ×
    (status ≡ ended_status result)
    × (len ≡ ended_len result)

-- the same of a handle; `WrongOrder` if it has no `ChainHandle`
abbrev pub EndsHandleList : (ticket : ℕ) → Option ChainHandle → (status len : ℕ) → Option ChainHandle → Type 0
EndsHandleList ticket before status len after =
    OnHandle (λ b b'. EndsListing b ticket status len b') ((status ≡ chain_error_number WrongOrder)
    × (len ≡ 0)) before after

-- a `ChainHandle`'s listing fails by an errno: its entries so far are the reply, if it has any
abbrev pub FailsListing : (errno ticket : ℕ) → ChainHandle → (status : ℕ) → ChainHandle → Type 0
FailsListing errno ticket b status b' =
    (result : Result ℕ ChainError)
    × UnlessRefused (ticket_error b.state b.ticket ticket) result (b' ≡ b)
    (EndsByError errno b.state b'.state result)
    × OnErr result (b' ≡ b)
    × IsAllButPlace b b'
    × (status ≡ failed_status result)

-- a `ChainHandle`'s call fails by an errno. A listing may end by its entries; another call is answered by the
-- errno
abbrev pub FailsHandle :
    (listing : Bool) → (errno ticket : ℕ) → ChainHandle → (status : ℕ) → ChainHandle → Type 0
FailsHandle true errno ticket b status b' = FailsListing errno ticket b status b'
FailsHandle false errno ticket b status b' = AnswersHandle b ticket (answer.Failed errno) status b'

-- the errno of a number, from 1 to 4095
abbrev pub errno_of : ℕ → Option ℕ
errno_of n = if nat_le 1 n && nat_le n 4095 then Some n else None

-- a handle's call fails by an errno, or is done (0); `BadArgument` if the number is neither
abbrev pub RepliesErr : (errno : Option ℕ) → (done : Bool) → (ticket : ℕ) → Option ChainHandle →
    (status : ℕ) → Option ChainHandle → Type 0
RepliesErr (Some errno) done ticket before status after =
    OnHandle (λ b b'. FailsHandle (is_listing b.state) errno ticket b status b')
    (status ≡ chain_error_number WrongOrder) before after
RepliesErr None true ticket before status after =
    OnHandle (λ b b'. AnswersHandle b ticket answer.Done status b') (status ≡ chain_error_number WrongOrder)
    before after
RepliesErr None false ticket before status after =
    (status ≡ chain_error_number BadArgument) × (after ≡ before)

abbrev pub RepliesError : (error ticket : ℕ) → Option ChainHandle → (status : ℕ) → Option ChainHandle → Type 0
RepliesError error ticket before status after =
    RepliesErr (errno_of error) (error == 0) ticket before status after
