-- The pages that a write marks (vm-memory, bitmap), by the addresses that are written.
use Rattle.std.specs.Prelude.{◌≡◌, ◌↔◌, ℕ, zero, suc, ◌/◌, ◌^◌, ◌==◌, ◌&&◌, ◌||◌, not, nat_lt, Bool, false}
use Rattle.std.specs.Prelude.{true, List, [], ◌∷◌, ◌++◌, length, map, Option, Some, None}
use Rattle.std.specs.Prelude.{is_some, slice_get, option_map, option_and_then}
use Rattle.std.specs.List.{list_any}
use Rattle.vm_iotlb.specs.declared.permissions.Permissions.TheVariants.{Write}
use Rattle.vm_memory_core.specs.Host.{Host, Place}
use Rattle.vm_memory.specs.Layout.{place}
use Rattle.vm_memory.specs.Memory.{Memory, addresses, location, physical, stored_all}
use Rattle.fs_queue.specs.Queue.{Queue}
use Rattle.fs_queue.specs.Taking.{room_of}
use Rattle.fs_queue.specs.Returning.{writes}
use Rattle.server_meanings.specs.Serving.{May}
use Rattle.plain_machine.specs.Step.{State, Exchange, Exchanged, Calls, Step}
use Rattle.plain_machine.specs.UsedLength.{IsOffered}
use Rattle.plain_machine.specs.Run.{Command, GuestWrite, Kick, Answer, Done, Served, Copied, Pages, Turns}
use Rattle.plain_machine.specs.Run.{Performs}

-- the mark of a page of a block, if there is such a page
abbrev pub block_mark : Host → (block page : ℕ) → Option Bool
block_mark h block page = option_and_then (λ b. slice_get b.marks page) (slice_get h.blocks block)

-- the mark of a page of a set of I/O pages, if there is such a page
abbrev pub io_mark : Host → (set page : ℕ) → Option Bool
io_mark h set page = option_and_then (λ marks. slice_get marks page) (slice_get h.io_marks set)

-- whether a place lies in this page of this block; a page has 4096 bytes
abbrev pub is_in_page : (block page : ℕ) → Option Place → Bool
is_in_page block page None = false
is_in_page block page (Some p) = (p.block == block) && (p.offset / 4096 == page)

-- whether a write at an address marks this page of a block: the IOMMU is off, and the address is mapped
-- to this page
abbrev pub marks_block : Memory → (block page : ℕ) → (address : ℕ) → Bool
marks_block m block page address = not m.translates && is_in_page block page (place m.layout address)

-- whether a write at an address marks this page of a set of I/O pages: the IOMMU is on, this is the
-- device's set, the address is mapped for writing, lies below 2^64, and is in this page
abbrev pub marks_io : Memory → (set page : ℕ) → (address : ℕ) → Bool
marks_io m set page address =
    m.translates && ((m.io_pages == set)
    && (is_some (location m Write address) && (nat_lt address (2 ^ 64) && (address / 4096 == page))))

-- a page's mark after some addresses were written: set if one of them marks the page, else as before
abbrev pub marked_by : (ℕ → Bool) → List ℕ → Option Bool → Option Bool
marked_by marks written old = option_map (λ was. was || list_any marks written) old

-- a write at these addresses marks just their pages, and every other mark stays. No page appears or
-- disappears: a page past the end of its block or set has no mark
pub record Marks (m : Memory) (written : List ℕ) (after : Host) : Type 0 where
  pub blocks : (block page : ℕ) →
      block_mark after block page
      ≡ marked_by (marks_block m block page) written (block_mark m.host block page)
  pub io_sets : (set page : ℕ) →
      io_mark after set page ≡ marked_by (marks_io m set page) written (io_mark m.host set page)

-- theorem: writes, in order, mark just the pages of their addresses
abbrev pub WritesMark : Type 0
WritesMark = (m : Memory) (writes : List (ℕ × ℕ)) → Marks m (map (λ w. w.0) writes) (stored_all m writes).host

-- the addresses that are written when a chain is returned: the first of its reply buffer, one for each
-- byte of the reply, then the used element and the used index
abbrev pub returned_addresses : Queue → (head : ℕ) → (room reply : List ℕ) → List ℕ
returned_addresses q head room reply = map (λ w. w.0) (writes q head room reply)

-- theorem: a step that exchanges a chain marks just the pages that returning the chain writes to
abbrev pub StepsMark : {F : Type 0} → May F → Type 0
StepsMark {F} may =
    (s after : State F) (i : ℕ) (calls : Calls) (x : Exchange) (notice : Bool) →
    Step may s i calls (Exchanged x notice) after →
    (o : IsOffered s i x)
    × Marks s.memory (returned_addresses o.queue x.head (room_of o.fetched) x.reply) after.memory.host

-- ---- over commands

-- the addresses that a kick writes, one exchange after another; an idle or refused step writes none
unfoldable pub KickWrites : {F : Type 0} → May F → State F → ℕ → ℕ → Turns → List ℕ → Type 0
KickWrites may s i most [] written = written ≡ []
KickWrites may s i zero (t ∷ ts) written = ⊥
KickWrites {F} may s i (suc most) (t ∷ ts) written =
    (mid : State F)
    × Step may s i t.calls (Exchanged t.exchange t.notice) mid
    × (o : IsOffered s i t.exchange) × (later : List ℕ)
    × KickWrites may mid i most ts later
    × (written ≡ returned_addresses o.queue t.exchange.head (room_of o.fetched) t.exchange.reply ++ later)

-- no page of a block is marked any more, and the marks of I/O pages stay
pub record ClearsMarks (before after : Host) : Type 0 where
  pub blocks : (block page : ℕ) →
      block_mark after block page ≡ option_map (λ was. false) (block_mark before block page)
  pub io_sets : (set page : ℕ) →
      io_mark after set page ≡ io_mark before set page

-- the marks stay: a page of a block is marked just if it was before, and the I/O pages stay
pub record KeepsMarks (before after : Host) : Type 0 where
  pub blocks : (block page : ℕ) →
      (block_mark after block page ≡ Some true) ↔ (block_mark before block page ≡ Some true)
  pub io_sets : (set page : ℕ) →
      io_mark after set page ≡ io_mark before set page

-- the marks after a command that is answered `Done`. A guest's write marks pages of blocks, even with
-- the IOMMU on; no other command marks any
abbrev pub DoneMarks : {F : Type 0} → State F → Command → State F → Type 0
DoneMarks s (GuestWrite a bytes) after =
    Marks (physical s.memory) (addresses a (length bytes)) after.memory.host
DoneMarks s command after = KeepsMarks s.memory.host after.memory.host

-- a kick marks the pages that its exchanges write to, one after another
abbrev pub ServedMarks : {F : Type 0} → May F → State F → Command → Turns → State F → Type 0
ServedMarks may s (Kick i most) turns after =
    (written : List ℕ) × KickWrites may s i most turns written × Marks s.memory written after.memory.host
ServedMarks may s command turns after = KeepsMarks s.memory.host after.memory.host

-- the marks after a command with this answer: an image and a harvest clear the marks of blocks, a kick
-- and a guest's write mark pages, and every other command keeps all marks
abbrev pub AnswerMarks : {F : Type 0} → May F → Answer → State F → Command → Turns → State F → Type 0
AnswerMarks may Done s command turns after = DoneMarks s command after
AnswerMarks may (Served k) s command turns after = ServedMarks may s command turns after
AnswerMarks may (Copied copy) s command turns after = ClearsMarks s.memory.host after.memory.host
AnswerMarks may (Pages pages) s command turns after = ClearsMarks s.memory.host after.memory.host
AnswerMarks may answer s command turns after = KeepsMarks s.memory.host after.memory.host

-- theorem: each command of a run changes the marks just like that
abbrev pub CommandsMark : {F : Type 0} → May F → Type 0
CommandsMark {F} may =
    (s after : State F) (command : Command) (turns : Turns) (answer : Answer) →
    Performs may s command turns answer after →
    AnswerMarks may answer s command turns after
