-- Theorems: the file system can be forgotten, calls keep a journal that replays, marks stay, and shares and
-- harvest together have every part of the passes.
use Rattle.std.specs.Prelude.{◌≡◌, ◌≢◌, ℕ, ◌*◌, ◌^◌, ◌<◌, ◌++◌, ◌∷◌, [], List, Result, length}
use Rattle.vm_atomic_bitmaps.specs.declared.counts.PageCounts.{PageCounts}
use Rattle.vm_atomic_bitmaps.specs.declared.counts.Tally.{Tally}
use Rattle.vm_atomic_bitmaps.specs.Counts.{both_passes, cleared_by, first_pass, in_word, joined_with}
use Rattle.vm_atomic_bitmaps.specs.Counts.{preserved_half, met_with, new_half, IsWhole}
use Rattle.fs_shared.specs.Portion.{HasSeen, MarksPages}
use Rattle.server_meanings.specs.Serving.{May}
use Rattle.plain_machine.specs.Step.{State, Calls, StepEnd, Step}
use Rattle.plain_machine.specs.Run.{Command}
use Rattle.plain_machine.specs.declared.error.DeviceError.{DeviceError}
use Rattle.plain_machine.specs.declared.refusal.Refusal.{Refusal}
use Rattle.fs_shared.specs.declared.entry.Kicked.{Kicked}
use Rattle.fs_shared.specs.declared.entry.Receipt.{Receipt}
use Rattle.fs_shared.specs.Calls.{JournalsOrRefuses, KicksBy}
use Rattle.fs_shared.specs.Held.{Held}
use Rattle.fs_shared.specs.Marks.{HasMarked, HasMarkedSince}
use Rattle.fs_shared.specs.Replay.{Anything, forget, Plays, Replays}
use Rattle.fs_shared.specs.Replay as replay

-- a step is also one of the state without its file system, with the same calls and outcome, if any answer is
-- allowed
abbrev pub StepsForget : {F : Type 0} → May F → Type 0
StepsForget {F} may =
    (s after : State F) (i : ℕ) (calls : Calls) (outcome : StepEnd) →
    Step may s i calls outcome after →
    Step Anything (forget s) i calls outcome (forget after)

-- an event is also one of the state without its file system, with the same outcome and pages
abbrev pub EventsForget : {F : Type 0} → May F → Type 0
EventsForget {F} may =
    (s after : State F) (command : Command) (outcome : replay.Outcome) (pages : List ℕ) →
    Plays may s command outcome pages after →
    Plays Anything (forget s) command outcome pages (forget after)

-- the journal replays from its start to the machine's state
abbrev pub HoldsReplay : {F : Type 0} → Held F → Type 0
HoldsReplay h = Replays h.start h.journal (forget h.machine)

-- a kick keeps `HoldsReplay`
abbrev pub KicksReplay : {F : Type 0} → May F → Type 0
KicksReplay {F} may =
    (before after : Held F) (i : ℕ) (result : Result Kicked DeviceError) →
    HoldsReplay before →
    KicksBy may before i result after →
    HoldsReplay after

-- a guest's write or a new layout keeps `HoldsReplay`
abbrev pub ActsReplay : {F : Type 0} → May F → Type 0
ActsReplay {F} may =
    (before after : Held F) (command : Command) (result : Result Receipt Refusal) →
    HoldsReplay before →
    JournalsOrRefuses may before command result after →
    HoldsReplay after

-- a call has marked the pages of its receipt
abbrev pub CallsMark : Type 0
CallsMark = (r : Receipt) (old new : List Tally) → MarksPages r.pages.items old new → HasMarked new (r ∷ [])

-- a call keeps the marks of earlier receipts
abbrev pub CallsKeepMarks : Type 0
CallsKeepMarks =
    (receipts : List Receipt) (pages : List ℕ) (old new : List Tally) →
    MarksPages pages old new →
    HasMarked old receipts →
    HasMarked new receipts

-- two joined shares have marked the pages of the receipts of both
abbrev pub JoinsKeepMarks : Type 0
JoinsKeepMarks =
    (receipts others : List Receipt) (ts us : List Tally) →
    length us ≡ length ts →
    HasMarked ts receipts →
    HasMarked us others →
    HasMarked (joined_with us ts) (receipts ++ others)

-- a share keeps its marks when it meets another pass
abbrev pub MeetsKeepMarks : Type 0
MeetsKeepMarks =
    (receipts : List Receipt) (ts us : List Tally) →
    HasMarked ts receipts →
    HasMarked (met_with us ts) receipts

-- once a share has seen a harvest's clears of a word, the word's pages in its later receipts are marked since
abbrev pub CallsMarkSince : Type 0
CallsMarkSince =
    (word first : ℕ) (taken : List Tally) (r : Receipt) (old new : List Tally) →
    HasSeen word taken old →
    MarksPages r.pages.items old new →
    HasMarkedSince word first taken new (r ∷ [])

-- a call keeps the clears that its share has seen, and the pages that were marked since
abbrev pub CallsKeepSince : Type 0
CallsKeepSince =
    (word first : ℕ) (taken : List Tally) (receipts : List Receipt) (pages : List ℕ) (old new : List Tally) →
    MarksPages pages old new →
    (HasSeen word taken old → HasSeen word taken new)
    × (HasMarkedSince word first taken old receipts → HasMarkedSince word first taken new receipts)

-- a receipt of an entry before `first` needs no mark
abbrev pub EarlierAsksNothing : Type 0
EarlierAsksNothing =
    (word first : ℕ) (taken pages : List Tally) (r : Receipt) →
    r.number < first →
    HasMarkedSince word first taken pages (r ∷ [])

-- joining two shares keeps `HasMarkedSince`, for the receipts of both
abbrev pub JoinsKeepSince : Type 0
JoinsKeepSince =
    (word first : ℕ) (taken : List Tally) (receipts others : List Receipt) (ts us : List Tally) →
    length us ≡ length ts →
    HasMarkedSince word first taken ts receipts →
    HasMarkedSince word first taken us others →
    HasMarkedSince word first taken (joined_with us ts) (receipts ++ others)

-- meeting another pass keeps `HasMarkedSince`
abbrev pub MeetsKeepSince : Type 0
MeetsKeepSince =
    (word first : ℕ) (taken : List Tally) (receipts : List Receipt) (ts us : List Tally) →
    HasMarkedSince word first taken ts receipts → HasMarkedSince word first taken (met_with us ts) receipts

-- a gather of another word keeps `HasMarkedSince` of this word
abbrev pub GathersKeepSince : Type 0
GathersKeepSince =
    (word other found first : ℕ) (taken pages : List Tally) (receipts : List Receipt) →
    word ≢ other →
    HasMarkedSince word first taken pages receipts →
    HasMarkedSince word first (cleared_by (in_word other) found taken) pages receipts

-- two passes have the same part of all passes
abbrev pub HaveSamePart : PageCounts → PageCounts → Type 0
HaveSamePart v w = w.parts * 2 ^ v.depth ≡ v.parts * 2 ^ w.depth

-- the two halves of a pass have the whole part again once they are joined, for any counts since
abbrev pub JoinsGiveBack : Type 0
JoinsGiveBack =
    (v a b : PageCounts) →
    HaveSamePart (preserved_half v) a →
    HaveSamePart (new_half v) b →
    HaveSamePart v (both_passes a b)

-- a harvest and a share with the parts of a new device's harvest and share together have every part
abbrev pub HalvesAreWhole : Type 0
HalvesAreWhole =
    (len : ℕ) (h v : PageCounts) →
    HaveSamePart (new_half (first_pass len)) h →
    HaveSamePart (preserved_half (first_pass len)) v →
    IsWhole (both_passes h v)
