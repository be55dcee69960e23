-- the pages of a journal's entries are those that its receipts tell
use Rattle.std.proofs.Common.{◌≡◌, ℕ, zero, suc, ◌<◌, ◌≤◌, ◌==◌, cond, Bool, true, false, List, [], ◌∷◌, drop, length, Option, Some, None}
use Rattle.std.proofs.Common.{subst, sym, refl, ⊎_elim, arith}
use Rattle.std.specs.Prelude.{IsSomeAnd, slice_get}
use Rattle.std.specs.List.{Contains, filter}
use Rattle.std.proofs.lemmas.Bool.{eqb-true}
use Rattle.std.proofs.lemmas.List.Elements.{All-contains, Contains-append_cases, Contains-append_right}
use Rattle.std.proofs.lemmas.List.Sums.{length-filter}
use Rattle.vm_atomic_bitmaps.specs.Counts.{both_of, both_passes, tally_of}
use Rattle.vm_atomic_bitmaps.specs.Passes.{Pass}
use Rattle.vm_atomic_bitmaps.specs.Steps.{SettlesAll}
use Rattle.vm_atomic_bitmaps.proofs.PassTotals.{length-each_tally}
use Rattle.fs_shared.proofs.Since.{is_set}
use Rattle.vm_memory_core.specs.Host.{Host, lengths}
use Rattle.fs_shared.specs.Pages.{page_of}
use Rattle.plain_machine.specs.Step.{State}
use Rattle.vm_bitmaps.specs.Words.{page_bit}
use Rattle.fs_shared.specs.declared.entry.JournalEntry.{JournalEntry}
use Rattle.fs_shared.specs.declared.entry.Receipt.{Receipt}
use Rattle.fs_shared.specs.Audit.{AreAllReceipts, MatchesJournal, IsReceiptOf, times}
use Rattle.fs_shared.specs.Held.{journal_of}
use Rattle.fs_shared.specs.JournalPages.{DiffersWithin, joined_pages}
use Rattle.fs_shared.specs.Marks.{AccountsFor, AccountsSince, Harvest, LeavesMarked}
use Rattle.fs_shared.proofs.Differing.{journals_tell_pages}
use Rattle.fs_shared.proofs.Gathering.{accounts_for, bit_below}
use Rattle.fs_shared.proofs.SinceKept.{MarkedSince}

-- a page of all entries is one of some entry
entry_has : (page : ℕ) (entries : List JournalEntry) → Contains (joined_pages (journal_of entries)) page
    → (k : ℕ) × (k < length entries) × IsSomeAnd (slice_get entries k) (λ e. Contains e.pages.items page)
entry_has page [] here = let below = here.1 in absurd (omega arith)
entry_has page (e ∷ es) here =
    ⊎_elim
    (λ (first : Contains e.pages.items page). (0, omega arith, first))
    (λ (later : Contains (joined_pages (journal_of es)) page). let r = entry_has page es later in (suc r.0, omega arith, r.2))
    (Contains-append_cases e.pages.items (joined_pages (journal_of es)) page here)

-- where some receipts have a number, one of them has it
number_recorded : (number : ℕ) (receipts : List Receipt) → 0 < length (filter (λ r. r.number == number) receipts) →
    (r : Receipt) × Contains receipts r × (r.number ≡ number)
number_recorded number [] some = absurd (omega arith)
number_recorded number (r ∷ rs) some = by_number (r.number == number) refl some (λ more. number_recorded number rs more)
  where
    rest : List Receipt
    rest = filter (λ s. s.number == number) rs

    by_number : (b : Bool) → (r.number == number) ≡ b → 0 < length (cond b (r ∷ rest) rest)
        → (0 < length rest → (s : Receipt) × Contains rs s × (s.number ≡ number))
        → (s : Receipt) × Contains (r ∷ rs) s × (s.number ≡ number)
    by_number true is more later = (r, (0, omega arith, refl), eqb-true r.number number is)
    by_number false is more later = let found = later more in (found.0, Contains-append_right (r ∷ []) rs found.0 found.1, found.2)

receipt_has : (number : ℕ) (receipts : List Receipt) → times number receipts ≡ 1 → (r : Receipt) × Contains receipts r × (r.number ≡ number)
receipt_has number receipts one =
    number_recorded number receipts (omega (arith, length-filter {X = Receipt} (λ r. r.number == number) receipts))

-- what holds of an element that is there
both_of_some : {X : Type 0} (P Q : X → Type 0) (o : Option X) → IsSomeAnd o P → IsSomeAnd o Q → (x : X) × P x × Q x
both_of_some P Q None p q = absurd p
both_of_some P Q (Some x) p q = (x, p, q)

-- each page of the entries is told by a receipt
receipt_reports : (page : ℕ) (journal : List JournalEntry) (receipts : List Receipt) → AreAllReceipts journal receipts
    → Contains (joined_pages (journal_of journal)) page
    → (r : Receipt) × Contains receipts r × Contains r.pages.items page
receipt_reports page journal receipts all here =
    let e = entry_has page journal here in
    let r = receipt_has e.0 receipts (all.once e.0 e.1) in
    let is_marked = subst (λ (n : ℕ). IsSomeAnd (slice_get journal n) (λ (x : JournalEntry). IsReceiptOf x r.0)) r.2
    (All-contains (MatchesJournal journal) receipts r.0 all.matched r.1) in
    let both = both_of_some (λ (x : JournalEntry). IsReceiptOf x r.0) (λ (x : JournalEntry). Contains x.pages.items page)
    (slice_get journal e.0) is_marked e.2 in
    (r.0, r.1, subst (λ (pages : List ℕ). Contains pages page) (sym both.1.pages) both.2)

-- the words of the last gather, by all passes, account for each page in which the hosts differ
pub accounts : (share : Pass) (h : Harvest) (journal : List JournalEntry) (before after : Host) (words : List ℕ)
    → length h.pass.counts.pages ≡ h.bitmap.len → length share.counts.pages ≡ h.bitmap.len
    → ((p : ℕ) → (tally_of share.counts.pages p).off ≡ 0)
    → SettlesAll (both_passes h.pass.counts share.counts) words → DiffersWithin (joined_pages (journal_of journal)) before after
    → AccountsFor share h journal before after words
accounts share h journal before after words mine theirs none settles differs whole receipts all marked p apart below =
    let page = page_of (lengths before) p in
    let is_marked = receipt_reports page journal receipts all (differs.bytes p apart) in
    let long = length-each_tally (λ p t. both_of t (tally_of share.counts.pages p)) 0 h.pass.counts.pages in
    accounts_for h share words page (omega arith) (settles whole page (omega arith))
    (All-contains (λ (r : Receipt). (n : ℕ) → n < length share.counts.pages → Contains r.pages.items n →
    (tally_of share.counts.pages n).marked ≡ true) receipts is_marked.0 marked is_marked.1 page (omega arith) is_marked.2)
    (none page)

-- ---- what was marked since the last gather

-- a page of the entries from the first-th on is one of some entry there
entry_since : (page first : ℕ) (entries : List JournalEntry) → Contains (joined_pages (drop first (journal_of entries))) page
    → (k : ℕ) × (first ≤ k) × (k < length entries) × IsSomeAnd (slice_get entries k) (λ e. Contains e.pages.items page)
entry_since page zero entries here = let e = entry_has page entries here in (e.0, omega arith, e.1, e.2)
entry_since page (suc n) [] here = let below = here.1 in absurd (omega arith)
entry_since page (suc n) (e ∷ es) here =
    let r = entry_since page n es here in let late = r.1 in let below = r.2 in (suc r.0, omega arith, omega arith, r.3)

-- and is told by a receipt with such a number
receipt_since : (page first : ℕ) (journal : List JournalEntry) (receipts : List Receipt) → AreAllReceipts journal receipts
    → Contains (joined_pages (drop first (journal_of journal))) page
    → (r : Receipt) × Contains receipts r × (first ≤ r.number) × Contains r.pages.items page
receipt_since page first journal receipts all here =
    let e = entry_since page first journal here in
    let r = receipt_has e.0 receipts (all.once e.0 e.2) in
    let is_marked = subst (λ (n : ℕ). IsSomeAnd (slice_get journal n) (λ (x : JournalEntry). IsReceiptOf x r.0)) r.2
    (All-contains (MatchesJournal journal) receipts r.0 all.matched r.1) in
    let both = both_of_some (λ (x : JournalEntry). IsReceiptOf x r.0) (λ (x : JournalEntry). Contains x.pages.items page)
    (slice_get journal e.0) is_marked e.3 in
    let late = e.1 in let number = r.2 in (r.0, r.1, omega arith, subst (λ (pages : List ℕ). Contains pages page) (sym both.1.pages) both.2)

-- the words of the last gather, by all passes, have each page that was marked since the harvest took it
pub leaves_marked : (share : Pass) (h : Harvest) (words : List ℕ)
    → length h.pass.counts.pages ≡ h.bitmap.len → ((p : ℕ) → (tally_of share.counts.pages p).off ≡ 0)
    → SettlesAll (both_passes h.pass.counts share.counts) words
    → LeavesMarked share h words
leaves_marked share h words mine none settles whole page below since =
    let long = length-each_tally (λ p t. both_of t (tally_of share.counts.pages p)) 0 h.pass.counts.pages in
    is_set h.pass.counts.pages share.counts.pages page (page_bit words page) (omega arith) (settles whole page (omega arith)) (none page)
    (bit_below words page) since

pub accounts_since : (share : Pass) (h : Harvest) (journal : List JournalEntry) (after : State (Unit {0})) (words : List ℕ)
    → length share.counts.pages ≡ h.bitmap.len → LeavesMarked share h words → AccountsSince share h journal after words
accounts_since share h journal after words theirs leaves whole receipts all word first marked since replays p apart below here =
    let page = page_of (lengths since.memory.host) p in
    let differs = journals_tell_pages since after (drop first (journal_of journal)) replays in
    let is_marked = receipt_since page first journal receipts all (differs.bytes p apart) in
    leaves whole page below
    (All-contains (MarkedSince word first h.pass.counts.pages share.counts.pages) receipts is_marked.0 marked is_marked.1 is_marked.2 page
    here
    (omega arith) is_marked.3)
