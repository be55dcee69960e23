-- what a share marked since a gather stays so
use Rattle.std.proofs.Common.{◌≡◌, ℕ, ◌/◌, ◌<◌, ◌≤◌, List, [], length, sym, ◌∙◌, arith}
use Rattle.std.specs.List.{Contains}
use Rattle.std.proofs.lemmas.List.Elements.{All-append, All-cons, All-nil, All-weaker}
use Rattle.vm_atomic_bitmaps.specs.declared.counts.Tally.{Tally}
use Rattle.vm_atomic_bitmaps.specs.Counts.{both_of, joined_with, met_of, met_with, tally_of}
use Rattle.vm_atomic_bitmaps.proofs.PassTotals.{length-each_tally}
use Rattle.fs_shared.specs.Portion.{IsMarkedSince}
use Rattle.fs_shared.proofs.Since.{seen_stays, since_by_joining, since_by_mark, since_by_meeting, since_stays, taken_else}
use Rattle.fs_shared.specs.declared.entry.Receipt.{Receipt}
use Rattle.fs_shared.specs.Laws.{CallsKeepSince, CallsMarkSince, EarlierAsksNothing, GathersKeepSince, JoinsKeepSince, MeetsKeepSince}

-- what one receipt tells is marked since
abbrev pub MarkedSince : (word first : ℕ) → (taken pages : List Tally) → Receipt → Type 0
MarkedSince word first taken pages r =
    first ≤ r.number → (page : ℕ) → page / 64 ≡ word → page < length pages → Contains r.pages.items page → IsMarkedSince taken pages page

pub calls_mark_since : CallsMarkSince
calls_mark_since word first taken r old new seen m =
    All-cons (MarkedSince word first taken new) r []
    (λ late page here within is_marked. let k = m.count in since_by_mark word taken r.pages.items old new m seen page here (omega arith)
    is_marked)
    (All-nil (MarkedSince word first taken new))

pub calls_keep_since : CallsKeepSince
calls_keep_since word first taken receipts pages old new m = (
  λ seen. seen_stays word taken pages old new m seen,
  λ has. All-weaker (MarkedSince word first taken old) (MarkedSince word first taken new)
      (λ r is_marked late page here within has_it. let k = m.count in
      since_stays taken pages old new m page (is_marked late page here (omega arith) has_it))
      receipts has,
)

pub earlier_asks_nothing : EarlierAsksNothing
earlier_asks_nothing word first taken pages r early =
    All-cons (MarkedSince word first taken pages) r [] (λ late page here within is_marked. absurd (omega arith))
    (All-nil (MarkedSince word first taken pages))

pub joins_keep_since : JoinsKeepSince
joins_keep_since word first taken receipts others ts us same mine theirs =
    All-append (MarkedSince word first taken (joined_with us ts)) receipts others
    (All-weaker (MarkedSince word first taken ts) (MarkedSince word first taken (joined_with us ts))
    (λ r is_marked late page here within has_it. let s = short page within in
    let m = is_marked late page here s has_it in
    since_by_joining taken us ts page s (omega arith))
    receipts mine)
    (All-weaker (MarkedSince word first taken us) (MarkedSince word first taken (joined_with us ts))
    (λ r is_marked late page here within has_it. let s = short page within in
    let m = is_marked late page here (omega arith) has_it in
    since_by_joining taken us ts page s (omega arith))
    others theirs)
  where
    short : (page : ℕ) → page < length (joined_with us ts) → page < length ts
    short page within = let k = length-each_tally (λ p t. both_of t (tally_of us p)) 0 ts in omega arith

pub meets_keep_since : MeetsKeepSince
meets_keep_since word first taken receipts ts us has =
    All-weaker (MarkedSince word first taken ts) (MarkedSince word first taken (met_with us ts))
    (λ r is_marked late page here within has_it.
    let k = length-each_tally (λ p t. met_of t (tally_of us p)) 0 ts in
    let short : page < length ts = omega arith in
    since_by_meeting taken us ts page short (is_marked late page here short has_it))
    receipts has

pub gathers_keep_since : GathersKeepSince
gathers_keep_since word other found first taken pages receipts apart has =
    All-weaker (MarkedSince word first taken pages) (MarkedSince word first _ pages)
    (λ r is_marked late page here within has_it.
    let same = taken_else other found taken page (λ e. apart (sym here ∙ e)) in
    let m = is_marked late page here within has_it in omega arith)
    receipts has
