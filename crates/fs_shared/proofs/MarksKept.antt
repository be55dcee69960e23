-- what a share marked stays marked
use Rattle.std.proofs.Common.{◌≡◌, ℕ, ◌<◌, Bool, true, cond, List, [], length, ap, ◌∙◌, arith}
use Rattle.std.specs.List.{Contains}
use Rattle.std.proofs.lemmas.List.Elements.{All-append, All-cons, All-nil, All-weaker}
use Rattle.vm_atomic_bitmaps.specs.declared.counts.Tally.{Tally}
use Rattle.vm_atomic_bitmaps.specs.Counts.{both_of, joined_with, met_of, met_with, tally_of}
use Rattle.vm_atomic_bitmaps.proofs.PassTotals.{at_each, length-each_tally}
use Rattle.fs_shared.specs.declared.entry.Receipt.{Receipt}
use Rattle.fs_shared.specs.Laws.{CallsKeepMarks, CallsMark, JoinsKeepMarks, MeetsKeepMarks}
use Rattle.fs_shared.proofs.Gathering.{either_marked}

-- what one receipt tells is marked
abbrev pub AreMarked : List Tally → Receipt → Type 0
AreMarked pages r = (page : ℕ) → page < length pages → Contains r.pages.items page → (tally_of pages page).marked ≡ true

pub calls_mark : CallsMark
calls_mark r old new m =
    All-cons (AreMarked new) r [] (λ page within here. let k = m.count in (m.marked page (omega arith) here).0) (All-nil (AreMarked new))

pub calls_keep : CallsKeepMarks
calls_keep receipts pages old new m has =
    All-weaker (AreMarked old) (AreMarked new) (λ r is_marked page within here. let k = m.count in m.recorded page (is_marked page
    (omega arith) here)) receipts has

pub joins_keep : JoinsKeepMarks
joins_keep receipts others ts us same mine theirs =
    All-append (AreMarked (joined_with us ts)) receipts others
    (All-weaker (AreMarked ts) (AreMarked (joined_with us ts))
    (λ r is_marked page within here. first page (short page within) (is_marked page (short page within) here)) receipts mine)
    (All-weaker (AreMarked us) (AreMarked (joined_with us ts))
    (λ r is_marked page within here. let s = short page within in second page s (is_marked page (omega arith) here)) others theirs)
  where
    short : (page : ℕ) → page < length (joined_with us ts) → page < length ts
    short page within = let k = length-each_tally (λ p t. both_of t (tally_of us p)) 0 ts in omega arith

    both : (page : ℕ) → page < length ts →
        (tally_of (joined_with us ts) page).marked ≡ cond (tally_of ts page).marked true (tally_of us page).marked
    both page within = ap (λ (t : Tally). t.marked) (at_each (λ p t. both_of t (tally_of us p)) ts page within)

    first : (page : ℕ) → page < length ts → (tally_of ts page).marked ≡ true → (tally_of (joined_with us ts) page).marked ≡ true
    first page within marked = both page within ∙ ap (λ (b : Bool). cond b true (tally_of us page).marked) marked

    second : (page : ℕ) → page < length ts → (tally_of us page).marked ≡ true → (tally_of (joined_with us ts) page).marked ≡ true
    second page within marked =
        both page within ∙ ap (λ (b : Bool). cond (tally_of ts page).marked true b) marked ∙ either_marked (tally_of ts page).marked

pub meets_keep : MeetsKeepMarks
meets_keep receipts ts us has =
    All-weaker (AreMarked ts) (AreMarked (met_with us ts))
    (λ r is_marked page within here.
    let k = length-each_tally (λ p t. met_of t (tally_of us p)) 0 ts in
    let short : page < length ts = omega arith in
    ap (λ (t : Tally). t.marked) (at_each (λ p t. met_of t (tally_of us p)) ts page short) ∙ is_marked page short here)
    receipts has
