use Rattle.std.proofs.Common.{◌≡◌, ◌+◌, ◌<◌, ◌^◌, true, false, Option, Some, None, List, [], ◌∷◌, ℕ, ap, sym, ◌∙◌, arith, length}
use Rattle.std.specs.Prelude.{nat_le, if◌then◌else◌}
use Rattle.std.proofs.lemmas.Nat.{mod_below}
use Rattle.std.specs.Int.{w16, from_le_bytes}
use Rattle.std.proofs.lemmas.Bool.{le-leb, lt-leb}
use Rattle.fs_queue.specs.declared.layout.QueueLayout.{QueueLayout}
use Rattle.fs_queue.specs.declared.fault.QueueError.TheVariants.{HeadOutOfTable}
use Rattle.fs_queue.specs.NextAvail.{Head, Refused, next_avail}
use Rattle.fs_queue.specs.Queue.{ring_entry_at, avail_index_at}
use Rattle.fs_queue.specs.Loads.{asks_entry, holding, index_load, entry_load}
use Rattle.fs_queue.specs.RingingView.{HasResult}
use Rattle.fs_queue.specs.WalkingView.{at_position}
use Rattle.fs_queue.proofs.RingLemmas.{entry_reports, entry_read, entry_shows}
use Rattle.fs_queue.proofs.walk.RingEntryWalk.give.Goals as goal

ends : (l : QueueLayout) (position : ℕ) → ring_entry_at (at_position l position) + 2 < 2 ^ 64
ends l position = let in_ring = mod_below position l.size l.sized in omega (arith, l.available, in_ring)

begins : (l : QueueLayout) (position : ℕ) → avail_index_at (at_position l position) + 2 < 2 ^ 64
begins l position = omega (arith, l.available)

pub returns-in_default-clause-reports : goal.returns-in_default-clause-reports
returns-in_default-clause-reports c = λ index len asks.
    let q = at_position c.args.self.layout c.args.self.position in
    sym (ap (λ (o : Option (List ℕ)). HasResult (next_avail (holding (index_load q (Some index) ∷ entry_load q o ∷ [])) q)) c.in_default.is
    ∙ ap HasResult (entry_reports q index None len (begins c.args.self.layout c.args.self.position) tt asks))

found : (l : QueueLayout) (position : ℕ) (index bs : List ℕ) (came : Option (List ℕ)) (n : ℕ) → came ≡ Some bs → length bs ≡ 2 →
    n ≡ from_le_bytes w16 bs → length index ≡ 2 →
    asks_entry (next_avail (holding (index_load (at_position l position) (Some index) ∷ [])) (at_position l position)) ≡ true →
    entry_shows (at_position l position) true n ≡ next_avail
    (holding (index_load (at_position l position) (Some index) ∷ entry_load (at_position l position) came ∷ [])) (at_position l position)
found l position index bs came n is two read len asks =
    let q = at_position l position in
    sym (ap (λ (o : Option (List ℕ)). next_avail (holding (index_load q (Some index) ∷ entry_load q o ∷ [])) q) is
    ∙ entry_reports q index (Some bs) len (begins l position) (two, ends l position) asks
    ∙ ap (entry_shows q true) (entry_read q index bs n len (begins l position) two (ends l position) read))

pub returns-then-head-size-clause-reports : goal.returns-then-head-size-clause-reports
returns-then-head-size-clause-reports c = λ index len asks.
    let past : nat_le c.args.self.layout.size c.le16_number-head.result ≡ true = le-leb _ _ (omega arith) in
    ap (λ b. HasResult (if b then Refused HeadOutOfTable else Head c.le16_number-head.result)) (sym past)
    ∙ ap HasResult (found c.args.self.layout c.args.self.position index c.in-Some.bytes c.args.came c.le16_number-head.result
    c.in-Some.is
    (omega arith) c.le16_number-head.ensures len asks)

pub returns-else-head-size-clause-reports : goal.returns-else-head-size-clause-reports
returns-else-head-size-clause-reports c = λ index len asks.
    let inside : nat_le c.args.self.layout.size c.le16_number-head.result ≡ false = lt-leb _ _ (omega arith) in
    ap (λ b. HasResult (if b then Refused HeadOutOfTable else Head c.le16_number-head.result)) (sym inside)
    ∙ ap HasResult (found c.args.self.layout c.args.self.position index c.in-Some.bytes c.args.came c.le16_number-head.result
    c.in-Some.is
    (omega arith) c.le16_number-head.ensures len asks)
