-- A listing's entries and its end, as one command of a driver.
use Rattle.std.proofs.Common.{inl, inr, ◌≡◌, ◌⊎◌, ℕ, true, false, List, [], ◌∷◌, Option, Some, None, refl, subst, sym, ap, ◌∙◌, slice_get}
use Rattle.std.specs.Prelude.{drop, take, Result, Ok, Err}
use Rattle.std.specs.Borrow.{Bor}
use Rattle.server_phases.specs.Gathering.{Brought}
use Rattle.server_phases.specs.declared.listing.Listing.{Listing}
use Rattle.server_phases.specs.declared.listing.ListingReply.{ListingReply}
use Rattle.server_meanings.specs.Listings.{readdir_call}
use Rattle.live_machine.specs.Live.{InFlightChain}
use Rattle.fs_chain.specs.Holds.{RunState, Pop}
use Rattle.fs_chain.specs.Listings.{EndsByEntries, EndsByError, RepliesBy}
use Rattle.fs_chain.specs.Orders.{is_listing, is_out}
use Rattle.fs_chain.specs.Tickets.{UnlessRefused, number_error, ticket_error}
use Rattle.fs_chain.specs.Together.{Owned, with_handle}
use Rattle.fs_chain.specs.ListingCalls.{listing_calls}
use Rattle.fs_chain.specs.declared.chain_handle.ChainHandle.{ChainHandle}
use Rattle.fs_chain.specs.declared.error.ChainError.{ChainError}
use Rattle.fs_chain.specs.declared.listing.AddOutcome.{AddOutcome}
use Rattle.fs_chain.specs.declared.listing.AddOutcome.TheVariants as added
use Rattle.fs_chain.specs.declared.queue.QueueState.{QueueState}
use Rattle.fs_chain.specs.declared.state.ChainState as state
use Rattle.fs_chain.specs.declared.state.ChainState.TheVariants as at
use Rattle.fs_driven.specs.Adding.{BringsAll, BringsNothing, BringsSo, HasGathered, EndsSo, EndsUnless, IsGathering}
use Rattle.fs_driven.specs.Drivers.{PushUnderWay}
use Rattle.fs_driven.specs.Entries.{IsOfLast, all_brought, answers_of, ending_of, errno_after, refused_by}
use Rattle.fs_driven.specs.Kept.{IsSameHeld}
use Rattle.fs_chain.specs.Walks.{IsAllButPlace}
use Rattle.fs_driven.proofs.Bringing.{stays_then}
use Rattle.fs_driven.specs.Events.{DrivesOne, GatherEvents, RefusesEntries, transition}
use Rattle.fs_driven.specs.declared.commands.DriverCall.TheVariants as does
use Rattle.fs_driven.specs.declared.commands.Results.TheVariants as gives
use Rattle.fs_driven.specs.declared.entries.ListedEntry.{ListedEntry}
use Rattle.fs_chain.proofs.Together.{chains_of}
use Rattle.fs_driven.proofs.Answering.{answered_all}
use Rattle.fs_driven.proofs.QueuePlaces.{DrivenAt, HasRunAt, QueuePlace, driver_before, drives_one}
use Rattle.fs_driven.proofs.Calls.{no_error, refuses, same_held}
use Rattle.fs_driven.proofs.ListingCalls.{came_to_end}
use Rattle.fs_driven.proofs.Handles.{has_own, not_free}
use Rattle.fs_driven.proofs.Listings.{WasListing, accepted, begun_listing, no_push, not_err, was_listing}

-- ---- what was a listing

listing_is : (st : state.ChainState) → is_listing st ≡ true → WasListing st
listing_is (at.Listing out l) is = (out, l, refl)
listing_is _ is = absurd (not_free false is refl)

ends_well : (P : Listing → ListingReply → Type 0) (why : Option ChainError) (Same : Type 0) (st new : state.ChainState) (len : ℕ)
    → UnlessRefused {A = ℕ} why (Ok len) Same (RepliesBy P st new (Ok len)) → WasListing st
ends_well P why Same st new len (inl refused) = absurd (not_err len refused.0 refused.2)
ends_well P why Same st new len (inr is) = was_listing P st new len is.1

ended_listing : (errno : Option ℕ) (old new : ChainHandle) (ticket len : ℕ) → EndsSo errno old new ticket (Ok len)
    → WasListing old.state
ended_listing None old new ticket len ends =
    ends_well _ (ticket_error old.state old.ticket ticket) (new ≡ old) old.state new.state len ends.0
ended_listing (Some errno) old new ticket len ends =
    ends_well _ (ticket_error old.state old.ticket ticket) (new ≡ old) old.state new.state len ends.0

-- its number is the listing's
ended_named : (errno : Option ℕ) (old new : ChainHandle) (ticket len : ℕ) → EndsSo errno old new ticket (Ok len)
    → ticket_error old.state old.ticket ticket ≡ None
ended_named None old new ticket len ends =
    accepted (ticket_error old.state old.ticket ticket) (new ≡ old) (EndsByEntries old.state new.state (Ok len)) len ends.0
ended_named (Some errno) old new ticket len ends =
    accepted (ticket_error old.state old.ticket ticket) (new ≡ old) (EndsByError errno old.state new.state (Ok len)) len ends.0

-- two listings of one number
same_named : (st st' : state.ChainState) (mine mine' ticket : ℕ) → WasListing st → WasListing st' → mine' ≡ mine
    → ticket_error st' mine' ticket ≡ None → ticket_error st mine ticket ≡ None
same_named st st' mine mine' ticket (out, l, is) (out', l', is') same named =
    let later : number_error mine' ticket ≡ None = subst (λ (x : state.ChainState). ticket_error x mine' ticket ≡ None) is' named in
    subst (λ (x : state.ChainState). ticket_error x mine ticket ≡ None) (sym is)
    (subst (λ (n : ℕ). number_error n ticket ≡ None) same later)

-- a listing with this number can be ended
not_refused : (P : Listing → ListingReply → Type 0) (old new : ChainHandle) (ticket : ℕ) (e : ChainError)
    → IsGathering old ticket
    → UnlessRefused {A = ℕ} (ticket_error old.state old.ticket ticket) (Err e) (new ≡ old)
    (RepliesBy P old.state new.state (Err e)) → ⊥
not_refused P old new ticket e is (inl refused) = no_error refused.0 (sym refused.1 ∙ is.1)
not_refused P old new ticket e is (inr ends) = by_state old.state is.0 ends.1
  where
    by_state : (st : state.ChainState) → is_listing st ≡ true → RepliesBy P st new.state (Err e) → ⊥
    by_state (at.Listing out l) is ends = not_err ends.0.len e (sym ends.1)
    by_state at.Free is ends = not_free false is refl
    by_state (at.Popping course pop_id walk) is ends = not_free false is refl
    by_state (at.Popped out) is ends = not_free false is refl
    by_state (at.Decoded out w) is ends = not_free false is refl
    by_state (at.Replied out kept) is ends = not_free false is refl
    by_state (at.Pushing out) is ends = not_free false is refl

can_end : (errno : Option ℕ) (old new : ChainHandle) (ticket : ℕ) (e : ChainError) → IsGathering old ticket
    → EndsSo errno old new ticket (Err e) → ⊥
can_end None old new ticket e is ends = not_refused _ old new ticket e is ends.0
can_end (Some errno) old new ticket e is ends = not_refused _ old new ticket e is ends.0

same_when_refused : (errno : Option ℕ) (old new : ChainHandle) (ticket : ℕ) (e : ChainError)
    → EndsSo errno old new ticket (Err e) → new ≡ old
same_when_refused None old new ticket e ends = ends.1
same_when_refused (Some errno) old new ticket e ends = ends.1

stays_to_end : (errno : Option ℕ) (old new : ChainHandle) (ticket : ℕ) (result : Result ℕ ChainError)
    → EndsSo errno old new ticket result → IsAllButPlace old new
stays_to_end None old new ticket result ends = ends.2
stays_to_end (Some errno) old new ticket result ends = ends.2

was_before : (old mid : ChainHandle) (ticket : ℕ) (list list' : List ℕ) (entries : List ListedEntry) (names : List ℕ) (n : ℕ)
    (result : Result AddOutcome ChainError)
    → (IsGathering mid ticket × (is_listing old.state ≡ true) × (refused_by n result ≡ None))
    ⊎ BringsNothing old mid ticket list list' entries names n result
    → is_listing mid.state ≡ true → is_listing old.state ≡ true
was_before old mid ticket list list' entries names n result (inl is) lists = is.1
was_before old mid ticket list list' [] names n (Ok added.In) (inr nothing) lists =
    ap (λ (w : ChainHandle). is_listing w.state) (sym nothing.1) ∙ lists
was_before old mid ticket list list' (e ∷ entries) names n (Err x) (inr nothing) lists =
    ap is_listing (sym nothing.1.0) ∙ lists
was_before old mid ticket list list' _ names n _ (inr nothing) lists = absurd nothing

-- ---- a listing that ended

of_last : (page_size : ℕ) (c : InFlightChain) (es left : List Brought) (list : List ℕ)
    (result : Result AddOutcome ChainError) (w : ChainHandle)
    → HasGathered page_size c es left list result w → IsOfLast result left
of_last page_size c es left list (Ok added.In) w came = came.2
of_last page_size c es (e ∷ left) list _ w came = tt
of_last page_size c es [] list _ w came = absurd came

gathered_drives : (page_size : ℕ) (old mid new : ChainHandle) (q : QueueState) (ticket : ℕ)
    (before list : List ℕ) (entries : List ListedEntry) (names : List ℕ) (failure : Option ℕ) (n len : ℕ)
    (result : Result AddOutcome ChainError)
    → BringsAll old mid ticket before list entries names n result
    → EndsSo (errno_after result failure) mid new ticket (Ok len)
    → (ws : List ChainHandle) (k : ℕ) → slice_get ws k ≡ Some old
    → (s : RunState) (i : QueuePlace) (os : List Owned) (pops : ℕ → Pop) (push : Option PushUnderWay)
    → DrivenAt s i page_size k q ws os pops push
    → HasRunAt s i page_size k pops q (with_handle ws k new)
    (λ es d. GatherEvents (transition i.number page_size k (driver_before s i ws os pops) d old new q q) ticket entries names failure
    n result (Ok len) list es)
gathered_drives page_size old mid new q ticket before list entries names failure n len result all_in ends ws k there s i os
    pops push all =
    let mid_was = ended_listing (errno_after result failure) mid new ticket len ends in
    let was = listing_is old.state
    (was_before old mid ticket before list entries names n result all_in.moved (ap is_listing mid_was.2)) in
    let has = has_own s i page_size q ws os k old pops push all there (all.outs old there (ap is_out was.2)) in
    let c = has.c in
    let first = begun_listing s.page_size page_size k q push c old was.0 was.1 before was.2 has.mine.1 has.holds in
    let left : List Brought = drop n (all_brought entries names) in
    let came = all_in.step s.page_size c [] first tt in
    let r = came_to_end s (chains_of has.ob) (chains_of has.oh) c (take n (all_brought entries names)) left result failure
    list mid new ticket len has.chains came ends in
    let h = r.h in
    let calls = listing_calls (readdir_call h.asked) h.asked.with_nodes (take n (all_brought entries names))
    (ending_of result left failure) in
    let after : RunState = record s { chains = r.run.0; options = r.run.1; files = tt } in
    let stays = stays_then old mid new all_in.stays
    (stays_to_end (errno_after result failure) mid new ticket (Ok len) ends) in
    answered_all s i page_size k q ws has.ob has.oh pops push old new c h.request h.options calls after
    (answers_of c h.request h.options [] calls)
    (λ es d. GatherEvents (transition i.number page_size k (driver_before s i ws os pops) d old new q q) ticket entries names failure
    n result (Ok len) list es)
    has.driven there has.mine.0 (stays.0.0, stays.0.1) r.listed.holds
    (no_push new.state h.out r.listed.kept r.listed.state) r.listed.none_pending
    r.run.2 refl refl refl refl r.run.3
    (λ after' os' pops'. (
      same_named old.state mid.state old.ticket mid.ticket ticket was mid_was all_in.stays.0.2
          (ended_named (errno_after result failure) mid new ticket len ends),
      all_in.few,
      of_last s.page_size c (take n (all_brought entries names)) left list result mid came,
      stays,
      refl,
      c,
      h.request,
      h.options,
      h.out,
      h.unique,
      h.asked,
      r.listed.kept,
      has.is_in,
      h.phase,
      h.means,
      r.listed.state,
      (refl, r.listed.reply),
    ))

-- ---- a listing whose first entry, or whose end, is refused

abbrev error_in : ChainError → Result ℕ ChainError → ChainError
error_in x (Ok n) = x
error_in x (Err e) = e

nothing_ended : (old mid : ChainHandle) (ticket : ℕ) (before list : List ℕ) (entries : List ListedEntry) (names : List ℕ)
    (failure : Option ℕ) (n : ℕ) (result : Result AddOutcome ChainError) (new : ChainHandle) (e : ChainError)
    → BringsNothing old mid ticket before list entries names n result
    → EndsUnless (refused_by n result) (errno_after result failure) mid new ticket (Err e)
    → (n ≡ 0) × IsSameHeld old new × RefusesEntries old new ticket list entries names failure result e
nothing_ended old mid ticket before list [] names failure n (Ok added.In) new e nothing ends =
    let same : EndsSo failure old new ticket (Err e) =
    subst (λ (w : ChainHandle). EndsSo failure w new ticket (Err e)) nothing.1 ends in
    (nothing.0, same_held old new (same_when_refused failure old new ticket e same), same)
nothing_ended old mid ticket before list (entry ∷ entries) names failure n (Err x) new e nothing ends =
    let refused : refused_by n (Err x) ≡ Some x =
    ap (λ (m : ℕ). refused_by m (Err x)) nothing.0 in
    let is : EndsUnless (Some x) (errno_after (Err x) failure) mid new ticket (Err e) =
    subst (λ (w : Option ChainError). EndsUnless w (errno_after (Err x) failure) mid new ticket (Err e)) refused ends
    in
    let error : x ≡ e = sym (ap (error_in x) is.0) in
    let ended_x : BringsSo old mid ticket list list entry (take entry.name_len names) (Err x) =
    subst (λ (l : List ℕ). BringsSo old mid ticket l list entry (take entry.name_len names) (Err x)) (sym nothing.3) nothing.4 in
    let ended_e : BringsSo old mid ticket list list entry (take entry.name_len names) (Err e) =
    subst (λ (y : ChainError). BringsSo old mid ticket list list entry (take entry.name_len names) (Err y)) error ended_x in (
      nothing.0,
      subst (λ (w : ChainHandle). IsSameHeld old w) (sym is.1) nothing.1,
      (
        ap (λ (y : ChainError). Err y) error,
        subst (λ (w : ChainHandle). BringsSo old w ticket list list entry (take entry.name_len names) (Err e)) (sym is.1) ended_e,
      ),
    )
nothing_ended old mid ticket before list _ names failure n _ new e nothing ends = absurd nothing

never_refused : (old mid : ChainHandle) (ticket : ℕ) (list list' : List ℕ) (entries : List ListedEntry) (names : List ℕ)
    (failure : Option ℕ) (n : ℕ) (result : Result AddOutcome ChainError) (new : ChainHandle) (e : ChainError)
    → BringsAll old mid ticket list list' entries names n result
    → EndsUnless (refused_by n result) (errno_after result failure) mid new ticket (Err e)
    → BringsNothing old mid ticket list list' entries names n result
never_refused old mid ticket list list' entries names failure n result new e all_in ends = by_moved all_in.moved
  where
    by_moved : (IsGathering mid ticket × (is_listing old.state ≡ true) × (refused_by n result ≡ None))
        ⊎ BringsNothing old mid ticket list list' entries names n result
        → BringsNothing old mid ticket list list' entries names n result
    by_moved (inr nothing) = nothing
    by_moved (inl is) =
        absurd (can_end (errno_after result failure) mid new ticket e is.0
        (subst (λ (w : Option ChainError). EndsUnless w (errno_after result failure) mid new ticket (Err e)) is.2 ends))

not_ended : (why : Option ChainError) (errno : Option ℕ) (mid new : ChainHandle) (ticket : ℕ) (e : ChainError)
    → EndsUnless why errno mid new ticket (Err e) → new ≡ mid
not_ended None errno mid new ticket e ends = same_when_refused errno mid new ticket e ends
not_ended (Some x) errno mid new ticket e ends = ends.1

refused_drives : (old mid new : ChainHandle) (q : QueueState) (ticket : ℕ) (before list : List ℕ)
    (entries : Bor (List ListedEntry)) (names : Bor (List ℕ)) (failure : Option ℕ) (n : ℕ) (result : Result AddOutcome ChainError)
    (e : ChainError)
    → BringsNothing old mid ticket before list entries.now names.now n result → IsAllButPlace old mid
    → EndsUnless (refused_by n result) (errno_after result failure) mid new ticket (Err e)
    → (page_size : ℕ)
    → DrivesOne page_size old new q q (does.Gather ticket entries names failure) (gives.Gathered n result (Err e) list)
refused_drives old mid new q ticket before list entries names failure n result e nothing stays ends page_size =
    let is = not_ended (refused_by n result) (errno_after result failure) mid new ticket e ends in
    let same : IsAllButPlace old new = subst (λ (w : ChainHandle). IsAllButPlace old w) (sym is) stays in
    let r = nothing_ended old mid ticket before list entries.now names.now failure n result new e nothing ends in
    refuses page_size old new q (does.Gather ticket entries names failure) (gives.Gathered n result (Err e) list) r.1
    (λ i k d d' u pop. (refl, r.0, r.1, same, refl, pop, r.2))

-- ---- by what the calls ensure

-- a listing that isn't ended, and one that is
pub ends_not : (why found : Option ChainError) (errno : Option ℕ) (w : ChainHandle) (ticket : ℕ) (e : ChainError)
    → found ≡ why → found ≡ Some e → EndsUnless why errno w w ticket (Err e)
ends_not why found errno w ticket e same is =
    subst (λ (x : Option ChainError). EndsUnless x errno w w ticket (Err e)) (sym is ∙ same) (refl, refl)

pub ends_on : (why found : Option ChainError) (errno by : Option ℕ) (old new : ChainHandle) (ticket : ℕ)
    (result : Result ℕ ChainError)
    → found ≡ why → found ≡ None → by ≡ errno → EndsSo by old new ticket result
    → EndsUnless why errno old new ticket result
ends_on why found errno by old new ticket result same is errno_is ends =
    subst (λ (x : Option ChainError). EndsUnless x errno old new ticket result) (sym is ∙ same)
    (subst (λ (n : Option ℕ). EndsSo n old new ticket result) errno_is ends)

ends_unless : (why : Option ChainError) (errno : Option ℕ) (mid new : ChainHandle) (ticket len : ℕ)
    → EndsUnless why errno mid new ticket (Ok len) → EndsSo errno mid new ticket (Ok len)
ends_unless None errno mid new ticket len ends = ends
ends_unless (Some x) errno mid new ticket len ends = absurd (not_err len x ends.0)

pub gathered : (old mid new : ChainHandle) (q : QueueState) (ticket : ℕ) (before list : List ℕ)
    (entries : Bor (List ListedEntry)) (names : Bor (List ℕ)) (failure : Option ℕ) (n : ℕ) (result : Result AddOutcome ChainError)
    (ended : Result ℕ ChainError)
    → BringsAll old mid ticket before list entries.now names.now n result
    → EndsUnless (refused_by n result) (errno_after result failure) mid new ticket ended
    → (page_size : ℕ)
    → DrivesOne page_size old new q q (does.Gather ticket entries names failure) (gives.Gathered n result ended list)
gathered old mid new q ticket before list entries names failure n result (Ok len) all_in ends page_size =
    drives_one _ _ (λ ws k there u s i os pops push all.
    gathered_drives page_size old mid new q ticket before list entries.now names.now failure n len result all_in
    (ends_unless (refused_by n result) (errno_after result failure) mid new ticket len ends) ws k there s i os pops push all)
gathered old mid new q ticket before list entries names failure n result (Err e) all_in ends page_size =
    refused_drives old mid new q ticket before list entries names failure n result e
    (never_refused old mid ticket before list entries.now names.now failure n result new e all_in ends) all_in.stays ends page_size
