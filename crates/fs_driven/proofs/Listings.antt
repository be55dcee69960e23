-- The end of a listing without entries drives the run: the reading of its directory is answered.
use Rattle.std.proofs.Common.{inl, inr, ◌≡◌, ◌≤◌, ℕ, Bool, true, false, List, [], ◌∷◌, Option, Some, None, arith, refl, subst, sym, ap}
use Rattle.std.proofs.Common.{lt-ltb, slice_get}
use Rattle.std.specs.Prelude.{IsTrue, Result, Ok, Err, IfOk, OnOk, OnErr, nat_lt, ◌&&◌}
use Rattle.fuse_fs.specs.Calls.{Entries, Failed, FileAnswer, FileCall, suits}
use Rattle.plain_machine.specs.Step.{Calls}
use Rattle.server_phases.specs.declared.listing.Listing.{Listing}
use Rattle.server_phases.specs.declared.listing.ListingReply.{ListingReply}
use Rattle.server_meanings.specs.Listings.{readdir_call}
use Rattle.live_machine.specs.Live.{InFlightChain, ReceivesAnswer, after_answer, asked_chain}
use Rattle.fs_chain.specs.Holds.{HoldsInFlight, IsUnanswered, RunState, Pop}
use Rattle.fs_chain.specs.HoldsListings.{EndsListingInRun, FailsListingInRun, HasListed, HoldsListing}
use Rattle.fs_chain.specs.Listings.{EndsByEntries, EndsByError, RepliesBy}
use Rattle.fs_chain.specs.Orders.{is_out}
use Rattle.fs_chain.specs.Tickets.{UnlessRefused, ticket_error}
use Rattle.fs_chain.specs.Together.{Owned, with_handle}
use Rattle.fs_chain.specs.Walks.{IsAllButPlace}
use Rattle.fs_chain.specs.ListingCalls.{EndsThere, Unreadable, unreadable_calls}
use Rattle.fs_chain.specs.declared.chain_handle.ChainHandle.{ChainHandle}
use Rattle.fs_chain.specs.declared.error.ChainError.{ChainError}
use Rattle.fs_chain.specs.declared.queue.QueueState.{QueueState}
use Rattle.fs_chain.specs.declared.state.ChainReply.{ChainReply}
use Rattle.fs_chain.specs.declared.state.ChainState as state
use Rattle.fs_chain.specs.declared.state.ChainState.TheVariants as at
use Rattle.fs_chain.specs.declared.state.InFlight.{InFlight}
use Rattle.fs_driven.specs.declared.commands.DriverCall.TheVariants as does
use Rattle.fs_driven.specs.declared.commands.Results.TheVariants as gives
use Rattle.server_phases.specs.Gathering.{Brought}
use Rattle.fs_driven.specs.Drivers.{PushUnderWay, CanBePushed}
use Rattle.fs_driven.specs.Events.{DrivesOne, EventsOfListing, transition}
use Rattle.fs_chain.proofs.HoldsListed.{begins_listing, reads_directory}
use Rattle.fs_chain.proofs.Together.{chains_of}
use Rattle.fs_driven.proofs.Handles.{has_own}
use Rattle.fs_driven.proofs.QueuePlaces.{DrivenAt, HasRunAt, QueuePlace, driver_before, drives_one}
use Rattle.fs_driven.proofs.Answering.{answered_all}
use Rattle.fs_driven.proofs.Calls.{HasNoPush, refuses, same_all, same_held}
use Rattle.fs_chain.proofs.Held.{out_in}

-- ---- a listing that has its reply

pub not_err : (n : ℕ) (e : ChainError) → Ok n ≡ Err e → ⊥
not_err n e is = cc

-- only a listing has one
abbrev pub WasListing : state.ChainState → Type 0
WasListing st = (out : InFlight) × (l : Listing) × (st ≡ at.Listing out l)

-- a call that wasn't refused has the chain's number
pub accepted : (why : Option ChainError) (Same Does : Type 0) (len : ℕ) → UnlessRefused {A = ℕ} why (Ok len) Same Does → why ≡ None
accepted why Same Does len (inl refused) = absurd (not_err len refused.0 refused.2)
accepted why Same Does len (inr is) = is.0

pub was_listing : (P : Listing → ListingReply → Type 0) (st new : state.ChainState) (len : ℕ) → RepliesBy P st new (Ok len) →
    WasListing st
was_listing P (at.Listing out l) new len is = (out, l, refl)
was_listing P _ new len is = absurd (not_err len _ is.0)

abbrev read_calls : FileCall → FileAnswer → Calls
read_calls call answer = (call, answer) ∷ []

-- the handle gathers the same listing once its calls so far are these
unfoldable pub at_calls : (page_size : ℕ) (c : InFlightChain) (es : List Brought) (list : List ℕ) (w : ChainHandle)
    (h : HoldsListing page_size c es [] list w) (calls : Calls)
    → HoldsListing page_size (asked_chain c h.request h.options calls) es calls list w
at_calls page_size c es list w h calls = record {
  out = h.out;
  listing = h.listing;
  state = h.state;
  is_out = out_in c _ _ h.is_out;
  request = h.request;
  options = h.options;
  session = h.session;
  unique = h.unique;
  asked = h.asked;
  means = h.means;
  is_for = h.is_for;
  holds = h.holds;
  phase = refl;
}

pub no_push : (st : state.ChainState) (out : InFlight) (kept : ChainReply) → st ≡ at.Replied out kept → HasNoPush st
no_push st out kept is = subst (λ (x : state.ChainState). HasNoPush x) (sym is) tt

-- the listing of a run whose handle was told that its directory has this answer
abbrev HasReadDirectory : (new : ChainHandle) → FileAnswer → (len : ℕ) → (old : ChainHandle) → Type 0
HasReadDirectory new answer len old =
    (page_size : ℕ) (c : InFlightChain) → (h : HoldsListing page_size c [] [] [] old) →
    let calls = read_calls (readdir_call h.asked) answer in
    HasListed page_size (asked_chain c h.request h.options calls) calls [] h.request h.options h.out len new

-- a listing whose handle a driver has
pub begun_listing : (n page_size k : ℕ) (q : QueueState) (push : Option PushUnderWay) (c : InFlightChain) (w : ChainHandle)
    (out : InFlight) (l : Listing) (list : List ℕ) → w.state ≡ at.Listing out l
    → CanBePushed page_size k q push c w.state → HoldsInFlight n c w → HoldsListing n c [] [] list w
begun_listing n page_size k q push c w out l list is ready holds =
    let fresh : CanBePushed page_size k q push c (at.Listing out l) =
    subst (λ (st : state.ChainState). CanBePushed page_size k q push c st) is ready in
    begins_listing n c w out l list is (holds, subst (λ (st : state.ChainState). IsUnanswered c.phase st) (sym is) fresh)

listing_drives : (page_size : ℕ) (old new : ChainHandle) (q : QueueState) (ticket : ℕ) (answer : FileAnswer)
    (P : Result ℕ ChainError → Type 0) (len : ℕ)
    → ticket_error old.state old.ticket ticket ≡ None
    → WasListing old.state → IsAllButPlace old new
    → ((page_size : ℕ) (c : InFlightChain) (h : HoldsListing page_size c [] [] [] old) →
    IsTrue (suits (readdir_call h.asked) answer))
    → HasReadDirectory new answer len old → P (Ok len)
    → (ws : List ChainHandle) (k : ℕ) → slice_get ws k ≡ Some old
    → (s : RunState) (i : QueuePlace) (os : List Owned) (pops : ℕ → Pop) (push : Option PushUnderWay)
    → DrivenAt s i page_size k q ws os pops push
    → HasRunAt s i page_size k pops q (with_handle ws k new)
    (λ es d. EventsOfListing (transition i.number page_size k (driver_before s i ws os pops) d old new q q) ticket answer P (Ok len) es)
listing_drives page_size old new q ticket answer P len named was same suited listed result ws k there s i os pops push
    all =
    let has = has_own s i page_size q ws os k old pops push all there (all.outs old there (ap is_out was.2)) in
    let c = has.c in
    let h = begun_listing s.page_size page_size k q push c old was.0 was.1 [] was.2 has.mine.1 has.holds in
    let call : FileCall = readdir_call h.asked in
    let calls : Calls = read_calls call answer in
    let reads = reads_directory s (chains_of has.ob) (chains_of has.oh) c [] [] old answer has.chains h
    (suited s.page_size c h) in
    let r = listed s.page_size c h in
    let after : RunState = after_answer s (chains_of has.ob) (chains_of has.oh) c h.request h.options calls tt in
    answered_all s i page_size k q ws has.ob has.oh pops push old new c h.request h.options calls after
    (ReceivesAnswer c call answer ∷ [])
    (λ es d. EventsOfListing (transition i.number page_size k (driver_before s i ws os pops) d old new q q) ticket answer P (Ok len) es)
    has.driven there has.mine.0 (same.0.0, same.0.1) r.holds (no_push new.state h.out r.kept r.state) r.none_pending
    (after, reads.0, refl) refl refl refl refl refl
    (λ after' os' pops'. (named, c, call, h.request, h.options, has.is_in, h.phase, refl, same, refl, result))

-- ---- by what each call ensures

ended_not : (old new : ChainHandle) (q : QueueState) (ticket : ℕ) (e : ChainError)
    → UnlessRefused {A = ℕ} (ticket_error old.state old.ticket ticket) (Err e) (new ≡ old)
    (EndsByEntries old.state new.state (Err e))
    → new ≡ old
    → (page_size : ℕ) → DrivesOne page_size old new q q (does.EndListing ticket) (gives.Listed (Err e))
ended_not old new q ticket e result same page_size =
    refuses page_size old new q (does.EndListing ticket) (gives.Listed (Err e)) (same_held old new same)
    (λ i k d d' u pop. (refl, (same_all old new same, refl, pop), result))

pub ended : (old new : ChainHandle) (q : QueueState) (ticket : ℕ) (result : Result ℕ ChainError)
    → UnlessRefused (ticket_error old.state old.ticket ticket) result (new ≡ old)
    (EndsByEntries old.state new.state result)
    → OnOk result (EndsByEntries old.state new.state result)
    → OnErr result (new ≡ old)
    → IsAllButPlace old new
    → IfOk result (λ len. EndsListingInRun old new len)
    → (page_size : ℕ) → DrivesOne page_size old new q q (does.EndListing ticket) (gives.Listed result)
unfolding EndsListingInRun at_calls
ended old new q ticket (Ok len) result ends same stays step page_size = drives_one _ _ (λ ws k there u s i os pops push all.
    listing_drives page_size old new q ticket (Entries []) (λ r. EndsByEntries old.state new.state r) len
    (accepted (ticket_error old.state old.ticket ticket) (new ≡ old) (EndsByEntries old.state new.state (Ok len)) len result)
    (was_listing _ old.state new.state len ends) stays
    (λ page c h. refl)
    (λ page c h. step page (asked_chain c h.request h.options (read_calls (readdir_call h.asked) (Entries []))) []
    EndsThere (read_calls (readdir_call h.asked) (Entries [])) [] (at_calls page c [] [] old h _) tt refl)
    ends ws k there s i os pops push all)
ended old new q ticket (Err e) result ends same stays step page_size =
    ended_not old new q ticket e result same page_size

-- an error's number
pub errno_suits : (errno : ℕ) → 1 ≤ errno → errno ≤ 4095 → IsTrue (nat_lt 0 errno && nat_lt errno 4096)
errno_suits errno low high =
    let a : nat_lt 0 errno ≡ true = lt-ltb 0 errno (omega arith) in
    let b : nat_lt errno 4096 ≡ true = lt-ltb errno 4096 (omega arith) in
    rw a (rw b refl)

unread : (call : FileCall) (with_nodes : Bool) (errno : ℕ) →
    read_calls call (Failed errno) ≡ unreadable_calls call with_nodes [] errno
unread call true errno = refl
unread call false errno = refl

failed_not : (old new : ChainHandle) (q : QueueState) (ticket errno : ℕ) (e : ChainError)
    → UnlessRefused {A = ℕ} (ticket_error old.state old.ticket ticket) (Err e) (new ≡ old)
    (EndsByError errno old.state new.state (Err e))
    → new ≡ old
    → (page_size : ℕ) → DrivesOne page_size old new q q (does.FailListing ticket errno) (gives.Listed (Err e))
failed_not old new q ticket errno e result same page_size =
    refuses page_size old new q (does.FailListing ticket errno) (gives.Listed (Err e)) (same_held old new same)
    (λ i k d d' u pop. (refl, (same_all old new same, refl, pop), result))

pub failed : (old new : ChainHandle) (q : QueueState) (ticket errno : ℕ) (result : Result ℕ ChainError)
    → 1 ≤ errno → errno ≤ 4095
    → UnlessRefused (ticket_error old.state old.ticket ticket) result (new ≡ old)
    (EndsByError errno old.state new.state result)
    → OnOk result (EndsByError errno old.state new.state result)
    → OnErr result (new ≡ old)
    → IsAllButPlace old new
    → IfOk result (λ len. FailsListingInRun errno old new len)
    → (page_size : ℕ) → DrivesOne page_size old new q q (does.FailListing ticket errno) (gives.Listed result)
unfolding FailsListingInRun at_calls
failed old new q ticket errno (Ok len) low high result ends same stays step page_size =
    drives_one _ _ (λ ws k there u s i os pops push all.
    listing_drives page_size old new q ticket (Failed errno) (λ r. EndsByError errno old.state new.state r) len
    (accepted (ticket_error old.state old.ticket ticket) (new ≡ old) (EndsByError errno old.state new.state (Ok len)) len result)
    (was_listing _ old.state new.state len ends) stays
    (λ page c h. errno_suits errno low high)
    (λ page c h. step page (asked_chain c h.request h.options (read_calls (readdir_call h.asked) (Failed errno))) []
    (Unreadable errno) (read_calls (readdir_call h.asked) (Failed errno)) [] (at_calls page c [] [] old h _)
    refl (unread (readdir_call h.asked) h.asked.with_nodes errno))
    ends ws k there s i os pops push all)
failed old new q ticket errno (Err e) low high result ends same stays step page_size =
    failed_not old new q ticket errno e result same page_size
