-- A listing that the handle gathers: its entries, its file calls, and its end.
use Rattle.std.proofs.Common.{◌≡◌, ◌+◌, ℕ, List, [], ◌∷◌, ◌++◌, length, take, Some, Result, Ok, Err, IsTrue, IfOk, refl, subst, sym, ap}
use Rattle.std.proofs.Common.{◌∙◌, inl, inr, length-append, Bool, true, false}
use Rattle.fuse_fs.specs.Calls.{FileAnswer, FileCall, suits, Entries}
use Rattle.server_meanings.specs.Grammar.{Asks, Lists, Meaning, meaning, FileCommand}
use Rattle.server_meanings.specs.Listings.{ListRequest, readdir_call}
use Rattle.server_meanings.specs.Serving.{Setting, ServedMessage, commanded, served, setting}
use Rattle.server_meanings.proofs.Serve.{served_fits}
use Rattle.server_replies.specs.WholeReplies.{listing_bytes}
use Rattle.server_phases.specs.Gathering.{Brought, Holds, IsListingFor, StaysBut, added_found, added_plain, all_bytes, all_found}
use Rattle.server_phases.specs.Gathering.{entries_of, is_list_command}
use Rattle.server_phases.specs.declared.listing.Listing.{Listing}
use Rattle.server_phases.specs.declared.listing.ListingReply.{ListingReply}
use Rattle.plain_machine.specs.Step.{Calls, answers_alone, calls_alone}
use Rattle.live_machine.specs.Live.{Asked, InFlightChain, Phase, room_of, room_of_phase}
use Rattle.live_machine.proofs.EachCall.{each_waits_first}
use Rattle.fs_chain.specs.Holds.{IsDecodedIn, IsHeldIn, IsPastFirstCall, KeepsReplyOf, RunState, served_so, IsUnanswered}
use Rattle.fs_chain.specs.HoldsListings.{AddingIs, AddsEntryInRun, BeginsListing, EndsListingInRun, FailsListingInRun, HasListed}
use Rattle.fs_chain.specs.HoldsListings.{HoldsListing, IsLeftOut}
use Rattle.fs_chain.specs.HoldsListings.{LeavesOut, ListingIsHeld, ListingCallIs, LooksUpEntries, MayEnd, MayFail, ReadsDirectory}
use Rattle.fs_chain.specs.HoldsListings.{calls_left_out}
use Rattle.fs_chain.specs.Listings.{AddsTo, EndsByEntries, EndsByError, IsFailedReply, IsListReply, RepliesBy, answered_by}
use Rattle.fs_chain.specs.Orders.{front_len}
use Rattle.fs_chain.specs.Walks.{IsAllButPlace}
use Rattle.fs_chain.specs.ListingCalls.{Ending, EndsThere, FailsAt, FullAt, NotFound, Unreadable, calls_so_far, listing_calls}
use Rattle.fs_chain.specs.declared.chain_handle.ChainHandle.{ChainHandle}
use Rattle.fs_chain.specs.declared.error.ChainError.{ChainError}
use Rattle.fs_chain.specs.declared.listing.AddOutcome.{AddOutcome}
use Rattle.fs_chain.specs.declared.listing.AddOutcome.TheVariants as added
use Rattle.fs_chain.specs.declared.state.ChainReply.{ChainReply}
use Rattle.fs_chain.specs.declared.state.ChainState as state
use Rattle.fs_chain.specs.declared.state.ChainState.TheVariants as at
use Rattle.fs_chain.specs.declared.state.InFlight.{InFlight}
use Rattle.fs_chain.proofs.LeftOut.{left_out_served, left_so}
use Rattle.fs_chain.proofs.SoFar.{AreServedFirst, so_far_served}
use Rattle.fs_chain.proofs.ListingEntries.{BringsEntry, ServedBy, brought, ends_there, fails_at, full_at, in_list, not_found, stays_so}
use Rattle.fs_chain.proofs.ListingEntries.{unreadable}
use Rattle.fs_chain.proofs.Replies.{isnt_cut}
use Rattle.server_phases.specs.declared.listing.NotAdded.TheVariants as not_added
use Rattle.fs_queue.specs.Taking.{addresses_of, writable}
use Rattle.fs_chain.specs.HoldsListings.{GathersDecoded}
use Rattle.fs_chain.proofs.Held.{out_in}

-- ---- the handle's calls

still_for : (l now : Listing) (room unique : ℕ) (a : ListRequest) → StaysBut l now → IsListingFor l room (Lists unique a) →
    IsListingFor now room (Lists unique a)
still_for l now room unique a stays is = (stays.0 ∙ is.0, stays.1 ∙ is.1, stays.2 ∙ is.2, stays.3 ∙ is.3, is.4)

-- the handle has the listing, as it is now
pub held_as : (page_size : ℕ) (c : InFlightChain) (es more : List Brought) (calls : Calls) (list list' : List ℕ) (old new : ChainHandle)
    (now : Listing) (h : HoldsListing page_size c es calls list old) → new.state ≡ at.Listing h.out now → StaysBut h.listing now
    → Holds now list' more → new.session ≡ old.session → HoldsListing page_size c more calls list' new
held_as page_size c es more calls list list' old new now h is stays holds session = record {
  out = h.out;
  listing = now;
  state = is;
  is_out = h.is_out;
  request = h.request;
  options = h.options;
  session = subst (IsDecodedIn page_size h.options) (sym session) h.session;
  unique = h.unique;
  asked = h.asked;
  means = h.means;
  is_for = still_for h.listing now h.out.room_len h.unique h.asked stays h.is_for;
  holds = holds;
  phase = h.phase;
}

-- an entry that isn't added
left_by : (old new : ChainHandle) (list list' : List ℕ) (e : Brought) (why : AddOutcome) (page_size : ℕ) (c : InFlightChain)
    (es : List Brought)
    (calls : Calls) (isnt : why ≡ added.In → ⊥) → BringsEntry old list e (Ok why) new list' → HoldsListing page_size c es calls list old
    → list' ≡ list → new.state ≡ old.state
    → (held : HoldsListing page_size c es calls list new) × IsLeftOut why held.listing list e × (list' ≡ list)
unfolding held_as
left_by old new list list' e why page_size c es calls isnt brings h same still =
    let one = brought old new list list' e why h.out h.listing h.state brings in (
      held_as page_size c es es calls list list old new h.listing h (still ∙ h.state) (refl, refl, refl, refl) h.holds brings.1.2,
      left_so h.listing one.0 list list' e why one.2 isnt,
      same,
    )

added_by : (old new : ChainHandle) (list list' : List ℕ) (e : Brought) (result : AddOutcome) (page_size : ℕ) (c : InFlightChain)
    (es : List Brought) (calls : Calls) → BringsEntry old list e (Ok result) new list' → HoldsListing page_size c es calls list old
    → AddingIs page_size c es calls list list' e new result
added_by old new list list' e added.In page_size c es calls brings h =
    let one = brought old new list list' e added.In h.out h.listing h.state brings in
    held_as page_size c es (es ++ e ∷ []) calls list list' old new one.0 h one.1 one.2.stays (one.2.holds refl es h.holds) brings.1.2
added_by old new list list' e added.Full page_size c es calls brings h =
    let one = brought old new list list' e added.Full h.out h.listing h.state brings in
    left_by old new list list' e added.Full page_size c es calls (λ is. absurd (cc)) brings h (one.2.same not_added.Full refl).1
    (stays_so old new list list' e added.Full h.out h.listing not_added.Full refl one ∙ sym h.state)
added_by old new list list' e added.NoRoom page_size c es calls brings h =
    let one = brought old new list list' e added.NoRoom h.out h.listing h.state brings in
    left_by old new list list' e added.NoRoom page_size c es calls (λ is. absurd (cc)) brings h (one.2.same not_added.NoRoom refl).1
    (stays_so old new list list' e added.NoRoom h.out h.listing not_added.NoRoom refl one ∙ sym h.state)
added_by old new list list' e added.TooLong page_size c es calls brings h =
    let one = brought old new list list' e added.TooLong h.out h.listing h.state brings in
    left_by old new list list' e added.TooLong page_size c es calls (λ is. absurd (cc)) brings h (one.2.same not_added.TooLong refl).1
    (stays_so old new list list' e added.TooLong h.out h.listing not_added.TooLong refl one ∙ sym h.state)

pub adds_entry : (old new : ChainHandle) (list list' : List ℕ) (e : Brought) (result : AddOutcome)
    → BringsEntry old list e (Ok result) new list'
    → AddsEntryInRun old new list list' e result
unfolding AddsEntryInRun
adds_entry old new list list' e result brings page_size c es calls h =
    added_by old new list list' e result page_size c es calls brings h

-- ---- the end

-- a request of whose calls none is pending is past its first one
past_first : (calls : Calls) (given : ServedMessage) → given.calls ≡ calls_alone calls → IsPastFirstCall calls given
past_first [] given all = all
past_first (step ∷ calls) given all = tt

-- a listing that is served so has its reply
ended : (page_size : ℕ) (c : InFlightChain) (es : List Brought) (ending : Ending) (calls : Calls) (list : List ℕ) (old new : ChainHandle)
    (len : ℕ) (reply : ListingReply) (h : HoldsListing page_size c es calls list old)
    → calls ≡ listing_calls (readdir_call h.asked) h.asked.with_nodes es ending → len ≡ reply.len → new.state ≡ answered_by h.out reply
    → length (take reply.len list) ≡ reply.len
    → ServedBy (setting page_size h.options h.out.room_len) (Lists h.unique h.asked)
    (listing_calls (readdir_call h.asked) h.asked.with_nodes es ending) (reply.front ++ take reply.len list)
    → HasListed page_size c calls list h.request h.options h.out len new
ended page_size c es ending calls list old new len reply h is result state_is long serving =
    let r = h.out.room_len in
    let s = setting page_size h.options r in
    let m = meaning h.options h.request r in
    let steps = listing_calls (readdir_call h.asked) h.asked.with_nodes es ending in
    let kept : ChainReply = record { front = Some reply.front; behind = reply.len } in
    let whole = reply.front ++ take reply.len list in
    let by_steps : (served s m (answers_alone steps)).reply ≡ whole =
    ap (λ (x : Meaning). (served s x (answers_alone steps)).reply) h.means ∙ ap (λ (x : ServedMessage). x.reply) serving in
    let by_calls : (served s m (answers_alone calls)).reply ≡ whole =
    ap (λ (x : Calls). (served s m (answers_alone x)).reply) is ∙ by_steps in
    let all_steps : (served s m (answers_alone steps)).calls ≡ calls_alone steps =
    ap (λ (x : Meaning). (served s x (answers_alone steps)).calls) h.means ∙ ap (λ (x : ServedMessage). x.calls) serving in
    let all_calls : (served s m (answers_alone calls)).calls ≡ calls_alone calls =
    ap (λ (x : Calls). (served s m (answers_alone x)).calls) is ∙ all_steps ∙ sym (ap (λ (x : Calls). calls_alone x) is) in
    let len_is : front_len kept + kept.behind ≡ length (served s m (answers_alone calls)).reply =
    ap (λ (n : ℕ). length reply.front + n) (sym long) ∙ sym (length-append reply.front (take reply.len list)) ∙ sym (ap length by_calls) in
    let keeps : KeepsReplyOf (served s m (answers_alone calls)).reply h.out kept = record {
      behind = take reply.len list;
      bytes = by_calls;
      len = isnt_cut h.out kept (length (served s m (answers_alone calls)).reply) len_is (served_fits s m (answers_alone calls))
          h.is_out.small;
    } in
    let in_phase : IsHeldIn page_size c (Asked h.request h.options calls) new.state new.session =
    subst (λ (st : state.ChainState). IsHeldIn page_size c (Asked h.request h.options calls) st new.session) (sym state_is)
    (h.is_out, keeps, past_first calls (served s m (answers_alone calls)) all_calls) in
    record {
      holds = subst (λ (p : Phase). IsHeldIn page_size c p new.state new.session) (sym h.phase) in_phase;
      kept = kept;
      state = state_is;
      reply = by_calls ∙ ap (λ (n : ℕ). reply.front ++ take n list) (sym result);
      none_pending =
          ap (λ (n : ℕ). (served_so page_size h.options h.request n calls).calls) h.is_out.room_len ∙ all_calls;
    }

abbrev len_in : Result ℕ ChainError → ℕ
len_in (Ok n) = n
len_in (Err e) = 0

-- a listing that gathers has its reply
abbrev IsReplied : (Listing → ListingReply → Type 0) → InFlight → Listing → (len : ℕ) → (new : state.ChainState) → Type 0
IsReplied P out l len new = RepliesBy P (at.Listing out l) new (Ok len)

replied_at : (P : Listing → ListingReply → Type 0) (st new : state.ChainState) (out : InFlight) (l : Listing) (len : ℕ) →
    st ≡ at.Listing out l → RepliesBy P st new (Ok len) → IsReplied P out l len new
replied_at P st new out l len is replies = subst (λ (s : state.ChainState). RepliesBy P s new (Ok len)) is replies

pub ends_listing : (old new : ChainHandle) (len : ℕ) → EndsByEntries old.state new.state (Ok len) → EndsListingInRun old new len
unfolding EndsListingInRun
ends_listing old new len ends page_size c es ending calls list h may is = by_ending ending may is
  where
    s : Setting
    s = setting page_size h.options h.out.room_len

    r : IsReplied IsListReply h.out h.listing len new.state
    r = replied_at IsListReply old.state new.state h.out h.listing len h.state ends

    long : length (take r.0.len list) ≡ r.0.len
    long =
        in_list h.listing list es r.0.front
        (commanded s (Lists h.unique h.asked) (Entries (entries_of es) ∷ all_found h.listing.with_nodes es)).reply r.0.len h.holds
        (λ other held. sym (ap (λ (x : ServedMessage). x.reply) (r.3 s (Lists h.unique h.asked) other es h.is_for held)))

    by_ending : (ending : Ending) → MayEnd h.listing list ending
        → calls ≡ listing_calls (readdir_call h.asked) h.asked.with_nodes es ending
        → HasListed page_size c calls list h.request h.options h.out len new
    by_ending EndsThere may is =
        ended page_size c es EndsThere calls list old new len r.0 h is (ap len_in r.1) r.2 long
        (ends_there s h.listing h.unique h.asked list es h.is_for h.holds r.0 r.3)
    by_ending (FullAt e behind) may is =
        ended page_size c es (FullAt e behind) calls list old new len r.0 h is (ap len_in r.1) r.2 long
        (full_at s h.listing h.unique h.asked list es h.is_for h.holds e behind r.0 r.3 may)
    by_ending (FailsAt e behind error) may is = absurd may
    by_ending (NotFound d behind error) may is = absurd may
    by_ending (Unreadable error) may is = absurd may

pub fails_listing : (errno : ℕ) (old new : ChainHandle) (len : ℕ) → EndsByError errno old.state new.state (Ok len) →
    FailsListingInRun errno old new len
unfolding FailsListingInRun
fails_listing errno old new len ends page_size c es ending calls list h may is = by_ending ending may is
  where
    s : Setting
    s = setting page_size h.options h.out.room_len

    r : IsReplied (λ l reply. IsFailedReply l errno reply) h.out h.listing len new.state
    r = replied_at (λ l reply. IsFailedReply l errno reply) old.state new.state h.out h.listing len h.state ends

    long : length (take r.0.len list) ≡ r.0.len
    long =
        in_list h.listing list es r.0.front
        (listing_bytes h.listing.unique h.listing.with_nodes (all_bytes h.listing.with_nodes es) (Some errno)) r.0.len h.holds
        (λ other held. r.3.bytes other es held)

    as_calls : (error : ℕ) (f : ℕ → Ending) → error ≡ errno → calls ≡ listing_calls (readdir_call h.asked) h.asked.with_nodes es (f error)
        → calls ≡ listing_calls (readdir_call h.asked) h.asked.with_nodes es (f errno)
    as_calls error f same is =
        is ∙ ap (λ (n : ℕ). listing_calls (readdir_call h.asked) h.asked.with_nodes es (f n)) same

    by_ending : (ending : Ending) → MayFail errno h.listing list ending
        → calls ≡ listing_calls (readdir_call h.asked) h.asked.with_nodes es ending
        → HasListed page_size c calls list h.request h.options h.out len new
    by_ending EndsThere may is = absurd may
    by_ending (FullAt e behind) may is = absurd may
    by_ending (FailsAt e behind error) may is =
        ended page_size c es (FailsAt e behind errno) calls list old new len r.0 h (as_calls error (λ n. FailsAt e behind n) may.0 is)
        (ap len_in r.1) r.2 long
        (fails_at s h.listing h.unique h.asked list es h.is_for h.holds e behind errno r.0 r.3 may.1)
    by_ending (NotFound d behind error) may is =
        ended page_size c es (NotFound d behind errno) calls list old new len r.0 h (as_calls error (λ n. NotFound d behind n) may.0 is)
        (ap len_in r.1) r.2 long
        (not_found s h.listing h.unique h.asked list es h.is_for h.holds d behind errno r.0 r.3 may.1 may.2)
    by_ending (Unreadable error) may is =
        ended page_size c es (Unreadable errno) calls list old new len r.0 h (as_calls error (λ n. Unreadable n) may is)
        (ap len_in r.1) r.2 long
        (unreadable s h.listing h.unique h.asked list es h.asked.with_nodes errno r.0 h.is_for h.holds r.3 refl)

-- ---- the file calls

begun_in : (page_size : ℕ) (c : InFlightChain) (p : Phase) (w : ChainHandle) (out : InFlight) (l : Listing) (list : List ℕ) → c.phase ≡ p
    → w.state ≡ at.Listing out l → IsHeldIn page_size c p (at.Listing out l) w.session → IsUnanswered p (at.Listing out l)
    → HoldsListing page_size c [] [] list w
begun_in page_size c (Asked request options calls) w out l list phase is held fresh =
    record {
      out = out;
      listing = l;
      state = is;
      is_out = held.0;
      request = request;
      options = options;
      session = held.1;
      unique = held.2;
      asked = held.3;
      means = held.4;
      is_for = held.5;
      holds = record { long = fresh.1; stands = ap (λ (n : ℕ). take n list) fresh.1 };
      phase = phase ∙ ap (λ (l : Calls). Asked request options l) fresh.0;
    }
begun_in page_size c p w out l list phase is held fresh = absurd fresh

pub begins_listing : BeginsListing
begins_listing page_size c w out l list is held =
    begun_in page_size c c.phase w out l list refl is
    (subst (λ (st : state.ChainState). IsHeldIn page_size c c.phase st w.session) is held.0)
    (subst (λ (st : state.ChainState). IsUnanswered c.phase st) is held.1)

-- a request that asks for a listing has a first call, which waits for no other answer
abbrev is_listing : Meaning → Bool
is_listing (Asks command) = is_list_command command
is_listing m = false

none_waits : (m : Meaning) (unique : ℕ) (asked : ListRequest) (command : FileCommand) → m ≡ Asks (Lists unique asked) → m ≡ Asks command
    → is_list_command command ≡ false → ⊥
none_waits m unique asked command lists is other =
    let clash : true ≡ false = ap is_listing (sym lists ∙ is) ∙ other in absurd (cc)

has_call : (page_size options : ℕ) (request : List ℕ) (room unique : ℕ) (asked : ListRequest)
    → meaning options request room ≡ Asks (Lists unique asked) → (served_so page_size options request room []).calls ≡ [] → ⊥
has_call page_size options request room unique asked lists none =
    let clash : readdir_call asked ∷ [] ≡ [] =
    sym (ap (λ (m : Meaning). (served (setting page_size options room) m []).calls) lists) ∙ none in absurd (cc)

gathered_in : (page_size options : ℕ) (c : InFlightChain) (w : ChainHandle) (request list : List ℕ) (unique : ℕ) (asked : ListRequest)
    (st : state.ChainState) → w.state ≡ st → c.phase ≡ Asked request options []
    → ((room : ℕ) → length (addresses_of (writable c.descriptors)) ≡ room → meaning options request room ≡ Asks (Lists unique asked))
    → IsHeldIn page_size c (Asked request options []) st w.session → IsUnanswered (Asked request options []) st
    → HoldsListing page_size c [] [] list w
gathered_in page_size options c w request list unique asked (at.Listing out l) is phase means held fresh =
    begun_in page_size c (Asked request options []) w out l list phase is held fresh
gathered_in page_size options c w request list unique asked (at.Decoded out waiting) is phase means held fresh =
    absurd (none_waits (meaning options request out.room_len) unique asked held.4.0 (means out.room_len held.0.room_len) held.4.1
    (held.5 held.4.0 held.4.4))
gathered_in page_size options c w request list unique asked (at.Replied out kept) is phase means held fresh =
    absurd (has_call page_size options request out.room_len unique asked (means out.room_len held.0.room_len) held.2)
gathered_in page_size options c w request list unique asked (at.Pushing out) is phase means held fresh =
    absurd (has_call page_size options request out.room_len unique asked (means out.room_len held.0.room_len) held.1)
gathered_in page_size options c w request list unique asked st is phase means held fresh = absurd held

pub gathers_decoded : GathersDecoded
gathers_decoded page_size options c w request list unique asked phase means held =
    gathered_in page_size options c w request list unique asked w.state refl phase
    (λ room is. subst (λ (n : ℕ). meaning options request n ≡ Asks (Lists unique asked)) is means)
    (subst (λ (p : Phase). IsHeldIn page_size c p w.state w.session) phase held.0)
    (subst (λ (p : Phase). IsUnanswered p w.state) phase held.1)

pub listing_is_held : ListingIsHeld
listing_is_held page_size c es calls list w h =
    subst (λ (st : state.ChainState). IsHeldIn page_size c c.phase st w.session) (sym h.state)
    (subst (λ (p : Phase). IsHeldIn page_size c p (at.Listing h.out h.listing) w.session) (sym h.phase)
    (h.is_out, h.session, h.unique, h.asked, h.means, h.is_for, es, list, h.holds))

-- a call that waits is answered
answered : (s : RunState) (before behind : List InFlightChain) (c : InFlightChain) (es : List Brought) (list : List ℕ) (w : ChainHandle)
    (earlier : Calls) (call : FileCall) (answer : FileAnswer) (h : HoldsListing s.page_size c es earlier list w)
    → s.chains ≡ before ++ c ∷ behind
    → (served (setting s.page_size h.options h.out.room_len) (Asks (Lists h.unique h.asked)) (answers_alone earlier)).calls
    ≡ calls_alone earlier ++ call ∷ []
    → IsTrue (suits call answer)
    → ListingCallIs s before behind c es earlier list w h.request h.options call answer
answered s before behind c es list w earlier call answer h out waits fits =
    let calls : Calls = earlier ++ (call, answer) ∷ [] in
    let room : length (room_of c) ≡ h.out.room_len =
    ap (λ (p : Phase). length (room_of_phase p c.descriptors)) h.phase ∙ h.is_out.room_len in
    let meant : (served (setting s.page_size h.options h.out.room_len) (meaning h.options h.request h.out.room_len)
    (answers_alone earlier)).calls
    ≡ calls_alone earlier ++ call ∷ [] =
    ap (λ (m : Meaning). (served (setting s.page_size h.options h.out.room_len) m (answers_alone earlier)).calls) h.means ∙ waits in (
      record {
        before = before;
        behind = behind;
        out = out;
        request = h.request;
        options = h.options;
        calls = earlier;
        asked = h.phase;
        pending = ap (λ (n : ℕ). (served (setting s.page_size h.options n) (meaning h.options h.request n) (answers_alone earlier)).calls)
            room
            ∙ meant;
        is_one = fits;
        files = tt;
        may_so = tt;
        state = refl;
      },
      record {
        out = h.out;
        listing = h.listing;
        state = h.state;
        is_out = out_in c _ _ h.is_out;
        request = h.request;
        options = h.options;
        session = h.session;
        unique = h.unique;
        asked = h.asked;
        means = h.means;
        is_for = h.is_for;
        holds = h.holds;
        phase = refl;
      },
    )

pub reads_directory : ReadsDirectory
reads_directory s before behind c es list w answer out h fits =
    answered s before behind c es list w [] (readdir_call h.asked) answer h out refl fits

-- one of the calls that are served first
among_first : (s : RunState) (before behind : List InFlightChain) (c : InFlightChain) (es : List Brought) (list : List ℕ) (w : ChainHandle)
    (all earlier later : Calls) (call : FileCall) (answer : FileAnswer) (h : HoldsListing s.page_size c es earlier list w)
    → s.chains ≡ before ++ c ∷ behind
    → AreServedFirst (setting s.page_size h.options h.out.room_len) (Asks (Lists h.unique h.asked)) all
    → all ≡ earlier ++ (call, answer) ∷ later → IsTrue (suits call answer)
    → ListingCallIs s before behind c es earlier list w h.request h.options call answer
among_first s before behind c es list w all earlier later call answer h out first are fits =
    let set = setting s.page_size h.options h.out.room_len in
    let m = Asks (Lists h.unique h.asked) in
    let split : AreServedFirst set m (earlier ++ (call, answer) ∷ later) = subst (λ (cs : Calls). AreServedFirst set m cs) are first in
    answered s before behind c es list w earlier call answer h out (each_waits_first set m earlier later call answer split.0 split.1) fits

pub looks_up : LooksUpEntries
looks_up s before behind c es others next list w earlier later call answer out h are fits =
    among_first s before behind c es list w (calls_so_far (readdir_call h.asked) h.asked.with_nodes es others next) earlier later call
    answer h
    out
    (so_far_served (setting s.page_size h.options h.out.room_len) h.listing h.unique h.asked list es others next h.is_for h.holds) are fits

pub leaves_out : LeavesOut
leaves_out s before behind c es e others why list w earlier later call answer out h left are fits =
    among_first s before behind c es list w (calls_left_out (readdir_call h.asked) h.asked.with_nodes es e others) earlier later call answer
    h
    out
    (left_out_served (setting s.page_size h.options h.out.room_len) h.listing h.unique h.asked list es e others h.is_for h.holds why left)
    are fits

-- ---- by what each method ensures

pub added_plain_from : (old new : ChainHandle) (list list' : List ℕ) (e : Brought) (r : Result AddOutcome ChainError)
    → (AddsTo old.state new.state list list' e (λ l. added_plain l (length list) (length e.0.name)) r) → IsAllButPlace old new
    → IfOk r (λ result. AddsEntryInRun old new list list' e result)
added_plain_from old new list list' e (Ok result) adds stays = adds_entry old new list list' e result (inl adds, stays)
added_plain_from old new list list' e (Err x) adds stays = tt

pub added_found_from : (old new : ChainHandle) (list list' : List ℕ) (e : Brought) (r : Result AddOutcome ChainError)
    → (AddsTo old.state new.state list list' e (λ l. added_found l (length list) (length e.0.name)) r) → IsAllButPlace old new
    → IfOk r (λ result. AddsEntryInRun old new list list' e result)
added_found_from old new list list' e (Ok result) adds stays = adds_entry old new list list' e result (inr adds, stays)
added_found_from old new list list' e (Err x) adds stays = tt

pub ended_from : (old new : ChainHandle) (r : Result ℕ ChainError) → EndsByEntries old.state new.state r →
    IfOk r (λ len. EndsListingInRun old new len)
ended_from old new (Ok len) ends = ends_listing old new len ends
ended_from old new (Err x) ends = tt

pub failed_from : (errno : ℕ) (old new : ChainHandle) (r : Result ℕ ChainError) → EndsByError errno old.state new.state r →
    IfOk r (λ len. FailsListingInRun errno old new len)
failed_from errno old new (Ok len) ends = fails_listing errno old new len ends
failed_from errno old new (Err x) ends = tt
