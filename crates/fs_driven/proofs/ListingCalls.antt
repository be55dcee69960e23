-- A listing's entries and its end drive the run: the reading of its directory is answered, and each look-up.
use Rattle.std.proofs.Common.{◌≡◌, ◌≤◌, ◌<◌, ◌^◌, ℕ, Bool, true, false, List, [], ◌∷◌, ◌++◌, IsTrue, Result, Ok, Err, if◌then◌else◌, Option}
use Rattle.std.proofs.Common.{Some, None, refl, sym, ap, ◌∙◌, append-nil, append_assoc, lt-ltb}
use Rattle.std.specs.List.{AllByRecursion}
use Rattle.fuse_fs.specs.Calls.{Done, Entries, Failed, FileAnswer, FileCall, Forget, HasEntry, Listed, Lookup, Readdir, suits}
use Rattle.fuse_fs.specs.declared.answers.Context.{Context}
use Rattle.fuse_fs.specs.declared.answers.Entry.{Entry}
use Rattle.server_replies.specs.Entries.{EIO, EOVERFLOW}
use Rattle.server_phases.specs.Gathering.{Brought, entries_of, is_looked_up, node_of}
use Rattle.server_meanings.specs.Listings.{readdir_call}
use Rattle.plain_machine.specs.Step.{Calls, EachSuits}
use Rattle.live_machine.specs.Live.{Happens, InFlightChain, LiveRun, Phase, ReceivesAnswer, after_answer, asked_chain}
use Rattle.fs_chain.specs.Holds.{RunState, any_files}
use Rattle.fs_chain.specs.HoldsListings.{EndsListingInRun, FailsListingInRun, HasListed, HoldsListing, IsLeftOut, MayFail, calls_left_out}
use Rattle.fs_chain.specs.ListingCalls.{Ending, EndsThere, FailsAt, FullAt, Unreadable, all_looked_up}
use Rattle.fs_chain.specs.ListingCalls.{calls_so_far, listing_calls, looked_up, node_back, unreadable_calls}
use Rattle.fs_chain.specs.declared.chain_handle.ChainHandle.{ChainHandle}
use Rattle.fs_chain.specs.declared.error.ChainError.{ChainError}
use Rattle.fs_chain.specs.declared.listing.AddOutcome.{AddOutcome}
use Rattle.fs_chain.specs.declared.listing.AddOutcome.TheVariants as added
use Rattle.fs_driven.specs.Adding.{HasGathered, EndsSo, HasNumber}
use Rattle.fs_driven.specs.Entries.{answers_of, ending_of, errno_after}
use Rattle.fs_chain.proofs.HoldsListed.{leaves_out, looks_up, reads_directory}
use Rattle.fs_driven.proofs.Listings.{at_calls, errno_suits}

-- ---- each call of a listing is answered

-- the run as the calls of one chain leave it
abbrev pub moved : RunState → List InFlightChain → (options : ℕ) → RunState
moved s chains options = record s { chains = chains; options = options; files = tt }

-- each of a chain's calls can be answered behind the others
abbrev EachIs : RunState → (before behind : List InFlightChain) → InFlightChain → (request : List ℕ) → (options : ℕ) →
    Calls → Type 0
EachIs s before behind c request options all =
    (chains : List InFlightChain) (now : ℕ) (earlier later : Calls) (call : FileCall) (answer : FileAnswer) →
    chains ≡ before ++ asked_chain c request options earlier ∷ behind →
    all ≡ earlier ++ (call, answer) ∷ later →
    IsTrue (suits call answer) →
    Happens any_files (moved s chains now) (ReceivesAnswer (asked_chain c request options earlier) call answer)
    (after_answer (moved s chains now) before behind (asked_chain c request options earlier) request options
    (earlier ++ (call, answer) ∷ []) tt)

-- then they are, one behind another
abbrev pub AnswersCalls : RunState → (before behind : List InFlightChain) → InFlightChain → (request : List ℕ) → (options : ℕ) →
    (chains : List InFlightChain) → (now : ℕ) → (earlier later : Calls) → Type 0
AnswersCalls s before behind c request options chains now earlier later =
    (chains' : List InFlightChain)
    × (now' : ℕ)
    × LiveRun any_files (moved s chains now) (answers_of c request options earlier later) (moved s chains' now')
    × (chains' ≡ before ++ asked_chain c request options (earlier ++ later) ∷ behind)

answered_run : (s : RunState) (before behind : List InFlightChain) (c : InFlightChain) (request : List ℕ) (options : ℕ)
    (all : Calls) → EachIs s before behind c request options all
    → (chains : List InFlightChain) (now : ℕ) (earlier later : Calls) → all ≡ earlier ++ later
    → chains ≡ before ++ asked_chain c request options earlier ∷ behind → EachSuits later
    → AnswersCalls s before behind c request options chains now earlier later
answered_run s before behind c request options all each chains now earlier [] are out suit =
    (chains, now, refl, out ∙ ap (λ (l : Calls). before ++ asked_chain c request options l ∷ behind) (sym (append-nil earlier)))
answered_run s before behind c request options all each chains now earlier (step ∷ later) are out suit =
    let c' : InFlightChain = asked_chain c request options earlier in
    let next : RunState = after_answer (moved s chains now) before behind c' request options (earlier ++ step ∷ []) tt in
    let one = each chains now earlier later step.0 step.1 out are suit.0 in
    let more = answered_run s before behind c request options all each next.chains next.options (earlier ++ step ∷ [])
    later (are ∙ sym (append_assoc earlier (step ∷ []) later)) refl suit.1 in (
      more.0,
      more.1,
      (next, one, more.2),
      more.3 ∙ ap (λ (l : Calls). before ++ asked_chain c request options l ∷ behind)
          (append_assoc earlier (step ∷ []) later),
    )

-- ---- the calls suit their answers

both_suit : (a b : Calls) → EachSuits a → EachSuits b → EachSuits (a ++ b)
both_suit [] b one two = two
both_suit (step ∷ a) b one two = (one.0, both_suit a b one.1 two)

one_suits : (x : Bool) (who : Context) (node : ℕ) (name : List ℕ) (e : Entry ℕ) → e.inode < 2 ^ 64
    → EachSuits (if x then (Lookup who node name, HasEntry e) ∷ [] else [])
one_suits true who node name e small = (lt-ltb e.inode (2 ^ 64) small, tt)
one_suits false who node name e small = tt

looked_suit : (who : Context) (node handle size offset : ℕ) (b : Bool) (es : List Brought)
    → AllByRecursion HasNumber es → EachSuits (all_looked_up (Readdir who node handle size offset) b es)
looked_suit who node handle size offset b [] small = tt
looked_suit who node handle size offset b (e ∷ es) small =
    both_suit (looked_up (Readdir who node handle size offset) b e.0 (HasEntry e.1))
    (all_looked_up (Readdir who node handle size offset) b es)
    (one_suits (is_looked_up b e.0) who node e.0.name e.1 small.0) (looked_suit who node handle size offset b es small.1)

back_suits : (b : Bool) (who : Context) (node : ℕ) → EachSuits (if b then (Forget who node 1, Done) ∷ [] else [])
back_suits true who node = (refl, tt)
back_suits false who node = tt

-- ---- a listing of a run

-- its chain before any call
asked_first : (page_size : ℕ) (c : InFlightChain) (es : List Brought) (list : List ℕ) (w : ChainHandle)
    (h : HoldsListing page_size c es [] list w) → asked_chain c h.request h.options [] ≡ c
asked_first page_size c es list w h = ap (λ (p : Phase). record c { phase = p }) (sym h.phase)

-- the calls of a listing that ends so, with its look-ups
so_far : (call : FileCall) (b : Bool) (es : List Brought)
    → calls_so_far call b es [] None ≡ (call, Entries (entries_of es)) ∷ all_looked_up call b es
so_far call b es =
    ap (λ (l : List Listed). (call, Entries l) ∷ (all_looked_up call b es ++ [])) (append-nil (entries_of es))
    ∙ ap (λ (l : Calls). (call, Entries (entries_of es)) ∷ l) (append-nil (all_looked_up call b es))

left_calls : (call : FileCall) (b : Bool) (es : List Brought) (e : Brought) (others : List Listed)
    → calls_left_out call b es e others
    ≡ (call, Entries (entries_of es ++ e.0 ∷ others)) ∷ (all_looked_up call b es
    ++ (looked_up call b e.0 (HasEntry e.1) ++ node_back call b e))
left_calls call b es e others =
    ap (λ (l : Calls). (call, Entries (entries_of es ++ e.0 ∷ others)) ∷ l)
    (append_assoc (all_looked_up call b es) (looked_up call b e.0 (HasEntry e.1)) (node_back call b e))

-- each call up to the directory's end, or to an entry that isn't added
each_there : (s : RunState) (before behind : List InFlightChain) (c : InFlightChain) (es : List Brought) (list : List ℕ)
    (w : ChainHandle) (h : HoldsListing s.page_size c es [] list w)
    → EachIs s before behind c h.request h.options
    ((readdir_call h.asked, Entries (entries_of es)) ∷ all_looked_up (readdir_call h.asked) h.asked.with_nodes es)
unfolding at_calls
each_there s before behind c es list w h chains now earlier later call answer out are fits =
    (looks_up (moved s chains now) before behind (asked_chain c h.request h.options earlier) es [] None list w earlier
    later call answer out (at_calls s.page_size c es list w h earlier)
    (so_far (readdir_call h.asked) h.asked.with_nodes es ∙ are) fits).0

each_left : (s : RunState) (before behind : List InFlightChain) (c : InFlightChain) (es : List Brought) (list : List ℕ)
    (w : ChainHandle) (h : HoldsListing s.page_size c es [] list w) (e : Brought) (others : List Listed) (why : AddOutcome)
    → IsLeftOut why h.listing list e
    → EachIs s before behind c h.request h.options
    ((readdir_call h.asked, Entries (entries_of es ++ e.0 ∷ others))
    ∷ (all_looked_up (readdir_call h.asked) h.asked.with_nodes es
    ++ (looked_up (readdir_call h.asked) h.asked.with_nodes e.0 (HasEntry e.1)
    ++ node_back (readdir_call h.asked) h.asked.with_nodes e)))
unfolding at_calls
each_left s before behind c es list w h e others why left chains now earlier later call answer out are fits =
    (leaves_out (moved s chains now) before behind (asked_chain c h.request h.options earlier) es e others why list w
    earlier later call answer out (at_calls s.page_size c es list w h earlier) left
    (left_calls (readdir_call h.asked) h.asked.with_nodes es e others ∙ are) fits).0

-- a listing that was read without an answer, unless the client has entries' nodes
unread_by : (X : Calls → Type 0) (call : FileCall) (b : Bool) (es : List Brought) (errno : ℕ)
    → X ((call, Entries (entries_of es)) ∷ all_looked_up call b es) → X ((call, Failed errno) ∷ [])
    → X (unreadable_calls call b es errno)
unread_by X call true (e ∷ es) errno there alone = there
unread_by X call _ _ errno there alone = alone

-- ---- a listing that ends

-- the calls of a listing
abbrev pub calls_by : (page_size : ℕ) (c : InFlightChain) (es : List Brought) (list : List ℕ) (w : ChainHandle) →
    HoldsListing page_size c es [] list w → Ending → Calls
calls_by page_size c es list w h ending =
    listing_calls (readdir_call h.asked) h.asked.with_nodes es ending

-- they are answered, and the handle has the reply
pub record ListedSo (s : RunState) (before behind : List InFlightChain) (c : InFlightChain) (es : List Brought)
    (ending : Ending) (list : List ℕ) (w new : ChainHandle) (len : ℕ) : Type 0 where
  pub h : HoldsListing s.page_size c es [] list w
  pub run : AnswersCalls s before behind c h.request h.options s.chains s.options []
      (calls_by s.page_size c es list w h ending)
  pub listed : HasListed s.page_size
      (asked_chain c h.request h.options (calls_by s.page_size c es list w h ending))
      (calls_by s.page_size c es list w h ending) list h.request h.options h.out len new

-- the run of calls that suit their answers
run_of : (s : RunState) (before behind : List InFlightChain) (c : InFlightChain) (es : List Brought) (list : List ℕ)
    (w : ChainHandle) (h : HoldsListing s.page_size c es [] list w) (all : Calls)
    → s.chains ≡ before ++ c ∷ behind
    → EachIs s before behind c h.request h.options all → EachSuits all
    → AnswersCalls s before behind c h.request h.options s.chains s.options [] all
run_of s before behind c es list w h all out each suit =
    answered_run s before behind c h.request h.options all each s.chains s.options [] all refl
    (out ∙ ap (λ (x : InFlightChain). before ++ x ∷ behind) (sym (asked_first s.page_size c es list w h))) suit

there_run : (s : RunState) (before behind : List InFlightChain) (c : InFlightChain) (es : List Brought) (list : List ℕ)
    (w : ChainHandle) (h : HoldsListing s.page_size c es [] list w) → s.chains ≡ before ++ c ∷ behind
    → AllByRecursion HasNumber es
    → AnswersCalls s before behind c h.request h.options s.chains s.options []
    ((readdir_call h.asked, Entries (entries_of es)) ∷ all_looked_up (readdir_call h.asked) h.asked.with_nodes es)
there_run s before behind c es list w h out numbers =
    run_of s before behind c es list w h
    ((readdir_call h.asked, Entries (entries_of es)) ∷ all_looked_up (readdir_call h.asked) h.asked.with_nodes es) out
    (each_there s before behind c es list w h)
    (refl, looked_suit h.asked.context h.asked.node h.asked.handle h.asked.size h.asked.offset h.asked.with_nodes es numbers)

alone_run : (s : RunState) (before behind : List InFlightChain) (c : InFlightChain) (es : List Brought) (list : List ℕ)
    (w : ChainHandle) (h : HoldsListing s.page_size c es [] list w) → s.chains ≡ before ++ c ∷ behind
    → (errno : ℕ) → 1 ≤ errno → errno ≤ 4095
    → AnswersCalls s before behind c h.request h.options s.chains s.options [] ((readdir_call h.asked, Failed errno) ∷ [])
unfolding at_calls
alone_run s before behind c es list w h out errno low high =
    let c' : InFlightChain = asked_chain c h.request h.options [] in
    let there : s.chains ≡ before ++ c' ∷ behind =
    out ∙ ap (λ (x : InFlightChain). before ++ x ∷ behind) (sym (asked_first s.page_size c es list w h)) in
    let call : FileCall = readdir_call h.asked in
    let next : RunState = after_answer s before behind c' h.request h.options ((call, Failed errno) ∷ []) tt in
    let one = reads_directory s before behind c' es list w (Failed errno) there (at_calls s.page_size c es list w h [])
    (errno_suits errno low high) in
    (next.chains, next.options, (next, one.0, refl), refl)

left_run : (s : RunState) (before behind : List InFlightChain) (c : InFlightChain) (es : List Brought) (list : List ℕ)
    (w : ChainHandle) (h : HoldsListing s.page_size c es [] list w) (e : Brought) (others : List Listed) (why : AddOutcome)
    → s.chains ≡ before ++ c ∷ behind → AllByRecursion HasNumber es → HasNumber e → IsLeftOut why h.listing list e
    → AnswersCalls s before behind c h.request h.options s.chains s.options []
    ((readdir_call h.asked, Entries (entries_of es ++ e.0 ∷ others))
    ∷ (all_looked_up (readdir_call h.asked) h.asked.with_nodes es
    ++ (looked_up (readdir_call h.asked) h.asked.with_nodes e.0 (HasEntry e.1)
    ++ node_back (readdir_call h.asked) h.asked.with_nodes e)))
left_run s before behind c es list w h e others why out numbers number left =
    let who : Context = h.asked.context in
    let node : ℕ = h.asked.node in
    let b : Bool = h.asked.with_nodes in
    let call : FileCall = readdir_call h.asked in
    run_of s before behind c es list w h
    ((call, Entries (entries_of es ++ e.0 ∷ others))
    ∷ (all_looked_up call b es ++ (looked_up call b e.0 (HasEntry e.1) ++ node_back call b e))) out
    (each_left s before behind c es list w h e others why left) (
      refl,
      both_suit (all_looked_up call b es) (looked_up call b e.0 (HasEntry e.1) ++ node_back call b e)
          (looked_suit who node h.asked.handle h.asked.size h.asked.offset b es numbers)
          (both_suit (looked_up call b e.0 (HasEntry e.1)) (node_back call b e)
          (one_suits (is_looked_up b e.0) who node e.0.name e.1 number) (back_suits b who (node_of e).inode)),
    )

-- ---- by the result of the last entry

unreadable_so : (s : RunState) (before behind : List InFlightChain) (c : InFlightChain) (es : List Brought) (list : List ℕ)
    (w new : ChainHandle) (ticket len errno : ℕ) (h : HoldsListing s.page_size c es [] list w)
    → s.chains ≡ before ++ c ∷ behind → AllByRecursion HasNumber es → EndsSo (Some errno) w new ticket (Ok len)
    → ListedSo s before behind c es (Unreadable errno) list w new len
unfolding at_calls FailsListingInRun
unreadable_so s before behind c es list w new ticket len errno h out numbers ends =
    let calls = calls_by s.page_size c es list w h (Unreadable errno) in
    record {
      h = h;
      run = unread_by (λ (l : Calls). AnswersCalls s before behind c h.request h.options s.chains s.options [] l)
          (readdir_call h.asked) h.asked.with_nodes es errno (there_run s before behind c es list w h out numbers)
          (alone_run s before behind c es list w h out errno ends.4 ends.5);
      listed = ends.3 s.page_size (asked_chain c h.request h.options calls) es (Unreadable errno) calls list
          (at_calls s.page_size c es list w h calls) refl refl;
    }

fails_so : (s : RunState) (before behind : List InFlightChain) (c : InFlightChain) (es : List Brought) (list : List ℕ)
    (w new : ChainHandle) (ticket len errno : ℕ) (e : Brought) (others : List Listed) (why : AddOutcome)
    (h : HoldsListing s.page_size c es [] list w)
    → s.chains ≡ before ++ c ∷ behind → AllByRecursion HasNumber es → HasNumber e → IsLeftOut why h.listing list e
    → MayFail errno h.listing list (FailsAt e others errno)
    → EndsSo (Some errno) w new ticket (Ok len)
    → ListedSo s before behind c es (FailsAt e others errno) list w new len
unfolding at_calls FailsListingInRun
fails_so s before behind c es list w new ticket len errno e others why h out numbers number left may ends =
    let calls = calls_by s.page_size c es list w h (FailsAt e others errno) in
    record {
      h = h;
      run = left_run s before behind c es list w h e others why out numbers number left;
      listed = ends.3 s.page_size (asked_chain c h.request h.options calls) es (FailsAt e others errno) calls list
          (at_calls s.page_size c es list w h calls) may refl;
    }

pub came_to_end : (s : RunState) (before behind : List InFlightChain) (c : InFlightChain) (es left : List Brought)
    (result : Result AddOutcome ChainError) (failure : Option ℕ) (list : List ℕ) (w new : ChainHandle) (ticket len : ℕ)
    → s.chains ≡ before ++ c ∷ behind → HasGathered s.page_size c es left list result w
    → EndsSo (errno_after result failure) w new ticket (Ok len)
    → ListedSo s before behind c es (ending_of result left failure) list w new len
unfolding at_calls EndsListingInRun
came_to_end s before behind c es left (Ok added.In) None list w new ticket len out came ends =
    let h = came.0 in
    let calls = calls_by s.page_size c es list w h EndsThere in
    record {
      h = h;
      run = there_run s before behind c es list w h out came.1;
      listed = ends.3 s.page_size (asked_chain c h.request h.options calls) es EndsThere calls list
          (at_calls s.page_size c es list w h calls) tt refl;
    }
came_to_end s before behind c es left (Ok added.In) (Some errno) list w new ticket len out came ends =
    unreadable_so s before behind c es list w new ticket len errno came.0 out came.1 ends
came_to_end s before behind c es (e ∷ left) (Ok added.Full) failure list w new ticket len out came ends =
    let h = came.0 in
    let calls = calls_by s.page_size c es list w h (FullAt e (entries_of left)) in
    record {
      h = h;
      run = left_run s before behind c es list w h e (entries_of left) added.Full out came.1 came.3 came.2;
      listed = ends.3 s.page_size (asked_chain c h.request h.options calls) es (FullAt e (entries_of left)) calls list
          (at_calls s.page_size c es list w h calls) came.2 refl;
    }
came_to_end s before behind c es (e ∷ left) (Ok added.NoRoom) failure list w new ticket len out came ends =
    fails_so s before behind c es list w new ticket len EIO e (entries_of left) added.NoRoom came.0 out came.1 came.3
    came.2 (refl, came.2) ends
came_to_end s before behind c es (e ∷ left) (Ok added.TooLong) failure list w new ticket len out came ends =
    fails_so s before behind c es list w new ticket len EOVERFLOW e (entries_of left) added.TooLong came.0 out came.1
    came.3 came.2 (refl, came.2) ends
came_to_end s before behind c es (e ∷ left) (Err x) failure list w new ticket len out came ends =
    unreadable_so s before behind c es list w new ticket len EIO came.0 out came.1 ends
came_to_end s before behind c es [] _ failure list w new ticket len out came ends = absurd came
