-- A chain that the handle gives up, or to which its caller replies.
use Rattle.std.proofs.Common.{arith, ◌≡◌, ◌+◌, ◌≤◌, ◌<◌, ◌^◌, ◌-◌, ℕ, Bool, List, ◌∷◌, ◌++◌, length, Some, None, refl, subst, sym, ap, ◌∙◌}
use Rattle.std.specs.Prelude.{OnOk, Result, Ok, Err, ◌==◌, ◌%◌, ◌||◌, false, true, if◌then◌else◌, min, nat_lt, not}
use Rattle.std.proofs.Math.Nat.{min-eq_left}
use Rattle.std.proofs.lemmas.Bool.{and_parts, eqb-true, ltb-false}
use Rattle.fs_queue.specs.Queue.{Queue}
use Rattle.fs_queue.specs.Taking.{addresses_of, writable}
use Rattle.server_phases.specs.declared.session.Session.{Session}
use Rattle.fs_regions.specs.declared.course.Course.{Course}
use Rattle.fs_regions.specs.declared.walk.QueueWalk.{QueueWalk}
use Rattle.live_machine.specs.Several as several
use Rattle.live_machine.specs.Live.{Asked, Fetched, GivesUpChain, Happens, InFlightChain, IsUnreplied, Own, Phase, RepliesOwnBytes}
use Rattle.live_machine.specs.Live.{after_giving_up, after_own, room_of, room_of_phase}
use Rattle.live_machine.proofs.Queues.{none_some, there_same}
use Rattle.fs_chain.specs.Holds.{GivesUpInRun, HasUnreplied, HoldsInFlight, IsHeldIn, IsOutAs, IsRunQueue, RunState, RepliesOwnInRun}
use Rattle.fs_chain.specs.Holds.{any_files, live_of}
use Rattle.fs_chain.specs.Orders.{give_up_error, is_out, reply_len}
use Rattle.fs_chain.specs.OwnReplies.{IfUnanswered, own_chain_error, own_error, own_len_error, own_reply}
use Rattle.fs_chain.specs.Queues.{gave_up, is_in_flight_of, is_last}
use Rattle.fs_chain.specs.Tickets.{freed}
use Rattle.fs_chain.specs.declared.chain_handle.ChainHandle.{ChainHandle}
use Rattle.fs_chain.specs.declared.error.ChainError.{ChainError}
use Rattle.fs_chain.specs.declared.error.ChainError.TheVariants as error
use Rattle.fs_chain.specs.declared.queue.QueueState.{QueueState}
use Rattle.fs_chain.specs.declared.state.ChainState as state
use Rattle.fs_chain.specs.declared.state.ChainState.TheVariants as at
use Rattle.fs_chain.specs.declared.state.InFlight.{InFlight}
use Rattle.fs_chain.specs.declared.state.PopId.{PopId}
use Rattle.fs_chain.proofs.Held.{out_in}

-- ---- giving up

last_tests : (a b : Bool) → (if not a then Some error.OtherQueue else if not b then Some error.WrongOrder else None) ≡ None → b ≡ true
last_tests false b is = absurd (none_some error.OtherQueue (sym is))
last_tests true false is = absurd (none_some error.WrongOrder (sym is))
last_tests true true is = refl

popped_phase : (page_size : ℕ) (c : InFlightChain) (p : Phase) (out : InFlight) (session : Session) →
    IsHeldIn page_size c p (at.Popped out) session → (p ≡ Fetched) × IsOutAs c out
popped_phase page_size c Fetched out session held = (refl, held)
popped_phase page_size c p out session held = absurd held

held_free : (page_size : ℕ) (c : InFlightChain) (p : Phase) (session : Session) → IsHeldIn page_size c p at.Free session → ⊥
held_free page_size c Fetched session held = absurd held
held_free page_size c p session held = absurd held

held_popping : (page_size : ℕ) (c : InFlightChain) (p : Phase) (course : Course) (pop_id : PopId) (walk : QueueWalk) (session : Session) →
    IsHeldIn page_size c p (at.Popping course pop_id walk) session → ⊥
held_popping page_size c Fetched course pop_id walk session held = absurd held
held_popping page_size c p course pop_id walk session held = absurd held

given_up : (s : RunState) (before behind : List InFlightChain) (c : InFlightChain) (st : state.ChainState) (was : Session)
    (q q' : QueueState)
    → s.chains ≡ before ++ c ∷ behind → IsRunQueue s c.queue q → IsHeldIn s.page_size c c.phase st was → give_up_error st q ≡ None
    → q' ≡ (if is_out st then gave_up q else q)
    → Happens any_files s (GivesUpChain c) (after_giving_up s before behind c (live_of q))
    × IsRunQueue (after_giving_up s before behind c (live_of q)) c.queue q'
given_up s before behind c (at.Popped out) was q q' is there held clear left =
    let so = popped_phase s.page_size c c.phase out was held in
    let is_out : IsOutAs c out = so.1 in
    let youngest : is_last q out ≡ true = last_tests (is_in_flight_of q out) (is_last q out) clear in
    let same : q.next_avail ≡ (out.course.position + 1) % 2 ^ 16 =
    eqb-true q.next_avail ((out.course.position + 1) % 2 ^ 16)
    (and_parts (q.next_avail == (out.course.position + 1) % 2 ^ 16)
    (nat_lt ((q.pop_count + (2 ^ 32 - out.pop_id.pop_count)) % 2 ^ 32) (2 ^ 16)) youngest).0 in
    let taken : c.taken.position ≡ out.course.position = ap (λ (k : Queue). k.position) is_out.taken in (
      record {
        before = before;
        behind = behind;
        out = is;
        fresh = so.0;
        w = live_of q;
        there = there;
        is_last = same ∙ ap (λ (p : ℕ). (p + 1) % 2 ^ 16) (sym taken);
        state = refl;
      },
      there_same s.queues c.queue c.queue (λ _. several.gave_up (live_of q)) (live_of q) refl there
          ∙ ap (λ (k : QueueState). Some (live_of k)) (sym left),
    )
given_up s before behind c at.Free was q q' is there held clear left = absurd (held_free s.page_size c c.phase was held)
given_up s before behind c (at.Popping course pop_id walk) was q q' is there held clear left =
    absurd (held_popping s.page_size c c.phase course pop_id walk was held)
given_up s before behind c st was q q' is there held clear left = absurd (none_some error.WrongOrder (sym clear))

pub gives_up : (old new : ChainHandle) (q q' : QueueState) → give_up_error old.state q ≡ None → new ≡ freed old
    → q' ≡ (if is_out old.state then gave_up q else q) → GivesUpInRun old new q q'
unfolding GivesUpInRun
gives_up old new q q' clear free left s before behind c is there held =
    let so = given_up s before behind c old.state old.session q q' is there held clear left in
    (so.0, so.1, ap (λ (w : ChainHandle). w.state) free)

-- ---- a reply of the caller's own

abbrev FitsRoom : (room len : ℕ) → Type 0
FitsRoom room len = (len ≤ room) × (len < 2 ^ 32)

low : (len : ℕ) → len ≤ 2 ^ 32 - 1 → len < 2 ^ 32
low len few = omega (arith, few)

low_again : (n : ℕ) → n < 2 ^ 32 → n ≤ 2 ^ 32 - 1
low_again n few = omega (arith, few)

len_tests : (room len : ℕ) (a b : Bool) → nat_lt room len ≡ a → nat_lt (2 ^ 32 - 1) len ≡ b →
    (if a || b then Some error.LongReply else None) ≡ None → FitsRoom room len
len_tests room len false false one two is = (ltb-false room len one, low len (ltb-false (2 ^ 32 - 1) len two))
len_tests room len _ _ one two is = absurd (none_some error.LongReply (sym is))

chain_tests : (a : Bool) (room len : ℕ) → (if not a then Some error.OtherCall else own_len_error room len) ≡ None → FitsRoom room len
chain_tests false room len is = absurd (none_some error.OtherCall (sym is))
chain_tests true room len is = len_tests room len (nat_lt room len) (nat_lt (2 ^ 32 - 1) len) refl refl is

none_before : (n : ℕ) → 0 + n ≡ n
none_before n = omega arith

own_len : (o : InFlight) (n : ℕ) → FitsRoom o.room_len n → reply_len o (own_reply n) ≡ n
own_len o n few = ap (λ (k : ℕ). min (min k o.room_len) (2 ^ 32 - 1)) (none_before n)
    ∙ ap (λ (k : ℕ). min k (2 ^ 32 - 1)) (min-eq_left few.0) ∙ min-eq_left (low_again n few.1)

-- the room of a chain whose caller may reply
unreplied_room : (c : InFlightChain) (p : Phase) (request : List ℕ) → IsUnreplied c p request →
    length (room_of_phase p c.descriptors) ≡ length (addresses_of (writable c.descriptors))
unreplied_room c Fetched request un = refl
unreplied_room c (Asked asked options calls) request un = refl
unreplied_room c p request un = absurd un

replied_so : (s : RunState) (before behind : List InFlightChain) (c : InFlightChain) (request reply : List ℕ) (options mine ticket : ℕ)
    (out : InFlight) (st : state.ChainState) (session : Session)
    → s.chains ≡ before ++ c ∷ behind → IsOutAs c out → IsUnreplied c c.phase request
    → own_chain_error mine ticket out.room_len (length reply) ≡ None → st ≡ at.Replied out (own_reply (length reply))
    → Happens any_files s (RepliesOwnBytes c request reply options) (after_own s before behind c request reply options)
    × IsHeldIn s.page_size (record c { phase = Own request reply }) (Own request reply) st session
replied_so s before behind c request reply options mine ticket out st session is is_out un clear kept =
    let few : FitsRoom out.room_len (length reply) = chain_tests (mine == ticket) out.room_len (length reply) clear in
    let room : length (room_of c) ≡ out.room_len = unreplied_room c c.phase request un ∙ is_out.room_len in (
      record {
        before = before;
        behind = behind;
        out = is;
        unreplied = un;
        fits = subst (λ (n : ℕ). length reply ≤ n) (sym room) few.0;
        counts = few.1;
        state = refl;
      },
      subst (λ (k : state.ChainState). IsHeldIn s.page_size (record c { phase = Own request reply }) (Own request reply) k session)
          (sym kept) (
            out_in c _ _ is_out,
            record { behind = reply; bytes = refl; len = own_len out (length reply) few },
          ),
    )

replied_by : (s : RunState) (before behind : List InFlightChain) (c : InFlightChain) (request reply : List ℕ) (options mine ticket : ℕ)
    (st : state.ChainState) (old new : ChainHandle)
    → s.chains ≡ before ++ c ∷ behind → HasUnreplied c st → IsUnreplied c c.phase request
    → own_error st mine ticket (length reply) ≡ None
    → IfUnanswered st (λ out. new ≡ record old { state = at.Replied out (own_reply (length reply)) })
    → Happens any_files s (RepliesOwnBytes c request reply options) (after_own s before behind c request reply options)
    × HoldsInFlight s.page_size (record c { phase = Own request reply }) new
replied_by s before behind c request reply options mine ticket (at.Popped out) old new is held un clear kept =
    replied_so s before behind c request reply options mine ticket out new.state new.session is held un clear
    (ap (λ (w : ChainHandle). w.state) kept)
replied_by s before behind c request reply options mine ticket (at.Decoded out w) old new is held un clear kept =
    replied_so s before behind c request reply options mine ticket out new.state new.session is held un clear
    (ap (λ (w : ChainHandle). w.state) kept)
replied_by s before behind c request reply options mine ticket (at.Listing out l) old new is held un clear kept =
    replied_so s before behind c request reply options mine ticket out new.state new.session is held un clear
    (ap (λ (w : ChainHandle). w.state) kept)
replied_by s before behind c request reply options mine ticket st old new is held un clear kept = absurd held

pub replies_own : (old new : ChainHandle) (ticket len : ℕ) → own_error old.state old.ticket ticket len ≡ None
    → IfUnanswered old.state (λ out. new ≡ record old { state = at.Replied out (own_reply len) })
    → RepliesOwnInRun old new len
unfolding RepliesOwnInRun
replies_own old new ticket len clear kept s before behind c request reply options is held un long =
    let clear_so : own_error old.state old.ticket ticket (length reply) ≡ None =
    subst (λ (n : ℕ). own_error old.state old.ticket ticket n ≡ None) (sym long) clear in
    let kept_so : IfUnanswered old.state (λ out. new ≡ record old { state = at.Replied out (own_reply (length reply)) }) =
    subst (λ (n : ℕ). IfUnanswered old.state (λ out. new ≡ record old { state = at.Replied out (own_reply n) })) (sym long) kept in
    replied_by s before behind c request reply options old.ticket ticket old.state old new is held un clear_so kept_so

-- by the state, and the result
pub gives_up_from : (old new : ChainHandle) (q q' : QueueState) (r : Result (Unit {0}) ChainError) (out : InFlight)
    → old.state ≡ at.Popped out → OnOk r (give_up_error (at.Popped out) q ≡ None) → OnOk r ((new ≡ freed old) × (q' ≡ gave_up q))
    → OnOk r (GivesUpInRun old new q q')
gives_up_from old new q q' (Ok done) out is clear free =
    gives_up old new q q' (subst (λ (st : state.ChainState). give_up_error st q ≡ None) (sym is) clear) free.0
    (subst (λ (st : state.ChainState). q' ≡ (if is_out st then gave_up q else q)) (sym is) free.1)
gives_up_from old new q q' (Err e) out is clear free = tt

pub replies_own_from : (old new : ChainHandle) (ticket len : ℕ) (r : Result (Unit {0}) ChainError)
    → OnOk r (own_error old.state old.ticket ticket len ≡ None)
    → OnOk r (IfUnanswered old.state (λ out. new ≡ record old { state = at.Replied out (own_reply len) }))
    → OnOk r (RepliesOwnInRun old new len)
replies_own_from old new ticket len (Ok done) clear kept = replies_own old new ticket len clear kept
replies_own_from old new ticket len (Err e) clear kept = tt
