-- What a call that isn't refused tells of its queue.
use Rattle.std.proofs.Common.{◌≡◌, ℕ, Bool, Some, None, refl, sym, ap, ◌∙◌, ◌==◌, ◌&&◌, false, true, if◌then◌else◌, nat_lt, not}
use Rattle.std.proofs.lemmas.Bool.{and_parts, eqb-true}
use Rattle.fs_queue.specs.Queue.{Queue}
use Rattle.fs_queue.specs.WalkingView.{at_position}
use Rattle.fs_queue.specs.declared.layout.QueueLayout.{QueueLayout}
use Rattle.fs_regions.specs.Walks.{queue_of}
use Rattle.fs_regions.specs.declared.course.Course.{Course}
use Rattle.fs_chain.specs.Orders.{begin_error, front_len, give_error, push_refusal}
use Rattle.live_machine.specs.Several.{LiveQueue}
use Rattle.fs_chain.specs.Holds.{IsPopOf, Pop, pop_of}
use Rattle.fs_chain.specs.Queues.{SameEventIndex, fits_pop, in_flight, is_in_flight_of, is_laid_out, live_of, may_take}
use Rattle.fs_chain.specs.declared.error.ChainError.TheVariants as error
use Rattle.fs_chain.specs.declared.queue.QueueState.{QueueState}
use Rattle.fs_chain.specs.declared.state.ChainReply.{ChainReply}
use Rattle.fs_chain.specs.declared.state.ChainState.TheVariants as at
use Rattle.fs_chain.specs.declared.state.InFlight.{InFlight}
use Rattle.fs_chain.specs.declared.state.PopId.{PopId}
use Rattle.live_machine.proofs.Queues.{none_some}

pub same_layout : (a b : QueueLayout) (position : ℕ) → is_laid_out a b ≡ true → at_position a position ≡ at_position b position
same_layout a b position is =
    let one = and_parts (a.size == b.size && a.desc == b.desc && a.avail == b.avail) (a.used == b.used) is in
    let two = and_parts (a.size == b.size && a.desc == b.desc) (a.avail == b.avail) one.0 in
    let three = and_parts (a.size == b.size) (a.desc == b.desc) two.0 in
    let q : (size desc avail used : ℕ) → Queue =
    λ size desc avail used. record { size = size; desc = desc; avail = avail; used = used; position = position; stopped = false } in
    ap (λ (n : ℕ). q n a.desc a.avail a.used) (eqb-true a.size b.size three.0)
    ∙ ap (λ (n : ℕ). q b.size n a.avail a.used) (eqb-true a.desc b.desc three.1)
    ∙ ap (λ (n : ℕ). q b.size b.desc n a.used) (eqb-true a.avail b.avail two.1)
    ∙ ap (λ (n : ℕ). q b.size b.desc b.avail n) (eqb-true a.used b.used one.1)

-- ---- the event index

-- a pop of a queue is known by its loads
pub same_pop : (q : QueueState) (p : Pop) → IsPopOf q p → pop_of q p.loaded ≡ p
same_pop q p is = ap (λ (b : Bool). record p { event_index = b }) (sym is)

-- equal queues have it both, or neither; a queue has what it has in a run
pub same_index : (p q : QueueState) → p ≡ q → SameEventIndex p q
same_index p q same = ap (λ (r : QueueState). r.event_index) same

pub live_index : (q : QueueState) (w : LiveQueue) → live_of q ≡ w → q.event_index ≡ w.event_index
live_index q w same = ap (λ (v : LiveQueue). v.event_index) same

-- ---- a push

push_tests : (a b c : Bool) → (if not a then Some error.OtherQueue else if b then Some error.Pushing
    else if c then Some error.ShortBuffer else None) ≡ None → a ≡ true
push_tests false b c is = absurd (none_some error.OtherQueue (sym is))
push_tests true b c is = refl

-- a chain that is pushed has its queue's layout
pub pushed_there : (q : QueueState) (out : InFlight) (kept : ChainReply) (len position : ℕ) →
    push_refusal (at.Replied out kept) q len ≡ None → at_position q.layout position ≡ at_position out.course.layout position
pushed_there q out kept len position clear =
    let mine : is_in_flight_of q out ≡ true = push_tests (is_in_flight_of q out) q.pushing (nat_lt len (front_len kept)) clear in
    same_layout q.layout out.course.layout position
    (and_parts (not (in_flight q == 0) && q.reset_count == out.pop_id.reset_count) (is_laid_out q.layout out.course.layout) mine).1

-- ---- a pop

begin_tests : (a c : Bool) → (if not a then Some error.BadArgument else if not c then Some error.ChainInFlight else None) ≡ None → c ≡ true
begin_tests false c is = absurd (none_some error.BadArgument (sym is))
begin_tests true false is = absurd (none_some error.ChainInFlight (sym is))
begin_tests true true is = refl

pub begun_room : (q : QueueState) (len : ℕ) → begin_error q len ≡ None → may_take q ≡ true
begun_room q len clear = begin_tests (len == 0) (may_take q) clear

give_tests : (a b c : Bool) → (if not a then Some error.BadArgument else if not b then Some error.OtherQueue
    else if not c then Some error.ChainInFlight else None) ≡ None → (a ≡ true) × (b ≡ true) × (c ≡ true)
give_tests false b c is = absurd (none_some error.BadArgument (sym is))
give_tests true false c is = absurd (none_some error.OtherQueue (sym is))
give_tests true true false is = absurd (none_some error.ChainInFlight (sym is))
give_tests true true true is = (refl, refl, refl)

-- a pop that continues finds its queue where it began, with room for one more chain
pub proceeds_at : (q : QueueState) (course : Course) (pop_id : PopId) (asked len : ℕ) → give_error q course pop_id asked len ≡ None
    → (at_position q.layout q.next_avail ≡ queue_of course) × (may_take q ≡ true) × (len ≡ asked)
proceeds_at q course pop_id asked len is =
    let tests = give_tests (len == asked) (fits_pop q course pop_id) (may_take q) is in
    let one = and_parts (q.reset_count == pop_id.reset_count && q.pop_count == pop_id.pop_count && q.next_avail == course.position)
    (is_laid_out q.layout course.layout) tests.1 in
    let two = and_parts (q.reset_count == pop_id.reset_count && q.pop_count == pop_id.pop_count) (q.next_avail == course.position)
    one.0 in (
      ap (λ (n : ℕ). at_position q.layout n) (eqb-true q.next_avail course.position two.1)
          ∙ same_layout q.layout course.layout course.position one.1,
      tests.2,
      eqb-true len asked tests.0,
    )
