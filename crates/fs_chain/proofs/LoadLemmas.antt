-- Loads in parts: the bytes that are wanted fit the load, what is refused of them, and a walk goes on whatever part of a load is kept.
use Rattle.std.proofs.Common.{◌≡◌, ◌==◌, ℕ, ◌+◌, ◌<◌, ◌≤◌, ◌++◌, ◌∙◌, List, Bool, Option, false, length, Some, None, inl, inr, subst, ap}
use Rattle.std.proofs.Common.{◌⊎◌, sym, refl, arith, if◌then◌else◌}
use Rattle.std.proofs.lemmas.Bool.Decides.{nat_tests}
use Rattle.std.proofs.lemmas.List.{length-append}
use Rattle.std.specs.Global.{Vec}
use Rattle.vm_iotlb.specs.declared.iova.IovaRange.{IovaRange}
use Rattle.vm_iotlb.specs.declared.permissions.Permissions.{Permissions}
use Rattle.fs_queue.specs.declared.fault.QueueError.{QueueError}
use Rattle.fs_regions.specs.declared.course.Course.{Course}
use Rattle.fs_regions.specs.declared.walk.QueueWalk.{QueueWalk}
use Rattle.fs_regions.specs.declared.walk.QueueWalk.TheVariants as walks
use Rattle.fs_regions.specs.Places.{places_in}
use Rattle.fs_regions.specs.Walks.{asked_len}
use Rattle.fs_chain.specs.declared.state.ChainState as state
use Rattle.fs_chain.specs.declared.state.ChainState.TheVariants as at
use Rattle.fs_chain.specs.declared.state.PopId.{PopId}
use Rattle.fs_chain.specs.declared.error.ChainError.{ChainError}
use Rattle.fs_chain.specs.declared.error.ChainError.TheVariants.{OutOfMemory}
use Rattle.fs_chain.specs.declared.queue.QueueState.{QueueState}
use Rattle.fs_chain.specs.Orders.{entries_asked, IfPopping, IsPopping, load_len, walk_error}
use Rattle.fs_chain.specs.Events.{event_fault, event_miss}
use Rattle.fs_chain.specs.Walks.{BeginsUnless, BeginsWhere, ContinuesUnless, LacksEvents, LacksRoom, WalksFrom, WalksOn}
use Rattle.fs_chain.specs.declared.popping.PopOutcome as walked
use Rattle.fs_chain.specs.declared.chain_handle.ChainHandle.{ChainHandle}
use Rattle.fs_chain.specs.Loads.{AreDue, AreWanted, AreWhole, RefusesAPop, came, due_len, whole}

within : (s : state.ChainState) (P : QueueWalk → Type 0) (n : ℕ) → IsPopping s → IfPopping s P →
    ((walk : QueueWalk) → P walk → n ≤ asked_len walk) → n ≤ load_len s
within (at.Popping course pop_id walk) P n is p h = h walk p
within s P n is p h = absurd is

-- with those that came before
pub fits : (w : ChainHandle) (n : ℕ) → AreWanted w n → came w + n ≤ load_len w.state
fits w n wanted =
    let same = wanted.2 in
    within w.state _ (came w + n) wanted.1.0 wanted.1.1 (λ walk p. let less = p.0 in let most = p.1.1 in omega (arith, less, most, same))

-- a load of a table's entries isn't empty
some_len : (s : state.ChainState) → 0 < entries_asked s → 0 < load_len s
some_len (at.Popping course pop_id (walks.Entries w)) asks = omega (arith, asks)
some_len (at.Popping course pop_id (walks.Index w)) asks = omega arith
some_len (at.Popping course pop_id (walks.RingEntry w)) asks = omega arith
some_len s asks = absurd (omega (arith, asks))

some_asked : (n : ℕ) → 0 < n → (n == 0) ≡ false
some_asked n some = grind (arith, nat_tests)

-- bytes that are the whole of what came are as many as the entries that are asked for have
ends_load : (w : ChainHandle) (loaded : List ℕ) → whole w loaded ≡ loaded → length loaded ≡ due_len w loaded → 0 < entries_asked w.state
    → came w + length loaded ≡ load_len w.state
ends_load w loaded all len asks =
    let wants : (load_len w.state == 0) ≡ false = some_asked (load_len w.state) (some_len w.state asks) in
    let due : length loaded ≡ load_len w.state = len ∙ ap (λ (t : Bool). if t then length loaded else load_len w.state) wants in
    let none : w.part.items ++ loaded ≡ loaded = sym (ap (λ (t : Bool). if t then loaded else w.part.items ++ loaded) wants) ∙ all in
    let sum = length-append w.part.items loaded in
    let same = ap length none in
    omega (arith, due, sum, same)

-- what the handle refuses, of bytes that are due
pub refuses_a_pop : (w : ChainHandle) (q : QueueState) (loaded : List ℕ) (e : ChainError) → AreDue w loaded
    → length loaded ≡ due_len w loaded → whole w loaded ≡ loaded
    → ((walk_error w.state q (length loaded) ≡ Some e) ⊎ ((e ≡ OutOfMemory) × (walk_error w.state q (length loaded) ≡ None)))
    → (e ≡ OutOfMemory → LacksRoom w) → RefusesAPop w q loaded e
refuses_a_pop w q loaded e due len all (inl is) memory = inl (due, subst (λ (n : ℕ). walk_error w.state q n ≡ Some e) len is)
refuses_a_pop w q loaded e due len all (inr lacks) memory =
    let room = memory lacks.0 in
    inr (inl (lacks.0, inl (ends_load w loaded all len room.0, room), due, subst (λ (n : ℕ). walk_error w.state q n ≡ None) len lacks.1))

-- bytes that are due begin a walk, or they are a whole load, or they are wanted
pub due : (w : ChainHandle) (loaded : List ℕ) → AreDue w loaded →
    (load_len w.state ≡ 0) ⊎ AreWhole w (length loaded) ⊎ AreWanted w (length loaded)
due w loaded (inl none) = inl none
due w loaded (inr some) = inr some.1

-- ---- a walk is the same, whatever part of a load the handle keeps

module _ (w w' : ChainHandle) (aside kept : Vec ℕ) (q q' : QueueState) (result : walked.PopOutcome) where
  abbrev before : ChainHandle
  before = record w { part = aside }

  abbrev after : ChainHandle
  after = record w' { part = kept }

  lacks : (e : QueueError) (miss : Option (IovaRange × Permissions)) → LacksEvents e miss before w' q q' result →
      LacksEvents e miss w after q q' result
  lacks e None h = h
  lacks e (Some r) h = h

  begins_where : (fault : Option QueueError) → BeginsWhere fault before w' q q' result → BeginsWhere fault w after q q' result
  begins_where None h = h
  begins_where (Some e) h = lacks e (event_miss (places_in w.regions) q) h

  begins : (stopped : Option QueueError) → BeginsUnless stopped before w' q q' result → BeginsUnless stopped w after q q' result
  begins None h = begins_where (event_fault (places_in w.regions) q) h
  begins (Some why) h = h

  carries_on : (stopped : Option QueueError) (course : Course) (pop_id : PopId) (walk : QueueWalk) (bytes : List ℕ)
      → ContinuesUnless stopped course pop_id walk bytes before w' q q' result
      → ContinuesUnless stopped course pop_id walk bytes w after q q' result
  carries_on None course pop_id walk bytes h = h
  carries_on (Some why) course pop_id walk bytes h = h

  walks_from : (s : state.ChainState) (bytes : List ℕ) → WalksFrom s bytes before w' q q' result → WalksFrom s bytes w after q q' result
  walks_from at.Free bytes h = begins q.stopped h
  walks_from (at.Popping course pop_id walk) bytes h = carries_on q.stopped course pop_id walk bytes h
  walks_from s bytes h = h

-- by the same bytes, from a handle to one that are these but for that part
pub walks_apart : (w before w' after : ChainHandle) (q q' : QueueState) (result : walked.PopOutcome) (bytes all : List ℕ)
    → before ≡ record w { part = before.part }
    → after ≡ record w' { part = after.part } → bytes ≡ all → WalksOn bytes before w' q q' result → WalksOn all w after q q' result
walks_apart w before w' after q q' result bytes all from to same h =
    let there = subst (λ (x : ChainHandle). WalksOn bytes x w' q q' result) from h in
    let here = walks_from w w' before.part after.part q q' result w.state bytes there in
    subst (λ (l : List ℕ). WalksOn l w after q q' result) same
    (subst (λ (x : ChainHandle). WalksOn bytes w x q q' result) (sym to) here)

-- it goes on by a load that came in parts
pub joined_proceeds : (w joined new : ChainHandle) (q q' : QueueState) (result : walked.PopOutcome) (loaded : List ℕ)
    → 0 < load_len w.state
    → joined ≡ record w { part = joined.part } → joined.state ≡ w.state → joined.part.items ≡ w.part.items ++ loaded
    → walk_error joined.state q (came joined) ≡ None → WalksOn joined.part.items joined new q q' result
    → (walk_error w.state q (length (whole w loaded)) ≡ None) × WalksOn (whole w loaded) w new q q' result
joined_proceeds w joined new q q' result loaded some from same items right walks =
    let all : joined.part.items ≡ whole w loaded =
    items ∙ sym (ap (λ (t : Bool). if t then loaded else w.part.items ++ loaded) (some_asked (load_len w.state) some)) in (
      subst (λ (l : List ℕ). walk_error w.state q (length l) ≡ None) all
          (subst (λ (s : state.ChainState). walk_error s q (came joined) ≡ None) same right),
      walks_apart w joined new new q q' result joined.part.items (whole w loaded) from refl all walks,
    )
