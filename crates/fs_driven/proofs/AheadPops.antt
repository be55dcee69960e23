-- A pop by loads ahead drives the run.
use Rattle.std.proofs.Common.{◌≡◌, ℕ, List, [], ◌∷◌, Some, None, refl, subst, sym, ap, ◌∙◌, Result, Ok, Err, IfErr, IfOk, OnErr, OnOk}
use Rattle.std.specs.Borrow.{Bor}
use Rattle.fs_chain.specs.declared.error.ChainError.{ChainError}
use Rattle.fs_chain.specs.declared.error.ChainError.TheVariants.{WrongOrder}
use Rattle.fs_chain.specs.Ahead.{PopsAhead, WalksAhead, ahead_error}
use Rattle.fs_chain.proofs.HoldsAhead.{steps_ahead}
use Rattle.fs_chain.specs.Holds.{pop_of}
use Rattle.fs_chain.specs.Loads.{ProceedsSo, whole}
use Rattle.fs_chain.specs.Orders.{load_len, is_out}
use Rattle.fs_chain.specs.Walks.{WalksFrom}
use Rattle.fs_regions.specs.Ahead.{AheadBytes, last_first, loads_ahead}
use Rattle.fs_regions.specs.declared.ahead.LoadAhead.{LoadAhead}
use Rattle.fs_chain.specs.declared.loads.LoadOutcome as outcome
use Rattle.fs_chain.specs.declared.loads.LoadOutcome.TheVariants as outcomes
use Rattle.fs_chain.specs.declared.popping.PopOutcome as walked
use Rattle.fs_driven.specs.Events.{DrivesOne, EventsOf, transition}
use Rattle.fs_chain.specs.declared.chain_handle.ChainHandle.{ChainHandle}
use Rattle.fs_driven.specs.declared.commands.DriverCall.TheVariants as does
use Rattle.fs_driven.specs.declared.commands.Results.TheVariants as gives
use Rattle.fs_chain.specs.declared.queue.QueueState.{QueueState}
use Rattle.fs_chain.specs.declared.state.ChainState as state
use Rattle.fs_chain.specs.declared.state.ChainState.TheVariants as at
use Rattle.fs_driven.proofs.Calls.{no_error, refuses, same_all, same_held}
use Rattle.fs_driven.proofs.QueuePlaces.{DrivesAt, driver_before, drives_one}
use Rattle.fs_driven.proofs.Pops.{Popping, begun_keeps, gone_keeps, no_part, part_keeps, popped}

proceeds_at : (old new : ChainHandle) (q q' : QueueState) (bytes : List ℕ) (result : outcome.LoadOutcome)
    (st : state.ChainState) → old.state ≡ st → ProceedsSo old q bytes result new q' → Popping old new q q'
proceeds_at old new q q' bytes outcomes.Part (at.Popping course pop_id walk) is proceeds =
    part_keeps old new q q' bytes course pop_id walk is proceeds
proceeds_at old new q q' bytes (outcomes.On result) at.Free is proceeds =
    begun_keeps old new q q' result q.stopped is
    (subst (λ (st : state.ChainState). WalksFrom st (whole old bytes) old new q q' result) is proceeds.4)
proceeds_at old new q q' bytes (outcomes.On result) (at.Popping course pop_id walk) is proceeds =
    gone_keeps old new q q' (whole old bytes) result course pop_id walk q.stopped
    (subst (λ (st : state.ChainState). WalksFrom st (whole old bytes) old new q q' result) is proceeds.4)
proceeds_at old new q q' bytes (outcomes.On result) _ is proceeds =
    absurd (subst (λ (st : state.ChainState). WalksFrom st (whole old bytes) old new q q' result) is proceeds.4)
proceeds_at old new q q' bytes outcomes.Part _ is proceeds = absurd (no_part old bytes proceeds.1 (ap load_len is))

two_pops : (one two three : ChainHandle) (q q' q'' : QueueState) → Popping one two q q' →
    Popping two three q' q'' → Popping one three q q''
two_pops one two three q q' q'' first later =
    record {
      memory = (later.memory.0 ∙ first.memory.0, later.memory.1 ∙ first.memory.1);
      pushing = later.pushing ∙ first.pushing;
      quiet = later.quiet;
    }

ahead_keeps : (taken : List AheadBytes) (old new : ChainHandle) (q q' : QueueState) (result : outcome.LoadOutcome)
    → WalksAhead taken old new q q' result → Popping old new q q'
ahead_keeps [] old new q q' result walks = proceeds_at old new q q' [] result old.state refl walks.1
ahead_keeps (l ∷ taken) old new q q' result (w, k, earlier, walks, wants, is, long, proceeds) =
    two_pops old w new q k q' (ahead_keeps taken old w q k earlier walks)
    (proceeds_at w new k q' l.bytes result w.state refl proceeds)

ahead_drives : (page_size : ℕ) (old new : ChainHandle) (q q' : QueueState) (ahead : Bor (List LoadAhead))
    (bytes : Bor (List ℕ)) (result : walked.PopOutcome) → old.state ≡ at.Free → Popping old new q q'
    → (pop : PopsAhead (loads_ahead ahead.now bytes.now) old new q q' (outcomes.On result))
    → DrivesAt page_size old new q q' (does.PopAhead ahead bytes) (gives.PoppedAhead (Ok result))
ahead_drives page_size old new q q' ahead bytes result free same pop ws k there u s i os pops push all =
    let was = all.fits old there in
    let by = steps_ahead (last_first pop.first []) old new q q' (outcomes.On result) pop.walks s i.number all.queue was.0 was.1
    all.small in
    popped s i page_size k q q' ws os pops push old new
    (pop_of q by.0) result
    (λ es d. EventsOf (transition i.number page_size k (driver_before s i ws os pops) d old new q q') (does.PopAhead ahead bytes) u
    (gives.PoppedAhead (Ok result)) es)
    all there (ap is_out free) same refl
    (λ after os' loads' es reports. (pop, by.0, by.1, reports))
    by.2

may_begin : (st : state.ChainState) (q : QueueState) → ahead_error st q ≡ None → st ≡ at.Free
may_begin at.Free q is = refl
may_begin _ q is = absurd (no_error WrongOrder is)

pub ahead_result : (old new : ChainHandle) (q q' : QueueState) (ahead : Bor (List LoadAhead))
    (bytes : Bor (List ℕ)) (result : Result walked.PopOutcome ChainError)
    → IfErr result (λ e. ahead_error old.state q ≡ Some e)
    → OnOk result (ahead_error old.state q ≡ None)
    → OnErr result ((new ≡ old) × (q' ≡ q))
    → IfOk result (λ returned. PopsAhead (loads_ahead ahead.now bytes.now) old new q q' (outcomes.On returned))
    → (page_size : ℕ) → DrivesOne page_size old new q q' (does.PopAhead ahead bytes) (gives.PoppedAhead result)
ahead_result old new q q' ahead bytes (Ok returned) err ok same by page_size =
    drives_one _ _ (ahead_drives page_size old new q q' ahead bytes returned (may_begin old.state q ok)
    (ahead_keeps (last_first by.first []) old new q q' (outcomes.On returned) by.walks) by)
ahead_result old new q q' ahead bytes (Err e) err ok same by page_size =
    subst (λ (r : QueueState). DrivesOne page_size old new q r (does.PopAhead ahead bytes)
    (gives.PoppedAhead (Err e))) (sym same.1)
    (refuses page_size old new q (does.PopAhead ahead bytes) (gives.PoppedAhead (Err e))
    (same_held old new same.0)
    (λ i k d d' u pop. (refl, (same_all old new same.0, refl, pop), err)))
