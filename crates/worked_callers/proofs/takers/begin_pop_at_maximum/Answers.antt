use Rattle.std.proofs.Common.{◌≡◌, [], Result, IfErr, OnErr, subst, sym}
use Rattle.fs_chain.specs.Loads.{IsSame, RefusesAPop}
use Rattle.fs_chain.specs.declared.error.ChainError.{ChainError}
use Rattle.fs_chain.specs.declared.error.ChainError.TheVariants as error
use Rattle.fs_chain.specs.declared.loads.LoadOutcome.{LoadOutcome}
use Rattle.fs_chain.specs.declared.queue.QueueState.{QueueState}
use Rattle.notify.specs.Threads.{SleepsNow, after_act}
use Rattle.fs_notify.specs.Takers.{IsModelOf, ways_of}
use Rattle.worked_callers.proofs.ModelActs.{full_so}
use Rattle.worked_callers.proofs.takers.begin_pop_at_maximum.Goals as goal

pub returns : goal.returns
returns c =
    let old = c.args.handle.now in
    let new = c.pop.new.self in
    let q = c.args.queue.now in
    let after = c.pop.new.queue in
    record {
      proceeds = c.pop.ensures.proceeds;
      error = c.pop.ensures.error;
      same = c.pop.ensures.same;
      full = λ is s of asker shown.
          let why : RefusesAPop old q [] error.ChainInFlight =
          subst (λ (r : Result LoadOutcome ChainError). IfErr r (RefusesAPop old q [])) is c.pop.ensures.error in
          let same =
          subst (λ (r : Result LoadOutcome ChainError). OnErr r (IsSame old new × (after ≡ q))) is c.pop.ensures.same in
          let law = c.law_takers.ensures.full q s (full_so old q c.requires.free why) of asker shown in
          (law.0, subst (λ (k : QueueState). IsModelOf k (after_act (ways_of q) s SleepsNow)) (sym same.1) law.1);
    }
