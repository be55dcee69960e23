use Rattle.std.proofs.Common.{◌≡◌, ◌≢◌, suc, Err, length, arith, rules}
use Rattle.std.proofs.lemmas.Grind.{common_steps}
use Rattle.server_requests.proofs.ExtraLemmas.{more_left, fault_left, none_left}
use Rattle.server_requests.proofs.LabelLemmas.{label_read, none_read}
use Rattle.server_requests.proofs.extensions.extensions.Goals as goal

pub returns-in_err-progress-clause-reads : goal.returns-in_err-progress-clause-reads
returns-in_err-progress-clause-reads c =
    let some : length c.loop-options.progress.rest.bytes.now ≢ 0 = grind (arith, common_steps) in
    let failed : c.from_residual.result ≡ Err c.in_err-progress.field-0.0 = search rules in
    rw failed (fault_left _ _ _ _ _ some c.in_err-progress.ensures.fault.0 c.loop-options.invariant.reads)

pub loop-options-preserved : goal.loop-options-preserved
loop-options-preserved c =
    let some : length c.loop-options.progress.rest.bytes.now ≢ 0 = grind (arith, common_steps) in
    let before = c.loop-options.invariant in
    record {
      reads = more_left _ _ _ _ _ _ some c.in_ok-progress.ensures.reads c.in_ok-progress.ensures.shorter before.reads;
      places = λ request here.
          let p = before.places request here in (suc p.0, c.in_ok-progress.ensures.places request c.args.bytes.at p.0 p.1);
    }

pub returns-clause-reads : goal.returns-clause-reads
returns-clause-reads c =
    let none : length c.loop-options.progress.rest.bytes.now ≡ 0 = grind (arith, common_steps) in
    none_left _ _ _ _ none c.loop-options.invariant.reads

pub loop-options-init : goal.loop-options-init
loop-options-init c = record {
  reads = Prim.search rules;
  places = λ request here. (0, none_read request c.args.bytes c.nothing.result c.nothing.ensures.label here);
}

pub returns-clause-places : goal.returns-clause-places
returns-clause-places c = λ request here.
    let p = c.loop-options.invariant.places request here in
    label_read request c.args.bytes.at p.0 c.loop-options.progress.sent c.loop-options.progress.rest p.1
