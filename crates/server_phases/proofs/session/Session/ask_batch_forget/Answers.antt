use Rattle.std.proofs.Common.{◌++◌, ◌+◌, ◌∙◌, List, ℕ, append_assoc, ap, drop, length, subst}
use Rattle.std.proofs.lemmas.List.{length-append}
use Rattle.server_meanings.specs.Serving.{setting}
use Rattle.server_phases.specs.Asking.{DecodedStandsIn}
use Rattle.server_phases.proofs.Reporting.{fault_decoded}
use Rattle.server_phases.proofs.session.Session.ask_batch_forget.Goals as goal

pub returns-in-Pairs-clause-decoded : goal.returns-in-Pairs-clause-decoded
returns-in-Pairs-clause-decoded c = rw (c.in-Pairs.ensures.reads c.args.head.now c.args.self.now.options.0 c.args.room).0
    (c.ask_pairs.ensures.decoded (drop 40 c.args.source.bytes.now))

pub returns-in-Error-clause-decoded : goal.returns-in-Error-clause-decoded
returns-in-Error-clause-decoded c = c.refused.ensures.decoded c.args.self.now.page_size c.args.self.now.options.0 _ _
    (c.in-Error.ensures.reads c.args.head.now c.args.self.now.options.0 c.args.room)

pub returns-in-Fault-clause-decoded : goal.returns-in-Fault-clause-decoded
returns-in-Fault-clause-decoded c = fault_decoded (setting c.args.self.now.page_size c.args.self.now.options.0 c.args.room) _ _
    (c.in-Fault.ensures.reads c.args.head.now c.args.self.now.options.0 c.args.room).0

pub returns-in-Pairs-clause-places : goal.returns-in-Pairs-clause-places
returns-in-Pairs-clause-places c = λ header forty.
    let more = c.forgets_meaning.new.source.bytes.now in
    let front = c.in-Pairs.ensures.places in
    subst (λ (l : List ℕ). DecodedStandsIn l 48 c.ask_pairs.result)
    (append_assoc header front.0 more ∙ ap (λ (l : List ℕ). header ++ l) front.2)
    (c.ask_pairs.ensures.places (header ++ front.0)
    (length-append header front.0 ∙ ap (λ (n : ℕ). n + length front.0) forty ∙ ap (λ (n : ℕ). 40 + n) front.1))
