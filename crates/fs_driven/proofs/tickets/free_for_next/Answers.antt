use Rattle.std.proofs.Common.{◌<◌, ◌^◌, ◌∙◌, ◌∷◌, [], arith, refl, rules}
use Rattle.fs_driven.proofs.tickets.free_for_next.Goals as goal

pub returns-clause-other : goal.returns-clause-other
returns-clause-other c = λ out next later same is.
    let small : c.args.handle.now.ticket < 2 ^ 32 = search rules in
    c.law_tickets.ensures c.args.handle.now (next ∷ []) 0 1 c.args.handle.now next
    (out, same ∙ c.abandon.ensures.free.0.0.2, later) small (omega arith) (omega arith) refl refl is
