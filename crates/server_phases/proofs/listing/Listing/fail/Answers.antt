use Rattle.std.proofs.Common.{◌∷◌, ◌++◌, sym, ap, ◌∙◌}
use Rattle.server_phases.proofs.Gathered.{by_reply, error_reply, fails_alone, held_reply, look_up_failed}
use Rattle.server_phases.specs.Gathering.{look_up, look_ups}
use Rattle.server_phases.specs.Waiting.{first_call}
use Rattle.server_phases.proofs.listing.Listing.fail.Goals as goal

pub returns-then-brought_nodes-clause-reply : goal.returns-then-brought_nodes-clause-reply
returns-then-brought_nodes-clause-reply c = λ list es holds.
    let reply = c.entries_reply.ensures in
    rw (reply.front, reply.len) (held_reply c.args.self list es c.args.error holds (sym c.brought_nodes.ensures ∙ c.if-brought_nodes.true))

pub returns-clause-reply : goal.returns-clause-reply
returns-clause-reply c = λ list es holds.
    rw c.error.ensures (error_reply c.args.self list es c.args.error holds (sym c.brought_nodes.ensures ∙ c.if-brought_nodes.false))

pub returns-then-brought_nodes-clause-looked_up : goal.returns-then-brought_nodes-clause-looked_up
returns-then-brought_nodes-clause-looked_up c = λ nodes s command list es d is holds dot.
    let self = c.args.self in
    let reply = c.entries_reply.ensures in
    let has_nodes = held_reply self list es c.args.error holds (sym c.brought_nodes.ensures ∙ c.if-brought_nodes.true) in
    rw (reply.front, reply.len)
    (look_up_failed s self command list es d c.args.error is holds nodes dot
    ∙ sym (ap (by_reply (first_call command ∷ (look_ups command es ++ look_up command d)) s.options) has_nodes))

pub returns-clause-alone : goal.returns-clause-alone
returns-clause-alone c = λ none s command list is. rw c.error.ensures (fails_alone s c.args.self command list c.args.error is)

pub returns-clause-looked_up : goal.returns-clause-looked_up
returns-clause-looked_up c = λ nodes s command list es d is holds dot.
    let self = c.args.self in
    let has_nodes = error_reply self list es c.args.error holds (sym c.brought_nodes.ensures ∙ c.if-brought_nodes.false) in
    rw c.error.ensures
    (look_up_failed s self command list es d c.args.error is holds nodes dot
    ∙ sym (ap (by_reply (first_call command ∷ (look_ups command es ++ look_up command d)) s.options) has_nodes))
