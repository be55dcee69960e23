use Rattle.std.proofs.Common.{refl, sym}
use Rattle.server_requests.proofs.LabelLemmas.{empty_sent, label_sent}
use Rattle.server_requests.proofs.extensions.security_part.Goals as goal

pub returns-then-kind-eq0-clause-places : goal.returns-then-kind-eq0-clause-places
returns-then-kind-eq0-clause-places c = λ request start n here place is before. empty_sent request start n c.args.sent _ refl refl before

pub returns-in-Ok-clause-places : goal.returns-in-Ok-clause-places
returns-in-Ok-clause-places c = λ request start n here place is before.
    label_sent request start n c.args.bytes.at c.args.kind _ c.args.sent _ c.in-Ok.label (sym c.if-not-may_be_context.ensures)
    c.if-kind-eq0.false refl refl place is (c.in-Ok.ensures.places request here) before
