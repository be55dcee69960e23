use Rattle.server_requests.proofs.LabelLemmas.{group_kept}
use Rattle.server_requests.proofs.extensions.part.Goals as goal

pub returns-then-kind-eq-EXT_GROUPS-clause-places :
    goal.returns-then-kind-eq-EXT_GROUPS-clause-places
returns-then-kind-eq-EXT_GROUPS-clause-places c =
    group_kept c.group_part.result c.args.sent c.args.bytes c.args.kind c.group_part.ensures.label c.if-kind-eq-EXT_GROUPS.true
