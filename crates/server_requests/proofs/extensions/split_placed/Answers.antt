use Rattle.std.proofs.Common.{refl}
use Rattle.server_requests.proofs.PlaceLemmas.{parts_in}
use Rattle.server_requests.proofs.extensions.split_placed.Goals as goal

pub returns-clause-places : goal.returns-clause-places
returns-clause-places c = λ request here.
    parts_in request c.args.bytes _ _ c.args.n c.split_at.ensures.front c.split_at.ensures.back c.requires refl refl here
