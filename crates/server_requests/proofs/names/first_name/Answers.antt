use Rattle.std.proofs.Common.{◌≡◌, length, refl, sym, arith, take}
use Rattle.std.proofs.lemmas.List.{length-take-le}
use Rattle.std.proofs.lemmas.Grind.{common_steps}
use Rattle.server_requests.proofs.NameLemmas.{at_split}
use Rattle.server_requests.proofs.PlaceLemmas.{name_in}
use Rattle.server_requests.proofs.names.first_name.Goals as goal

pub returns-in-Some-clause-places : goal.returns-in-Some-clause-places
returns-in-Some-clause-places c = λ request here.
    let bytes = c.args.bytes.bytes.now in
    let len : length (take c.in-Some.end bytes) ≡ c.in-Some.end = length-take-le c.in-Some.end bytes (grind (arith, common_steps)) in
    name_in request c.args.bytes _ _ (at_split bytes c.in-Some.end (sym c.in-Some.ensures)) refl (omega (arith, len)) here
