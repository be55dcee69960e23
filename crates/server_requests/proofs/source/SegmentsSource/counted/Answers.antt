use Rattle.std.proofs.Common.{◌≡◌, ◌++◌, rules}
use Rattle.server_requests.proofs.PlaceLemmas.{front_in}
use Rattle.server_requests.proofs.source.SegmentsSource.counted.Goals as goal

pub returns-in-Ok-Borrowed-clause-places : goal.returns-in-Ok-Borrowed-clause-places
returns-in-Ok-Borrowed-clause-places c = λ front h.
    let whole : c.args.self.reader.left ≡ c.in-Ok-Borrowed.bytes.now ++ c.read_counted.new.r.left = search rules in
    front_in front _ _ _ whole h

pub returns-in-Ok-Owned-clause-places : goal.returns-in-Ok-Owned-clause-places
returns-in-Ok-Owned-clause-places c = λ front h.
    let whole : c.args.self.reader.left ≡ c.deref.result.now ++ c.read_counted.new.r.left = search rules in
    front_in front _ _ _ whole h
