use Rattle.std.proofs.Common.{◌≡◌, ◌+◌, ◌-◌, ◌<◌, [], ◌∷◌, length, drop, get_or, sym, ◌∙◌, arith}
use Rattle.std.proofs.lemmas.Grind.{common_steps}
use Rattle.std.proofs.lemmas.List.{places}
use Rattle.server_segments.proofs.Placing.{behind_some, behind_none}
use Rattle.server_segments.proofs.writer.segments_behind.Goals as goal

pub returns-then-segment-segments-clause-ok : goal.returns-then-segment-segments-clause-ok
returns-then-segment-segments-clause-ok c =
    let none : c.in-Ok.behind.items ≡ [] = grind (arith, common_steps) in
    none ∙ sym (behind_none c.args.segments.now c.args.place.segment c.args.place.used (omega arith))

pub returns-clause-ok : goal.returns-clause-ok
returns-clause-ok c =
    let p = c.args.place in
    let some : p.segment < length c.args.segments.now = omega (arith, c.requires.there) in
    let all : c.extend_from_slice.new.self.items ≡ (get_or c.args.segments.now p.segment 0 - p.used)
    ∷ drop (p.segment + 1) c.args.segments.now = grind (arith, common_steps, places) in
    all ∙ sym (behind_some c.args.segments.now p.segment p.used c.requires some)
