use Rattle.std.proofs.Common.{◌≡◌, ◌≤◌, [], length, arith, ap, rules}
use Rattle.std.proofs.lemmas.Grind.{common_steps}
use Rattle.std.proofs.lemmas.List.{places}
use Rattle.server_segments.specs.ReaderAndWriterView.{ReaderView}
use Rattle.server_segments.proofs.Cutting.{cut_before, cut_behind, long_before, long_behind}
use Rattle.server_segments.proofs.reader.Reader.split_at.Goals as goal

pub returns-then-offset-segment-clause-segments : goal.returns-then-offset-segment-clause-segments
returns-then-offset-segment-clause-segments c =
    let i = c.self.inside in
    let none : c.replace-later.new.dest.items ≡ [] = grind (arith, common_steps) in
    cut_before i.first.now i.later.items c.replace-later.new.dest.items c.args.offset c.args.self.now.segments
    (ap (λ (r : ReaderView). r.segments) c.self.view_is) c.if-offset-segment.true none

pub returns-then-offset-segment-clause-behind : goal.returns-then-offset-segment-clause-behind
returns-then-offset-segment-clause-behind c =
    let i = c.self.inside in
    let same : c.replace-later.result.items ≡ i.later.items = grind (arith, common_steps) in
    cut_behind i.first.now _ i.later.items c.replace-later.result.items c.args.offset c.args.self.now.segments c.over.result.segments
    (ap (λ (r : ReaderView). r.segments) c.self.view_is)
    c.if-offset-segment.true same (search (rules, places)) c.over.ensures.segments

pub returns-clause-segments : goal.returns-clause-segments
returns-clause-segments c =
    let i = c.self.inside in
    let front : c.swap.new.y.items ≡ c.in_ok-later.later.items = grind (arith, common_steps) in
    let short : length i.first.now ≤ c.args.offset = omega (arith, c.if-offset-segment.false) in
    rw front (long_before i.first.now i.later.items c.in_ok-later.later.items c.args.offset c.args.self.now.segments
    (ap (λ (r : ReaderView). r.segments) c.self.view_is) short c.in_ok-later.ensures.before)

pub returns-clause-behind : goal.returns-clause-behind
returns-clause-behind c =
    let i = c.self.inside in
    let short : length i.first.now ≤ c.args.offset = omega (arith, c.if-offset-segment.false) in
    let queue : c.swap.new.x.items ≡ c.take_front.new.queue.items = grind (arith, common_steps) in
    long_behind i.first.now i.later.items c.args.offset c.args.self.now.segments _ c.over-2.result.segments
    (ap (λ (r : ReaderView). r.segments) c.self.view_is) short c.in_ok-later.ensures.behind
    (rw queue at c.over-2.ensures.segments)
