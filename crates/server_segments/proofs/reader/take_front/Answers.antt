use Rattle.std.proofs.Common.{◌∷◌, length, arith, refl, rules}
use Rattle.std.proofs.lemmas.List.{length-take-le, places}
use Rattle.std.proofs.lemmas.Grind.{common_steps}
use Rattle.server_segments.proofs.Cutting.{front_more, front_len, tail_none, tail_whole, before_more, behind_more, before_ends, behind_ends}
use Rattle.server_segments.specs.Segments.{segment_lengths}
use Rattle.server_segments.proofs.reader.take_front.Goals as goal

pub loop-part-preserved : goal.loop-part-preserved
loop-part-preserved c =
    let l = c.loop-part in
    let more = rw c.unwrap.ensures at c.push_back.ensures.items in
    record {
      all = front_more l.front.items c.push_back.new.self.items l.queue.items c.pop_front.new.self.items _ c.in-Some.segment _ _ _
          c.min-n.result more refl
          (tail_whole c.in-Some.segment.now c.min-n.result) c.in-Some.ensures.items (l.invariant.rest c.loop-part-test.true)
          l.invariant.all;
      len = front_len l.front.items c.push_back.new.self.items _ c.in-Some.segment.now c.min-n.result l.part c.args.offset more refl
          c.min-n.ensures l.invariant.len;
      rest = λ h. tail_none c.in-Some.segment.now c.min-n.result l.part c.min-n.ensures h;
      before = before_more l.front.items c.push_back.new.self.items l.queue.items c.pop_front.new.self.items _ c.in-Some.segment l.part
          c.min-n.result _ more
          (length-take-le c.min-n.result c.in-Some.segment.now (omega (arith, c.min-n.ensures))) c.min-n.ensures c.loop-part-test.true
          c.in-Some.ensures.items l.invariant.before;
      behind = behind_more l.queue.items c.pop_front.new.self.items c.in-Some.segment _ _ l.part c.min-n.result _ (search (rules, places))
          c.min-n.ensures c.in-Some.ensures.items
          (l.invariant.rest c.loop-part-test.true) l.invariant.behind;
      room = grind (
        arith,
        common_steps,
        l.invariant.room,
        c.push_back.ensures.len,
        c.push_back.ensures.capacity,
        c.in-Some.ensures.len,
        c.unwrap.ensures,
      );
    }

pub returns-clause-before : goal.returns-clause-before
returns-clause-before c = before_ends _ _ _ c.loop-part.part (omega arith) c.loop-part.invariant.before

pub returns-clause-behind : goal.returns-clause-behind
returns-clause-behind c = behind_ends (length c.loop-part.rest.now ∷ segment_lengths c.loop-part.queue.items) _ c.loop-part.part
    (omega arith) c.loop-part.invariant.behind
