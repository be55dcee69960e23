use Rattle.std.proofs.Common.{◌∙◌, ◌+◌, [], ◌∷◌, length, length-append, ap, refl, sym, arith}
use Rattle.fs_regions.proofs.InOrder.{IsEntry, in_order_ends, in_order_none, in_order_on, kept, kept_all}
use Rattle.fs_regions.proofs.whole_table.read_in_order.Goals as goal

pub entries-init : goal.entries-init
entries-init c = record {
  order = in_order_none c.args.walk.now c.args.bytes.now c.args.descriptors.now.items c.requires.first;
  front = kept_all c.args.descriptors.now.items;
  len = omega arith;
  capacity = refl;
  few = omega arith;
}

pub returns-then-not-has_next-clause-ends : goal.returns-then-not-has_next-clause-ends
returns-then-not-has_next-clause-ends c = λ yes.
    let is : IsEntry c.args.walk.now c.args.bytes.now c.entries.index c.descriptor_at-descriptor.result = record {
      first = c.requires.first;
      whole = let bytes = c.requires.bytes in let whole = c.requires.whole in omega (arith, bytes, whole);
      joins = let joins = c.requires.joins in let whole = c.requires.whole in omega (arith, joins, whole);
      inside = let test = c.entries-test.true in let whole = c.requires.whole in omega (arith, test, whole);
      spells = c.descriptor_at-descriptor.ensures.bytes;
      fits = c.descriptor_at-descriptor.ensures.fits;
      ordinary = c.may_join.ensures.ordinary c.if-not-may_join.false;
      ends = c.may_join.ensures.ends c.if-not-may_join.false;
    } in
    in_order_ends c.args.walk.now c.args.bytes.now c.args.descriptors.now.items _ _ c.entries.index c.descriptor_at-descriptor.result is
    (sym c.has_next.ensures ∙ c.if-not-has_next.true) c.push_reserved.ensures.items c.entries.invariant.order

pub entries-preserved : goal.entries-preserved
entries-preserved c =
    let is : IsEntry c.args.walk.now c.args.bytes.now c.entries.index c.descriptor_at-descriptor.result = record {
      first = c.requires.first;
      whole = let bytes = c.requires.bytes in let whole = c.requires.whole in omega (arith, bytes, whole);
      joins = let joins = c.requires.joins in let whole = c.requires.whole in omega (arith, joins, whole);
      inside = let test = c.entries-test.true in let whole = c.requires.whole in omega (arith, test, whole);
      spells = c.descriptor_at-descriptor.ensures.bytes;
      fits = c.descriptor_at-descriptor.ensures.fits;
      ordinary = c.may_join.ensures.ordinary c.if-not-may_join.false;
      ends = c.may_join.ensures.ends c.if-not-may_join.false;
    } in
    record {
      order = in_order_on c.args.walk.now c.args.bytes.now c.args.descriptors.now.items _ _ c.entries.index (c.entries.index + 1)
          c.descriptor_at-descriptor.result is (sym c.has_next.ensures ∙ c.if-not-has_next.false)
          (c.proceeds_to.ensures c.if-not-proceeds_to.false) refl c.push_reserved.ensures.items c.entries.invariant.order;
      front = kept c.args.descriptors.now.items c.entries.descriptors.items _ c.descriptor_at-descriptor.result
          c.push_reserved.ensures.items c.entries.invariant.front;
      len =
          let more = ap length c.push_reserved.ensures.items in
          let long = length-append c.entries.descriptors.items (c.descriptor_at-descriptor.result ∷ []) in
          let len = c.entries.invariant.len in
          omega (arith, more, long, len);
      capacity = c.push_reserved.ensures.capacity ∙ c.entries.invariant.capacity;
      few = let test = c.entries-test.true in omega (arith, test);
    }
