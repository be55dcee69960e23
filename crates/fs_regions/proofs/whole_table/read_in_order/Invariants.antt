use Rattle.std.proofs.Common.{◌≡◌, ◌+◌, ◌-◌, ◌≤◌, length, take}
use Rattle.fs_regions.proofs.InOrder.{InOrder}
use Rattle.fs_regions.proofs.whole_table.read_in_order.Given as goal

abbrev pub invariant-entries : goal.invariant-entries
invariant-entries l = record {
  order : InOrder l.walk l.bytes l.fn.descriptors.items l.descriptors.items l.index;
  front : take (length l.fn.descriptors.items) l.descriptors.items ≡ l.fn.descriptors.items;
  len : length l.descriptors.items ≡ length l.fn.descriptors.items + l.index;
  capacity : l.descriptors.capacity ≡ l.fn.descriptors.capacity;
  few : l.index ≤ l.entries;
}

abbrev pub decreases-entries : goal.decreases-entries
decreases-entries l = l.entries - l.index
