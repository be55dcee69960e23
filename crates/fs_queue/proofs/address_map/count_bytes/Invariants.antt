use Rattle.std.proofs.Common.{◌≡◌, ◌+◌, ◌-◌, ◌^◌, ◌<◌, min, drop}
use Rattle.fs_queue.specs.Taking.{total_len, of_direction}
use Rattle.fs_queue.proofs.address_map.count_bytes.Given as goal

abbrev pub invariant-loop-descriptor : goal.invariant-loop-descriptor
invariant-loop-descriptor l = record {
  fits : l.sum < 2 ^ 64;
  sum : min (l.sum + total_len (of_direction l.write_only (drop l.descriptor-index l.descriptors))) (2 ^ 64 - 1)
      ≡ min (total_len (of_direction l.write_only l.descriptors)) (2 ^ 64 - 1);
}
