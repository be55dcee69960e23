use Rattle.std.proofs.Common.{◌≡◌, ◌+◌, ◌-◌, ◌^◌, ◌<◌, min, drop}
use Rattle.fs_queue.specs.Taking.{readable, total_len, writable}
use Rattle.fs_regions.proofs.fits.count_both.Given as goal

-- the sums so far, with those of what is left, are those of all
abbrev pub invariant-loop-descriptor : goal.invariant-loop-descriptor
invariant-loop-descriptor l = record {
  fits_request : l.request < 2 ^ 64;
  fits_reply : l.reply < 2 ^ 64;
  reads : min (l.request + total_len (readable (drop l.descriptor-index l.descriptors))) (2 ^ 64 - 1)
      ≡ min (total_len (readable l.descriptors)) (2 ^ 64 - 1);
  writes : min (l.reply + total_len (writable (drop l.descriptor-index l.descriptors))) (2 ^ 64 - 1)
      ≡ min (total_len (writable l.descriptors)) (2 ^ 64 - 1);
}
