use Rattle.std.proofs.Common.{◌≡◌, ◌<◌, ◌≤◌, ◌-◌, length, map, drop}
use Rattle.fuse_fs.specs.Lengths.{filled, past}
use Rattle.vm_memory_core.specs.Window.{places}
use Rattle.fs_device.proofs.behind.window_at.Given as goal

abbrev pub invariant-loop-rest : goal.invariant-loop-rest
invariant-loop-rest l = record {
  there : l.rest < length (places (drop l.i l.windows));
  before : l.rest ≤ l.at;
  places : drop l.rest (places (drop l.i l.windows)) ≡ drop l.at (places (drop l.index l.windows));
  rooms : past l.rest (filled (map (λ w. w.len) (drop l.i l.windows))) ≡ past l.at (filled (map (λ w. w.len) (drop l.index l.windows)));
}

abbrev pub decreases-loop-rest : goal.decreases-loop-rest
decreases-loop-rest l = length l.windows - l.i
