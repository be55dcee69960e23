use Rattle.std.proofs.Common.{length}
use Rattle.virtio_fs_script.proofs.print.print_hexadecimal.Given as goal

abbrev pub decreases-loop-rest : goal.decreases-loop-rest
decreases-loop-rest g l = length l.rest
