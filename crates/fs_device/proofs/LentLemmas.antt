-- What a file is lent of host memory.
use Rattle.std.proofs.Common.{◌≡◌, ◌∙◌, length, map}
use Rattle.std.proofs.lemmas.List.{length-map}
use Rattle.vm_memory_core.specs.Host.{Host}
use Rattle.vm_memory_core.specs.Window.{Window, byte_in, places_of}
use Rattle.vm_memory_core.proofs.WindowLemmas.{length-span}

-- the bytes of a window are as many as it says
pub lent_length : (h : Host) (w : Window) → length (map (byte_in h) (places_of w)) ≡ w.len
lent_length h w = length-map (places_of w) (byte_in h) ∙ length-span w.len w.block w.offset w.io
