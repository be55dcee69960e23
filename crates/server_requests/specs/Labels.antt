-- Where the label lies among the extensions of a request that were read so far.
use Rattle.std.specs.Prelude.{◌≡◌, ℕ, false, List}
use Rattle.fuse_values.specs.declared.placed.Placed.{Placed}
use Rattle.fuse_values.specs.Places.{LabelStandsIn, NoLabelBefore, StandsIn, extension_start}
use Rattle.server_requests.specs.declared.extensions.SoFar.{SoFar}

-- n extensions were read: the label lies in one of them, or they have none if no context was sent
unfoldable pub LabelSoFar : (request : List ℕ) → (start n : ℕ) → SoFar → Type 0
LabelSoFar request start n sent =
    LabelStandsIn request start sent.received.secctx
    × (sent.was_sent ≡ false → NoLabelBefore request start n)

-- n extensions were read, and the bytes that are left begin with the next one
unfoldable pub ReadSoFar : (request : List ℕ) → (start n : ℕ) → SoFar → (rest : Placed) → Type 0
ReadSoFar request start n sent rest =
    StandsIn request rest
    × (rest.at ≡ extension_start request start n)
    × LabelSoFar request start n sent
