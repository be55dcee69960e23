use Rattle.std.proofs.Common.{ℕ, List, length}
use Rattle.fuse_values.specs.Places.{StandsIn}
use Rattle.server_requests.specs.Extras.{sent_of, nothing_sent, extensions}
use Rattle.server_requests.specs.Labels.{ReadSoFar}
use Rattle.server_requests.proofs.ExtraLemmas.{ToGo}
use Rattle.server_requests.proofs.extensions.extensions.Given as goal

abbrev pub invariant-loop-options : goal.invariant-loop-options
invariant-loop-options l = record {
  reads : ToGo l.options.0 (extensions l.options.0 (length l.fn.bytes.bytes.now) nothing_sent l.fn.bytes.bytes.now)
      (sent_of l.progress.sent) l.progress.rest.bytes.now;
  places : (request : List ℕ) → StandsIn request l.fn.bytes
      → (n : ℕ) × ReadSoFar request l.fn.bytes.at n l.progress.sent l.progress.rest;
}

abbrev pub decreases-loop-options : goal.decreases-loop-options
decreases-loop-options l = length l.progress.rest.bytes.now
