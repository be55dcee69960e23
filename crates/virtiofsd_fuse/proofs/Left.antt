-- What a row leaves, by how it ended.
use Rattle.std.proofs.Common.{◌≡◌, ℕ, ◌+◌, length, Result, Ok, Err}
use Rattle.std.specs.Prelude.{IfOk, OnOk, OnErr}
use Rattle.server_segments.specs.declared.error.Error.{Error}
use Rattle.server_segments.specs.ReaderAndWriterView.{WriterView}
use Rattle.server_replies.specs.WholeReplies.{LeavesWriter}

pub left_length : (result : Result ℕ Error) (old new : WriterView) → LeavesWriter result old new → IfOk result (λ n. n ≡ length new.written)
left_length (Ok n) old new h = h.0
left_length (Err e) old new h = tt

pub left_room : (result : Result ℕ Error) (old new : WriterView) → LeavesWriter result old new
    → OnOk result (length new.written + new.free ≡ length old.written + old.free)
left_room (Ok n) old new h = h.1
left_room (Err e) old new h = tt

pub left_same : (result : Result ℕ Error) (old new : WriterView) → LeavesWriter result old new → OnErr result (new ≡ old)
left_same (Ok n) old new h = tt
left_same (Err e) old new h = h
