-- What a server's method owes for a request, as the result of serving.
use Rattle.std.specs.Prelude.{◌≡◌, ℕ, Bool, false, List, Result}
use Rattle.fuse_in.specs.declared.session.InHeader.{InHeader}
use Rattle.fuse_wire.specs.declared.opcodes.Opcode.{Opcode}
use Rattle.server_segments.specs.declared.error.Error.{Error}
use Rattle.server_segments.specs.ReaderAndWriterView.{WriterView}
use Rattle.server_requests.specs.Reading.{Parser}
use Rattle.server_replies.specs.WholeReplies.{LeavesWriter}
use Rattle.server_meanings.specs.Grammar.{Meaning, Given, given, ended, row}
use Rattle.server_meanings.specs.Serving.{May, Handles, setting, lacks_memory}
use Rattle.virtiofsd_fuse.specs.declared.server.Server.{Server}

-- a server handles a request with this meaning, from one state to another
abbrev pub ServerHandles :
    {F : Type 0} → May F → Server F → (room : ℕ) → Meaning → Result ℕ Error → List ℕ → Server F → Type 0
ServerHandles may before room m result written after =
    Handles may (setting before.page_size before.options.0 room) m before.fs result written
    after.options.0 after.fs

-- a server handles a row of the grammar, which reads these bytes behind the header
abbrev pub RowHandles : {F : Type 0} → May F → Server F → (room : ℕ) → InHeader → (Given → Parser Meaning)
    → List ℕ → Result ℕ Error → List ℕ → Server F → Type 0
RowHandles may before room head row bytes result written after =
    ServerHandles may before room (ended head.unique (row (given head before.options.0 room) bytes)) result
    written after

-- a server handles the row of an opcode
abbrev pub OpcodeHandles : {F : Type 0} → May F → Server F → (room : ℕ) → InHeader → Opcode
    → List ℕ → Result ℕ Error → List ℕ → Server F → Type 0
OpcodeHandles may before room head opcode bytes result written after =
    RowHandles may before room head (λ g. row g opcode) bytes result written after

-- after a row its writer has the reply, or is unchanged after a fault; the page size is unchanged;
-- an allocation failed only if the row makes one
abbrev pub Leaves : {F : Type 0} → (takes : Bool) → Result ℕ Error → (old new : WriterView) →
    (before after : Server F) → Type 0
Leaves takes result old new before after =
    LeavesWriter result old new
    × (takes ≡ false → lacks_memory result ≡ false)
    × (after.page_size ≡ before.page_size)
