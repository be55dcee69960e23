-- The server's answer to one request, for a chain whose exchange has only lengths.
use Rattle.std.specs.Prelude.{◌≡◌, ◌≤◌, ℕ, List, length, Option, Some, None}
use Rattle.virtiofsd_fuse.specs.declared.server.Server.{Server}
use Rattle.server_meanings.specs.Serving.{May}
use Rattle.fs_device.specs.declared.answer_by_copy.CopiedReply.{CopiedReply}
use Rattle.plain_machine.specs.Step.{Calls}
use Rattle.fs_device.specs.DeviceView.{server_state, AnswersRequest}

-- a request is answered with a reply that fits its reply buffer, or with a fault; or an allocation
-- failed, and nothing changed
abbrev pub IsAnswered :
    {F : Type 0} → May F → Server F → (request : List ℕ) → (room : ℕ) → Option CopiedReply → Server F → Type 0
IsAnswered may before request room (Some r) after =
    ((calls : Calls)
    × AnswersRequest may before.page_size (server_state before) request room calls r.bytes.items r.fault
    (server_state after))
    × (length r.bytes.items ≤ room)
IsAnswered may before request room None after = (after.options.0 ≡ before.options.0) × (after.fs ≡ before.fs)
