-- The bytes of a reply that are still to be written: all of them, or only the header if the data is
-- already in the reply buffer.
use Rattle.std.specs.Prelude.{◌≡◌, ℕ, Bool, true, false, List, length, map, Option}
use Rattle.vm_memory_core.specs.Host.{Host, Place}
use Rattle.vm_memory_core.specs.Window.{byte_in}
use Rattle.fs_queue.specs.Windows.{Taken, chain_places}
use Rattle.fs_queue.specs.Taking.{RequestAndRoom}
use Rattle.fs_queue.specs.Returning.{PutFrontLast}
use Rattle.virtiofsd_fuse.specs.declared.server.Server.{Server}
use Rattle.server_meanings.specs.Serving.{May}
use Rattle.plain_machine.specs.declared.fault.Fault.{Fault}
use Rattle.fs_device.specs.declared.reply_front.PreparedReply.{PreparedReply}
use Rattle.fs_device.specs.declared.reply_front.ReplyFront.{ReplyFront}
use Rattle.fs_device.specs.declared.reply_front.ReplyFront.TheVariants as front
use Rattle.fs_device.specs.declared.answer_by_copy.CopiedReply.{CopiedReply}
use Rattle.plain_machine.specs.Step.{Calls, Exchange}
use Rattle.fs_device.specs.DeviceView.{AnswersRequest, ServesChain, request_of, server_state}

-- the bytes that are still to be written
abbrev pub front_bytes : ReplyFront → List ℕ
front_bytes (front.Reply bytes) = bytes.items
front_bytes (front.Header bytes) = bytes

-- whether only the header is still to be written
abbrev pub is_header : ReplyFront → Bool
is_header (front.Reply bytes) = false
is_header (front.Header bytes) = true

-- a reply that is still to be written whole
abbrev pub whole : CopiedReply → PreparedReply
whole r = record { front = front.Reply r.bytes; len = length r.bytes.items; fault = r.fault }

-- the exchange of an offered chain with this head, by this reply or fault
abbrev pub replied : (head : ℕ) → RequestAndRoom → (reply : List ℕ) → Option Fault → Exchange
replied head fetched reply fault =
    record { head = head; request = request_of fetched; reply = reply; fault = fault }

-- the request at some places is answered by a reply of this length; the reply buffer already has all of
-- it but its front
pub record AnswersAt {F : Type 0} (may : May F) (before : Server F) (old : Host) (request room : List Place)
    (a : PreparedReply) (new : Host) (after : Server F) : Type 0 where
  pub reply : List ℕ
  pub len : length reply ≡ a.len
  pub put : PutFrontLast old new room (front_bytes a.front) reply
  pub served : (calls : Calls)
      × AnswersRequest may before.page_size (server_state before) (map (byte_in old) request) (length room)
      calls reply a.fault (server_state after)

-- a chain is served by a reply of this length; the reply buffer already has all of it but its front
pub record AnswersFront {F : Type 0} (may : May F) (before : Server F) (old : Host) (taken : Taken)
    (fetched : RequestAndRoom) (a : PreparedReply) (new : Host) (after : Server F) : Type 0 where
  pub reply : List ℕ
  pub len : length reply ≡ a.len
  pub put : PutFrontLast old new (chain_places taken.chain) (front_bytes a.front) reply
  pub served : (calls : Calls)
      × ServesChain may before.page_size (server_state before) taken.head fetched calls
      (replied taken.head fetched reply a.fault) (server_state after)
