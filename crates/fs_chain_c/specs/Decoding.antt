-- The result of decoding a request, as C gets it, and the result of an answer.
use Rattle.std.specs.Prelude.{◌≡◌, ◌==◌, ◌⊎◌, ℕ, List, length, drop, bit_and, Option, Some, None}
use Rattle.std.specs.Prelude.{Result, Ok, Err, IfOk, IfErr, OnOk, OnErr, if◌then◌else◌}
use Rattle.fuse_values.specs.declared.answer.FileAnswer.{FileAnswer}
use Rattle.fuse_values.specs.declared.answer.FileAnswer.TheVariants as answer
use Rattle.fuse_values.specs.declared.call.FileCall.{FileCall}
use Rattle.fuse_values.specs.declared.call.FileCall.TheVariants as value
use Rattle.server_phases.specs.Asking.{IsRequestFront}
use Rattle.server_phases.specs.declared.session.Session.{Session}
use Rattle.server_segments.specs.declared.error.Error.TheVariants.{EncodeMessage}
use Rattle.server_segments.specs.Errors.{error_number}
use Rattle.server_meanings.specs.Grammar.{known_options, meaning}
use Rattle.server_meanings.specs.Serving.{setting}
use Rattle.fs_chain.specs.declared.answering.Replied.{Replied}
use Rattle.fs_chain.specs.declared.decoding.Decoded.{Decoded}
use Rattle.fs_chain.specs.declared.decoding.Decoded.TheVariants as reports
use Rattle.fs_chain.specs.declared.error.ChainError.{ChainError}
use Rattle.fs_chain.specs.declared.chain_handle.ChainHandle.{ChainHandle}
use Rattle.fs_chain.specs.Answers.{CanBeGiven, IfDecoded, IsGiven, IsNotTaken, IsWaiting}
use Rattle.fs_chain.specs.Decoding.{IfUndecoded, ReportStandsIn, ReportsMeaning, wanted_after, wanted_by}
use Rattle.fs_chain.specs.Holds as holds
use Rattle.fs_chain.specs.Numbers.{chain_error_number}
use Rattle.fs_chain.specs.Orders.{ask_error, room_len}
use Rattle.fs_chain.specs.Walks.{IsAllBut, IsAllButPlace}
use Rattle.fs_chain_c.specs.declared.call.FsCall.{FsCall}
use Rattle.fs_chain_c.specs.declared.device.FsDevice.{FsDevice}
use Rattle.fs_chain_c.specs.Calls.{call_fields, low, empty_call, numbered}
use Rattle.fs_chain_c.specs.Memory.{IsDevice}
use Rattle.fs_chain_c.specs.Statuses.{device_status}

-- ---- an answer

-- the outcome of an answer with a ticket, in the session in which the `ChainHandle`'s request was decoded:
-- the reply, or an error. On an error nothing changes
pub record AnswersTicket (w : ChainHandle) (ticket : ℕ) (a : FileAnswer)
    (result : Result Replied ChainError)
    (w' : ChainHandle) : Type 0 where
  pub given : IfOk result (λ r. IfDecoded w.state (λ out waiting.
      IsGiven (setting w.session.page_size w.session.options.0 waiting.room) waiting a out
      w'.session.options.0 r w'.state))
  pub mine : OnOk result (w.ticket ≡ ticket)
  pub taken : OnOk result (IsWaiting w.state × IfDecoded w.state (λ out waiting. CanBeGiven waiting a))
  pub refused : IfErr result (λ e. IsNotTaken w ticket a e)
  pub same : OnErr result (w' ≡ w)
  pub page_size : w'.session.page_size ≡ w.session.page_size
  pub stays : IsAllBut w w' × (w'.descriptors ≡ w.descriptors) × (w'.part ≡ w.part)

-- the status of an answer: 0, 35 if the reply buffer is too small for the reply, or the error's number
abbrev pub replied_status : Result Replied ChainError → ℕ
replied_status (Ok r) = if r.has_room then 0 else 35
replied_status (Err e) = chain_error_number e

-- a `ChainHandle`'s call is answered, with this status
abbrev pub AnswersHandle : ChainHandle → (ticket : ℕ) → FileAnswer → (status : ℕ) → ChainHandle → Type 0
AnswersHandle b ticket a status b' =
    (result : Result Replied ChainError) × AnswersTicket b ticket a result b'
    × (status ≡ replied_status result)

-- ---- a request

-- the answer to a call without a reply, or that no file system in C has: ENOSYS, its default
abbrev pub answer_unasked : FileCall → Option FileAnswer
answer_unasked (value.Forget context node count) = Some answer.Done
answer_unasked (value.BatchForget context counts) = Some answer.Done
answer_unasked value.Getlk = Some (answer.Failed 38)
answer_unasked value.Setlk = Some (answer.Failed 38)
answer_unasked value.Setlkw = Some (answer.Failed 38)
answer_unasked value.Bmap = Some (answer.Failed 38)
answer_unasked value.Ioctl = Some (answer.Failed 38)
answer_unasked value.Poll = Some (answer.Failed 38)
answer_unasked value.NotifyReply = Some (answer.Failed 38)
answer_unasked value.TmpFile = Some (answer.Failed 38)
answer_unasked _ = None

-- such a call is answered at once, with this status; another call waits for C's answer
abbrev pub AnswersAtOnce : ChainHandle → Option FileAnswer → (status : ℕ) → ChainHandle → Type 0
AnswersAtOnce b None status b' = (status ≡ 0) × (b' ≡ b)
AnswersAtOnce b (Some a) status b' = AnswersHandle b b.ticket a status b'

-- the fault of a call that was answered at once: `EncodeMessage`, if the reply buffer is too small
abbrev pub fault_after : (status : ℕ) → ℕ
fault_after status = if status == 35 then error_number EncodeMessage else 0

-- a `ChainHandle` decodes the first bytes of a request in a session, which it keeps. The result is the
-- meaning of each request that begins with these bytes and is as long as the chain's
pub record Decodes (w : ChainHandle) (s : Session) (request : List ℕ) (made : Decoded)
    (w' : ChainHandle) : Type 0 where
  pub can : ask_error w.state (length request) ≡ None
  pub reports :
      IfUndecoded w.state (λ out. (all : List ℕ)
      → out.request_len ≡ length all
      → IsRequestFront request all
      → ReportsMeaning (setting s.page_size s.options.0 out.room_len) (meaning s.options.0 all out.room_len)
      (drop 80 all) out made w'.state)
  pub wanted : IfUndecoded w.state (λ out. wanted_by made ≡ wanted_after request out.request_len)
  pub step : holds.DecodesInRun w w' s request made
  pub session : w'.session ≡ s
  pub stays : IsAllBut w w' × (w'.descriptors ≡ w.descriptors) × (w'.part ≡ w.part)

-- the request can't be decoded: the call is out of order, or there are more bytes than the request has
pub record CannotAsk (w : ChainHandle) (request : List ℕ) (e : ChainError) (w' : ChainHandle) : Type 0 where
  pub why : ask_error w.state (length request) ≡ Some e
  pub stays : IsAllButPlace w w' × (w'.state ≡ w.state)

-- the session with a device's page size and options; bits that are no option's are dropped
abbrev pub IsDeviceSession : FsDevice → Session → Type 0
IsDeviceSession d s = (s.page_size ≡ d.page_size) × (s.options.0 ≡ bit_and d.options known_options)

-- the result of decoding, as C gets it: the call, or the fault of its reply. If more bytes are needed, it is
-- their count, with 34; if there is no call, nothing; else the fault
abbrev pub FillsCall :
    ChainHandle → (request : List ℕ) → Decoded → FsCall → (status : ℕ) → ChainHandle → Type 0
FillsCall b request (reports.Call made) call status b' =
    (status ≡ 0)
    × (answered : ℕ) × AnswersAtOnce b (answer_unasked made) answered b'
    × (call ≡ record (call_fields request (room_len b.state) made) {
      fault = fault_after answered;
    })
FillsCall b request (reports.More n) call status b' =
    (status ≡ 34) × (call ≡ numbered request (record empty_call { needed = low n })) × (b' ≡ b)
FillsCall b request reports.Nothing call status b' =
    (status ≡ 0) × (call ≡ numbered request empty_call) × (b' ≡ b)
FillsCall b request (reports.Fault e) call status b' =
    (status ≡ 0) × (call ≡ numbered request (record empty_call { fault = error_number e })) × (b' ≡ b)

-- a request is decoded in the device's session, and the call has the ticket of the chain. Its names, values,
-- pairs and label are in the request where their spans say
abbrev pub DecodesSo :
    ChainHandle → FsDevice → (request : List ℕ) → FsCall → (status : ℕ) → ChainHandle → Type 0
DecodesSo b d request call status b' =
    (s : Session)
    × IsDeviceSession d s
    × (asked : ChainHandle) × (made : Decoded)
    × Decodes b s request made asked
    × (fields : FsCall)
    × FillsCall asked request made fields status b'
    × (call ≡ record fields { ticket = b.ticket })
    × ReportStandsIn s.options.0 request made

-- a `ChainHandle` decodes the first bytes of a request; or the numbers aren't a device's, which is the status
abbrev pub DecodesHandle :
    ChainHandle → FsDevice → (request : List ℕ) → FsCall → (status : ℕ) → ChainHandle → Type 0
DecodesHandle b d request call status b' =
    ((IsDevice d → ⊥) × (status ≡ device_status) × (call ≡ empty_call) × (b' ≡ b))
    ⊎ (IsDevice d
    × (e : ChainError)
    × CannotAsk b request e b'
    × (status ≡ chain_error_number e)
    × (call ≡ empty_call))
    ⊎ (IsDevice d × DecodesSo b d request call status b')
