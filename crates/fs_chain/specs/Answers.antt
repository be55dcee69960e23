-- The effect of an answer to a file call: its result, and the state that the handle keeps.
use Rattle.std.specs.Prelude.{◌≡◌, ◌⊎◌, ℕ, Bool, true, false, List, Some, None}
use Rattle.fuse_values.specs.declared.answer.FileAnswer.{FileAnswer}
use Rattle.fuse_values.specs.declared.answer.FileAnswer.TheVariants as value
use Rattle.server_meanings.specs.Grammar.{FileCommand}
use Rattle.server_meanings.specs.Serving.{Setting}
use Rattle.server_phases.specs.declared.answering.Answered.{Answered}
use Rattle.server_phases.specs.declared.answering.AnswerRefusal as why
use Rattle.server_phases.specs.declared.answering.AnswerRefusal.TheVariants as refused
use Rattle.server_phases.specs.declared.answering.Sent.{Sent}
use Rattle.server_phases.specs.declared.answering.Sent.TheVariants as sent
use Rattle.server_phases.specs.declared.waiting.Waiting.{Waiting}
use Rattle.server_phases.specs.Answering.{Gives, ReportsBytes, IsRefusedFor, is_too_long}
use Rattle.fuse_fs.specs.Calls.{suits}
use Rattle.fuse_values.specs.Answers.{answer_of}
use Rattle.server_phases.specs.Waiting.{WaitsFor, first_call}
use Rattle.fs_chain.specs.declared.answering.Replied.{Replied}
use Rattle.fs_chain.specs.declared.error.ChainError.{ChainError}
use Rattle.fs_chain.specs.declared.error.ChainError.TheVariants as error
use Rattle.fs_chain.specs.declared.state.InFlight.{InFlight}
use Rattle.fs_chain.specs.declared.state.ChainReply.{ChainReply}
use Rattle.fs_chain.specs.declared.state.ChainState as state
use Rattle.fs_chain.specs.declared.state.ChainState.TheVariants as at
use Rattle.fs_chain.specs.declared.chain_handle.ChainHandle.{ChainHandle}
use Rattle.fs_chain.specs.Tickets.{ticket_error}
use Rattle.fs_chain.specs.Walks.{no_reply}

-- how many bytes of data an answer has
abbrev pub data_len : FileAnswer → ℕ
data_len (value.Bytes len) = len
data_len _ = 0

-- the reply: its front with `data_len` bytes of data behind it, or none
abbrev pub reply_of : Sent → (data_len : ℕ) → ChainReply
reply_of (sent.Reply front) n = record { front = Some front; behind = n }
reply_of sent.NoRoom n = no_reply

-- whether the reply fits in the reply buffer
abbrev pub fits : Sent → Bool
fits (sent.Reply front) = true
fits sent.NoRoom = false

-- the result that is returned for an answer
abbrev pub replied_of : Answered → Replied
replied_of given = record { has_room = fits given.sent; forget = given.forget }

-- why an answer is refused, as a call's error
abbrev pub refusal_error : why.AnswerRefusal → ChainError
refusal_error refused.OtherKind = error.OtherKind
refusal_error refused.TooLong = error.LongReply

-- the answer to a call in flight is accepted. For every command that the call may belong to, `given`
-- follows from the answer: it is returned as `result`, and the handle keeps it
abbrev pub IsGiven :
    (s : Setting) → Waiting → FileAnswer → InFlight → (options : ℕ) → Replied → state.ChainState → Type 0
IsGiven s w answer out options result kept =
    (given : Answered)
    × (result ≡ replied_of given)
    × (kept ≡ at.Replied out (reply_of given.sent (data_len answer)))
    × ((command : FileCommand) (bytes : List ℕ) →
    WaitsFor w command →
    ReportsBytes bytes answer →
    Gives s command bytes answer given options)

-- the answer suits every command that the call in flight may belong to, and isn't too long for the reply
-- buffer
abbrev pub CanBeGiven : Waiting → FileAnswer → Type 0
CanBeGiven w answer =
    (command : FileCommand) (bytes : List ℕ) → WaitsFor w command → ReportsBytes bytes answer
    → (suits (first_call command) (answer_of bytes answer) ≡ true) × (is_too_long w.room answer ≡ false)

-- the answer to a call in flight is refused, for a reason that holds for every command that it may belong
-- to
abbrev pub RefusesAnswer : Waiting → FileAnswer → ChainError → Type 0
RefusesAnswer w answer e =
    (reason : why.AnswerRefusal)
    × (e ≡ refusal_error reason)
    × ((command : FileCommand) (bytes : List ℕ) →
    WaitsFor w command →
    ReportsBytes bytes answer →
    IsRefusedFor reason (first_call command) w.room bytes answer)

-- P, if a call is in flight
abbrev pub IfDecoded : state.ChainState → (InFlight → Waiting → Type 0) → Type 0
IfDecoded (at.Decoded out w) P = P out w
IfDecoded _ P = Unit {0}

-- an answer changes nothing: no call is in flight, or the call refuses it
abbrev pub AnswerFails : state.ChainState → FileAnswer → ChainError → Type 0
AnswerFails (at.Decoded out w) answer e = RefusesAnswer w answer e
AnswerFails (at.Listing out l) answer e = e ≡ error.OtherKind
AnswerFails _ answer e = e ≡ error.WrongOrder

-- an answer with this number changes nothing: no call is in flight, another call is, or the call refuses
-- it
abbrev pub IsNotTaken : ChainHandle → (ticket : ℕ) → FileAnswer → ChainError → Type 0
IsNotTaken w ticket answer e =
    (ticket_error w.state w.ticket ticket ≡ Some e)
    ⊎ ((ticket_error w.state w.ticket ticket ≡ None) × AnswerFails w.state answer e)

-- a call is in flight
abbrev pub IsWaiting : state.ChainState → Type 0
IsWaiting (at.Decoded out w) = Unit {0}
IsWaiting _ = ⊥
