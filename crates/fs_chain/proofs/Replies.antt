-- The parts of a reply: its front, and the data behind it.
use Rattle.std.proofs.Common.{◌≡◌, ℕ, ◌+◌, ◌≤◌, ◌^◌, List, ◌++◌, [], length, Option, Some, None, refl, sym, ap, ◌∙◌, arith, length-append}
use Rattle.fuse_fs.specs.Calls.{FileCall}
use Rattle.fuse_values.specs.declared.answer.FileAnswer.{FileAnswer}
use Rattle.fuse_values.specs.declared.answer.FileAnswer.TheVariants as value
use Rattle.server_phases.specs.declared.answering.Sent.{Sent}
use Rattle.server_phases.specs.declared.answering.Sent.TheVariants as sent
use Rattle.server_phases.specs.Answering.{ReportsBytes, served_by}
use Rattle.fs_chain.specs.declared.state.InFlight.{InFlight}
use Rattle.fs_chain.specs.declared.state.ChainReply.{ChainReply}
use Rattle.fs_chain.specs.Answers.{data_len, reply_of}
use Rattle.fs_chain.specs.Orders.{front_len, reply_len}

-- a front with the data behind it, if there is a front
abbrev pub front_if : Option (List ℕ) → (behind : List ℕ) → List ℕ
front_if None behind = []
front_if (Some front) behind = front ++ behind

pub by_calls : (cs : List FileCall) (o : ℕ) (x : Sent) (bytes : List ℕ) → (served_by cs o x bytes).calls ≡ cs
by_calls cs o (sent.Reply front) bytes = refl
by_calls cs o sent.NoRoom bytes = refl

pub by_options : (cs : List FileCall) (o : ℕ) (x : Sent) (bytes : List ℕ) → (served_by cs o x bytes).options ≡ o
by_options cs o (sent.Reply front) bytes = refl
by_options cs o sent.NoRoom bytes = refl

pub by_reply :
    (cs : List FileCall) (o n : ℕ) (x : Sent) (bytes : List ℕ) → (served_by cs o x bytes).reply ≡ front_if (reply_of x n).front bytes
by_reply cs o n (sent.Reply front) bytes = refl
by_reply cs o n sent.NoRoom bytes = refl

pub data_is : (bytes : List ℕ) (a : FileAnswer) → ReportsBytes bytes a → data_len a ≡ length bytes
data_is bytes (value.Bytes len) h = h
data_is bytes a h = sym (ap length h)

-- a reply is as long as its front and its data
pub whole_len : (x : Sent) (n : ℕ) (bytes : List ℕ) → n ≡ length bytes →
    front_len (reply_of x n) + (reply_of x n).behind ≡ length (front_if (reply_of x n).front bytes)
whole_len (sent.Reply front) n bytes same = ap (λ (k : ℕ). length front + k) same ∙ sym (length-append front bytes)
whole_len sent.NoRoom n bytes same = refl

-- and isn't cut, where it has room
pub isnt_cut : (out : InFlight) (reply : ChainReply) (len : ℕ) → front_len reply + reply.behind ≡ len → len ≤ out.room_len →
    out.room_len ≤ 2 ^ 31 → reply_len out reply ≡ len
isnt_cut out reply len is fits small = omega (arith, is, fits, small)
