-- The answer to the call of a chain that the handle holds.
use Rattle.std.proofs.Common.{◌≡◌, ◌+◌, ◌≤◌, ℕ, List, [], ◌∷◌, ◌++◌, length, Option, Some, None, refl, subst, sym, ap, ◌∙◌}
use Rattle.std.specs.Prelude.{drop, false, take, IsTrue, IfOk, OnOk, Result, Ok, Err}
use Rattle.std.proofs.Math.Seq.{take-length}
use Rattle.fs_chain.specs.declared.error.ChainError.{ChainError}
use Rattle.fs_queue.specs.Taking.{addresses_of, writable}
use Rattle.fuse_fs.specs.Calls.{Done, FileAnswer, FileCall, Forget, suits}
use Rattle.fuse_fs.specs.declared.answers.Context.{Context}
use Rattle.fuse_values.specs.Answers.{answer_of}
use Rattle.fuse_values.specs.Values.{call_of}
use Rattle.fuse_values.specs.declared.answer.FileAnswer as made_answer
use Rattle.server_meanings.specs.Grammar.{FileCommand, Lists, Meaning, meaning}
use Rattle.server_meanings.specs.Serving.{ServedMessage, Setting, commanded, served, setting}
use Rattle.server_meanings.proofs.Serve.{served_fits}
use Rattle.server_phases.specs.Answering.{Gives, ReportsBytes, forget_calls, served_by}
use Rattle.server_phases.specs.Gathering.{is_list_command}
use Rattle.server_phases.specs.Waiting.{first_call}
use Rattle.server_phases.specs.declared.answering.Sent.{Sent}
use Rattle.server_phases.specs.declared.answering.Sent.TheVariants as sent
use Rattle.server_phases.specs.declared.session.Session.{Session}
use Rattle.plain_machine.specs.Step.{Calls}
use Rattle.live_machine.specs.Live.{Asked, InFlightChain, Phase, after_answer, asked_chain, room_of, room_of_phase}
use Rattle.fs_chain.specs.Answers.{CanBeGiven, IfDecoded, IsGiven, IsWaiting, data_len, reply_of}
use Rattle.fs_chain.specs.Holds.{AnswersInRun, AnsweringIs, ForgettingIs, IsHeldIn, IsOutAs, IsRepliedWith, KeepsReplyOf, RunState}
use Rattle.fs_chain.specs.Holds.{served_so}
use Rattle.fs_chain.specs.Orders.{front_len, front_of}
use Rattle.fs_chain.specs.declared.answering.Replied.{Replied}
use Rattle.fs_chain.specs.declared.chain_handle.ChainHandle.{ChainHandle}
use Rattle.fs_chain.specs.declared.state.ChainReply.{ChainReply}
use Rattle.fs_chain.specs.declared.state.ChainState as state
use Rattle.fs_chain.specs.declared.state.ChainState.TheVariants as at
use Rattle.fs_chain.specs.declared.state.InFlight.{InFlight}
use Rattle.fs_chain.proofs.HoldsDecoded.{call_waits}
use Rattle.fs_chain.proofs.Replies.{by_calls, by_options, by_reply, data_is, isnt_cut, whole_len}
use Rattle.fs_chain.proofs.Held.{out_in}

-- the bytes of a reply, behind its front
sent_bytes : (cs : List FileCall) (o n : ℕ) (x : Sent) (bytes : List ℕ) →
    (behind : List ℕ) × ((served_by cs o x bytes).reply ≡ front_of (reply_of x n) ++ behind)
sent_bytes cs o n (sent.Reply front) bytes = (bytes, refl)
sent_bytes cs o n sent.NoRoom bytes = ([], refl)

-- as many of the data's bytes as the handle told
data_bytes : (cs : List FileCall) (o n : ℕ) (x : Sent) (bytes : List ℕ) → length bytes ≡ n →
    (served_by cs o x bytes).reply ≡ front_of (reply_of x n) ++ take (reply_of x n).behind bytes
data_bytes cs o n (sent.Reply front) bytes is =
    ap (λ (b : List ℕ). front ++ b) (sym (take-length bytes)) ∙ ap (λ (k : ℕ). front ++ take k bytes) is
data_bytes cs o n sent.NoRoom bytes is = refl

-- an answer behind the first one tells nothing more
no_more : (s : Setting) (command : FileCommand) (x : FileAnswer) (more : List FileAnswer) → is_list_command command ≡ false →
    commanded s command (x ∷ more) ≡ commanded s command (x ∷ [])
no_more s (Lists unique l) x more is = absurd (cc)
no_more s _ x more is = refl

-- a FORGET that is owed
forgets : (s : RunState) (before behind : List InFlightChain) (c : InFlightChain) (request : List ℕ) (options : ℕ) (call : FileCall)
    (x : FileAnswer) (new : ChainHandle) (owed : Option (Context × ℕ)) (out : InFlight) (kept : ChainReply)
    → s.chains ≡ before ++ c ∷ behind → c.phase ≡ Asked request options ((call, x) ∷ []) → IsOutAs c out
    → new.state ≡ at.Replied out kept
    → KeepsReplyOf (served_so s.page_size options request out.room_len ((call, x) ∷ [])).reply out kept
    → served (setting s.page_size options out.room_len) (meaning options request out.room_len) (x ∷ Done ∷ [])
    ≡ served (setting s.page_size options out.room_len) (meaning options request out.room_len) (x ∷ [])
    → (served_so s.page_size options request (length (addresses_of (writable c.descriptors))) ((call, x) ∷ [])).calls ≡ call ∷ forget_calls
    owed
    → ForgettingIs s before behind c request options ((call, x) ∷ []) new owed
forgets s before behind c request options call x new None out kept is phase is_out state_is keeps same all = tt
forgets s before behind c request options call x new (Some node) out kept is phase is_out state_is keeps same all =
    let forget : FileCall = Forget node.0 node.1 1 in
    let calls : Calls = (call, x) ∷ (forget, Done) ∷ [] in
    let room : length (room_of c) ≡ length (addresses_of (writable c.descriptors)) =
    ap (λ (p : Phase). length (room_of_phase p c.descriptors)) phase in (
      record {
        before = before;
        behind = behind;
        out = is;
        request = request;
        options = options;
        calls = (call, x) ∷ [];
        asked = phase;
        pending = ap (λ (k : ℕ). (served (setting s.page_size options k) (meaning options request k) (x ∷ [])).calls) room ∙ all;
        is_one = refl;
        files = tt;
        may_so = tt;
        state = refl;
      },
      subst (λ (st : state.ChainState). IsHeldIn s.page_size (asked_chain c request options calls) (Asked request options calls) st
          new.session) (sym state_is) (
            out_in c _ _ is_out,
            subst (λ (m : ServedMessage). KeepsReplyOf m.reply out kept) (sym same) keeps,
            tt,
          ),
      ap (λ (k : ℕ). (served (setting s.page_size options k) (meaning options request k) (x ∷ Done ∷ [])).calls) is_out.room_len
          ∙ ap (λ (m : ServedMessage). m.calls) same
          ∙ sym (ap (λ (k : ℕ). (served (setting s.page_size options k) (meaning options request k) (x ∷ [])).calls) is_out.room_len) ∙ all,
    )

by_state : (st : state.ChainState) (was : Session) (new : ChainHandle) (a : made_answer.FileAnswer) (result : Replied)
    → IfDecoded st (λ out w. IsGiven (setting was.page_size was.options.0 w.room) w a out new.session.options.0 result new.state)
    → IsWaiting st → IfDecoded st (λ out w. CanBeGiven w a)
    → (s : RunState) (before behind : List InFlightChain) (c : InFlightChain) (request bytes : List ℕ) (options : ℕ)
    → s.chains ≡ before ++ c ∷ behind → c.phase ≡ Asked request options []
    → IsHeldIn s.page_size c (Asked request options []) st was → ReportsBytes bytes a
    → (call : FileCall) × AnsweringIs s before behind c request bytes options call (answer_of bytes a) result new
by_state (at.Decoded out w) was new a result given waits can s before behind c request bytes options is asked held data_are =
    let is_out : IsOutAs c out = held.0 in
    let call = call_of (drop 80 request) held.3 in
    let asks = held.4 in
    let command : FileCommand = asks.0 in
    let left = new.session.options.0 in
    let r = out.room_len in
    let set = setting s.page_size options r in
    let m = meaning options request r in
    let in_room : Gives (setting was.page_size was.options.0 r) command bytes a given.0 left =
    subst (λ (n : ℕ). Gives (setting was.page_size was.options.0 n) command bytes a given.0 left) asks.5
    (given.3 command bytes asks.4 data_are) in
    let gives : Gives set command bytes a given.0 left =
    subst (λ (o : ℕ). Gives (setting s.page_size o r) command bytes a given.0 left) held.2.1
    (subst (λ (p : ℕ). Gives (setting p was.options.0 r) command bytes a given.0 left) held.2.0 in_room) in
    let cs : List FileCall = first_call command ∷ forget_calls given.0.forget in
    let g : ServedMessage = served_by cs left given.0.sent bytes in
    let serving : served set m (answer_of bytes a ∷ []) ≡ g =
    ap (λ (k : Meaning). served set k (answer_of bytes a ∷ [])) asks.1 ∙ gives in
    let n = data_len a in
    let kept : ChainReply = reply_of given.0.sent n in
    let len_is : front_len kept + kept.behind ≡ length g.reply =
    whole_len given.0.sent n bytes (data_is bytes a data_are) ∙ sym (ap length (by_reply cs left n given.0.sent bytes)) in
    let fits : length g.reply ≤ r =
    subst (λ (x : ServedMessage). length x.reply ≤ r) serving (served_fits set m (answer_of bytes a ∷ [])) in
    let b = sent_bytes cs left n given.0.sent bytes in
    let keeps : KeepsReplyOf g.reply out kept =
    record { behind = b.0; bytes = b.1; len = isnt_cut out kept (length g.reply) len_is fits is_out.small } in
    let room : length (room_of c) ≡ r = ap (λ (p : Phase). length (room_of_phase p c.descriptors)) asked ∙ is_out.room_len in
    let waiting : (served set m []).calls ≡ call ∷ [] = sym (call_waits set m command call asks.1 asks.2) in
    let calls : Calls = (call, answer_of bytes a) ∷ [] in
    let in_buffer : served_so s.page_size options request (length (addresses_of (writable c.descriptors))) calls ≡ g =
    ap (λ (k : ℕ). served_so s.page_size options request k calls) is_out.room_len ∙ serving in
    let same_more : served set m (answer_of bytes a ∷ Done ∷ []) ≡ served set m (answer_of bytes a ∷ []) =
    ap (λ (k : Meaning). served set k (answer_of bytes a ∷ Done ∷ [])) asks.1
    ∙ no_more set command (answer_of bytes a) (Done ∷ []) (held.5 command asks.4)
    ∙ sym (ap (λ (k : Meaning). served set k (answer_of bytes a ∷ [])) asks.1) in
    let now_out : IsOutAs (asked_chain c request options calls) out = out_in c _ _ is_out in
    let keeps_served : KeepsReplyOf (served_so s.page_size options request r calls).reply out kept =
    subst (λ (x : ServedMessage). KeepsReplyOf x.reply out kept) (sym serving) keeps in
    let all : (served_so s.page_size options request (length (addresses_of (writable c.descriptors))) calls).calls
    ≡ call ∷ forget_calls result.forget =
    ap (λ (x : ServedMessage). x.calls) in_buffer ∙ by_calls cs left given.0.sent bytes
    ∙ ap (λ (k : FileCall). k ∷ forget_calls given.0.forget) (sym asks.2)
    ∙ sym (ap (λ (t : Replied). call ∷ forget_calls t.forget) given.1) in
    let P : state.ChainState → Type 0 =
    λ st. IsHeldIn s.page_size (asked_chain c request options calls) (Asked request options calls) st new.session in (
      call,
      (
        record {
          before = before;
          behind = behind;
          out = is;
          request = request;
          options = options;
          calls = [];
          asked = asked;
          pending = ap (λ (k : ℕ). (served (setting s.page_size options k) (meaning options request k) []).calls) room ∙ waiting;
          is_one = subst (λ (k : FileCall). IsTrue (suits k (answer_of bytes a))) (sym asks.2) (can command bytes asks.4 data_are).0;
          files = tt;
          may_so = tt;
          state = refl;
        },
        subst P (sym given.2) (now_out, keeps_served, tt),
        all,
        sym (ap (λ (x : ServedMessage). x.options) in_buffer ∙ by_options cs left given.0.sent bytes),
        subst (λ (st : state.ChainState). IsRepliedWith
            (served_so s.page_size options request (length (addresses_of (writable c.descriptors))) calls).reply bytes st)
            (sym given.2)
            (ap (λ (x : ServedMessage). x.reply) in_buffer ∙ data_bytes cs left n given.0.sent bytes (sym (data_is bytes a data_are))),
        forgets (after_answer s before behind c request options calls tt) before behind (asked_chain c request options calls) request
            options call (answer_of bytes a) new result.forget out kept refl refl now_out given.2 keeps_served same_more all,
      ),
    )
by_state st was new a result given waits can s before behind c request bytes options is asked held data_are = absurd waits

pub answers : (old new : ChainHandle) (a : made_answer.FileAnswer) (result : Replied)
    → IfDecoded old.state (λ out w. IsGiven (setting old.session.page_size old.session.options.0 w.room) w a out new.session.options.0
    result
    new.state)
    → IsWaiting old.state × IfDecoded old.state (λ out w. CanBeGiven w a)
    → AnswersInRun old new a result
unfolding AnswersInRun
answers old new a result given taken s before behind c request bytes options is asked held data_are =
    let here : IsHeldIn s.page_size c (Asked request options []) old.state old.session =
    subst (λ (p : Phase). IsHeldIn s.page_size c p old.state old.session) asked held in
    by_state old.state old.session new a result given taken.0 taken.1 s before behind c request bytes options is asked here data_are

-- by its result
pub answers_from : (old new : ChainHandle) (a : made_answer.FileAnswer) (r : Result Replied ChainError)
    → IfOk r (λ result. IfDecoded old.state (λ out w. IsGiven (setting old.session.page_size old.session.options.0 w.room) w a out
    new.session.options.0 result new.state))
    → OnOk r (IsWaiting old.state × IfDecoded old.state (λ out w. CanBeGiven w a))
    → IfOk r (λ result. AnswersInRun old new a result)
answers_from old new a (Ok result) given taken = answers old new a result given taken
answers_from old new a (Err e) given taken = tt
