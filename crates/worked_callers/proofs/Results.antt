-- The results of calls: a freed handle, and what holds of a result.
use Rattle.std.proofs.Common.{◌≡◌, ℕ, ◌+◌, ◌^◌, Bool, None, Result, Ok, Err, IfOk, OnOk, sym, ap, ◌∙◌, ◌%◌, if◌then◌else◌}
use Rattle.fs_chain.specs.declared.queue.QueueState.{QueueState}
use Rattle.fs_chain.specs.declared.state.ChainReply.{ChainReply}
use Rattle.fs_chain.specs.declared.state.InFlight.{InFlight}
use Rattle.fs_chain.specs.declared.state.ChainState as state
use Rattle.fs_chain.specs.declared.state.ChainState.TheVariants as at
use Rattle.fs_chain.specs.declared.chain_handle.ChainHandle.{ChainHandle}
use Rattle.fs_chain.specs.Orders.{is_out, push_refusal}
use Rattle.fs_chain.specs.Tickets.{freed}
use Rattle.fs_chain.specs.Pushes.{IfReplied}

-- a handle that pushed its chain is freed
freed_of : (old : ChainHandle) (out : InFlight) (reply : ChainReply) → old.state ≡ at.Replied out reply
    → freed (record old { state = at.Pushing out }) ≡ freed old
freed_of old out reply is = ap
    (λ (b : Bool). record old { state = at.Free; ticket = if b then (old.ticket + 1) % 2 ^ 32 else old.ticket; list_len = 0 })
    (sym (ap is_out is))

pub freed_back : (st : state.ChainState) (q : QueueState) (len : ℕ) (old mid new : ChainHandle) → old.state ≡ st
    → push_refusal st q len ≡ None
    → IfReplied st (λ out reply. mid ≡ record old { state = at.Pushing out }) → new ≡ freed mid → new ≡ freed old
freed_back (at.Replied out reply) q len old mid new is can pushing free = free ∙ ap freed pushing ∙ freed_of old out reply is
freed_back _ q len old mid new is can pushing free = absurd (cc)

pub if_ok : {A E : Type 0} (r : Result A E) (P Q : A → Type 0) → ((a : A) → P a → Q a) → IfOk r P → IfOk r Q
if_ok (Ok a) P Q more p = more a p
if_ok (Err e) P Q more p = tt

pub ok_more : {A E : Type 0} (r : Result A E) (P : A → Type 0) (Q : Type 0) → ((a : A) → P a → Q) → IfOk r P → OnOk r Q
ok_more (Ok a) P Q more p = more a p
ok_more (Err e) P Q more p = tt

pub on_ok_two : {A E : Type 0} (r : Result A E) (P Q S : Type 0) → (P → Q → S) → OnOk r P → OnOk r Q → OnOk r S
on_ok_two (Ok a) P Q S more p q = more p q
on_ok_two (Err e) P Q S more p q = tt
