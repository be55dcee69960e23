use Rattle.std.proofs.Common.{◌≡◌, ◌<◌, ◌^◌, ◌||◌, ℕ, Bool, None, true, List, refl, subst, sym, ap, ◌∙◌}
use Rattle.std.specs.Int.{w16, from_le_bytes, to_le_bytes}
use Rattle.std.proofs.lemmas.Nat.{from_le_bytes-to_le_bytes_2}
use Rattle.fs_queue.specs.Returning.{next_position}
use Rattle.fs_chain.specs.Events.{notifies_of}
use Rattle.fs_chain.specs.Holds.{live_of}
use Rattle.fs_chain.specs.Orders.{end_error}
use Rattle.fs_chain.specs.Queues.{gave}
use Rattle.fs_chain.specs.declared.chain_handle.ChainHandle.{ChainHandle}
use Rattle.fs_chain.specs.declared.queue.QueueState.{QueueState}
use Rattle.live_machine.specs.Several.{LiveQueue, passes, returning, wants}
use Rattle.notify.specs.Threads.{ReturnsChains, after_act}
use Rattle.fs_notify.specs.Takers.{IsModelOf, ways_of}
use Rattle.worked_callers.proofs.ModelActs.{published_so}
use Rattle.worked_callers.proofs.Results.{freed_back}
use Rattle.worked_callers.proofs.givers.push_one.Goals as goal

pub returns-in-Ok : goal.returns-in-Ok
returns-in-Ok c =
    let q = c.args.queue.now in
    let seen = c.args.seen in
    let st = c.push.new.self.state in
    let bytes : List ℕ = to_le_bytes w16 seen in
    let w : LiveQueue = live_of q in
    let pushing : QueueState = record q { pushing = true } in
    let counted = c.have_u16_numbers.ensures in
    let small : seen < 2 ^ 16 = Prim.search in
    let same : from_le_bytes w16 bytes ≡ seen = from_le_bytes-to_le_bytes_2 seen small in
    let queue_is : c.push.new.queue ≡ pushing = c.in_ok-stores.ensures.queue in
    let last_is : c.pushed.new.queue ≡ gave pushing = c.in-Ok.ensures.queue ∙ ap gave queue_is in
    let ok : end_error st pushing ≡ None = subst (λ (k : QueueState). end_error st k ≡ None) queue_is c.in-Ok.ensures.ok in
    let notice_is : c.in-Ok.notice ≡ notifies_of pushing bytes =
    c.in-Ok.ensures.notifies ∙ ap (λ (k : QueueState). notifies_of k c.to_le_bytes-bytes.result) queue_is
    ∙ ap (λ (bs : List ℕ). notifies_of pushing bs) c.to_le_bytes-bytes.ensures in
    record {
      again = ap (λ (w : ChainHandle). w.state) c.in-Ok.ensures.free;
      freed = freed_back c.args.handle.now.state q _ c.args.handle.now c.push.new.self c.pushed.new.self refl
          c.in_ok-stores.ensures.ok c.in_ok-stores.ensures.pushing c.in-Ok.ensures.free;
      queue = last_is;
      event = λ by_event.
          notice_is ∙ subst (λ (n : ℕ). wants w bytes ≡ passes n w.next_used (next_position (returning w))) same
          (c.law_queues.ensures.event w bytes by_event counted.1 (subst (λ (n : ℕ). n < 2 ^ 16) (sym same) small));
      stores = c.in_ok-stores.ensures.stores;
      returns = λ s of walker.
          let law = c.law_takers.ensures.returns pushing st s counted ok of walker in
          (law.0, subst (λ (k : QueueState). IsModelOf k (after_act (ways_of q) s (ReturnsChains 1))) (sym last_is) law.1);
      publishes = published_so c.law_givers.ensures.publishes c.args.handle.now.state q _ c.in_ok-stores.stores c.pushed.new.queue
          c.in_ok-stores.ensures.ok c.in_ok-stores.ensures.stores (ap (λ (k : QueueState). k.next_used) last_is);
      checks = λ u at one shows.
          c.law_givers.ensures.checks pushing bytes u counted.1 (subst (λ (n : ℕ). n < 2 ^ 16) (sym same) small)
          (at ∙ ap (λ (k : QueueState). k.next_used) last_is) one shows
          ∙ ap (λ (b : Bool). u.owes || b) (sym notice_is);
      order = λ u at index none room.
          let law = c.law_givers.ensures.order q u counted.1 at index none room in
          (law.0, law.1 ∙ sym (ap (λ (k : QueueState). k.next_used) last_is));
    }
