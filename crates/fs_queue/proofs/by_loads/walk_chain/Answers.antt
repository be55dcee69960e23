use Rattle.std.proofs.Common.{inl, inr, [], refl, ◌+◌, ◌*◌, ◌<◌, ◌^◌, ◌∙◌, false, ap, sym, arith}
use Rattle.std.proofs.lemmas.List.Elements.{All-push}
use Rattle.fs_queue.specs.Chain.{Descriptor, DescriptorTable, first_visit}
use Rattle.fs_queue.specs.Loads.{ahead_at}
use Rattle.fs_queue.specs.WalkingView.{AllEndIn64Bits, at_position}
use Rattle.fs_queue.proofs.GivenLemmas.{answered_end, by_room, came_begin, came_kept, failed_end, kept_none, wants_size}
use Rattle.fs_queue.proofs.by_loads.walk_chain.Goals as goal

pub steps-init : goal.steps-init
unfolding AllEndIn64Bits
steps-init g c = rw c.clear.ensures.items (record {
  came = (
    [],
    kept_none c.args.descriptors.now.capacity,
    came_begin (g.M.GuestMemory.memory c.args.mem.now (g.H.HostBlocks.host c.args.host.now)) c.args.layout.size _ _ c.requires.at,
  );
  size = c.requires.size;
  ends = c.queue_table-whole_of.ensures.ends;
  whole = c.table_bytes-whole.ensures;
  capacity = omega (arith, c.clear.ensures.capacity);
  fit = λ k d h. absurd (omega arith);
})

pub returns-in-Ends-clause-chain : goal.returns-in-Ends-clause-chain
returns-in-Ends-clause-chain g c =
    answered_end (g.M.GuestMemory.memory c.args.mem.now (g.H.HostBlocks.host c.args.host.now)) (at_position c.args.layout 0) c.args.head
    c.args.descriptors.now.capacity
    c.steps.kept c.steps.descriptors.items c.in-Ends.walked _
    c.if_held.ensures.same (rw c.in-Ends.is at c.steps.invariant.came)

pub returns-in-Ends-clause-memory : goal.returns-in-Ends-clause-memory
returns-in-Ends-clause-memory g c =
    failed_end (g.M.GuestMemory.memory c.args.mem.now (g.H.HostBlocks.host c.args.host.now)) (at_position c.args.layout 0) c.args.head
    c.args.descriptors.now.capacity
    c.steps.kept c.steps.descriptors.items c.in-Ends.walked _
    c.if_held.ensures.lost (rw c.in-Ends.is at c.steps.invariant.came)

pub steps-preserved-in-Ok : goal.steps-preserved-in-Ok
unfolding AllEndIn64Bits
steps-preserved-in-Ok g c =
    let at = ap (λ (t : DescriptorTable). t.address + 16 * c.entry-table.result.1) c.entry-table.ensures.table
    ∙ ap (λ n. c.in-Wants.walk.table.address + 16 * n) c.entry-table.ensures.index in
    let own = rw c.in-Wants.is at c.steps.invariant.size in
    rw c.in-Ok.ensures.ok (
    record {
      came =
          came_kept (g.M.GuestMemory.memory c.args.mem.now (g.H.HostBlocks.host c.args.host.now)) c.args.layout.size
          (ahead_at c.args.layout.size (first_visit (at_position c.args.layout 0) c.args.head))
          c.args.descriptors.now.capacity c.steps.kept c.steps.kept c.steps.descriptors.items _ c.in-Wants.walk
          (c.entry-table.result.0.address + 16 * c.entry-table.result.1) _ _ _ own at c.load_from_table-came.ensures
          (sym c.in-Some.is ∙ c.give-given.ensures.joins) c.give-given.ensures.then (λ t. (t, refl)) (λ f. inl f)
          (rw c.in-Wants.is at c.steps.invariant.came);
      capacity = omega (arith, c.in-Ok.ensures.capacity, c.steps.invariant.capacity);
      size = wants_size _ _ _ own c.give-given.ensures.size;
      ends = c.entry-table.ensures.ends;
      whole = c.bytes_of-whole.ensures;
      fit = All-push (λ (d : Descriptor). d.addr + d.len < 2 ^ 64) _ _ c.steps.invariant.fit (rw c.in-Some.is at c.give-given.ensures.fits);
    })

pub steps-preserved-in-Err : goal.steps-preserved-in-Err
steps-preserved-in-Err g c =
    let at = ap (λ (t : DescriptorTable). t.address + 16 * c.entry-table.result.1) c.entry-table.ensures.table
    ∙ ap (λ n. c.in-Wants.walk.table.address + 16 * n) c.entry-table.ensures.index in
    let own = rw c.in-Wants.is at c.steps.invariant.size in
    rw c.in-Err.ensures.err (
    record {
      came =
          came_kept (g.M.GuestMemory.memory c.args.mem.now (g.H.HostBlocks.host c.args.host.now)) c.args.layout.size
          (ahead_at c.args.layout.size (first_visit (at_position c.args.layout 0) c.args.head))
          c.args.descriptors.now.capacity c.steps.kept false c.steps.descriptors.items _ c.in-Wants.walk
          (c.entry-table.result.0.address + 16 * c.entry-table.result.1)
          _ _ _ own at c.load_from_table-came.ensures
          (sym c.in-Some.is ∙ c.give-given.ensures.joins) c.give-given.ensures.then (λ t. absurd (cc))
          (λ f. inr (by_room _ _ _ _ c.in-Err.ensures.succeeds c.steps.invariant.capacity)) (rw c.in-Wants.is at c.steps.invariant.came);
      capacity = c.steps.invariant.capacity;
      size = wants_size _ _ _ own c.give-given.ensures.size;
      ends = c.entry-table.ensures.ends;
      whole = c.bytes_of-whole.ensures;
      fit = c.steps.invariant.fit;
    })

pub steps-preserved : goal.steps-preserved
steps-preserved g c =
    let at = ap (λ (t : DescriptorTable). t.address + 16 * c.entry-table.result.1) c.entry-table.ensures.table
    ∙ ap (λ n. c.in-Wants.walk.table.address + 16 * n) c.entry-table.ensures.index in
    let own = rw c.in-Wants.is at c.steps.invariant.size in
    record {
      came =
          came_kept (g.M.GuestMemory.memory c.args.mem.now (g.H.HostBlocks.host c.args.host.now)) c.args.layout.size
          (ahead_at c.args.layout.size (first_visit (at_position c.args.layout 0) c.args.head))
          c.args.descriptors.now.capacity c.steps.kept c.steps.kept c.steps.descriptors.items c.steps.descriptors.items
          c.in-Wants.walk
          (c.entry-table.result.0.address + 16 * c.entry-table.result.1) _ _ _ own at c.load_from_table-came.ensures
          (sym c.in_default.is ∙ c.give-given.ensures.joins) c.give-given.ensures.then (λ t. (t, refl)) (λ f. inl f)
          (rw c.in-Wants.is at c.steps.invariant.came);
      capacity = c.steps.invariant.capacity;
      size = wants_size _ _ _ own c.give-given.ensures.size;
      ends = c.entry-table.ensures.ends;
      whole = c.bytes_of-whole.ensures;
      fit = c.steps.invariant.fit;
    }
