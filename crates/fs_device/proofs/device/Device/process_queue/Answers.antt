use Rattle.std.proofs.Common.{◌≡◌, ◌<◌, ◌++◌, ◌∷◌, ◌∙◌, [], length, map, arith, ap, sym, refl, false, Some, rules, slice_get, vec_len}
use Rattle.std.proofs.lemmas.Option.{slice_get_read}
use Rattle.std.proofs.lemmas.List.{map-append}
use Rattle.fs_device.specs.CommandView.{exchanged_of}
use Rattle.fs_device.specs.DevicePartsView.{DeviceParts}
use Rattle.fs_device.specs.DeviceView.{state_of}
use Rattle.fs_device.proofs.KickLemmas.{ends_idle, ends_refused, ends_full, ends_stopped, carries_on, room_wanted}
use Rattle.fs_device.proofs.device.Device.process_queue.Goals.{else-is_stopped-via-then-is_stopped+else-most-gt0}
use Rattle.fs_device.proofs.device.Device.process_queue.Goals.{else-is_stopped-via-else-is_stopped}
use Rattle.fs_device.proofs.device.Device.process_queue.Goals as goal

pub returns-in-Ok-None-clause-run : goal.returns-in-Ok-None-clause-run
returns-in-Ok-None-clause-run g c = (
  Prim.search rules,
  rw c.ended.ensures (ends_idle g.F.FileSystemBase.may _ _ _ c.args.queue c.args.most _ _ _ c.loop.invariant.run (omega arith)
      (rw c.in-Ok-None.field-0-is at c.in-Ok-None.ensures.step.1)),
)

pub returns-in-Err-clause-run : goal.returns-in-Err-clause-run
returns-in-Err-clause-run g c = (
  Prim.search rules,
  rw c.refused-in-Err.ensures (ends_refused g.F.FileSystemBase.may _ _ _ c.args.queue c.args.most _ _ _ _ c.loop.invariant.run (omega arith)
      c.in-Err.ensures.step.1),
)

pub loop-preserved : goal.loop-preserved
loop-preserved g c =
    let pushed : c.push.new.self.items ≡ c.loop.done.items ++ c.in-Ok-Some.exchanged ∷ [] = rw c.unwrap.ensures at c.push.ensures.items in
    let turns : map exchanged_of c.push.new.self.items ≡ map exchanged_of c.loop.done.items ++ exchanged_of c.in-Ok-Some.exchanged ∷ [] =
    ap (map exchanged_of) pushed ∙ map-append exchanged_of c.loop.done.items (c.in-Ok-Some.exchanged ∷ []) in
    record {
      count = Prim.search rules;
      most = omega arith;
      room = Prim.search rules;
      kept = Prim.search rules;
      run = rw turns (carries_on g.F.FileSystemBase.may _ _ _ c.args.queue c.args.most _ _ (map exchanged_of c.loop.done.items)
          (exchanged_of c.in-Ok-Some.exchanged) _ c.loop.invariant.run
          (omega (arith, c.loop-test.true)) (rw c.in-Ok-Some.field-0-is at c.in-Ok-Some.ensures.step.1));
    }

pub returns-clause-run : goal.returns-clause-run
returns-clause-run g c = (
  Prim.search rules,
  rw c.ended-2.ensures (ends_full g.F.FileSystemBase.may _ _ c.args.queue c.args.most _ _ c.loop.invariant.run (omega arith)),
)

pub process_one-requires : goal.process_one-requires
process_one-requires g c = g.met.M.GuestMemory.by_shape c.args.mem.now (g.H.HostBlocks.host c.args.host.now)
    (g.H.HostBlocks.host c.loop.host) c.loop.invariant.kept c.requires

pub returns-then-most-gt0-clause-run : goal.returns-then-most-gt0-clause-run
returns-then-most-gt0-clause-run g c =
    let s = state_of (g.M.GuestMemory.memory c.args.mem.now (g.H.HostBlocks.host c.args.host.now)) c.args.self.now in
    let queues = c.self.inside.queues.items in
    let below : c.args.queue < vec_len c.self.inside.queues = Prim.search rules in
    let at = slice_get_read queues (vec_len c.self.inside.queues) c.args.queue _ c.self.inside.queues.ok.0
    (omega (arith, below, c.self.inside.queues.ok.0)) c.index.ensures in
    let there : slice_get c.args.self.now.queues c.args.queue ≡ Some c.index.result.now =
    sym (ap (λ (d : DeviceParts _). slice_get d.queues c.args.queue) c.self.view_is) ∙ at in
    let inside : c.args.queue < length c.args.self.now.queues = Prim.search rules in
    rw c.refused.ensures (rw c.new.ensures.items (
      inside,
      ends_stopped g.F.FileSystemBase.may s c.args.queue c.args.most c.index.result.now there (sym c.if-is_stopped.ensures)
          c.if-most-gt0.true,
    ))

pub returns-in_default-clause-run : goal.returns-in_default-clause-run
returns-in_default-clause-run g c =
    let queues = c.self.inside.queues.items in
    let below : c.args.queue < vec_len c.self.inside.queues = Prim.search rules in
    let at = slice_get_read queues (vec_len c.self.inside.queues) c.args.queue _ c.self.inside.queues.ok.0
    (omega (arith, below, c.self.inside.queues.ok.0)) c.index.ensures in
    let there : slice_get c.args.self.now.queues c.args.queue ≡ Some c.index.result.now =
    sym (ap (λ (d : DeviceParts _). slice_get d.queues c.args.queue) c.self.view_is) ∙ at in
    let runs : c.index.result.now.stopped ≡ false =
    elim c.else-is_stopped.branch [
      | else-is_stopped-via-then-is_stopped+else-most-gt0 w ↦ absurd (omega (arith, c.in_default.ensures.none, w.if-most-gt0.false))
      | else-is_stopped-via-else-is_stopped w ↦ sym (c.is_stopped.ensures) ∙ w.if-is_stopped.false
    ] in
    (room_wanted _ c.index.result.now c.args.most there runs c.in_default.ensures.none, refl)
