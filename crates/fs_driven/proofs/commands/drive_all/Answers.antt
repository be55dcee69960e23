use Rattle.std.proofs.Common.{◌<◌, ◌∷◌, [], ℕ, get_or, length, rules, subst, sym}
use Rattle.fs_driven.specs.Events.{Drives, call_of}
use Rattle.fs_driven.specs.declared.commands.DriverCall.{DriverCall}
use Rattle.fs_driven.proofs.Lists.{more_so_far, none_so_far, number_at}
use Rattle.fs_driven.proofs.Rest.{none_yet, one_more}
use Rattle.fs_driven.proofs.commands.drive_all.Goals as goal

pub loop-n-init : goal.loop-n-init
loop-n-init c = record {
  so_far = none_so_far c.args.on.now c.args.page_size c.args.handles.now c.args.queues.now c.args.places.now c.args.commands.now
      c.args.returned.now;
  rest = none_yet c.args.places.now c.args.commands.now c.args.returned.now;
}

pub loop-n-preserved : goal.loop-n-preserved
loop-n-preserved c =
    let l = c.loop-n in
    let in_places : l.n < length c.args.places.now = search rules in
    let in_commands : l.n < length l.commands = search rules in
    let in_initial : l.n < length c.args.commands.now =
    subst (λ (m : ℕ). l.n < m) l.invariant.so_far.whole in_commands in
    let in_returned : l.n < length l.returned = search rules in
    let one : Drives c.args.on.now c.args.page_size l.handles c.perform.new.handles l.queues c.perform.new.queues
    (call_of (get_or c.args.places.now l.n 0) c.index-commands-n.result c.perform.new.returned ∷ []) =
    subst
    (λ (x : DriverCall). Drives c.args.on.now c.args.page_size l.handles c.perform.new.handles l.queues c.perform.new.queues
    (call_of (get_or c.args.places.now l.n 0) x c.perform.new.returned ∷ []))
    (sym c.index-commands-n.is) c.perform.ensures.step in
    record {
      so_far = more_so_far c.args.on.now c.args.page_size c.args.handles.now l.handles c.perform.new.handles c.args.queues.now
          l.queues c.perform.new.queues c.args.places.now c.args.commands.now l.commands l.returned l.n
          (get_or c.args.places.now l.n 0) c.index-commands-n.result c.perform.new.command c.perform.new.returned
          l.invariant.so_far in_places in_commands in_returned (number_at c.args.places.now l.n in_places)
          c.index-commands-n.is one;
      rest = one_more c.args.places.now c.args.commands.now l.commands c.args.returned.now l.returned l.n c.perform.new.command
          c.perform.new.returned l.invariant.rest in_places in_initial in_returned;
    }
