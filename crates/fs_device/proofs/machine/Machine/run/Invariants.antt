use Rattle.std.proofs.Common.{◌≡◌, ◌≤◌, ◌++◌, List, length, map, zip, vec_capacity}
use Rattle.std.specs.Vec.Iter.{into_iter_items, into_iter_len}
use Rattle.plain_machine.specs.Step.{State}
use Rattle.plain_machine.specs.Run.{Command, Answer, Run}
use Rattle.fs_device.specs.CommandView.{answer_of, command_of}
use Rattle.fs_device.specs.MachineView.{machine_of}
use Rattle.fs_device.proofs.machine.Machine.run.Given as goal

abbrev pub invariant-loop-command : goal.invariant-loop-command
invariant-loop-command g l = record {
  next : (goal.iterator-loop-command g).can_next l.command-iterator;
  finite : (goal.iterator-loop-command g).is_finite l.command-iterator;
  all : l.yielded ++ into_iter_items l.command-iterator ≡ into_iter_items l.initial.command-iterator;
  left : into_iter_len l.command-iterator ≡ length (into_iter_items l.command-iterator);
  count : length l.answers.items ≡ length l.yielded;
  room : length (into_iter_items l.initial.command-iterator) ≤ vec_capacity l.answers;
  run : (events : List (Command × Answer)) (after : State _) → Run g.F.FileSystemBase.may (machine_of l.self) events after →
      Run g.F.FileSystemBase.may (machine_of l.initial.self)
      (zip (map command_of l.yielded) (map answer_of l.answers.items) ++ events) after;
}
