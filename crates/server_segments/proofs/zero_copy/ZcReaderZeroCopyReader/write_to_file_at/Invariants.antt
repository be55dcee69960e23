use Rattle.std.proofs.Common.{◌-◌, option_map}
use Rattle.server_segments.proofs.Spending.{Lent, Spent}
use Rattle.server_segments.proofs.zero_copy.ZcReaderZeroCopyReader.write_to_file_at.Given as goal

abbrev pub invariant-loop-done : goal.invariant-loop-done
invariant-loop-done g l = record {
  lent : Lent l.fn.self.reader l.count l.most;
  spent : Spent g.F.PositionedFile.write_gives l.initial.file l.fn.self.reader l.most l.off (option_map (λ f. f.0) l.flags) l.done
      l.self.reader l.file;
}

abbrev pub decreases-loop-done : goal.decreases-loop-done
decreases-loop-done g l = l.most - l.done
