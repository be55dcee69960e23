-- What is left to be forgotten leads on to all of it.
use Rattle.std.proofs.Common.{drop}
use Rattle.fuse_fs.specs.Answers.{ForgetsEach, pair_numbers}
use Rattle.fuse_fs.proofs.defaults.batch_forget.Given as goal

abbrev pub invariant-loop-inode : goal.invariant-loop-inode
invariant-loop-inode g l =
    (t : _) → ForgetsEach g.F.FileSystemBase.may l.fs l.fn.ctx
    (pair_numbers g.F.Inode.FileNumber.number (drop l.inode-index l.inode-items)) t
    → ForgetsEach g.F.FileSystemBase.may l.fn.fs l.fn.ctx (pair_numbers g.F.Inode.FileNumber.number l.fn.requests.items) t
