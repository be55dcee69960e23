-- The calls that a file system of fewer calls may lack, in groups, and the default answer of each.
use Rattle.std.specs.Prelude.{None}
use Rattle.fuse_fs.specs.Answers.{default_stats}
use Rattle.fuse_fs.specs.Calls.{FileCall, FileAnswer, Failed, Done, Opened, Stats}
use Rattle.fuse_fs.specs.Calls.{Destroy, Init, Lookup, Getattr, Read, Readdir, Forget, BatchForget, Write}
use Rattle.fuse_fs.specs.Calls.{Open, Release, Opendir, Setattr, Mkdir, Unlink, Rmdir, Rename, Create, Statfs}

-- the groups of calls: those of a read-only file system, those that forget nodes, WRITE, those that
-- open and release files, those that change names and attributes with STATFS, and all others
pub data Group : Type 0 where
  Reading : Group
  Forgetting : Group
  Writing : Group
  Opening : Group
  Changing : Group
  Rare : Group

-- the group of a call
abbrev pub group_of : FileCall → Group
group_of (Init a) = Reading
group_of (Lookup a b c) = Reading
group_of (Getattr a b c) = Reading
group_of (Read a b c d e f g h) = Reading
group_of (Readdir a b c d e) = Reading
group_of (Forget a b c) = Forgetting
group_of (BatchForget a b) = Forgetting
group_of (Write a b c d e f g h i j) = Writing
group_of (Open a b c d) = Opening
group_of (Release a b c d e f g) = Opening
group_of (Opendir a b c) = Opening
group_of (Setattr a b c d e) = Changing
group_of (Mkdir a b c d e f) = Changing
group_of (Unlink a b c) = Changing
group_of (Rmdir a b c) = Changing
group_of (Rename a b c d e f) = Changing
group_of (Create a b c d e f g h) = Changing
group_of (Statfs a b) = Changing
group_of _ = Rare

-- the default answer of a call: done if it can't fail, opened without a handle, counts of 0, or
-- else ENOSYS (38 in errno.h)
abbrev pub default_answer : FileCall → FileAnswer
default_answer Destroy = Done
default_answer (Forget who node count) = Done
default_answer (BatchForget who counts) = Done
default_answer (Open who node kill flags) = Opened None 0
default_answer (Opendir who node flags) = Opened None 0
default_answer (Statfs who node) = Stats default_stats
default_answer _ = Failed 38
