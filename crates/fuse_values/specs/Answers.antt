-- The answer of a file system that a value of the code means.
use Rattle.std.specs.Prelude.{ℕ, List}
use Rattle.fuse_fs.specs.Calls as call
use Rattle.fuse_values.specs.declared.answer.FileAnswer.{FileAnswer}
use Rattle.fuse_values.specs.declared.answer.FileAnswer.TheVariants as value

-- the answer that a value means; bytes: the data, which the value doesn't hold
abbrev pub answer_of : (bytes : List ℕ) → FileAnswer → call.FileAnswer
answer_of bytes (value.Failed errno) = call.Failed errno
answer_of bytes value.Done = call.Done
answer_of bytes (value.HasEntry entry) = call.HasEntry entry
answer_of bytes (value.HasAttr attr timeout) = call.HasAttr attr timeout
answer_of bytes (value.Opened handle options) = call.Opened handle options.0
answer_of bytes (value.Created entry handle options) = call.Created entry handle options.0
answer_of bytes (value.Bytes len) = call.Bytes bytes
answer_of bytes (value.Count n) = call.Count n
answer_of bytes (value.Stats stats) = call.Stats stats
answer_of bytes (value.Wrote n) = call.Wrote n
answer_of bytes (value.Offset offset) = call.Offset offset
answer_of bytes (value.Wants options) = call.Wants options.0
