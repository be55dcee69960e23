-- Whole replies, made from the answers (linux/fuse.h).
use Rattle.std.specs.Prelude.{◌≡◌, ℕ, ◌+◌, ◌-◌, ◌/◌, ◌^◌, ◌%◌, Bool, ◌&&◌, nat_lt, List, [], ◌++◌, length}
use Rattle.std.specs.Prelude.{replicate, Option, Some, None, Result, Ok, Err, if◌then◌else◌, pos, neg_ℤ}
use Rattle.vm_values.specs.Fields.{spelled}
use Rattle.fuse_base.specs.Stats.{kstatfs_from}
use Rattle.fuse_wire.specs.declared.replies.InitOut.{InitOut}
use Rattle.fuse_wire.specs.Records.{out_header, entry_out, attr_out, open_out, getxattr_out, statfs_out}
use Rattle.fuse_wire.specs.Records.{write_out, lseek_out, init_out}
use Rattle.fuse_fs.specs.Answers.{entry_out_of}
use Rattle.fuse_fs.specs.Replies.{attr_out_of, open_out_of, getxattr_out_of, write_out_of, lseek_out_of}
use Rattle.fuse_fs.specs.Calls.{FileAnswer, Failed, HasEntry, HasAttr, Opened, Created, Bytes, Count, Stats}
use Rattle.fuse_fs.specs.Calls.{Wrote, Offset}
use Rattle.server_segments.specs.declared.error.Error.{Error}
use Rattle.server_segments.specs.ReaderAndWriterView.{WriterView}
use Rattle.server_segments.specs.declared.error.Error.TheVariants.{EncodeMessage}

-- struct fuse_out_header of a success, and the bytes behind it
unfoldable pub reply_bytes : (unique : ℕ) → List ℕ → List ℕ
reply_bytes unique bytes =
    spelled (out_header (record { len = 16 + length bytes; error = pos 0; unique = unique })) ++ bytes

-- the reply of an error: struct fuse_out_header with the negative error number
unfoldable pub error_bytes : (unique errno : ℕ) → List ℕ
error_bytes unique errno =
    spelled (out_header (record { len = 16; error = neg_ℤ (pos errno); unique = unique }))

-- the bytes of an answer behind the header
abbrev pub body_bytes : FileAnswer → List ℕ
body_bytes (HasEntry e) = spelled (entry_out (entry_out_of e))
body_bytes (HasAttr attr timeout) = spelled (attr_out (attr_out_of attr timeout))
body_bytes (Opened handle options) = spelled (open_out (open_out_of handle options))
body_bytes (Created e handle options) =
    spelled (entry_out (entry_out_of e)) ++ spelled (open_out (open_out_of handle options))
body_bytes (Bytes bytes) = bytes
body_bytes (Count n) = spelled (getxattr_out (getxattr_out_of n))
body_bytes (Stats st) = spelled (statfs_out (record { st = kstatfs_from st }))
body_bytes (Wrote n) = spelled (write_out (write_out_of n))
body_bytes (Offset n) = spelled (lseek_out (lseek_out_of n))
body_bytes _ = []

-- the reply to an answer; a silent call has none if it succeeds
abbrev pub bytes_of_answer : (silent : Bool) → (unique : ℕ) → FileAnswer → List ℕ
bytes_of_answer silent unique (Failed errno) = error_bytes unique errno
bytes_of_answer silent unique answer = if silent then [] else reply_bytes unique (body_bytes answer)

-- the data of an answer, behind the front of its reply
abbrev pub data_of_answer : (silent : Bool) → FileAnswer → List ℕ
data_of_answer silent (Bytes bytes) = if silent then [] else bytes
data_of_answer silent _ = []

-- struct fuse_init_out of version 7.38 with these values; the options are in `flags` and `flags2`
abbrev pub init_record : (readahead options max_background congestion max_write gran max_pages : ℕ) → InitOut
init_record readahead options max_background congestion max_write gran max_pages =
    record {
      major = 7;
      minor = 38;
      max_readahead = readahead;
      flags = options % 2 ^ 32;
      max_background = max_background;
      congestion_threshold = congestion;
      max_write = max_write;
      time_gran = gran;
      max_pages = max_pages;
      map_alignment = 0;
      flags2 = options / 2 ^ 32;
      unused = replicate 7 0;
    }

-- struct fuse_init_out for a client of a later version: only the version isn't 0
unfoldable pub versions_bytes : List ℕ
versions_bytes = spelled (init_out (init_record 0 0 0 0 0 0 0))

-- struct fuse_init_out: 65535 background requests, congestion from 49149 on, writes of at most 2^20
-- bytes, times to the nanosecond, and the number of pages of 2^20 bytes
unfoldable pub started_bytes : (page_size readahead options : ℕ) → List ℕ
started_bytes page_size readahead options =
    spelled (init_out (init_record readahead options 65535 49149 (2 ^ 20) 1 ((2 ^ 20 - 1) / page_size + 1)))

-- the reply to a READ: the data, or the error
abbrev pub data_reply : ℕ → Result ℕ ℕ → List ℕ → List ℕ
data_reply unique (Ok n) bytes = reply_bytes unique bytes
data_reply unique (Err errno) bytes = error_bytes unique errno

-- the length of the entries in the reply, or the error that is the reply. In READDIRPLUS an error
-- after the first entry only ends the list
abbrev pub listing_answer : (len : ℕ) → (with_nodes : Bool) → Option ℕ → Result ℕ ℕ
listing_answer len with_nodes None = Ok len
listing_answer len with_nodes (Some errno) = if with_nodes && nat_lt 0 len then Ok len else Err errno

-- the header of the reply to a READ; the reply of an error is only a header
abbrev pub data_header : ℕ → Result ℕ ℕ → List ℕ
data_header unique (Ok n) = spelled (out_header (record { len = 16 + n; error = pos 0; unique = unique }))
data_header unique (Err errno) = error_bytes unique errno

-- the reply to a listing: the entries in it, or the error that ended it
abbrev pub listing_bytes : ℕ → (with_nodes : Bool) → List ℕ → Option ℕ → List ℕ
listing_bytes unique with_nodes bytes error =
    data_reply unique (listing_answer (length bytes) with_nodes error) bytes

-- the result of a writer, with the bytes that it wrote if it succeeded
abbrev pub with_written : Result ℕ Error → List ℕ → Result (List ℕ) Error
with_written (Ok n) written = Ok written
with_written (Err e) written = Err e

-- the whole reply, or the fault EncodeMessage if it is longer than the reply buffer
abbrev pub whole_or_none : (room : ℕ) → List ℕ → Result (List ℕ) Error
whole_or_none room bytes = if nat_lt room (length bytes) then Err EncodeMessage else Ok bytes

-- a result leaves its writer: a reply of that length in the writer's room, or after a fault no change
abbrev pub LeavesWriter : Result ℕ Error → (old new : WriterView) → Type 0
LeavesWriter (Ok n) old new =
    (n ≡ length new.written) × (length new.written + new.free ≡ length old.written + old.free)
LeavesWriter (Err e) old new = new ≡ old
