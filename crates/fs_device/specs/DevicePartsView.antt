-- A device as its contracts see it.
use Rattle.std.specs.Prelude.{ℕ, List}
use Rattle.fs_queue.specs.Queue.{Queue}
use Rattle.fs_record.specs.Record.{Second, record_bytes}

-- the parts of a device: its queues, the agreed options, the file system, the longest request and reply
-- buffer, and the size of a guest's page
pub record DeviceParts (F : Type 0) : Type 0 where
  pub queues : List Queue
  pub options : ℕ
  pub files : F
  pub limit : ℕ
  pub page_size : ℕ

-- the record of a device, of version 2
abbrev pub device_bytes : {F : Type 0} → DeviceParts F → List ℕ
device_bytes d = record_bytes (Second d.page_size d.limit) d.options d.queues
