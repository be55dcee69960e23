-- The fields of a record's parts, little-endian.
use Rattle.std.specs.Prelude.{ℕ, List, [], ◌∷◌}
use Rattle.vm_values.specs.Fields.{Field}
use Rattle.vm_values.specs.Fields as fields
use Rattle.fs_record.specs.declared.fields.RecordHead.{RecordHead}
use Rattle.fs_record.specs.declared.fields.SavedQueue.{SavedQueue}

-- the head: "VFSD", the version, the number of queues, the page size (0 in version 1), the options
abbrev pub head_fields : RecordHead → List Field
head_fields r =
    fields.d r.magic ∷ fields.d r.version ∷ fields.d r.count ∷ fields.d r.page_size ∷ fields.q r.options ∷ []

-- a queue: its size, its position, whether it is stopped, and the addresses of its three parts
abbrev pub queue_fields : SavedQueue → List Field
queue_fields r =
    fields.w r.size ∷ fields.w r.position ∷ fields.d r.stopped ∷ fields.q r.desc ∷ fields.q r.avail
    ∷ fields.q r.used ∷ []

-- the end of a record after its queues, in version 2: the limit
abbrev pub limit_fields : ℕ → List Field
limit_fields limit = fields.q limit ∷ []
