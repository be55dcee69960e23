-- The fields of a split virtqueue's records (VIRTIO 1.2, 2.7.5 and 2.7.8).
use Rattle.std.specs.Prelude.{ℕ, List, [], ◌∷◌}
use Rattle.vm_values.specs.Fields.{Field}
use Rattle.vm_values.specs.Fields as fields
use Rattle.fs_queue.specs.Chain.{Descriptor}

-- struct virtq_desc (2.7.5)
abbrev pub descriptor : Descriptor → List Field
descriptor r = fields.q r.addr ∷ fields.d r.len ∷ fields.w r.flags ∷ fields.w r.next ∷ []

-- struct virtq_used_elem, and then the used index (2.7.8)
abbrev pub used_update : (id len index : ℕ) → List Field
used_update id len index = fields.d id ∷ fields.d len ∷ fields.w index ∷ []
