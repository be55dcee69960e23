-- The memory that a handle, or a place for a table, owns: a box, as a pointer and the heap's allocator, with
-- a type that C may see.
use base.Fml.{Fml, ftrue}
use base.Stored.{Coded}
use denote.RawPtr.{Ptr, null_ptr}
use Rattle.std.specs.Prelude.{Option, Some, None}
use Rattle.std.specs.Coded.{coded_option}
use Rattle.std.specs.Box.Ownership.{box_owns}
use Rattle.std.specs.Global.{Global}
use Rattle.std_heap.specs.contracts.GlobalAllocator.TheImpl.{ghosts}
use Rattle.fs_chain.specs.contracts.chain_handle.ChainHandle as handle
use Rattle.fs_chain.specs.contracts.iotlb_place.IotlbPlace as place

abbrev pub null : Ptr
null = null_ptr

-- a handle owns the box behind its pointer, if it has one
abbrev pub chain_owns : Global → Ptr → Option (handle.the_row).Denot → Fml
chain_owns alloc p None = ftrue
chain_owns alloc p (Some w) = box_owns (ghosts.dealloc_token alloc) handle.the_row p w

abbrev pub chain_value_coded : Coded (Option (handle.the_row).Denot)
chain_value_coded = coded_option (handle.the_row).coded

-- the same of a place for an IOMMU's table
abbrev pub iotlb_owns : Global → Ptr → Option (place.the_row).Denot → Fml
iotlb_owns alloc p None = ftrue
iotlb_owns alloc p (Some w) = box_owns (ghosts.dealloc_token alloc) place.the_row p w

abbrev pub iotlb_value_coded : Coded (Option (place.the_row).Denot)
iotlb_value_coded = coded_option (place.the_row).coded
