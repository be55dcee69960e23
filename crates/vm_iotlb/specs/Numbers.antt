-- The numbers of errors, and the conversion of a span to a range of I/O addresses.
use Rattle.std.specs.Prelude.{ℕ, ◌≡◌, ◌-◌, ◌<◌, ◌≤◌, Result, Ok, Err}
use Rattle.std.specs.declared.ops.Range.{Range}
use Rattle.vm_iotlb.specs.declared.iova.IovaRange.{IovaRange}
use Rattle.vm_iotlb.specs.declared.error.IommuError.{IommuError}
use Rattle.vm_iotlb.specs.declared.error.IommuError.TheVariants.{CannotResolve, Fragmented}
use Rattle.vm_iotlb.specs.declared.error.IommuError.TheVariants.{IommuMisconfigured, OutOfMemory}

-- the number of an error, for a caller that stores it
abbrev pub iommu_error_number : IommuError → ℕ
iommu_error_number (CannotResolve range) = 1
iommu_error_number Fragmented = 2
iommu_error_number IommuMisconfigured = 3
iommu_error_number OutOfMemory = 4

-- the result is the range of the span's addresses, or IommuMisconfigured if the span ends before it begins
abbrev pub IsIovaRange : Range ℕ → Result IovaRange IommuError → Type 0
IsIovaRange span (Ok range) =
    (span.start ≤ span.end) × (range.base.0 ≡ span.start) × (range.length ≡ span.end - span.start)
IsIovaRange span (Err IommuMisconfigured) = span.end < span.start
IsIovaRange span (Err (CannotResolve range)) = ⊥
IsIovaRange span (Err Fragmented) = ⊥
IsIovaRange span (Err OutOfMemory) = ⊥
