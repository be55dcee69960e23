-- Pages that are applied to a host, and the first that doesn't fit.
use Rattle.std.specs.Prelude.{ℕ, ◌+◌, nat_le, List, [], ◌∷◌, ◌++◌, length, take, drop, Option, Some, None}
use Rattle.std.specs.Prelude.{Result, Ok, Err, slice_get, if◌then◌else◌}
use Rattle.vm_memory_core.specs.Host.{Host, changed_at, with_blocks}
use Rattle.fs_device.specs.declared.applying.ApplyError.{ApplyError}
use Rattle.fs_device.specs.declared.applying.ApplyError.TheVariants.{UnknownBlock, OutOfRange}
use Rattle.plain_machine.specs.Harvested.{Page}

-- the bytes of a block after a page was written to it at an offset
abbrev pub with_page : List ℕ → (offset : ℕ) → (page : List ℕ) → List ℕ
with_page bytes offset page = take offset bytes ++ page ++ drop (offset + length page) bytes

-- the host after a page was written to it; no page becomes marked
abbrev pub page_put : Host → Page → Host
page_put h p =
    with_blocks h (changed_at h.blocks p.block (λ b. record b { bytes = with_page b.bytes p.offset p.bytes }))

-- the host after pages were written to it, in order
unfoldable pub pages_put : Host → List Page → Host
pages_put h [] = h
pages_put h (p ∷ ps) = pages_put (page_put h p) ps

-- why page number i doesn't fit into its block, which has this length, if it exists
abbrev pub refused_by : (len : Option ℕ) → (i : ℕ) → Page → Option ApplyError
refused_by None i p = Some (UnknownBlock i)
refused_by (Some len) i p = if nat_le (p.offset + length p.bytes) len then None else Some (OutOfRange i)

-- the refusal of a page, or else the first of those after it
abbrev pub or_later : Option ApplyError → Option ApplyError → Option ApplyError
or_later (Some e) later = Some e
or_later None later = later

-- the refusal of the first page, numbered from i on, that doesn't fit into blocks of these lengths
unfoldable pub first_refused : (lengths : List ℕ) → (i : ℕ) → List Page → Option ApplyError
first_refused lengths i [] = None
first_refused lengths i (p ∷ ps) =
    or_later (refused_by (slice_get lengths p.block) i p) (first_refused lengths (i + 1) ps)

-- the result of applying pages
abbrev pub applied : Option ApplyError → Result (Unit {0}) ApplyError
applied None = Ok tt
applied (Some e) = Err e

-- the number of an error
abbrev pub apply_error_number : ApplyError → ℕ
apply_error_number (UnknownBlock i) = 1
apply_error_number (OutOfRange i) = 2
