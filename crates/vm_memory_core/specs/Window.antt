-- A window as a list of places, the bytes at them, and the host after a write there.
use Rattle.std.specs.Prelude.{◌≡◌, ℕ, zero, suc, ◌+◌, ◌-◌, ◌<◌, ◌≤◌, nat_le, List, [], ◌∷◌, length, All}
use Rattle.std.specs.Prelude.{Option, Some, None, option_map, slice_index_or, unwrap_or, if◌then◌else◌, refl}
use Rattle.std.proofs.Common.{arith}
use Rattle.std.specs.List.{flat_map, zip}
use Rattle.vm_memory_core.specs.Host.{Host, IoAddress, Place, byte_at, with_byte, with_mark_by}
use Rattle.vm_memory_core.specs.declared.window.IoMarks.{IoMarks}
use Rattle.vm_memory_core.specs.declared.window.Marking.{Marking}
use Rattle.vm_memory_core.specs.declared.window.Marking.TheVariants.{InBlock, IoAbove, IoBelow}

-- len bytes of a block, from an offset on, and the I/O pages that writes to them mark, if they don't mark the
-- block's own
pub record Window : Type 0 where
  pub block : ℕ
  pub offset : ℕ
  pub len : ℕ
  pub io : Option IoMarks

-- the I/O pages of a set in which the byte at an offset has the I/O address base
abbrev pub io_from : (set base offset : ℕ) → IoMarks
io_from set base offset =
    if nat_le offset base then record { set = set; base = base - offset; from = 0 }
    else record { set = set; base = 0; from = offset - base }

-- the I/O pages that a window with these fields marks, if any
abbrev pub io_of : Marking → (set by : ℕ) → Option IoMarks
io_of InBlock set by = None
io_of IoAbove set by = Some (record { set = set; base = by; from = 0 })
io_of IoBelow set by = Some (record { set = set; base = 0; from = by })

-- no I/O address is below 0, and each marking has one representation
abbrev pub BeginsBy : (offset : ℕ) → Marking → (set by : ℕ) → Type 0
BeginsBy offset InBlock set by = (set ≡ 0) × (by ≡ 0)
BeginsBy offset IoAbove set by = Unit {0}
BeginsBy offset IoBelow set by = (0 < by) × (by ≤ offset)

-- the fields of a window from its I/O pages, with a proof that a ghost member needs: nothing here has to be
-- believed
abbrev pub marking_from : (from : ℕ) → Marking
marking_from zero = IoAbove
marking_from (suc from) = IoBelow

abbrev pub by_from : (base from : ℕ) → ℕ
by_from base zero = base
by_from base (suc from) = suc from

abbrev pub marking_of : Option IoMarks → Marking
marking_of None = InBlock
marking_of (Some m) = marking_from m.from

abbrev pub set_of : Option IoMarks → ℕ
set_of None = 0
set_of (Some m) = m.set

abbrev pub by_of : Option IoMarks → ℕ
by_of None = 0
by_of (Some m) = by_from m.base m.from

abbrev reported : Option IoMarks → Marking × ℕ × ℕ
reported io = (marking_of io, set_of io, by_of io)

pub marking_back :
    (m : Marking) (offset set by : ℕ) → BeginsBy offset m set by → reported (io_of m set by) ≡ (m, set, by)
marking_back InBlock offset set by begins = rw (begins.0, begins.1) refl
marking_back IoAbove offset set by begins = refl
marking_back IoBelow offset set zero begins = absurd (omega (arith, begins.0))
marking_back IoBelow offset set (suc by) begins = refl

-- the I/O address of the byte at an offset
abbrev pub io_address : (offset : ℕ) → Option IoMarks → Option IoAddress
io_address offset io = option_map (λ m. record { set = m.set; address = m.base + (offset - m.from) }) io

-- n places of a block, from an offset on
unfoldable pub span : (block offset : ℕ) → Option IoMarks → (n : ℕ) → List Place
span block offset io zero = []
span block offset io (suc n) =
    record { block = block; offset = offset; io = io_address offset io } ∷ span block (offset + 1) io n

-- the places of a window
abbrev pub places_of : Window → List Place
places_of w = span w.block w.offset w.io w.len

-- the places with consecutive I/O addresses from one on, whose pages writes to them mark
abbrev pub with_io : (set address : ℕ) → List Place → List Place
with_io set address [] = []
with_io set address (place ∷ more) =
    record place { io = Some (record { set = set; address = address }) } ∷ with_io set (address + 1) more

-- the places of some windows, one after another
abbrev pub places : List Window → List Place
places ws = flat_map places_of ws

-- a host with blocks of these lengths has all of a window
abbrev pub LiesIn : List ℕ → Window → Type 0
LiesIn lengths w = (w.block < length lengths) × (w.offset + w.len ≤ slice_index_or lengths w.block 0)

-- a host with blocks of these lengths has all of each window
unfoldable pub AllLieIn : List ℕ → List Window → Type 0
AllLieIn lengths ws = All (LiesIn lengths) ws

-- the byte at a place; 0 if there is no such place
abbrev pub byte_in : Host → Place → ℕ
byte_in h p = unwrap_or (byte_at h p) 0

-- the host after a byte was written at a place, and the place's page was marked
abbrev pub put_byte : Host → Place → ℕ → Host
put_byte h p byte = with_mark_by p.io p (with_byte h p byte)

-- the host after bytes were written at places, one after another, so that the last one at a place remains
unfoldable pub put_all : Host → List (Place × ℕ) → Host
put_all h [] = h
put_all h (write ∷ writes) = put_all (put_byte h write.0 write.1) writes

-- the host after bytes were set at places, one after another: no page is marked
unfoldable pub set_all : Host → List (Place × ℕ) → Host
set_all h [] = h
set_all h (write ∷ writes) = set_all (with_byte h write.0 write.1) writes

-- bytes were stored at places, one after another, their pages are marked, and nothing else changed
abbrev pub Stores : (old new : Host) → List Place → (bytes : List ℕ) → Type 0
Stores old new at bytes = new ≡ put_all old (zip at bytes)
