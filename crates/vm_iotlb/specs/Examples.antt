-- A worked table that computes. It maps eight addresses for reading and writing, but the two in their middle
-- elsewhere and for reading alone.
use Rattle.std.specs.Prelude.{◌≡◌, ℕ, true, false, [], ◌∷◌, map, refl}
use Rattle.vm_iotlb.specs.declared.permissions.Permissions.TheVariants.{Read, Write, ReadWrite}
use Rattle.vm_iotlb.specs.declared.iova.MappedRange.{MappedRange}
use Rattle.vm_iotlb.specs.Table.{Table, nothing_mapped, mapped, unmapped}
use Rattle.vm_iotlb.specs.AddressRuns.{run_of, runs, pieces, missing, lacking, may_all, carries_on_at}
use Rattle.vm_iotlb.specs.AddressRuns.{begins_at}
use Rattle.vm_iotlb.specs.AddressRuns.{begins_anew_about}

-- the table of these examples
abbrev table : Table
table = mapped 0x14 0x40 2 Read (mapped 0x10 0x80 8 ReadWrite nothing_mapped)

-- n addresses from a target on
abbrev piece : ℕ → ℕ → MappedRange
piece a n = record { base = record { 0 = a }; length = n }

-- a look-up for reading, which all of its addresses allow
read_may : may_all table Read 0x12 6 ≡ true
unfolding may_all
read_may = refl

read_pieces : pieces table 0x12 6 ≡ piece 0x82 2 ∷ piece 0x40 2 ∷ piece 0x86 2 ∷ []
unfolding pieces runs
read_pieces = refl

-- a look-up for writing, which the two in the middle don't allow
write_may_not : may_all table Write 0x12 6 ≡ false
unfolding may_all
write_may_not = refl

write_lacks : lacking table Write 0x12 6 ≡ run_of 0x14 2 ∷ []
unfolding lacking runs
write_lacks = refl

-- a look-up that begins before the eight
front_misses : missing table 0xe 4 ≡ run_of 0xe 2 ∷ []
unfolding missing runs
front_misses = refl

-- the look-up for reading after the two mappings were removed
middle_misses : missing (unmapped 0x14 2 table) 0x12 6 ≡ run_of 0x14 2 ∷ []
unfolding missing runs
middle_misses = refl

-- the addresses 0, right before the eight, the first two, the two in the middle, the two behind those, and
-- right behind the eight
some_go_on : map (carries_on_at table) (0 ∷ 0xf ∷ 0x10 ∷ 0x11 ∷ 0x14 ∷ 0x15 ∷ 0x16 ∷ 0x17 ∷ 0x18 ∷ [])
    ≡ false ∷ false ∷ false ∷ true ∷ false ∷ true ∷ false ∷ true ∷ false ∷ []
some_go_on = refl

some_begin : map (begins_at table) (0 ∷ 0xf ∷ 0x10 ∷ 0x11 ∷ 0x14 ∷ 0x15 ∷ 0x16 ∷ 0x17 ∷ 0x18 ∷ [])
    ≡ false ∷ false ∷ true ∷ false ∷ true ∷ false ∷ true ∷ false ∷ false ∷ []
some_begin = refl

-- to map the two elsewhere splits the eight: a run begins at the two, and one right behind them
middle_begins : begins_anew_about (mapped 0x10 0x80 8 ReadWrite nothing_mapped) table 0x14 0x16 ≡ true
middle_begins = refl

-- if the two are then mapped as the others, or elsewhere again, no run begins where none began before
middle_begins_no_more : map (λ target. begins_anew_about table (mapped 0x14 target 2 ReadWrite table) 0x14
    0x16) (0x84 ∷ 0x60 ∷ []) ≡ false ∷ false ∷ []
middle_begins_no_more = refl
