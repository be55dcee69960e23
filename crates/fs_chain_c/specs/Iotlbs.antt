-- An IOMMU's table that C keeps, and lends to a chain.
use Rattle.std.specs.Prelude.{◌≡◌, ◌⊎◌, ◌==◌, ℕ, true, All, [], Option, Some, None, Result, Ok, Err}
use Rattle.std.specs.Prelude.{if◌then◌else◌, slice_get}
use Rattle.memory_requests.specs.Refused.{RoomWasRefused}
use Rattle.vm_iotlb.specs.declared.iova.IovaRange.{IovaRange}
use Rattle.vm_iotlb.specs.declared.permissions.Permissions.{Permissions}
use Rattle.vm_iotlb.specs.declared.permissions.Permissions.TheVariants.{No, Read, Write, ReadWrite}
use Rattle.fs_queue.specs.Chain.{Descriptor}
use Rattle.fs_regions.specs.Places.{places_in}
use Rattle.fs_regions.specs.Using.{IsUntouched}
use Rattle.fs_chain.specs.declared.chain_handle.ChainHandle.{ChainHandle}
use Rattle.fs_chain.specs.declared.error.ChainError.{ChainError}
use Rattle.fs_chain.specs.declared.error.ChainError.TheVariants.{BadArgument, OutOfMemory, WrongOrder}
use Rattle.fs_chain.specs.declared.iotlb_place.IotlbPlace.{IotlbPlace}
use Rattle.fs_chain.specs.Numbers.{chain_error_number}
use Rattle.fs_chain.specs.Orders.{is_out}
use Rattle.fs_chain.specs.Tables.{ExchangesWith, MapsIn, UnmapsIn, miss_at}
use Rattle.fs_chain_c.specs.declared.missing.FsMiss.{FsMiss}
use Rattle.fs_chain_c.specs.declared.iotlb_handle.FsIotlb.{FsIotlb}
use Rattle.fs_chain_c.specs.Owned.{null}

-- the number of an access
abbrev pub access_number : Permissions → ℕ
access_number No = 0
access_number Read = 1
access_number Write = 2
access_number ReadWrite = 3

-- the access of a number
abbrev pub access_of : ℕ → Option Permissions
access_of n =
    if n == 0 then Some No else if n == 1 then Some Read else if n == 2 then Some Write
    else if n == 3 then Some ReadWrite else None

-- the status of a result: 0, or the error's number
abbrev pub status_of : {X : Type 0} → Result X ChainError → ℕ
status_of (Ok done) = 0
status_of (Err e) = chain_error_number e

-- a place without an `IotlbPlace`: all its numbers are zero
abbrev pub IsNoPlace : FsIotlb → Type 0
IsNoPlace c = (c.value ≡ None) × (c.at ≡ null) × (c.full ≡ 0)

-- a call does this with an `IotlbPlace`, or nothing if there is none. None is made and none is lost by it
abbrev pub OnPlace : (Does : IotlbPlace → IotlbPlace → Type 0) → (Nothing : Type 0) → Option IotlbPlace →
    Option IotlbPlace → Type 0
OnPlace Does Nothing None None = Nothing
OnPlace Does Nothing None (Some b') = ⊥
OnPlace Does Nothing (Some b) None = ⊥
OnPlace Does Nothing (Some b) (Some b') = Does b b'

-- the place has a new table that maps nothing, or it had no `IotlbPlace`, and the allocation failed
abbrev pub MakesTable : Option IotlbPlace → (status : ℕ) → Option IotlbPlace → Type 0
MakesTable before status (Some p) = (status ≡ 0) × (p.table ≡ Some [])
MakesTable before status None =
    (status ≡ chain_error_number OutOfMemory) × (before ≡ None) × RoomWasRefused 1

-- the table maps addresses, by the number of their access, or a status is returned and nothing changes
abbrev pub MapsByNumber : IotlbPlace → (iova len guest : ℕ) → Option Permissions → (status : ℕ) →
    IotlbPlace → Type 0
MapsByNumber p iova len guest None status p' =
    (status ≡ chain_error_number BadArgument) × (p' ≡ p)
MapsByNumber p iova len guest (Some access) status p' =
    (result : Result (Unit {0}) ChainError)
    × MapsIn p.table iova len guest access p'.table result
    × (status ≡ status_of result)

abbrev pub MapsTable :
    Option IotlbPlace → (iova len guest access status : ℕ) → Option IotlbPlace → Type 0
MapsTable before iova len guest access status after =
    OnPlace (λ p p'. MapsByNumber p iova len guest (access_of access) status p')
    (status ≡ chain_error_number WrongOrder) before after

-- the table loses mappings
abbrev pub UnmapsPlace : IotlbPlace → (iova len status : ℕ) → IotlbPlace → Type 0
UnmapsPlace p iova len status p' =
    (result : Result (Unit {0}) ChainError)
    × UnmapsIn p.table iova len p'.table result
    × (status ≡ status_of result)

abbrev pub UnmapsTable : Option IotlbPlace → (iova len status : ℕ) → Option IotlbPlace → Type 0
UnmapsTable before iova len status after =
    OnPlace (λ p p'. UnmapsPlace p iova len status p') (status ≡ chain_error_number WrongOrder) before after

-- the tables of a handle and of a place are exchanged, or a status is returned and nothing changes
abbrev pub ExchangesPlace :
    ChainHandle → IotlbPlace → (status : ℕ) → ChainHandle → IotlbPlace → Type 0
ExchangesPlace b p status b' p' =
    (result : Result (Unit {0}) ChainError) × ExchangesWith b b' p p' result
    × (status ≡ status_of result)

-- the same, if C has both; else nothing changes
abbrev pub ExchangesTables : Option ChainHandle → Option IotlbPlace → (status : ℕ) → Option ChainHandle →
    Option IotlbPlace → Type 0
ExchangesTables (Some b) (Some p) status (Some b') (Some p') = ExchangesPlace b p status b' p'
ExchangesTables (Some b) (Some p) status after after' = ⊥
ExchangesTables before place status after after' =
    (status ≡ chain_error_number WrongOrder) × (after ≡ before) × (after' ≡ place)

-- ---- missing addresses

-- neither addresses nor an access
abbrev pub no_miss : FsMiss
no_miss = record { at = 0; len = 0; access = 0 }

-- the first miss of a gathered descriptor from an address on: 39; 0 if there is none; 33 if there is no such
-- descriptor
abbrev pub FillsMissOf :
    Option Descriptor → Option (IovaRange × Permissions) → (status : ℕ) → FsMiss → Type 0
FillsMissOf None miss status filled = (status ≡ 33) × (filled ≡ no_miss)
FillsMissOf (Some d) None status filled = (status ≡ 0) × (filled ≡ no_miss)
FillsMissOf (Some d) (Some miss) status filled =
    (status ≡ 39)
    × (filled ≡ record { at = miss.0.base.0; len = miss.0.length; access = access_number miss.1 })

abbrev pub FillsMiss : ChainHandle → (index from status : ℕ) → FsMiss → Type 0
FillsMiss w index from status filled =
    FillsMissOf (slice_get w.descriptors.items index)
    (miss_at (places_in w.regions) (slice_get w.descriptors.items index) from) status filled

-- whether the chain in flight uses one of n addresses
abbrev pub ReportsUse : ChainHandle → (iova n result : ℕ) → Type 0
ReportsUse w iova n result =
    ((result ≡ 1) × (is_out w.state ≡ true) × (All (IsUntouched iova n) w.descriptors.items → ⊥))
    ⊎ ((result ≡ 0) × (is_out w.state ≡ true → All (IsUntouched iova n) w.descriptors.items))
