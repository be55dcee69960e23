-- What a call of a handle keeps.
use Rattle.std.specs.Prelude.{◌≡◌}
use Rattle.fs_chain.specs.declared.chain_handle.ChainHandle.{ChainHandle}

-- what a run's relation says of a handle is the same
abbrev pub IsSameHeld : (old new : ChainHandle) → Type 0
IsSameHeld old new =
    (new.state ≡ old.state)
    × (new.session ≡ old.session)
    × (new.regions ≡ old.regions)
    × (new.limit ≡ old.limit)
    × (new.descriptors.items ≡ old.descriptors.items)

abbrev pub KeepsMemory : (old new : ChainHandle) → Type 0
KeepsMemory old new = (new.regions ≡ old.regions) × (new.limit ≡ old.limit)
