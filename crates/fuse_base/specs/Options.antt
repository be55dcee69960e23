-- The type of the options that guest and server agree on.
use Rattle.std.specs.Prelude.{ℕ}
use Rattle.fuse_base.specs.declared.flags.FlagSet.{FlagSet}
use Rattle.fuse_base.specs.declared.flags.FsOptionsNames.{FsOptionsNames}

-- the options of INIT, as a flag set
abbrev pub FsOptions : Type 0
FsOptions = FlagSet ℕ FsOptionsNames
