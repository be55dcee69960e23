-- A server whose file system's state is moved to another process.
use Rattle.std.specs.Prelude.{◌≡◌}
use Rattle.fuse_fs.specs.Serializing.{Carries}
use Rattle.virtiofsd_fuse.specs.declared.server.Server.{Server}

-- the page size and the options are unchanged
abbrev pub KeepsSession : {F : Type 0} → (before after : Server F) → Type 0
KeepsSession before after = (after.page_size ≡ before.page_size) × (after.options ≡ before.options)

-- the server's file system prepares as it may, and the session is unchanged
abbrev pub ServerPrepared : {F : Type 0} → (F → F → Type 0) → (before after : Server F) → Type 0
ServerPrepared may before after = may before.fs after.fs × KeepsSession before after

-- the server's file system writes or reads its state as it may, and the session is unchanged
abbrev pub ServerCarried : {F : Type 0} → Carries F → Carries (Server F)
ServerCarried may before had failed has after =
    may before.fs had failed has after.fs × KeepsSession before after
