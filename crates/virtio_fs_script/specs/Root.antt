-- The entries of the root of the program's file system.
use Rattle.std.specs.Prelude.{List, [], ◌∷◌}
use Rattle.fuse_fs.specs.Calls.{Listed}

-- the root's entries: `.` (4, DT_DIR in dirent.h), and the file `a` (8, DT_REG)
abbrev pub root_entries : List Listed
root_entries =
    record { ino = 1; offset = 1; kind = 4; name = 46 ∷ [] }
    ∷ record { ino = 2; offset = 2; kind = 8; name = 97 ∷ [] } ∷ []
