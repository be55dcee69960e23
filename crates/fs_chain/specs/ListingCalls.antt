-- The file calls of a READDIR or READDIRPLUS that is answered entry by entry, by its entries and its end
-- (linux/fuse.h).
use Rattle.std.specs.Prelude.{ℕ, Bool, true, false, List, [], ◌∷◌, ◌++◌, Option, Some, if◌then◌else◌}
use Rattle.fuse_fs.specs.Calls.{FileCall, FileAnswer, Listed, Lookup, Forget, Readdir, HasEntry, Entries}
use Rattle.fuse_fs.specs.Calls.{Failed, Done}
use Rattle.server_phases.specs.Gathering.{Brought, entries_of, is_looked_up, node_of}
use Rattle.plain_machine.specs.Step.{Calls}

-- how a listing ends after the entries that were added, one case a constructor: the directory ends; an
-- entry doesn't fit in the size in the request; an entry fails the listing; an entry isn't found; the
-- directory can't be read on. Other entries may follow such an entry
pub data Ending : Type 0 where
  EndsThere : Ending
  FullAt : Brought → (behind : List Listed) → Ending
  FailsAt : Brought → (behind : List Listed) → (errno : ℕ) → Ending
  NotFound : Listed → (behind : List Listed) → (errno : ℕ) → Ending
  Unreadable : (errno : ℕ) → Ending

-- the look-up of an entry of the directory that the call reads, with its answer
abbrev pub looked_up : FileCall → (with_nodes : Bool) → Listed → FileAnswer → Calls
looked_up (Readdir who node handle size offset) with_nodes d answer =
    if is_looked_up with_nodes d then (Lookup who node d.name, answer) ∷ [] else []
looked_up call with_nodes d answer = []

-- the look-ups of the entries that were found, in their order
abbrev pub all_looked_up : FileCall → (with_nodes : Bool) → List Brought → Calls
all_looked_up call with_nodes [] = []
all_looked_up call with_nodes (e ∷ es) =
    looked_up call with_nodes e.0 (HasEntry e.1) ++ all_looked_up call with_nodes es

-- the FORGET of an entry that was looked up but not added
abbrev pub node_back : FileCall → (with_nodes : Bool) → Brought → Calls
node_back (Readdir who node handle size offset) with_nodes e =
    if with_nodes then (Forget who (node_of e).inode 1, Done) ∷ [] else []
node_back call with_nodes e = []

-- a directory that can't be read on has failed, unless entries with nodes were added, which the client
-- holds: then it has ended
abbrev pub unreadable_calls : FileCall → (with_nodes : Bool) → List Brought → (errno : ℕ) → Calls
unreadable_calls call true (e ∷ es) errno =
    (call, Entries (entries_of (e ∷ es))) ∷ all_looked_up call true (e ∷ es)
unreadable_calls call true [] errno = (call, Failed errno) ∷ []
unreadable_calls call false es errno = (call, Failed errno) ∷ []

-- the file calls of a listing: the directory is read, and its entries are looked up
abbrev pub listing_calls : FileCall → (with_nodes : Bool) → List Brought → Ending → Calls
listing_calls call with_nodes es EndsThere =
    (call, Entries (entries_of es)) ∷ all_looked_up call with_nodes es
listing_calls call with_nodes es (FullAt e behind) =
    (call, Entries (entries_of es ++ e.0 ∷ behind)) ∷ (all_looked_up call with_nodes es
    ++ (looked_up call with_nodes e.0 (HasEntry e.1) ++ node_back call with_nodes e))
listing_calls call with_nodes es (FailsAt e behind errno) =
    (call, Entries (entries_of es ++ e.0 ∷ behind)) ∷ (all_looked_up call with_nodes es
    ++ (looked_up call with_nodes e.0 (HasEntry e.1) ++ node_back call with_nodes e))
listing_calls call with_nodes es (NotFound d behind errno) =
    (call, Entries (entries_of es ++ d ∷ behind))
    ∷ (all_looked_up call with_nodes es ++ looked_up call with_nodes d (Failed errno))
listing_calls call with_nodes es (Unreadable errno) = unreadable_calls call with_nodes es errno

-- the look-up of the first of these entries, with its answer, if it was made
abbrev pub next_looked_up : FileCall → (with_nodes : Bool) → List Listed → Option FileAnswer → Calls
next_looked_up call with_nodes (d ∷ others) (Some answer) = looked_up call with_nodes d answer
next_looked_up call with_nodes others next = []

-- the calls of a listing that hasn't ended. The directory was read, and has other entries behind those that
-- were added; the first of the others may be looked up already
abbrev pub calls_so_far :
    FileCall → (with_nodes : Bool) → List Brought → (others : List Listed) → Option FileAnswer → Calls
calls_so_far call with_nodes es others next =
    (call, Entries (entries_of es ++ others))
    ∷ (all_looked_up call with_nodes es ++ next_looked_up call with_nodes others next)
