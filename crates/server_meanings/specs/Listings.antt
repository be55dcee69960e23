-- READDIR and READDIRPLUS: the entries of a directory in the reply, and the calls for them (linux/fuse.h).
use Rattle.std.specs.Prelude.{ℕ, ◌-◌, Bool, true, false, not, List, [], ◌∷◌, ◌++◌, length, Option, Some, None}
use Rattle.std.specs.Prelude.{if◌then◌else◌}
use Rattle.fuse_in.specs.declared.session.InHeader.{InHeader}
use Rattle.fuse_in.specs.declared.files.ReadIn.{ReadIn}
use Rattle.fuse_fs.specs.declared.answers.Context.{Context}
use Rattle.fuse_fs.specs.declared.answers.Entry.{Entry}
use Rattle.fuse_fs.specs.Answers.{context_of}
use Rattle.fuse_fs.specs.Calls.{FileCall, FileAnswer, Listed, Lookup, Forget, Readdir, HasEntry, Failed}
use Rattle.server_replies.specs.Entries.{entry_len, entry_bytes, Fit, FitsIn, IsFull, IsWrong, fit_of, is_dot}
use Rattle.server_replies.specs.Entries.{no_node}

-- a listing: its caller, the open directory, the size in bytes, the offset, and whether entries have nodes
pub record ListRequest : Type 0 where
  pub context : Context
  pub node : ℕ
  pub handle : ℕ
  pub size : ℕ
  pub offset : ℕ
  pub with_nodes : Bool

-- the request of a READDIR, or with nodes of a READDIRPLUS
abbrev pub listing_of : (with_nodes : Bool) → InHeader → ReadIn → ListRequest
listing_of with_nodes h r =
    record {
      context = context_of h;
      node = h.nodeid;
      handle = r.fh;
      size = r.size;
      offset = r.offset;
      with_nodes = with_nodes;
    }

-- the call that starts a listing
abbrev pub readdir_call : ListRequest → FileCall
readdir_call l = Readdir l.context l.node l.handle l.size l.offset

-- the result of a listing: the calls after READDIR, the bytes of the entries in the reply, and the
-- error that ended it, if one did
pub record ListingResult : Type 0 where
  pub calls : List FileCall
  pub bytes : List ℕ
  pub error : Option ℕ

-- the end of a listing: no further entry goes in
abbrev pub nothing_more : List FileCall → Option ℕ → ListingResult
nothing_more calls error = record { calls = calls; bytes = []; error = error }

-- an entry, and those behind it if it goes in. undo: the FORGET of its node, if it has one and
-- doesn't go in; next: the result of the entries behind it
abbrev pub placed : Fit → List ℕ → List FileCall → ListingResult → ListingResult
placed FitsIn bytes undo next = record { calls = next.calls; bytes = bytes ++ next.bytes; error = next.error }
placed IsFull bytes undo next = nothing_more undo None
placed (IsWrong errno) bytes undo next = nothing_more undo (Some errno)

-- a call before those of a listing
abbrev pub after_call : FileCall → ListingResult → ListingResult
after_call call w = record { calls = call ∷ w.calls; bytes = w.bytes; error = w.error }

-- FORGET of one lookup of a node
abbrev pub forget_lookup : Context → (node : ℕ) → FileCall
forget_lookup who node = Forget who node 1

-- the result of the entries behind one, from the size and room left and the answers left
abbrev pub Next : Type 0
Next = (left room : ℕ) → List FileAnswer → ListingResult

-- an entry with its node, or without one in READDIR
abbrev pub with_entry :
    Bool → Listed → Entry ℕ → List FileCall → Next → (left room : ℕ) → List FileAnswer → ListingResult
with_entry with_nodes d e undo next left room answers =
    let len = entry_len with_nodes (length d.name) in
    placed (fit_of (length d.name) len left room) (entry_bytes with_nodes e d) undo
    (next (left - len) (room - len) answers)

-- an entry that is looked up; a failed lookup ends the list with its error
abbrev pub looked_up : ListRequest → Listed → Next → (left room : ℕ) → List FileAnswer → ListingResult
looked_up l d next left room (HasEntry e ∷ answers) =
    with_entry true d e (forget_lookup l.context e.inode ∷ []) next left room answers
looked_up l d next left room (Failed errno ∷ answers) = nothing_more [] (Some errno)
looked_up l d next left room _ = nothing_more [] None

-- one entry and the entries behind it
abbrev pub list_entry : ListRequest → Listed → Next → (left room : ℕ) → List FileAnswer → ListingResult
list_entry l d next left room answers =
    if not l.with_nodes then with_entry false d (no_node d) [] next left room answers
    else if is_dot d.name then with_entry true d (no_node d) (forget_lookup l.context 0 ∷ []) next left
    room answers
    else after_call (Lookup l.context l.node d.name) (looked_up l d next left room answers)

-- the entries in their order
unfoldable pub list_entries : ListRequest → List Listed → Next
list_entries l [] left room answers = nothing_more [] None
list_entries l (d ∷ ds) left room answers = list_entry l d (list_entries l ds) left room answers
