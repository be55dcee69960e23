-- What is read of a row: a call, or a fault.
use Rattle.std.proofs.Common.{◌≡◌, Bool, true, false, [], refl}
use Rattle.std.specs.Prelude.{◌&&◌, ◌||◌}
use Rattle.fuse_in.specs.declared.session.InHeader.{InHeader}
use Rattle.fuse_fs.specs.Calls.{FileCall, BatchForget, Symlink, Mknod, Mkdir, Create}
use Rattle.fuse_values.specs.declared.call.FileCall as made
use Rattle.fuse_values.specs.Values.{call_of}
use Rattle.server_calls.specs.Callers.{CallShows, RequestShape, Made, shape_of, is_plain, is_record}
use Rattle.server_calls.specs.Requests.{owns_memory}
use Rattle.server_meanings.specs.Grammar.{Meaning, Asks, One}
use Rattle.server_meanings.specs.RowMeanings.{ReadsAs}
use Rattle.server_meanings.specs.WantOfMemory.{meaning_owns}
use Rattle.server_meanings.specs.declared.meanings.RequestMeaning.TheVariants as value
use Rattle.server_meanings.proofs.Wanted.{owned_none}

-- whether a node is made
abbrev pub is_made : RequestShape → Bool
is_made Made = true
is_made _ = false

owns_none : (c : FileCall) → is_plain c ≡ true → is_made (shape_of c) ≡ false → owns_memory c ≡ false
owns_none (BatchForget c counts) p s = absurd (cc)
owns_none (Symlink c l n name x) p s = absurd (cc)
owns_none (Mknod c n name m r u x) p s = absurd (cc)
owns_none (Mkdir c n name m u x) p s = absurd (cc)
owns_none (Create c n name m k f u x) p s = absurd (cc)
owns_none _ p s = refl

pub record_makes_none : (s : RequestShape) → is_record s ≡ true → is_made s ≡ false
record_makes_none Made h = absurd (cc)
record_makes_none _ h = refl

-- a call that is handed no memory of its own
pub call_read : (splits takes : Bool) (h : InHeader) (call : made.FileCall) (c : FileCall) (m : Meaning) → m ≡ Asks (One h.unique c)
    → call_of [] call ≡ c
    → is_made (shape_of c) ≡ false → CallShows h c → ReadsAs splits takes h (value.Call call) m
call_read splits takes h call c m e f s shows = (rw f e, rw f shows, λ none. rw f (owns_none c shows.0 s))

-- a call that makes a node
pub made_read : (splits split : Bool) (h : InHeader) (call : made.FileCall) (c : FileCall) (m : Meaning) → m ≡ Asks (One h.unique c)
    → call_of [] call ≡ c
    → CallShows h c → ReadsAs splits (meaning_owns m || split) h (value.Call call) m
made_read splits split h call c m e f shows = (rw f e, rw f shows, λ none. owned_none m split h.unique (call_of [] call) c e f none)

-- memory is taken for bytes that are split, whatever is handed over
pub split_none : (splits owns split : Bool) → (splits && (owns || split)) ≡ false → (splits && split) ≡ false
split_none true true split none = absurd (cc)
split_none true false split none = none
split_none false owns split none = refl
