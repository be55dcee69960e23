-- The results of reading a request by its row of the grammar.
use Rattle.std.specs.Prelude.{◌≡◌, ◌≤◌, ◌-◌, ◌^◌, ℕ, Bool, true, false, ◌&&◌, List, [], ◌++◌, length}
use Rattle.std.specs.Prelude.{Result, Ok, Err, bit_and}
use Rattle.fuse_in.specs.declared.session.InHeader.{InHeader}
use Rattle.fuse_in.specs.declared.files.ReadIn.{ReadIn}
use Rattle.fuse_values.specs.Places.{CallStandsIn}
use Rattle.fuse_values.specs.Values.{call_of}
use Rattle.fuse_wire.specs.declared.opcodes.Opcode.{Opcode}
use Rattle.fuse_wire.specs.declared.opcodes.Opcode.TheVariants as op
use Rattle.server_calls.specs.Callers.{CallShows}
use Rattle.server_calls.specs.Requests.{owns_memory, read_call}
use Rattle.server_segments.specs.declared.error.Error.{Error}
use Rattle.server_segments.specs.Errors.{is_memory}
use Rattle.server_replies.specs.WholeReplies.{error_bytes, reply_bytes, versions_bytes}
use Rattle.server_requests.specs.Reading.{Parser}
use Rattle.server_meanings.specs.Grammar.{Meaning, IsFault, Replies, IsSilent, Asks, One, Starts, Lists}
use Rattle.server_meanings.specs.Grammar.{Given, given, ended, forgets_asked, known_options}
use Rattle.server_meanings.specs.Listings.{listing_of}
use Rattle.server_meanings.specs.declared.meanings.RequestMeaning.{RequestMeaning}
use Rattle.server_meanings.specs.declared.meanings.RequestMeaning.TheVariants as value
use Rattle.server_meanings.specs.declared.meanings_apart.ListingMeaning.{ListingMeaning}
use Rattle.server_meanings.specs.declared.meanings_apart.ListingMeaning.TheVariants as listing
use Rattle.server_meanings.specs.declared.meanings_apart.InitMeaning.{InitMeaning}
use Rattle.server_meanings.specs.declared.meanings_apart.InitMeaning.TheVariants as init
use Rattle.server_meanings.specs.declared.meanings_apart.ForgetsMeaning.{ForgetsMeaning}
use Rattle.server_meanings.specs.declared.meanings_apart.ForgetsMeaning.TheVariants as forgets

-- an opcode with one plain call, or with none: not INIT, BATCH_FORGET, READ, WRITE or a listing
abbrev pub is_single : Opcode → Bool
is_single op.Init = false
is_single op.BatchForget = false
is_single op.Read = false
is_single op.Write = false
is_single op.Readdir = false
is_single op.Readdirplus = false
is_single _ = true

-- the result of reading a request with this meaning. splits: its bytes may lie in several segments;
-- takes: memory may be allocated for it
abbrev pub ReadsAs : (splits takes : Bool) → InHeader → RequestMeaning → Meaning → Type 0
ReadsAs splits takes h (value.Call call) m =
    (m ≡ Asks (One h.unique (call_of [] call)))
    × CallShows h (call_of [] call)
    × (takes ≡ false → owns_memory (call_of [] call) ≡ false)
ReadsAs splits takes h (value.Error errno) m = m ≡ Replies (error_bytes h.unique errno)
ReadsAs splits takes h value.Silence m = m ≡ IsSilent
ReadsAs splits takes h (value.Fault e) m =
    (is_memory e ≡ false → m ≡ IsFault e) × ((splits && takes) ≡ false → is_memory e ≡ false)

-- the result of reading these bytes behind the header by a row, for every room
abbrev pub RowReads : (splits : Bool) → (takes : Given → Bool) → InHeader → (options : ℕ) →
    (Given → Parser Meaning) → (bytes : List ℕ) → RequestMeaning → Type 0
RowReads splits takes h options row bytes m =
    (room : ℕ) →
    ReadsAs splits (takes (given h options room)) h m
    (ended h.unique (row (given h options room) bytes))

-- the names of a call that was read lie in the request, the first one at this offset
abbrev pub MeaningStandsIn : (request : List ℕ) → (first : ℕ) → RequestMeaning → Type 0
MeaningStandsIn request first (value.Call call) = CallStandsIn request first call
MeaningStandsIn request first _ = Unit {0}

-- and the request is any header (struct fuse_in_header, 40 bytes) with the bytes behind it
abbrev pub StandsBehindHeader : (bytes : List ℕ) → (first : ℕ) → RequestMeaning → Type 0
StandsBehindHeader bytes first m =
    (header : List ℕ) → length header ≡ 40 → MeaningStandsIn (header ++ bytes) first m

-- the result of reading a READ with this meaning and room: its record, or the fault
abbrev pub ReadIsRead : InHeader → (room : ℕ) → Result ReadIn Error → Meaning → Type 0
ReadIsRead h room (Ok r) m = (m ≡ Asks (One h.unique (read_call h (room - 16) r))) × (16 ≤ room)
ReadIsRead h room (Err e) m = (m ≡ IsFault e) × (is_memory e ≡ false)

-- the result of reading a listing with this meaning
abbrev pub ListingIsRead : (with_nodes : Bool) → InHeader → (room : ℕ) → ListingMeaning → Meaning → Type 0
ListingIsRead with_nodes h room (listing.List r) m =
    (m ≡ Asks (Lists h.unique (listing_of with_nodes h r))) × (16 ≤ room) × (r.size ≤ 2 ^ 20)
ListingIsRead with_nodes h room (listing.Error errno) m = m ≡ Replies (error_bytes h.unique errno)
ListingIsRead with_nodes h room (listing.Fault e) m = (m ≡ IsFault e) × (is_memory e ≡ false)

-- the result of reading an INIT with this meaning
abbrev pub InitIsRead : InHeader → InitMeaning → Meaning → Type 0
InitIsRead h (init.Start capable readahead) m =
    (m ≡ Asks (Starts h.unique capable.0 readahead)) × (bit_and capable.0 known_options ≡ capable.0)
InitIsRead h init.Versions m = m ≡ Replies (reply_bytes h.unique versions_bytes)
InitIsRead h (init.Error errno) m = m ≡ Replies (error_bytes h.unique errno)
InitIsRead h (init.Fault e) m = (m ≡ IsFault e) × (is_memory e ≡ false)

-- the result of reading a BATCH_FORGET's record: its pairs are still to be read from the rest
abbrev pub ForgetsAreRead : Given → ForgetsMeaning → (rest : List ℕ) → Meaning → Type 0
ForgetsAreRead g (forgets.Pairs pairs) rest m =
    (m ≡ ended g.header.unique (forgets_asked pairs.count g rest)) × (pairs.count ≤ 65536)
ForgetsAreRead g (forgets.Error errno) rest m = m ≡ Replies (error_bytes g.header.unique errno)
ForgetsAreRead g (forgets.Fault e) rest m = (m ≡ IsFault e) × (is_memory e ≡ false)

-- the pairs of a BATCH_FORGET follow its record of 8 bytes (struct fuse_batch_forget_in)
abbrev pub ForgetsAreBehind : ForgetsMeaning → (bytes more : List ℕ) → Type 0
ForgetsAreBehind (forgets.Pairs pairs) bytes more =
    (front : List ℕ) × (length front ≡ 8) × (front ++ more ≡ bytes)
ForgetsAreBehind _ bytes more = Unit {0}
