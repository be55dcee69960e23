-- Where the names, values and pairs of a call lie in its request.
use Rattle.std.specs.Prelude.{◌≡◌, ℕ, zero, suc, ◌+◌, ◌<◌, All, List, [], ◌∷◌, ◌++◌, length, take, drop}
use Rattle.std.specs.Prelude.{Option, Some, None}
use Rattle.fuse_in.specs.Shapes.{made}
use Rattle.fuse_wire.specs.declared.others.ExtHeader.{ExtHeader}
use Rattle.fuse_wire.specs.Records.{ext_header}
use Rattle.fuse_values.specs.declared.placed.Placed.{Placed}
use Rattle.fuse_values.specs.declared.received.Label.{Label}
use Rattle.fuse_values.specs.declared.call.FileCall.{FileCall}
use Rattle.fuse_values.specs.declared.call.FileCall.TheVariants as value

-- bytes lie in a request at an offset: it is a front of this length, the bytes, and more
abbrev pub At : (request : List ℕ) → (offset : ℕ) → (bytes : List ℕ) → Type 0
At request offset bytes =
    (front more : List ℕ) × (request ≡ front ++ (bytes ++ more)) × (length front ≡ offset)

-- the bytes lie in the request at their offset
unfoldable pub StandsIn : (request : List ℕ) → Placed → Type 0
StandsIn request p = At request p.at p.bytes.now

-- a byte that isn't zero
abbrev pub IsNotZero : ℕ → Type 0
IsNotZero b = b ≡ 0 → ⊥

-- a name lies in the request at its offset: it has no zero byte, and a zero byte follows it
unfoldable pub NameStandsIn : (request : List ℕ) → Placed → Type 0
NameStandsIn request name =
    At request name.at (name.bytes.now ++ (0 ∷ [])) × All IsNotZero name.bytes.now

-- a name lies in the request at this offset
abbrev pub NameStandsAt : (request : List ℕ) → Placed → (offset : ℕ) → Type 0
NameStandsAt request name offset = NameStandsIn request name × (name.at ≡ offset)

-- the offset directly behind a name and its zero byte
abbrev pub behind : (name : Placed) → ℕ
behind name = name.at + (length name.bytes.now + 1)

-- bytes lie directly behind a name and its zero byte
abbrev pub IsBehind : (name : Placed) → Placed → Type 0
IsBehind name bytes = bytes.at ≡ behind name

-- the name of a label lies in the request at this offset, and its value lies directly behind it
abbrev pub LabelStandsAt : (request : List ℕ) → Label → (offset : ℕ) → Type 0
LabelStandsAt request l offset =
    NameStandsAt request l.name offset × StandsIn request l.secctx × IsBehind l.name l.secctx

-- the header of an extension (struct fuse_ext_header, 8 bytes) that lies in the request at an offset
unfoldable pub extension_at : (request : List ℕ) → (offset : ℕ) → ExtHeader
extension_at request offset = made ext_header.parts ext_header.make (take 8 (drop offset request))

-- the offset of extension n: extension 0 begins at `start`, and each other one directly behind the
-- one before, whose size counts its header
unfoldable pub extension_start : (request : List ℕ) → (start n : ℕ) → ℕ
extension_start request start zero = start
extension_start request start (suc n) =
    let before = extension_start request start n in before + (extension_at request before).size

-- the type of extension n
abbrev pub extension_type : (request : List ℕ) → (start n : ℕ) → ℕ
extension_type request start n = (extension_at request (extension_start request start n)).ext_type

-- extensions 0 to n - 1 have no label: none of them is of type 1, a security context that isn't empty
unfoldable pub NoLabelBefore : (request : List ℕ) → (start n : ℕ) → Type 0
NoLabelBefore request start n = (m : ℕ) → m < n → extension_type request start m ≡ 1 → ⊥

-- a label, if there is one, lies in the first extension of type 1, behind its header (8 bytes) and
-- its struct fuse_secctx (8 bytes)
abbrev pub LabelStandsIn : (request : List ℕ) → (start : ℕ) → Option Label → Type 0
LabelStandsIn request start None = Unit {0}
LabelStandsIn request start (Some l) =
    (n : ℕ) × NoLabelBefore request start n × (extension_type request start n ≡ 1)
    × LabelStandsAt request l (extension_start request start n + 16)

-- the names of a call lie in the request, and so do its value, its pairs, and its label: the first
-- name, or the pairs, at this offset, the second name or the value directly behind the first name, the
-- label in the extensions, which begin directly behind the last name
abbrev pub CallStandsIn : (request : List ℕ) → (first : ℕ) → FileCall → Type 0
CallStandsIn request first (value.Lookup context node name) = NameStandsAt request name first
CallStandsIn request first (value.BatchForget context counts) = StandsIn request counts × (counts.at ≡ first)
CallStandsIn request first (value.Symlink context link node name extra) =
    NameStandsAt request name first × NameStandsIn request link × IsBehind name link
    × LabelStandsIn request (behind link) extra.secctx
CallStandsIn request first (value.Mknod context node name mode rdev umask extra) =
    NameStandsAt request name first × LabelStandsIn request (behind name) extra.secctx
CallStandsIn request first (value.Mkdir context node name mode umask extra) =
    NameStandsAt request name first × LabelStandsIn request (behind name) extra.secctx
CallStandsIn request first (value.Unlink context node name) = NameStandsAt request name first
CallStandsIn request first (value.Rmdir context node name) = NameStandsAt request name first
CallStandsIn request first (value.Rename context node old new_dir new flags) =
    NameStandsAt request old first × NameStandsIn request new × IsBehind old new
CallStandsIn request first (value.Link context old_node node name) = NameStandsAt request name first
CallStandsIn request first (value.Setxattr context node name content flags extra) =
    NameStandsAt request name first × StandsIn request content × IsBehind name content
CallStandsIn request first (value.Getxattr context node name size) = NameStandsAt request name first
CallStandsIn request first (value.Removexattr context node name) = NameStandsAt request name first
CallStandsIn request first (value.Create context node name mode kill flags umask extra) =
    NameStandsAt request name first × LabelStandsIn request (behind name) extra.secctx
CallStandsIn request first _ = Unit {0}
