-- The extensions after the names of a request that creates a node (struct fuse_ext_header,
-- fuse_secctx and fuse_supp_groups of linux/fuse.h).
use Rattle.std.specs.Prelude.{ℕ, zero, suc, ◌-◌, Bool, true, false, not, ◌&&◌, ◌||◌, ◌==◌, nat_le, nat_lt}
use Rattle.std.specs.Prelude.{List, [], ◌∷◌, length, Option, Some, None, Ok, Err, Result, if◌then◌else◌}
use Rattle.std.specs.Prelude.{is_none}
use Rattle.vm_values.specs.Bits.{has_bit}
use Rattle.fuse_in.specs.Shapes.{RecordShape, u32, ◌&◌, end}
use Rattle.fuse_wire.specs.Records.{ext_header, secctx, supp_groups}
use Rattle.fuse_fs.specs.Calls.{SecurityContext, Extra, NewLink}
use Rattle.server_segments.specs.declared.error.Error.TheVariants.{DecodeMessage, MissingParameter}
use Rattle.server_segments.specs.declared.error.Error.TheVariants.{MissingExtension, InvalidHeaderLength}
use Rattle.server_segments.specs.declared.error.Error.TheVariants.{InvalidCString}
use Rattle.fuse_values.specs.Values.{received_extra}
use Rattle.server_requests.specs.declared.extensions.SoFar.{SoFar}
use Rattle.server_requests.specs.Reading.{ReadFailure, Faults, Parser, and_then, ◌>>=◌, ◌>>◌, give, refuse}
use Rattle.server_requests.specs.Reading.{needs, rest, exactly, within, name_or, front_name, record_parser}

-- FUSE_SECURITY_CTX (bit 32 of the options) is agreed
abbrev pub takes_security : ℕ → Bool
takes_security options = has_bit options 32

-- FUSE_CREATE_SUPP_GROUP (bit 34 of the options) is agreed
abbrev pub takes_group : ℕ → Bool
takes_group options = has_bit options 34

-- the extensions read so far, and whether one of them was a security context, maybe an empty one
pub record SentParts : Type 0 where
  pub was_sent : Bool
  pub security : Option SecurityContext
  pub group : Option ℕ

-- no extension so far
abbrev pub nothing_sent : SentParts
nothing_sent = record { was_sent = false; security = None; group = None }

-- the extensions so far, as bytes and numbers
abbrev pub sent_of : SoFar → SentParts
sent_of s =
    let parts = received_extra s.received in
    record { was_sent = s.was_sent; security = parts.security; group = parts.group }

-- a security context that isn't empty: its name and its label
unfoldable pub security_context : Parser SecurityContext
security_context =
    record_parser secctx >>= λ head. needs (not (head.size == 0)) (Faults DecodeMessage) >> rest >>= λ more.
    needs (not (length more == 0)) (Faults MissingParameter) >> within more (
    name_or DecodeMessage
    >>= λ name. exactly head.size >>= λ label. give (record { name = name; label = label }))

-- the number of a group, four bytes
abbrev pub group_number : RecordShape ℕ
group_number = record { parts = u32 ∷ []; make = λ n. n; shows = λ n. n & end }

-- a list of exactly one group
unfoldable pub one_group : Parser ℕ
one_group =
    record_parser supp_groups
    >>= λ head. needs (head.nr_groups == 1) (Faults DecodeMessage) >> record_parser group_number

-- a security context is added to the extensions so far; kind 0 is empty
abbrev pub security_part : ℕ → SentParts → ℕ → Parser SentParts
security_part options sent kind =
    needs (takes_security options && not sent.was_sent && nat_le kind 1) (Faults DecodeMessage)
    >> (if kind == 0 then give (record { was_sent = true; security = sent.security; group = sent.group })
    else (security_context >>= λ x. give (record { was_sent = true; security = Some x; group = sent.group })))

-- a group is added to the extensions so far
abbrev pub group_part : ℕ → SentParts → Parser SentParts
group_part options sent =
    needs (takes_group options && is_none sent.group) (Faults DecodeMessage)
    >> one_group
    >>= λ group. give (record { was_sent = sent.was_sent; security = sent.security; group = Some group })

-- an extension's body, read as its kind says: 0 and 1 are security contexts, 32 is a group, others are
-- faults
unfoldable pub part : ℕ → SentParts → ℕ → Parser SentParts
part options sent kind =
    if nat_lt 32 kind then refuse (Faults DecodeMessage)
    else if kind == 32 then group_part options sent
    else security_part options sent kind

-- one extension is read; further bytes of its body are ignored
unfoldable pub extension : ℕ → SentParts → Parser SentParts
extension options sent =
    record_parser ext_header
    >>= λ head. needs (nat_le 8 head.size) (Faults InvalidHeaderLength) >> exactly (head.size - 8) >>= λ body.
    within body (part options sent head.ext_type)

-- extensions are read until no byte is left. Each has at least one byte, so their number is at most n
unfoldable pub extensions : ℕ → ℕ → SentParts → List ℕ → Result SentParts ReadFailure
extensions options n sent [] = Ok sent
extensions options zero sent (b ∷ bytes) = Ok sent
extensions options (suc n) sent (b ∷ bytes) =
    and_then (extension options sent (b ∷ bytes)) (λ x. extensions options n x.0 x.1)

-- the security context and the group, without the mark that a context was sent
abbrev pub parts_of : SentParts → Extra
parts_of sent = record { security = sent.security; group = sent.group }

-- a request without a security context is a fault if contexts are agreed; an empty context is enough
abbrev pub all_sent : ℕ → SentParts → Result Extra ReadFailure
all_sent options sent =
    if takes_security options && not sent.was_sent then Err (Faults MissingExtension)
    else Ok (parts_of sent)

-- the extensions in the bytes after the names; the bytes are ignored if no kind of extension is agreed
unfoldable pub extra_in : ℕ → List ℕ → Result Extra ReadFailure
extra_in options bytes =
    if takes_security options || takes_group options
    then and_then (extensions options (length bytes) nothing_sent bytes) (all_sent options)
    else Ok (parts_of nothing_sent)

-- all bytes left are extensions
abbrev pub extra : ℕ → Parser Extra
extra options = λ bytes. and_then (extra_in options bytes) (λ x. Ok (x, []))

-- the name of a new node, and its extensions
unfoldable pub new_name : ℕ → Parser (List ℕ × Extra)
new_name options =
    front_name >>= λ name. extra options
    >>= λ more. needs name.1 (Faults InvalidCString) >> give (name.0, more)

-- the name of a new symbolic link, its target, and its extensions
unfoldable pub new_link : ℕ → Parser NewLink
new_link options =
    front_name >>= λ name. front_name
    >>= λ link. extra options >>= λ more. needs (name.1 && link.1) (Faults InvalidCString)
    >> give (record { name = name.0; link = link.0; extra = more })
