-- What holds of each refusal and of each command that a row asks for holds of a request's meaning.
use Rattle.std.proofs.Common.{◌≡◌, ℕ, ◌-◌, ◌≤◌, Bool, true, false, List, ◌∷◌, length, take, drop, Option, Some, None}
use Rattle.std.proofs.Common.{Ok, Err, refl, subst, arith}
use Rattle.std.specs.Prelude.{if◌then◌else◌, nat_lt, nat_le}
use Rattle.std.specs.Int.{w32, from_le_bytes}
use Rattle.std.proofs.lemmas.Bool.{leb-true, ltb-false}
use Rattle.fuse_in.specs.declared.session.InHeader.{InHeader}
use Rattle.fuse_in.specs.Shapes.{RecordShape, made}
use Rattle.fuse_in.specs.Records as inputs
use Rattle.fuse_wire.specs.declared.opcodes.Opcode.{Opcode}
use Rattle.fuse_wire.specs.declared.opcodes.Opcode.TheVariants as op
use Rattle.fuse_wire.specs.Opcodes.{opcode_of}
use Rattle.fuse_fs.specs.Calls as call
use Rattle.fuse_fs.specs.Calls.{FileCall}
use Rattle.server_segments.specs.declared.error.Error.{Error}
use Rattle.server_segments.specs.declared.error.Error.TheVariants.{DecodeMessage, EncodeMessage}
use Rattle.server_requests.specs.Reading.{Parsed, Parser, ReadFailure, Faults, Sends, and_then, needs, give, rest, record_parser}
use Rattle.server_requests.specs.Reading.{◌>>=◌, ◌>>◌, within, last_name, two_names, name_and_value}
use Rattle.server_requests.specs.Extras.{new_name}
use Rattle.server_requests.specs.Fronts as fronts
use Rattle.server_calls.specs.Requests as request
use Rattle.server_replies.specs.WholeReplies.{versions_bytes}
use Rattle.server_meanings.specs.Grammar as grammar
use Rattle.server_meanings.specs.Grammar.{Meaning, IsFault, Replies, IsSilent, Asks, FileCommand, One, Starts, Lists, Given, given, one}
use Rattle.server_meanings.specs.Grammar.{row, row_of, refused, ended, meant, meaning, with_header, reply_bytes, error_bytes}
use Rattle.server_meanings.specs.Listings.{listing_of}

-- ---- the commands of an opcode

-- opcodes that add a node or take counts back are like themselves; BATCH_FORGET is like FORGET, and others like ACCESS
abbrev pub like : Opcode → Opcode
like op.Lookup = op.Lookup
like op.Symlink = op.Symlink
like op.Mknod = op.Mknod
like op.Mkdir = op.Mkdir
like op.Link = op.Link
like op.Create = op.Create
like op.Readdirplus = op.Readdirplus
like op.Forget = op.Forget
like op.BatchForget = op.Forget
like _ = op.Access

-- and so is a call
abbrev pub like_of : FileCall → Opcode
like_of (call.Lookup c n name) = op.Lookup
like_of (call.Symlink c l n name x) = op.Symlink
like_of (call.Mknod c n name m r u x) = op.Mknod
like_of (call.Mkdir c n name m u x) = op.Mkdir
like_of (call.Link c o n name) = op.Link
like_of (call.Create c n name m k f u x) = op.Create
like_of (call.Forget c n k) = op.Forget
like_of (call.BatchForget c counts) = op.Forget
like_of _ = op.Access

-- the row of this opcode may ask for this command
abbrev pub MayAsk : (room : ℕ) → Opcode → FileCommand → Type 0
MayAsk room o (One unique c) = like_of c ≡ like o
MayAsk room o (Starts unique capable readahead) = o ≡ op.Init
MayAsk room o (Lists unique l) = (o ≡ (if l.with_nodes then op.Readdirplus else op.Readdir)) × (16 ≤ room)

-- a header, from its bytes
abbrev header_of : Parsed (List ℕ) → Parsed InHeader
header_of r = and_then r (λ x. give (made inputs.in_header.parts inputs.in_header.make x.0) x.1)

-- ---- one row

-- what holds of each refusal, of silence, of INIT's other version, and of each command that a row asks for
pub record Each (Q : Option Opcode → Meaning → Type 0) (room : ℕ) : Type 0 where
  pub faults : (o : Option Opcode) (e : Error) → Q o (IsFault e)
  pub sends : (o : Option Opcode) (unique errno : ℕ) → Q o (Replies (error_bytes unique errno))
  pub silent : Q (Some op.Interrupt) IsSilent
  pub versions : (unique : ℕ) → Q (Some op.Init) (Replies (reply_bytes unique versions_bytes))
  pub asks : (o : Opcode) (command : FileCommand) → MayAsk room o command → Q (Some o) (Asks command)

module _ (Q : Option Opcode → Meaning → Type 0) (g : Given) (each : Each Q g.room) where
  -- of what a row comes to
  abbrev Holds : Opcode → Parsed Meaning → Type 0
  Holds o r = Q (Some o) (ended g.header.unique r)

  refusal : (o : Option Opcode) (e : ReadFailure) → Q o (refused g.header.unique e)
  refusal o (Faults e) = each.faults o e
  refusal o (Sends errno) = each.sends o g.header.unique errno

  then_holds : {A : Type 0} (o : Opcode) (r : Parsed A) (f : A → Parser Meaning) → ((x : A) (more : List ℕ) → Holds o (f x more)) →
      Holds o (and_then r (λ x. f x.0 x.1))
  then_holds o (Ok x) f good = good x.0 x.1
  then_holds o (Err e) f good = refusal (Some o) e

  if_holds : (o : Opcode) (b : Bool) (p q : Parser Meaning) (bytes : List ℕ) → Holds o (p bytes) → Holds o (q bytes) →
      Holds o ((if b then p else q) bytes)
  if_holds o true p q bytes x y = x
  if_holds o false p q bytes x y = y

  -- of a test that has to hold
  needed : (o : Opcode) (b : Bool) (e : ReadFailure) (r : Parsed (Unit {0})) (m : Meaning) → (b ≡ true → Q (Some o) m) →
      Holds o (and_then (and_then r (λ x. needs b e x.1)) (λ x. give m x.1))
  needed o true e (Ok x) m good = good refl
  needed o false e (Ok x) m good = refusal (Some o) e
  needed o b e (Err f) m good = refusal (Some o) f

  record_holds : {R : Type 0} (o : Opcode) (s : RecordShape R) (c : InHeader → R → FileCall) (bytes : List ℕ) →
      ((r : R) → like_of (c g.header r) ≡ like o) → Holds o (grammar.record_row s c g bytes)
  record_holds o s c bytes fits =
      then_holds o (record_parser s bytes) (λ r. one g (c g.header r)) (λ r more. each.asks o (One _ _) (fits r))

  -- what is read within some bytes
  within_holds : {A : Type 0} (o : Opcode) (p : Parser A) (c : A → FileCall) (inner bytes : List ℕ) → ((x : A) → like_of (c x) ≡ like o) →
      Holds o ((within inner p >>= λ y. one g (c y)) bytes)
  within_holds o p c inner bytes fits = then_holds o (within inner p bytes) (λ y. one g (c y)) (λ y more. each.asks o (One _ _) (fits y))

  counted_holds : {A : Type 0} (o : Opcode) (p : Parser A) (c : A → FileCall) (bytes : List ℕ) → ((x : A) → like_of (c x) ≡ like o) →
      Holds o ((fronts.counted g.header.len 0 >>= λ inner. within inner p >>= λ y. one g (c y)) bytes)
  counted_holds o p c bytes fits =
      then_holds o (fronts.counted g.header.len 0 bytes) (λ inner. within inner p >>= λ y. one g (c y))
      (λ inner more. within_holds o p c inner more fits)

  bytes_holds : {R A : Type 0} (o : Opcode) (front : Given → Parser (R × List ℕ)) (parts : Given → R → Parser A) (c : InHeader → R → A →
      FileCall) (bytes : List ℕ) → ((r : R) (x : A) → like_of (c g.header r x) ≡ like o) → Holds o (grammar.bytes_row front parts c g bytes)
  bytes_holds o front parts c bytes fits =
      then_holds o (front g bytes) (λ x. within x.1 (parts g x.0) >>= λ y. one g (c g.header x.0 y))
      (λ x more. within_holds o (parts g x.0) (c g.header x.0) x.1 more (fits x.0))

  behind_holds : {R A : Type 0} (o : Opcode) (s : RecordShape R) (k : ℕ) (parts : Given → R → Parser A) (c : InHeader → R → A → FileCall)
      (bytes : List ℕ) → ((r : R) (x : A) → like_of (c g.header r x) ≡ like o) →
      Holds o (grammar.bytes_row (λ g. fronts.with_bytes s k g.header.len) parts c g bytes)
  behind_holds o s k parts c bytes fits = bytes_holds o (λ g. fronts.with_bytes s k g.header.len) parts c bytes fits

  listing_holds : (o : Opcode) (with_nodes : Bool) (bytes : List ℕ) → o ≡ (if with_nodes then op.Readdirplus else op.Readdir) →
      Holds o (grammar.listing_row with_nodes g bytes)
  listing_holds o with_nodes bytes is =
      then_holds o (record_parser inputs.read_in bytes) (λ r. grammar.listing_asked with_nodes r g) (λ r more.
      needed o (nat_le 16 g.room) (Faults EncodeMessage)
      ((grammar.at_most_a_mebibyte r.size >> needs (nat_le r.size g.room) (Sends grammar.ENOMEM)) more)
      (Asks (Lists g.header.unique (listing_of with_nodes g.header r)))
      (λ holds. each.asks o (Lists _ (listing_of with_nodes g.header r)) (is, leb-true 16 g.room holds)))

  -- the row of an opcode
  pub row_holds : (o : Opcode) (bytes : List ℕ) → Q (Some o) (ended g.header.unique (row g o bytes))
  unfolding row
  row_holds op.Forget bytes = record_holds op.Forget _ request.forget_call bytes (λ r. refl)
  row_holds op.Getattr bytes = record_holds op.Getattr _ request.getattr_call bytes (λ r. refl)
  row_holds op.Setattr bytes = record_holds op.Setattr _ request.setattr_call bytes (λ r. refl)
  row_holds op.Open bytes = record_holds op.Open _ request.open_call bytes (λ r. refl)
  row_holds op.Release bytes = record_holds op.Release _ request.release_call bytes (λ r. refl)
  row_holds op.Fsync bytes = record_holds op.Fsync _ request.fsync_call bytes (λ r. refl)
  row_holds op.Flush bytes = record_holds op.Flush _ request.flush_call bytes (λ r. refl)
  row_holds op.Opendir bytes = record_holds op.Opendir _ request.opendir_call bytes (λ r. refl)
  row_holds op.Releasedir bytes = record_holds op.Releasedir _ request.releasedir_call bytes (λ r. refl)
  row_holds op.Fsyncdir bytes = record_holds op.Fsyncdir _ request.fsyncdir_call bytes (λ r. refl)
  row_holds op.Access bytes = record_holds op.Access _ request.access_call bytes (λ r. refl)
  row_holds op.Fallocate bytes = record_holds op.Fallocate _ request.fallocate_call bytes (λ r. refl)
  row_holds op.Lseek bytes = record_holds op.Lseek _ request.lseek_call bytes (λ r. refl)
  row_holds op.CopyFileRange bytes = record_holds op.CopyFileRange _ request.copy_file_range_call bytes (λ r. refl)
  row_holds op.Lookup bytes = counted_holds op.Lookup _ (request.lookup_call g.header) bytes (λ x. refl)
  row_holds op.Unlink bytes = counted_holds op.Unlink _ (request.unlink_call g.header) bytes (λ x. refl)
  row_holds op.Rmdir bytes = counted_holds op.Rmdir _ (request.rmdir_call g.header) bytes (λ x. refl)
  row_holds op.Removexattr bytes = counted_holds op.Removexattr _ (request.removexattr_call g.header) bytes (λ x. refl)
  row_holds op.Symlink bytes = counted_holds op.Symlink _ (request.symlink_call g.header) bytes (λ x. refl)
  row_holds op.Mknod bytes = behind_holds op.Mknod inputs.mknod_in 16 (λ g r. new_name g.options) request.mknod_call bytes (λ r x. refl)
  row_holds op.Mkdir bytes = behind_holds op.Mkdir inputs.mkdir_in 8 (λ g r. new_name g.options) request.mkdir_call bytes (λ r x. refl)
  row_holds op.Create bytes =
      behind_holds op.Create inputs.create_in 16 (λ g r. new_name g.options) request.create_call bytes (λ r x. refl)
  row_holds op.Link bytes = behind_holds op.Link inputs.link_in 8 (λ g r. last_name) request.link_call bytes (λ r x. refl)
  row_holds op.Rename bytes = behind_holds op.Rename inputs.rename_in 8 (λ g r. two_names) request.rename_call bytes (λ r x. refl)
  row_holds op.Rename2 bytes = behind_holds op.Rename2 inputs.rename2_in 16 (λ g r. two_names) request.rename2_call bytes (λ r x. refl)
  row_holds op.Getxattr bytes =
      behind_holds op.Getxattr inputs.getxattr_in 8 (λ g r. grammar.at_most_a_mebibyte r.size >> last_name) request.getxattr_call bytes
      (λ r x. refl)
  row_holds op.Setxattr bytes =
      bytes_holds op.Setxattr (λ g. fronts.setxattr_front g.options g.header.len) (λ g r. name_and_value r.size) request.setxattr_call bytes
      (λ r x. refl)
  row_holds op.Listxattr bytes =
      then_holds op.Listxattr (record_parser inputs.getxattr_in bytes)
      (λ r. grammar.at_most_a_mebibyte r.size >> one g (request.listxattr_call g.header r)) (λ r more.
      then_holds op.Listxattr _ (λ x. one g (request.listxattr_call g.header r)) (λ x rest. each.asks op.Listxattr (One _ _) refl))
  row_holds op.Read bytes =
      then_holds op.Read _ (λ r. grammar.read_asked g r) (λ r more.
      then_holds op.Read _ (λ x. one g (request.read_call g.header (g.room - 16) r)) (λ x rest. each.asks op.Read (One _ _) refl))
  row_holds op.Write bytes =
      then_holds op.Write _ (λ r. rest >>= λ payload. one g (request.write_call g.header r payload))
      (λ r more. each.asks op.Write (One _ _) refl)
  row_holds op.BatchForget bytes =
      then_holds op.BatchForget (record_parser inputs.batch_forget_in bytes) (λ r. grammar.forgets_asked r.count g) (λ r more.
      then_holds op.BatchForget _ (λ pairs. one g (request.batch_forget_call g.header pairs))
      (λ pairs rest. each.asks op.BatchForget (One _ _) refl))
  row_holds op.Readdir bytes = listing_holds op.Readdir false bytes refl
  row_holds op.Readdirplus bytes = listing_holds op.Readdirplus true bytes refl
  row_holds op.Init bytes =
      then_holds op.Init (record_parser inputs.init_in_compat bytes) (λ r. fronts.flags2_of r >>= λ flags2. grammar.started g r flags2)
      (λ r more.
      then_holds op.Init (fronts.flags2_of r more) (λ flags2. grammar.started g r flags2) (λ flags2 rest.
      if_holds op.Init (nat_lt r.major 7) _ _ rest (each.sends (Some op.Init) g.header.unique grammar.EPROTO)
      (if_holds op.Init (nat_lt 7 r.major) _ _ rest (each.versions g.header.unique)
      (if_holds op.Init (nat_lt r.minor 27) _ _ rest (each.sends (Some op.Init) g.header.unique grammar.EPROTO)
      (each.asks op.Init (Starts _ _ _) refl)))))
  row_holds op.SetupMapping bytes = each.sends (Some op.SetupMapping) g.header.unique grammar.ENOSYS
  row_holds op.RemoveMapping bytes = each.sends (Some op.RemoveMapping) g.header.unique grammar.ENOSYS
  row_holds op.Interrupt bytes = each.silent
  row_holds o bytes = each.asks o (One _ _) refl

  -- ---- a whole request

  body_holds : (b : Bool) (o : Option Opcode) (bytes : List ℕ) →
      Q o (ended g.header.unique ((needs b (Sends grammar.ENOMEM) >> row_of g o) bytes))
  body_holds true (Some o) bytes = row_holds o bytes
  body_holds true None bytes = each.sends None g.header.unique grammar.ENOSYS
  body_holds false o bytes = each.sends o g.header.unique grammar.ENOMEM

  meant_holds : (bytes : List ℕ) → Q (opcode_of g.header.opcode) (meant g bytes)
  unfolding meant
  meant_holds bytes = body_holds (nat_le g.header.len 0x101000) (opcode_of g.header.opcode) bytes

-- the opcode lies in the front of the request as in the front of its header
opcode_there : (bs : List ℕ) → 40 ≤ length bs → take 4 (drop 4 (take 40 bs)) ≡ take 4 (drop 4 bs)
opcode_there (a ∷ b ∷ c ∷ d ∷ e ∷ f ∷ g ∷ h ∷ bs) l = refl
opcode_there _ l = absurd (omega arith)

module _ (Q : Option Opcode → Meaning → Type 0) (options room : ℕ) (each : Each Q room) where
  by_length : (bs : List ℕ) (short : Bool) → nat_lt (length bs) 40 ≡ short →
      Q (opcode_of (from_le_bytes w32 (take 4 (drop 4 bs))))
      (with_header options room (header_of (if short then Err (Faults DecodeMessage) else Ok (take 40 bs, drop 40 bs))))
  by_length bs true is = each.faults _ DecodeMessage
  by_length bs false is =
      let h : InHeader = made inputs.in_header.parts inputs.in_header.make (take 40 bs) in
      subst (λ (l : List ℕ). Q (opcode_of (from_le_bytes w32 l)) (meant (given h options room) (drop 40 bs)))
      (opcode_there bs (ltb-false (length bs) 40 is)) (meant_holds Q (given h options room) each (drop 40 bs))

  -- the meaning of a request, by its opcode
  pub meaning_holds : (bs : List ℕ) → Q (opcode_of (from_le_bytes w32 (take 4 (drop 4 bs)))) (meaning options bs room)
  unfolding meaning record_parser
  meaning_holds bs = by_length bs (nat_lt (length bs) 40) refl
