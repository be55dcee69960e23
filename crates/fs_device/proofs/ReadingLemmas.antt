-- A READ whose data was put where it goes.
use Rattle.std.proofs.Common.{◌≡◌, ℕ, ◌+◌, ◌≤◌, ◌&&◌, nat_le, nat_lt, List, ◌++◌, length, map, take, drop, Ok, Err, None, refl, sym, ap}
use Rattle.std.proofs.Common.{IsTrue, is_ok, if◌then◌else◌, slice_get, subst, ◌∙◌, arith, length-append, set, Some, Bool, true, false}
use Rattle.std.proofs.lemmas.Bool.Decides.{nat_tests}
use Rattle.std.proofs.lemmas.List.{length-drop, length-map}
use Rattle.vm_memory_core.specs.Host.{Host, Place}
use Rattle.vm_memory_core.specs.Window.{byte_in, places, put_all}
use Rattle.std.specs.List.{zip}
use Rattle.vm_memory.specs.Memory.{Memory}
use Rattle.fs_queue.specs.declared.chain.Chain.{Chain}
use Rattle.fs_queue.specs.Windows.{Taken, HoldsChain, IsTaken, chain_places}
use Rattle.fs_queue.specs.Queue.{Queue}
use Rattle.fs_queue.specs.Taking.{RequestAndRoom, room_of}
use Rattle.fs_queue.specs.Returning.{PutFrontLast, advanced, returned, wants_notice}
use Rattle.plain_machine.specs.Apart.{Apart}
use Rattle.fs_device.specs.Behind.{HasBehind}
use Rattle.plain_machine.specs.Fills.{Fills}
use Rattle.plain_machine.proofs.ApartLemmas.{front_last}
use Rattle.virtiofsd_fuse.specs.declared.reads.ReadReply.{ReadReply}
use Rattle.virtiofsd_fuse.specs.declared.reads.ReadRequest.{ReadRequest}
use Rattle.virtiofsd_fuse.specs.declared.server.Server.{Server}
use Rattle.server_meanings.specs.Grammar.{Meaning, meaning}
use Rattle.virtiofsd_fuse.specs.ReadApart.{is_read, read_meaning, read_request}
use Rattle.fuse_in.specs.Shapes.{made}
use Rattle.fuse_in.specs.Records.{in_header, read_in}
use Rattle.fuse_in.specs.declared.session.InHeader.{InHeader}
use Rattle.fuse_wire.specs.Opcodes.{opcode_of}
use Rattle.server_segments.specs.declared.error.Error.TheVariants.{DecodeMessage}
use Rattle.server_requests.specs.Reading.{Parsed, Parser, Faults, and_then, give, needs, record_parser, ◌>>=◌, ◌>>◌}
use Rattle.server_meanings.specs.Serving.{May, Handles, setting}
use Rattle.virtiofsd_fuse.specs.ServerHandles.{ServerHandles}
use Rattle.plain_machine.specs.Step.{Calls, Exchange}
use Rattle.fs_device.specs.DeviceView.{AnswersRequest, ServesChain, request_of, server_state, state_of}
use Rattle.fs_device.specs.ReplyFront.{AnswersAt, AnswersFront, front_bytes}
use Rattle.fs_device.specs.declared.reply_front.PreparedReply.{PreparedReply}
use Rattle.fs_device.specs.declared.reply_front.ReplyFront.TheVariants.{Header}
use Rattle.fs_device.specs.declared.returned.Returned.{Returned}
use Rattle.fs_device.specs.DevicePartsView.{DeviceParts}
use Rattle.fs_device.specs.Returned.{StepReturned}
use Rattle.fs_device.specs.Phases.{HasTaken}
use Rattle.fs_device.specs.ShortWay.{HoldARead, ReadsInPlace}
use Rattle.fs_device.proofs.AnsweringLemmas.{request_held, returned_step}
use Rattle.fs_device.proofs.StepLemmas.{Fixed, exchanges}
use Rattle.fs_device.proofs.ServeLemmas.{replied_ok, served_chain}

not_below : (a n : ℕ) → nat_lt a n ≡ false → n ≤ a
not_below a n is = grind (arith, nat_tests)

-- if a parser that begins with n bytes gives something, there are as many, and what goes on gives something behind them
begins_with :
    {A B : Type 0} (n : ℕ) (bytes : List ℕ) (make : List ℕ → A) (k : A × List ℕ → Parsed B) (test : Bool) → nat_lt (length bytes) n ≡ test →
    IsTrue (is_ok (and_then (and_then {A = List ℕ × List ℕ} (if test then Err (Faults DecodeMessage) else Ok (take n bytes, drop n bytes))
    (λ x. Ok (make x.0, x.1))) k)) →
    (n ≤ length bytes) × IsTrue (is_ok (k (make (take n bytes), drop n bytes)))
begins_with n bytes make k true is ok = absurd (cc)
begins_with n bytes make k false is ok = (not_below (length bytes) n is, ok)

-- a test that was needed held
needed : {A B : Type 0} (test : Bool) (bytes : List ℕ) (p : Parser A) (k : A × List ℕ → Parsed B) →
    IsTrue (is_ok (and_then (and_then {A = Unit {0} × List ℕ} (if test then Ok (tt, bytes) else Err (Faults DecodeMessage)) (λ x. p x.1))
    k)) → IsTrue (is_ok (and_then (p bytes) k))
needed true bytes p k ok = ok
needed false bytes p k ok = absurd (cc)

-- a READ has the bytes of its two records
pub read_is_long : (bytes : List ℕ) → IsTrue (is_ok (read_request bytes)) → 80 ≤ length bytes
unfolding record_parser
read_is_long bytes ok =
    let after : InHeader × List ℕ → Parsed ReadRequest =
    λ x. (needs (nat_le x.0.len 0x101000 && is_read (opcode_of x.0.opcode)) (Faults DecodeMessage) >> record_parser read_in
    >>= λ r. give (record { header = x.0; «record» = r })) x.1 in
    let head = begins_with 40 bytes (made in_header.parts in_header.make) after (nat_lt (length bytes) 40) refl ok in
    let header = made in_header.parts in_header.make (take 40 bytes) in
    let body = needed (nat_le header.len 0x101000 && is_read (opcode_of header.opcode)) (drop 40 bytes) (record_parser read_in)
    (λ x. give (record { header = header; «record» = x.0 }) x.1) head.1 in
    let record_there =
    begins_with 40 (drop 40 bytes) (made read_in.parts read_in.make) (λ x. give (record { header = header; «record» = x.0 }) x.1)
    (nat_lt (length (drop 40 bytes)) 40) refl body in
    omega (arith, head.0, record_there.0, length-drop 40 bytes)

-- a chain whose data may be put where it goes has a request of that length
pub reads_eighty : (h : Host) (c : Chain) → ReadsInPlace h (Ok c) → length (places c.readable.items) ≡ 80
reads_eighty h c (behind, holds) =
    let held : HoldARead h (places c.readable.items) = holds in
    omega (arith, held.0, read_is_long (map (byte_in h) (places c.readable.items)) held.1, length-map (places c.readable.items) (byte_in h))

-- a room is the header's place and what follows it
pub whole_room : (ps rest : List Place) → 16 ≤ length ps → rest ≡ drop 16 ps → 16 + length rest ≡ length ps
whole_room ps rest enough behind = omega (arith, enough, ap length behind, length-drop 16 ps)

module _ {F : Type 0} (may : May F) (before after : Server F) (h new : Host) (ps room rest left : List Place) (r : ReadReply)
    (bytes : List ℕ) (request : ReadRequest)
    (means : (options n : ℕ) → 16 ≤ n → meaning options (map (byte_in h) ps) n ≡ read_meaning request n)
    (has : HasBehind room 16) (behind : rest ≡ drop 16 room) (fills : Fills h rest bytes new left) (long : length r.header ≡ 16)
    (len : r.len ≡ 16 + length bytes)
    (handles : ServerHandles may before (16 + length rest) (read_meaning request (16 + length rest)) (Ok r.len) (r.header ++ bytes)
    after) where
  put : PutFrontLast h new room r.header (r.header ++ bytes)
  put =
      front_last h new room r.header bytes (omega (arith, long, has.enough))
      (subst (λ n. Apart (take n room) (drop n room)) (sym long) has.apart)
      (fills.stored ∙ ap (λ (l : List Place). put_all h (zip l bytes)) (behind ∙ ap (λ n. drop n room) (sym long)))

  served : (calls : Calls) × AnswersRequest may before.page_size (server_state before) (map (byte_in h) ps) (16 + length rest) calls
      (r.header ++ bytes) None (server_state after)
  served =
      replied_ok may before.page_size before.options.0 (16 + length rest) (map (byte_in h) ps) before.fs after.fs r.len (r.header ++ bytes)
      after.options.0
      (subst (λ (k : Meaning). Handles may (setting before.page_size before.options.0 (16 + length rest)) k before.fs (Ok r.len)
      (r.header ++ bytes) after.options.0 after.fs)
      (sym (means before.options.0 (16 + length rest) (omega arith))) handles)

  pub answers_read : AnswersAt may before h ps room (record { front = Header r.header; len = r.len; fault = None }) new after
  answers_read = record {
    reply = r.header ++ bytes;
    len = length-append r.header bytes ∙ ap (λ n. n + length bytes) long ∙ sym len;
    put = put;
    served = (
      served.0,
      subst (λ n. AnswersRequest may before.page_size (server_state before) (map (byte_in h) ps) n served.0 (r.header ++ bytes) None
          (server_state after))
          (whole_room room rest has.enough behind) served.1,
    );
  }

-- what is answered for a chain's places is answered for the chain
pub answers_chain : {F : Type 0} (may : May F) (before after : Server F) (m : Memory) (h new : Host) (q : Queue) (fetched : RequestAndRoom)
    (t : Taken) (c : Chain) (a : PreparedReply) →
    m.host ≡ h → IsTaken m q fetched t → t.chain ≡ Ok c →
    AnswersAt may before h (places c.readable.items) (places c.writable.items) a new after → AnswersFront may before h t fetched a new after
answers_chain may before after m h new q fetched t c a same taken is x =
    let held : HoldsChain m fetched (Ok c) = subst (HoldsChain m fetched) is taken.chain in
    let read : map (byte_in h) (places c.readable.items) ≡ request_of fetched = request_held m h fetched c same held in
    record {
      reply = x.reply;
      len = x.len;
      put = subst (λ ch. PutFrontLast h new (chain_places ch) (front_bytes a.front) x.reply) (sym is) x.put;
      served = (
        x.served.0,
        served_chain may before.page_size (server_state before) (server_state after) m fetched c t.head t.head (request_of fetched) a.fault
            x.reply x.served.0 held refl refl
            (subst (λ (l : List ℕ). AnswersRequest may before.page_size (server_state before) l (length (places c.writable.items))
            x.served.0 x.reply a.fault (server_state after)) read x.served.1),
      );
    }

-- a step that was given back, told by its head, its lengths, its fault and its notice
pub returned_step_of :
    {F : Type 0} (may : May F) (f : Fixed) (m m' n : Memory) (queues between : List Queue) (i : ℕ) (p q' : Queue) (s s' : ℕ × F) (t : Taken)
    (has : HasTaken m f.limit queues i t) (x : Exchange) (notice : Bool)
    (d : DeviceParts F) (page : ℕ) (r : Returned) →
    between ≡ queues → slice_get between i ≡ Some p → (calls : Calls) × ServesChain may f.page_size s t.head has.fetched calls x s' →
    (IsTaken m p has.fetched t → m' ≡ returned m p t.head (room_of has.fetched) x.reply) →
    (IsTaken m p has.fetched t → notice ≡ wants_notice m' p) → q' ≡ advanced p →
    record { queues = queues; options = s.0; files = s.1; limit = f.limit; page_size = f.page_size } ≡ d → n ≡ m' → page ≡ f.page_size →
    r.head ≡ x.head → r.request_len ≡ length x.request → r.reply_len ≡ length x.reply → r.fault ≡ x.fault → r.notify ≡ notice →
    StepReturned may (state_of m d) i (Ok (Some r))
    (state_of n (record { queues = set between i q'; options = s'.0; files = s'.1; limit = f.limit; page_size = page }))
returned_step_of may f m m' n queues between i p q' s s' t has x notice d page r kept at served stored notice_is after is over same head
    request reply
    fault noticed =
    rw (← is, over, same) (returned_step may _ i x notice _ r
    (exchanges may f m m' queues between i p q' s s' t has x notice kept at served stored notice_is after) head request reply fault
    noticed)
