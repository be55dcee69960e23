use Rattle.std.proofs.Common.{◌≡◌, ◌∙◌, ℕ, List, ap, arith, length, map, refl, sym, min}
use Rattle.vm_memory_core.specs.Window.{byte_in, places}
use Rattle.server_meanings.specs.Grammar.{meaning}
use Rattle.fs_device.proofs.AnsweringLemmas.{front_is_all}
use Rattle.fs_device.proofs.ReadingLemmas.{answers_read, reads_eighty}
use Rattle.fs_device.proofs.short_way.read_in_place.Goals as goal

pub returns-then-request_len-ne-REQUEST_FRONT-clause-taken : goal.returns-then-request_len-ne-REQUEST_FRONT-clause-taken
returns-then-request_len-ne-REQUEST_FRONT-clause-taken g c = (
  λ no. absurd (cc),
  λ reads. absurd (omega (
    arith,
    reads_eighty (g.H.HostBlocks.host c.args.host.now) c.args.chain.now reads.1,
    c.request_len.ensures,
    c.if-request_len-ne-REQUEST_FRONT.true,
  )),
)

pub returns-clause-some : goal.returns-clause-some
returns-clause-some g c =
    let h = g.H.HostBlocks.host c.args.host.now in
    let ps = places c.args.chain.now.readable.items in
    let eighty : length ps ≡ 80 = sym c.request_len.ensures ∙ c.if-request_len-ne-REQUEST_FRONT.false in
    let same : length c.args.front.now ≡ length ps = c.requires.front.size ∙ ap (λ n. min n 80) eighty ∙ sym eighty in
    let all : c.args.front.now ≡ map (byte_in h) ps = front_is_all h ps c.args.front.now c.requires.front.bytes same in
    let e = c.in_ok-room.ensures in
    let has = rw c.deref.ensures at e.some.0 refl in
    let r = c.read_to_room-reply.ensures.read in
    answers_read g.F.FileSystemBase.may c.args.server.now c.read_to_room-reply.new.server h
    (g.H.HostBlocks.host c.read_to_room-reply.new.host) ps (places c.args.chain.now.writable.items)
    c.in_ok-room.room.places r.1 c.read_to_room-reply.result r.0 c.in_ok-request.request
    (λ options n le. ap (λ (l : List ℕ). meaning options l n) (sym all) ∙ c.in_ok-request.ensures.means options n le)
    has (rw c.deref.ensures at e.places) r.2 (omega arith) r.3 r.4
