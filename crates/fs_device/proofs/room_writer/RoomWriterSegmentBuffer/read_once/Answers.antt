use Rattle.std.proofs.Common.{◌≡◌, ◌∙◌, ◌≤◌, [], length, min, arith, ap, inl, inr, refl, sym, drop}
use Rattle.fuse_fs.specs.Lengths.{first, past}
use Rattle.fuse_fs.proofs.Lengths.{past_zero_of}
use Rattle.std.proofs.lemmas.List.{nil_from_length}
use Rattle.vm_memory_core.specs.Host.{lengths}
use Rattle.vm_memory_core.specs.Window.{AllLieIn}
use Rattle.fs_device.specs.Behind.{RoomLeft}
use Rattle.plain_machine.specs.FillsProof.{fills_none}
use Rattle.fs_device.proofs.FillLemmas.{fills_front, first_within, room_less}
use Rattle.fs_device.proofs.room_writer.RoomWriterSegmentBuffer.read_once.Goals as goal

pub read_to_window-requires : goal.read_to_window-requires
unfolding AllLieIn
read_to_window-requires g c = c.front-front.ensures.lies (lengths (g.H.HostBlocks.host c.args.self.now.host.now)) c.args.self.now.lies

pub returns-then-most-eq0 : goal.returns-then-most-eq0
returns-then-most-eq0 g c =
    let left = c.args.self.now.room.now in
    let e = c.len.ensures in
    let none : min c.args.count (first left.rooms) ≡ 0 =
    omega (arith, c.min-most.ensures, c.if-most-eq0.true, e.len, e.rooms.0, first_within left.rooms) in (
      [],
      (fills_none _ left.places, refl),
      omega arith,
      sym (past_zero_of left.rooms e.rooms.1),
      (refl, inl (none, refl, refl)),
    )

pub returns-in-Ok : goal.returns-in-Ok
returns-in-Ok g c =
    let left = c.args.self.now.room.now in
    let r = c.in-Ok.ensures.reads in
    let f = c.front-front.ensures in
    let part = c.front-front.result in
    let most : part.len ≤ length left.places = omega (arith, f.front.len, f.front.within) in
    let places : c.advance.new.self.places ≡ drop c.in-Ok.n left.places =
    c.advance.ensures.places ∙ ap (λ (x : RoomLeft). drop c.in-Ok.n x.places) f.same in
    let fills = fills_front _ _ left.places c.advance.new.self.places _ part.len c.in-Ok.n r.0 f.front.places most r.1 r.2
    (omega (arith, r.2, r.3)) c.in-Ok.ensures.shape places in (
      r.0,
      (fills, refl),
      room_less _ _ _ _ r.0 fills,
      c.advance.ensures.rooms ∙ ap (λ (x : RoomLeft). past c.in-Ok.n x.rooms) f.same ∙ ap (λ n. past n left.rooms) (sym r.2),
      (
        sym r.2,
        inr (
          omega (arith, f.front.some, f.front.len, c.if-most-eq0.false, c.min-most.ensures, c.len.ensures.len),
          omega (arith, r.3, f.front.len),
          rw f.front.len at r.4,
        ),
      ),
    )

pub returns-in-Err : goal.returns-in-Err
returns-in-Err g c =
    let left = c.args.self.now.room.now in
    let r = c.in-Err.ensures.reads in
    let f = c.front-front.ensures in
    let part = c.front-front.result in
    let most : part.len ≤ length left.places = omega (arith, f.front.len, f.front.within) in
    let none : r.0 ≡ [] = nil_from_length r.0 r.2 in
    let all = c.len.ensures.rooms.1 in
    let fills = fills_front _ _ left.places c.front-front.new.self.places _ part.len 0 r.0 f.front.places most r.1 r.2 (omega arith)
    c.in-Err.ensures.shape (ap (λ (x : RoomLeft). x.places) f.same) in (
      r.0,
      (fills, refl),
      room_less _ _ _ _ r.0 fills,
      ap (λ (x : RoomLeft). x.rooms) f.same ∙ sym (past_zero_of left.rooms all) ∙ ap (λ n. past n left.rooms) (sym r.2),
      (
        sym r.2,
        inr (
          omega (arith, f.front.some, f.front.len, c.if-most-eq0.false, c.min-most.ensures, c.len.ensures.len),
          omega (arith, r.3, f.front.len),
          rw f.front.len at r.4,
        ),
      ),
    )
