use Rattle.std.proofs.Common.{refl, ap, sym, ◌∙◌}
use Rattle.server_meanings.specs.Grammar.{ended, given, read_asked}
use Rattle.server_requests.specs.Reading.{and_then}
use Rattle.server_meanings.proofs.Rows.{read_asks, read_short, read_without_room}
use Rattle.server_meanings.proofs.meanings_apart.read_with_room.Goals as goal

pub returns-in-Ok : goal.returns-in-Ok
returns-in-Ok g c = λ h options.
    let at = given h options c.args.room in (
      sym (ap (λ r. ended h.unique (and_then r (λ x. read_asked at x.0 x.1))) c.in-Ok.ensures.reads)
          ∙ read_asks at c.in-Ok.request _ c.if-room-lt-OUT_HEADER_LEN.false,
      c.if-room-lt-OUT_HEADER_LEN.false,
    )

pub returns-then-room-lt-OUT_HEADER_LEN : goal.returns-then-room-lt-OUT_HEADER_LEN
returns-then-room-lt-OUT_HEADER_LEN g c = λ h options.
    let at = given h options c.args.room in (
      sym (ap (λ r. ended h.unique (and_then r (λ x. read_asked at x.0 x.1))) c.in-Ok.ensures.reads)
          ∙ read_without_room at c.in-Ok.request _ c.if-room-lt-OUT_HEADER_LEN.true,
      refl,
    )

pub returns : goal.returns
returns g c = λ h options. (read_short (given h options c.args.room) _ _ c.in-Err.ensures.reads, rw c.in-Err.ensures.fault refl)
