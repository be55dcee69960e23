use Rattle.std.proofs.Common.{refl, ap, sym, ◌∙◌}
use Rattle.server_meanings.specs.Grammar.{ended, given, listing_asked}
use Rattle.server_requests.specs.Reading.{and_then}
use Rattle.server_meanings.proofs.Rows.{listing_asks, listing_long, listing_short, listing_wide, listing_without_room}
use Rattle.server_meanings.proofs.meanings_apart.listing_meaning.Goals as goal

pub returns-in-Ok : goal.returns-in-Ok
returns-in-Ok g c = λ nodes h options.
    let at = given h options c.args.room in (
      sym (ap (λ r. ended h.unique (and_then r (λ x. listing_asked nodes x.0 at x.1))) c.in-Ok.ensures.reads)
          ∙ listing_asks nodes at c.in-Ok.request _ c.if-request-gt-MAX_BUFFER_SIZE.false c.if-room-request.false
          c.if-room-lt-OUT_HEADER_LEN.false,
      c.if-room-lt-OUT_HEADER_LEN.false,
      c.if-request-gt-MAX_BUFFER_SIZE.false,
    )

pub returns-then-request-gt-MAX_BUFFER_SIZE : goal.returns-then-request-gt-MAX_BUFFER_SIZE
returns-then-request-gt-MAX_BUFFER_SIZE g c = λ nodes h options.
    let at = given h options c.args.room in
    sym (ap (λ r. ended h.unique (and_then r (λ x. listing_asked nodes x.0 at x.1))) c.in-Ok.ensures.reads)
    ∙ listing_long nodes at c.in-Ok.request _ c.if-request-gt-MAX_BUFFER_SIZE.true

pub returns-then-room-request : goal.returns-then-room-request
returns-then-room-request g c = λ nodes h options.
    let at = given h options c.args.room in
    sym (ap (λ r. ended h.unique (and_then r (λ x. listing_asked nodes x.0 at x.1))) c.in-Ok.ensures.reads)
    ∙ listing_wide nodes at c.in-Ok.request _ c.if-request-gt-MAX_BUFFER_SIZE.false c.if-room-request.true

pub returns-then-room-lt-OUT_HEADER_LEN : goal.returns-then-room-lt-OUT_HEADER_LEN
returns-then-room-lt-OUT_HEADER_LEN g c = λ nodes h options.
    let at = given h options c.args.room in (
      sym (ap (λ r. ended h.unique (and_then r (λ x. listing_asked nodes x.0 at x.1))) c.in-Ok.ensures.reads)
          ∙ listing_without_room nodes at c.in-Ok.request _ c.if-request-gt-MAX_BUFFER_SIZE.false c.if-room-request.false
          c.if-room-lt-OUT_HEADER_LEN.true,
      refl,
    )

pub returns : goal.returns
returns g c =
    λ nodes h options. (listing_short nodes (given h options c.args.room) _ _ c.in-Err.ensures.reads, rw c.in-Err.ensures.fault refl)
