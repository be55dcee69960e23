use Rattle.std.proofs.Common.{rules, ℕ, inl, inr, ap, ◌∙◌}
use Rattle.fs_chain_c.specs.Decoding as asking
use Rattle.fs_chain_c.proofs.decoding.decode_handle.Goals as goal

pub returns-in-Ok : goal.returns-in-Ok
returns-in-Ok c =
    let s = c.resume-session.result in
    let asked = c.decode.new.self in
    let asks : asking.Decodes c.args.handle.now s c.args.request.now c.in-Ok.decoded asked = record {
      can = search rules;
      reports = search rules;
      wanted = search rules;
      step = search rules;
      session = search rules;
      stays = search rules;
    } in
    let fields = c.fill_decoded-status.new.call in
    let ticket = ap (λ (n : ℕ). record fields { ticket = n }) (c.ticket-ticket.ensures ∙ c.decode.ensures.same.0.2) in
    inr (inr (
      search rules,
      (s, search rules, asked, c.in-Ok.decoded, asks, fields, c.fill_decoded-status.ensures, ticket, c.in-Ok.ensures.places),
    ))

pub returns-in-Err : goal.returns-in-Err
returns-in-Err c =
    inr (inl (search rules, c.in-Err.error, record { why = search rules; stays = search rules }, search rules, search rules))
