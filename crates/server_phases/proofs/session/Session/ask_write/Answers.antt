use Rattle.std.proofs.Common.{refl, sym, ◌∙◌}
use Rattle.std.proofs.lemmas.List.{length-drop}
use Rattle.server_phases.proofs.session.Session.ask_write.Goals as goal

pub returns-clause-decoded : goal.returns-clause-decoded
returns-clause-decoded c =
    c.ask_write_row.ensures.decoded c.args.self.now.page_size c.args.self.now.options.0 c.args.source.bytes.now refl
    (c.saturating_sub-len.ensures ∙ sym (length-drop 40 c.args.source.bytes.now))
