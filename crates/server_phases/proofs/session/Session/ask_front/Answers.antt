use Rattle.server_phases.proofs.session.Session.ask_front.Goals as goal

pub returns-clause-decoded : goal.returns-clause-decoded
returns-clause-decoded c =
    λ request len is. c.ask_write_front.ensures.decoded c.args.self.now.page_size c.args.self.now.options.0 request len is

pub returns-clause-asker : goal.returns-clause-asker
returns-clause-asker c = λ request len is. c.ask_write_front.ensures.asker request is

pub returns-clause-places : goal.returns-clause-places
returns-clause-places c = c.ask_write_front.ensures.places c.args.front.now _
