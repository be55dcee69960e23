use Rattle.server_meanings.specs.Serving.{setting}
use Rattle.server_phases.proofs.Reporting.{fault_decoded}
use Rattle.server_phases.proofs.session.Session.ask_read.Goals as goal

pub read_asked-requires : goal.read_asked-requires
read_asked-requires c = (c.in-Ok.ensures c.args.head.now c.args.self.now.options.0).1

pub returns-in-Ok-clause-decoded : goal.returns-in-Ok-clause-decoded
returns-in-Ok-clause-decoded c = rw (c.in-Ok.ensures c.args.head.now c.args.self.now.options.0).0
    (c.read_asked.ensures.decoded c.args.self.now.page_size c.args.self.now.options.0 _)

pub returns-in-Err-clause-decoded : goal.returns-in-Err-clause-decoded
returns-in-Err-clause-decoded c = fault_decoded (setting c.args.self.now.page_size c.args.self.now.options.0 c.args.room) _ _
    (c.in-Err.ensures c.args.head.now c.args.self.now.options.0).0
