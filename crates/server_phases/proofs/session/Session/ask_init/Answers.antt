use Rattle.std.proofs.Common.{refl}
use Rattle.server_meanings.specs.Serving.{setting}
use Rattle.server_phases.proofs.Reporting.{fault_decoded, versions_decoded}
use Rattle.server_phases.proofs.session.Session.ask_init.Goals as goal

pub init_asked-requires : goal.init_asked-requires
init_asked-requires c = (c.in-Start.ensures c.args.head.now c.args.self.now.options.0 c.args.room).1

pub returns-in-Start-clause-decoded : goal.returns-in-Start-clause-decoded
returns-in-Start-clause-decoded c =
    c.init_asked.ensures.decoded (setting c.args.self.now.page_size c.args.self.now.options.0 c.args.room) _ _
    refl (c.in-Start.ensures c.args.head.now c.args.self.now.options.0 c.args.room).0

pub returns-in-Versions-clause-decoded : goal.returns-in-Versions-clause-decoded
returns-in-Versions-clause-decoded c =
    rw (c.in-Versions.ensures c.args.head.now c.args.self.now.options.0 c.args.room, c.replied.ensures, c.reply.ensures, c.versions.ensures)
    (versions_decoded c.args.self.now.page_size c.args.self.now.options.0 c.args.room c.args.head.now.unique _)

pub returns-in-Error-clause-decoded : goal.returns-in-Error-clause-decoded
returns-in-Error-clause-decoded c = c.refused.ensures.decoded c.args.self.now.page_size c.args.self.now.options.0 _ _
    (c.in-Error.ensures c.args.head.now c.args.self.now.options.0 c.args.room)

pub returns-in-Fault-clause-decoded : goal.returns-in-Fault-clause-decoded
returns-in-Fault-clause-decoded c = fault_decoded (setting c.args.self.now.page_size c.args.self.now.options.0 c.args.room) _ _
    (c.in-Fault.ensures c.args.head.now c.args.self.now.options.0 c.args.room).0
