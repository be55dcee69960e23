use Rattle.std.proofs.Common.{arith}
use Rattle.fs_shared.proofs.kicking.recorded_exchange.Goals as goal

pub returns-clause-pages : goal.returns-clause-pages
returns-clause-pages c m q fetched t head reply runs taken ten same =
    c.return_pages.ensures.pages m q fetched t head reply runs taken ten (omega (arith, same, c.len.ensures, c.args.exchange.reply.ok.0))
