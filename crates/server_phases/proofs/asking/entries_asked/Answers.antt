use Rattle.std.proofs.Common.{refl, sym, ap}
use Rattle.fuse_fs.specs.declared.answers.Context.{Context}
use Rattle.fuse_fs.specs.Calls.{Readdir}
use Rattle.server_meanings.specs.Grammar.{Lists}
use Rattle.server_meanings.specs.Listings.{listing_of}
use Rattle.server_phases.proofs.asking.entries_asked.Goals as goal

pub returns-clause-decoded : goal.returns-clause-decoded
returns-clause-decoded c = λ page_size options bytes. (
  Lists c.args.head.now.unique (listing_of c.args.with_nodes c.args.head.now c.args.request.now),
  refl,
  ap (λ (who : Context). Readdir who c.args.head.now.nodeid c.args.request.now.fh c.args.request.now.size c.args.request.now.offset)
      c.from-context.ensures,
  tt,
  (refl, refl, sym c.from-context.ensures, c.requires.size, c.requires.enough),
  refl,
)
