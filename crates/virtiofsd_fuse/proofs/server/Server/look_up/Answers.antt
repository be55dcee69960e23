use Rattle.std.proofs.Common.{true, [], ◌∷◌, refl, ap, rules}
use Rattle.server_segments.specs.ReaderAndWriterView.{WriterView}
use Rattle.fuse_fs.specs.Answers.{listed, numbered, context_of}
use Rattle.fuse_fs.specs.Calls.{Done}
use Rattle.server_meanings.specs.Listings.{forget_lookup, listing_of}
use Rattle.virtiofsd_fuse.proofs.ListingLemmas.{found_run, unfound_run, placed_one, on_error}
use Rattle.virtiofsd_fuse.proofs.server.Server.look_up.Goals as goal

pub returns-in-Ok-clause-run : goal.returns-in-Ok-clause-run
returns-in-Ok-clause-run g c = λ request.
    let node = numbered g.F.Inode.FileNumber.number c.in-Ok.node in
    let undo = forget_lookup (context_of c.args.head.now) node.inode in
    let put = c.put_node.ensures in
    found_run g.F.FileSystemBase.may (listing_of true c.args.head.now request) (listed c.args.entry.now) node _ _ _ _ _ _ _ _
    c.put_node.result refl c.requires
    (search rules) (search rules)
    (placed_one g.F.FileSystemBase.may true (listed c.args.entry.now) node (undo ∷ []) _ _ _ _ _ _ _ c.put_node.result put.outcome
    put.written put.free put.kept
    (on_error c.put_node.result (λ same. ap (λ (w : WriterView). w.written) same) put.same)
    (on_error c.put_node.result (λ step. ((undo, Done) ∷ [], refl, (_, refl, step, refl))) put.undone))

pub returns-in-Err-clause-run : goal.returns-in-Err-clause-run
returns-in-Err-clause-run g c = λ request.
    unfound_run g.F.FileSystemBase.may (listing_of true c.args.head.now request) (listed c.args.entry.now) _ _ c.args.w.now.free
    c.in-Err.error _ _ _ refl c.requires
    (search rules) (search rules)
