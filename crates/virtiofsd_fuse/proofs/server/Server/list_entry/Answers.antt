use Rattle.std.proofs.Common.{true, false, [], ◌∷◌, refl, ap, rules}
use Rattle.server_segments.specs.ReaderAndWriterView.{WriterView}
use Rattle.fuse_fs.specs.declared.answers.Entry.{Entry}
use Rattle.fuse_fs.specs.Answers.{listed, context_of}
use Rattle.fuse_fs.specs.Calls.{Done}
use Rattle.server_replies.specs.Entries.{no_node}
use Rattle.server_meanings.specs.Listings.{forget_lookup, listing_of}
use Rattle.virtiofsd_fuse.proofs.ListingLemmas.{nodeless_run, dot_run, placed_one, on_error, nothing_done, nothing_undone}
use Rattle.virtiofsd_fuse.proofs.server.Server.list_entry.Goals as goal

pub returns-then-not-with_nodes-clause-run : goal.returns-then-not-with_nodes-clause-run
returns-then-not-with_nodes-clause-run g c = λ request.
    let d = listed c.args.entry.now in
    let put = c.put_entry.ensures in
    nodeless_run g.F.FileSystemBase.may (listing_of c.args.with_nodes c.args.head.now request) d _ _ _ _ c.args.self.now.fs _ _
    c.put_entry.result (Prim.search rules)
    (placed_one g.F.FileSystemBase.may false d (no_node d) [] _ _ _ _ c.args.self.now.fs _ _ c.put_entry.result put.outcome
    put.written put.free
    (nothing_done c.put_entry.result c.args.self.now.fs)
    (on_error c.put_entry.result (λ same. ap (λ (w : WriterView). w.written) same) put.same)
    (nothing_undone g.F.FileSystemBase.may c.put_entry.result c.args.self.now.fs))

pub returns-then-is_dot-clause-run : goal.returns-then-is_dot-clause-run
returns-then-is_dot-clause-run g c = λ request.
    let d = listed c.args.entry.now in
    let undo = forget_lookup (context_of c.args.head.now) 0 in
    let put = c.put_node.ensures in
    let none = ap (λ (e : Entry _). e.inode) c.no_node.ensures in
    dot_run g.F.FileSystemBase.may (listing_of c.args.with_nodes c.args.head.now request) d _ _ _ _ _ _ _ c.put_node.result
    (Prim.search rules) (Prim.search rules)
    (placed_one g.F.FileSystemBase.may true d (no_node d) (undo ∷ []) _ _ _ _ _ _ _ c.put_node.result put.outcome
    (rw c.no_node.ensures at put.written) put.free put.kept
    (on_error c.put_node.result (λ same. ap (λ (w : WriterView). w.written) same) put.same)
    (on_error c.put_node.result (λ step. ((undo, Done) ∷ [], refl, (_, refl, rw none at step, refl))) put.undone))
