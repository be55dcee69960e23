use Rattle.std.proofs.Common.{◌≡◌, ℕ, ◌-◌, Ok, length, refl, ap, arith, subst}
use Rattle.fuse_base.specs.Options.{FsOptions}
use Rattle.server_meanings.specs.Listings.{listing_of}
use Rattle.server_meanings.specs.ListingRuns.{ListRun}
use Rattle.server_meanings.specs.Serving.{setting}
use Rattle.server_meanings.proofs.Serve.{handles_list, handles_unlisted}
use Rattle.virtiofsd_fuse.proofs.ListingLemmas.{entries_fit, place_stays}
use Rattle.server_meanings.proofs.Rows.{listing_returned, listing_suits}
use Rattle.virtiofsd_fuse.proofs.server.Server.list.Goals as goal

pub reply_listing-requires-clause-behind : goal.reply_listing-requires-clause-behind
reply_listing-requires-clause-behind g c =
    let front : length c.append.new.w.written ≡ 16 = rw (c.append.ensures.written, c.requires.fresh) refl in
    let outcome = c.list_entries-error.ensures.run c.args.request.now in
    place_stays c.append.new.w.written c.list_entries-error.new.w.written outcome.bytes front outcome.all

pub returns-in-Ok-clause-handles : goal.returns-in-Ok-clause-handles
returns-in-Ok-clause-handles g c =
    let l = listing_of c.args.with_nodes c.args.head.now c.args.request.now in
    let place = c.append.ensures.free in
    let front : length c.append.new.w.written ≡ 16 = rw (c.append.ensures.written, c.requires.fresh) refl in
    let left : c.append.new.w.free ≡ c.args.w.now.free - 16 = omega (arith, place) in
    let outcome = subst (λ (n : ℕ). ListRun g.F.FileSystemBase.may l (g.F.DirIter.DirectoryIterator.rest c.in-Ok.entries)
    c.args.request.now.size n c.make_readdir_call.new.fs
    c.append.new.w.written c.list_entries-error.new.w.written c.list_entries-error.result c.list_entries-error.new.self.fs) left
    (c.list_entries-error.ensures.run c.args.request.now) in
    handles_list g.F.FileSystemBase.may (setting c.args.self.now.page_size c.args.self.now.options.0 c.args.w.now.free) _
    c.args.head.now.unique l
    (g.F.DirIter.DirectoryIterator.rest c.in-Ok.entries) c.args.self.now.fs c.make_readdir_call.new.fs _ _ _ c.list_entries-error.result
    (Ok c.reply_listing.result) _ _
    refl
    c.in-Ok.ensures.may outcome
    (ap (λ (o : FsOptions). o.0) c.list_entries-error.ensures.options)
    (listing_returned c.args.w.now.free c.args.head.now.unique c.reply_listing.result c.args.with_nodes c.append.new.w.written
    c.list_entries-error.new.w.written _ outcome.bytes
    c.list_entries-error.result front outcome.all
    (entries_fit c.append.new.w.written c.list_entries-error.new.w.written outcome.bytes c.append.new.w.free c.list_entries-error.new.w.free
    c.args.w.now.free front outcome.all
    c.list_entries-error.ensures.room place)
    c.reply_listing.ensures.reply)

pub returns-in-Err-clause-handles : goal.returns-in-Err-clause-handles
returns-in-Err-clause-handles g c =
    let l = listing_of c.args.with_nodes c.args.head.now c.args.request.now in
    handles_unlisted g.F.FileSystemBase.may (setting c.args.self.now.page_size c.args.self.now.options.0 c.args.w.now.free) _
    c.args.head.now.unique l
    c.in-Err.error _ _ _ _ _
    refl
    (listing_suits l c.in-Err.error c.in-Err.ensures.errno) c.in-Err.ensures.may
    refl c.reply_error.ensures.sent
