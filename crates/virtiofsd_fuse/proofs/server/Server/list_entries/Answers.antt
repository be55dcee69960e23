use Rattle.std.proofs.Common.{drop, ◌∙◌}
use Rattle.fuse_fs.specs.Answers.{listed}
use Rattle.virtiofsd_fuse.proofs.ListingLemmas.{lists_nothing, first_of, none_of}
use Rattle.virtiofsd_fuse.proofs.server.Server.list_entries.Goals as goal

pub loop-entry-preserved : goal.loop-entry-preserved
loop-entry-preserved g c =
    let rest = g.F.DirIter.DirectoryIterator.rest in
    let all = first_of (rest c.loop-entry.entries) (listed c.in-Some.entry) c.in-Some.ensures.entry in
    record {
      run = λ request final error end later. c.loop-entry.invariant.run request final error end
          (rw all (c.in-Ok.ensures.run request (drop 1 (rest c.loop-entry.entries)) final error end
          (rw c.next.follows.holds-at-none at later)));
      room = c.in-Ok.ensures.room ∙ c.loop-entry.invariant.room;
      options = c.in-Ok.ensures.options ∙ c.loop-entry.invariant.options;
      page_size = c.in-Ok.ensures.page_size ∙ c.loop-entry.invariant.page_size;
    }

pub returns-in-Err-clause-run : goal.returns-in-Err-clause-run
returns-in-Err-clause-run g c = λ request.
    let rest = g.F.DirIter.DirectoryIterator.rest in
    let all = first_of (rest c.loop-entry.entries) (listed c.in-Some.entry) c.in-Some.ensures.entry in
    c.loop-entry.invariant.run request _ _ _ (rw all (c.in-Err.ensures.run request (drop 1 (rest c.loop-entry.entries))))

pub returns-clause-run : goal.returns-clause-run
returns-clause-run g c = λ request.
    c.loop-entry.invariant.run request _ _ _ (lists_nothing g.F.FileSystemBase.may _ _ _ _ _ _ (none_of _ c.in_default.ensures.entry))
