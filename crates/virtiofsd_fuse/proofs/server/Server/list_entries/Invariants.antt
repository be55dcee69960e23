-- What comes of the entries that are left comes of all.
use Rattle.std.proofs.Common.{◌≡◌, ◌+◌, ℕ, List, Option, length}
use Rattle.fuse_in.specs.declared.files.ReadIn.{ReadIn}
use Rattle.server_meanings.specs.Listings.{listing_of}
use Rattle.server_meanings.specs.ListingRuns.{ListRun}
use Rattle.virtiofsd_fuse.proofs.server.Server.list_entries.Given as goal

abbrev pub invariant-loop-entry : goal.invariant-loop-entry
invariant-loop-entry g l = record {
  run : (request : ReadIn) (final : List ℕ) (error : Option ℕ) (end : _)
      → ListRun g.F.FileSystemBase.may (listing_of l.with_nodes l.head request) (g.F.DirIter.DirectoryIterator.rest l.entries) l.left
      l.w.free l.self.fs l.w.written final error end
      → ListRun g.F.FileSystemBase.may (listing_of l.with_nodes l.head request) (g.F.DirIter.DirectoryIterator.rest l.initial.entries)
      l.initial.left l.initial.w.free l.initial.self.fs
      l.initial.w.written final error end;
  room : length l.w.written + l.w.free ≡ length l.initial.w.written + l.initial.w.free;
  options : l.self.options ≡ l.initial.self.options;
  page_size : l.self.page_size ≡ l.initial.self.page_size;
}

abbrev pub decreases-loop-entry : goal.decreases-loop-entry
decreases-loop-entry g l = length (g.F.DirIter.DirectoryIterator.rest l.entries)
