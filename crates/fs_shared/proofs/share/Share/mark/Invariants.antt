use Rattle.std.proofs.Common.{◌≡◌, take}
use Rattle.vm_atomic_bitmaps.specs.Passes.{counting}
use Rattle.vm_atomic_bitmaps.specs.Passes.{IsPassOf}
use Rattle.fs_shared.specs.Portion.{MarksPages}
use Rattle.fs_shared.proofs.share.Share.mark.Given as goal

-- those so far
abbrev pub invariant-loop-page : goal.invariant-loop-page
invariant-loop-page g l = record {
  own : IsPassOf l.bitmap l.self-inside.pass;
  self : l.self-inside ≡ record l.initial.self-inside { pass = counting l.initial.self-inside.pass l.self-inside.pass.counts.pages };
  pages : MarksPages (take l.page-index l.pages) l.initial.self-inside.pass.counts.pages l.self-inside.pass.counts.pages;
}
