use Rattle.std.proofs.Common.{ℕ, refl, sym, subst}
use Rattle.fuse_fs.specs.Calls as call
use Rattle.fuse_fs.proofs.lacking.AnyFileSystem.tmpfile.Goals as goal

pub returns : goal.returns
returns g c =
    record {
      may =
          subst (λ (n : ℕ). g.T.FileSystemBase.may c.args.self.now call.TmpFile (call.Failed n) c.args.self.now) (sym c.tmpfile.ensures)
          (g.met.T.FewCalls.lacks_rare c.args.self.now call.TmpFile refl);
    }
