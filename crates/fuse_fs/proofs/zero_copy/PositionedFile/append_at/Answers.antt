use Rattle.std.proofs.Common.{◌≡◌, ◌+◌, ◌≤◌, ◌++◌, length, take, arith, sym, ap, ◌∙◌}
use Rattle.std.proofs.lemmas.Grind.{common_steps}
use Rattle.std.proofs.lemmas.List.{length-take-le}
use Rattle.fuse_fs.proofs.Appending.{preserved}
use Rattle.fuse_fs.proofs.zero_copy.PositionedFile.append_at.Goals as goal

pub returns-in-Ok-clause-ok : goal.returns-in-Ok-clause-ok
returns-in-Ok-clause-ok g c =
    let size : length c.read_at.new.buf ≡ c.args.most = grind (arith, common_steps) in
    let within : c.in-Ok.n ≤ c.args.most = grind (arith, common_steps, c.in-Ok.ensures.within) in
    let fits : c.in-Ok.n ≤ length c.read_at.new.buf = omega (arith, size, within) in
    let front : take c.len-from.result c.deref_mut.result.now ≡ c.args.out.now.items = grind (arith, common_steps) in
    let long : c.len-from.result ≤ length c.deref_mut.result.now = grind (arith, common_steps) in
    let whole : c.len-from.result + c.in-Ok.n ≤ c.resize.new.self.len = grind (arith, common_steps) in
    let asked = sym c.read_at.auto.buf ∙ size in (
      take c.in-Ok.n c.read_at.new.buf,
      c.truncate.ensures.items ∙ preserved _ _ _ _ _ _ _ long fits whole ∙ ap (λ s. s ++ take c.in-Ok.n c.read_at.new.buf) front,
      sym (length-take-le _ _ fits),
      within,
      rw
          asked at c.in-Ok.ensures.gives,
    )
