use Rattle.std.proofs.Common.{◌≡◌, ◌∙◌, ◌-◌, ap, arith, get_or, min, subst, sym}
use Rattle.std.proofs.lemmas.List.{drop_more}
use Rattle.vm_memory_core.specs.Window.{AllLieIn}
use Rattle.fs_device.specs.Behind.{RoomLeft}
use Rattle.vm_memory_core.specs.Parts.{part_of}
use Rattle.fs_device.proofs.BehindLemmas.{front_of, part_lies, sub_is}
use Rattle.fs_device.proofs.room_left.RoomLeft.front.Goals as goal

pub returns-clause-front : goal.returns-clause-front
returns-clause-front c =
    let r = c.self.inside in
    let x = c.window_at-index in
    let w = get_or r.windows.now x.result.0 c.index-self-index.result in
    let next = drop_more r.windows.now x.result.0 c.index-self-index.result x.ensures.there in
    let part : c.unwrap.result ≡ part_of w x.result.1 c.min.result =
    sub_is w c.unwrap.result x.result.1 c.min.result (sym c.unwrap.ensures ∙ c.subslice.ensures) in
    front_of r.windows.now x.result.0 w next c.args.self.now x.result.1 c.min.result c.args.most c.unwrap.result
    (x.ensures.places ∙ ap (λ (r : RoomLeft). r.places) c.self.view_is) (x.ensures.rooms ∙ ap (λ (r : RoomLeft). r.rooms) c.self.view_is)
    (x.ensures.within w next) (c.min.ensures ∙ ap (λ n. min c.args.most (n - x.result.1)) c.len.ensures.len) part

pub returns-clause-lies : goal.returns-clause-lies
returns-clause-lies c lengths all =
    let r = c.self.inside in
    let x = c.window_at-index in
    let w = get_or r.windows.now x.result.0 c.index-self-index.result in
    let part : c.unwrap.result ≡ part_of w x.result.1 c.min.result =
    sub_is w c.unwrap.result x.result.1 c.min.result (sym c.unwrap.ensures ∙ c.subslice.ensures) in
    let next = drop_more r.windows.now x.result.0 c.index-self-index.result x.ensures.there in
    part_lies r.windows.now x.result.0 c.index-self-index.result c.unwrap.result x.result.1 c.min.result x.ensures.there
    (omega (arith, x.ensures.within w next, c.min.ensures, c.len.ensures.len)) part lengths
    (subst (λ (r : RoomLeft). AllLieIn lengths r.windows) (sym c.self.view_is) all)
