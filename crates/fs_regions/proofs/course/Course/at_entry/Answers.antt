use Rattle.std.proofs.Common.{◌≡◌, ◌∙◌, true, sym, ap, arith}
use Rattle.vm_iotlb.specs.declared.permissions.Permissions.TheVariants.{Read}
use Rattle.vm_memory.specs.Memory.{reach}
use Rattle.fs_queue.specs.Chain.{entry_address}
use Rattle.fs_queue.specs.SteppingView.{visit_of}
use Rattle.fs_regions.specs.Places.{places_in}
use Rattle.fs_regions.proofs.course.Course.at_entry.Goals as goal

pub returns-then-reaches-clause-comes : goal.returns-then-reaches-clause-comes
returns-then-reaches-clause-comes c = λ loaded waits size brings.
    let there : reach (places_in c.args.regions.now) Read (entry_address (visit_of c.args.walk)) 16 ≡ true =
    ap (λ a. reach (places_in c.args.regions.now) Read a 16) (sym c.address.ensures.address) ∙ sym c.reaches.ensures
    ∙ c.if-reaches.true in (
      (waits, size, brings),
      c.stretch_len-entries.ensures.there there,
      (
        (
          c.stretch_len-entries.ensures.few,
          c.stretch_len-entries.ensures.inside,
          λ more.
              let stretch = c.stretch_len-entries.ensures.stretch more in
              let joins = stretch.1 in
              let may_join = c.may_join.ensures in
              (stretch.0, omega (arith, more, joins, may_join)),
        ),
        λ n may.
            c.stretch_len-entries.ensures.most there n may.0 may.1
            (λ more.
            let stretch = may.2 more in
            let joins = stretch.1 in
            let may_join = c.may_join.ensures in
            (stretch.0, omega (arith, more, joins, may_join))),
      ),
    )

pub without_entry-requires : goal.without_entry-requires
without_entry-requires c =
    ap (λ a. reach (places_in c.args.regions.now) Read a 16) (sym c.address.ensures.address) ∙ sym c.reaches.ensures ∙ c.if-reaches.false

pub returns-clause-comes : goal.returns-clause-comes
returns-clause-comes c = λ loaded waits size brings. c.without_entry.ensures.comes loaded waits brings
