use Rattle.std.proofs.Common.{◌+◌, drop, get_or}
use Rattle.std.proofs.lemmas.List.{drop_more}
use Rattle.fs_regions.specs.declared.ahead.LoadAhead.{LoadAhead}
use Rattle.fs_regions.proofs.Going.{proceeds_no_further, proceeds_not, carries_on_from}
use Rattle.fs_regions.proofs.course.Course.go_ahead.Goals as goal

pub returns-then-not-is_due : goal.returns-then-not-is_due
returns-then-not-is_due c =
    let ahead = c.args.ahead.now in
    let i = c.loop-one.one-index in
    let none : LoadAhead = record { at = 0; len = 0 } in
    let one = get_or ahead i none in
    c.loop-one.invariant _ _
    (proceeds_not _ _ _ (drop i ahead) one (drop (i + 1) ahead) c.loop-one.rest.now _ c.loop-one.step c.in-Load.walk
    (drop_more ahead i none c.loop-one-test.true) c.in-Load.is (c.is_due.ensures.left c.if-not-is_due.true))

pub returns-in_default : goal.returns-in_default
returns-in_default c = c.loop-one.invariant _ _ (proceeds_no_further _ _ _ _ _ _ c.in_default.not-Load)

pub loop-one-preserved : goal.loop-one-preserved
loop-one-preserved c = λ new to then.
    let ahead = c.args.ahead.now in
    let i = c.loop-one.one-index in
    let none : LoadAhead = record { at = 0; len = 0 } in
    let one = get_or ahead i none in
    let is = c.is_due.ensures.is c.if-not-is_due.false in
    c.loop-one.invariant new to
    (carries_on_from _ _ _ (drop i ahead) one (drop (i + 1) ahead) c.loop-one.rest.now c.split_at.result.0.now c.split_at.result.1.now
    c.loop-one.step _ to c.in-Load.walk _ _ new (drop_more ahead i none c.loop-one-test.true) c.in-Load.is c.split_at.ensures.front
    c.split_at.ensures.back is.0 is.1 c.give-step.ensures then)
