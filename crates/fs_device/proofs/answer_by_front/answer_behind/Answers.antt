use Rattle.std.proofs.Common.{◌≡◌, ◌∙◌, ap, arith, length, map}
use Rattle.std.proofs.lemmas.List.{length-map}
use Rattle.server_segments.specs.Segments.{joined}
use Rattle.vm_memory_core.specs.Window.{byte_in, places}
use Rattle.fs_device.proofs.AnsweringLemmas.{front_and_rest}
use Rattle.fs_device.proofs.answer_by_front.answer_behind.Goals as goal

pub unreachable-requires : goal.unreachable-requires
unreachable-requires g c =
    let h = g.H.HostBlocks.host c.args.host.now in
    let ps = places c.args.chain.now.readable.items in
    let all : joined c.in_ok-segments.segments.items ≡ map (byte_in h) ps =
    rw c.deref.ensures at c.in_ok-segments.ensures ∙ front_and_rest h ps c.args.front.now c.requires.front.bytes in
    absurd (omega (arith, ap length all, length-map ps (byte_in h), c.in-Err.ensures.err.1))

pub returns-clause-answered : goal.returns-clause-answered
returns-clause-answered g c =
    let h = g.H.HostBlocks.host c.args.host.now in
    let ps = places c.args.chain.now.readable.items in
    let all : joined c.in_ok-segments.segments.items ≡ map (byte_in h) ps =
    rw c.deref.ensures at c.in_ok-segments.ensures ∙ front_and_rest h ps c.args.front.now c.requires.front.bytes in
    rw (c.in-Ok.ensures.ok.0 ∙ all) at c.answer.ensures.answered
