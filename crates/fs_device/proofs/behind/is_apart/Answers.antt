use Rattle.std.proofs.Common.{◌≡◌, ◌<◌, ◌∙◌, false, true, List, ap, arith, drop, refl, subst, sym, ◌↔◌}
use Rattle.vm_memory_core.specs.Host.{Place}
use Rattle.vm_memory_core.specs.Window.{places, places_of}
use Rattle.plain_machine.specs.Apart.{Apart, are_apart}
use Rattle.fs_device.specs.Behind.{RoomLeft}
use Rattle.plain_machine.proofs.ApartLemmas.{nothing_left, part_denies, rest_decides, windows_decide}
use Rattle.fs_device.proofs.behind.is_apart.Goals as goal

pub returns-then-not-are_apart : goal.returns-then-not-are_apart
returns-then-not-are_apart c =
    let w = c.args.window.now in
    let part = c.front-part.result in
    let any : 0 < part.len = omega (arith, c.front-part.ensures.front.len, c.front-part.ensures.front.some) in
    let decide = windows_decide w part c.requires.some any in
    let none : are_apart w part ≡ false = sym c.are_apart.ensures ∙ c.if-not-are_apart.true in (
      λ no. absurd (cc),
      λ a. absurd (part_denies (Apart (places_of w) (drop c.args.count (places c.args.windows.now))) (places_of w) c.loop-rest.rest.places
          (places_of part) part.len c.front-part.ensures.front.places
          c.loop-rest.invariant.decides (λ p. let yes : are_apart w part ≡ true = decide.1 p in absurd (cc)) a),
    )

pub loop-rest-preserved : goal.loop-rest-preserved
loop-rest-preserved c =
    let w = c.args.window.now in
    let part = c.front-part.result in
    let all = Apart (places_of w) (drop c.args.count (places c.args.windows.now)) in
    let any : 0 < part.len = omega (arith, c.front-part.ensures.front.len, c.front-part.ensures.front.some) in
    let yes : are_apart w part ≡ true = sym c.are_apart.ensures ∙ c.if-not-are_apart.false in
    let left : c.advance.new.self.places ≡ drop part.len c.loop-rest.rest.places =
    c.advance.ensures.places ∙ ap (λ n. drop n c.front-part.new.self.places) c.len-in-loop-rest.ensures.len
    ∙ ap (λ (r : RoomLeft). drop part.len r.places) c.front-part.ensures.same in
    record {
      decides = subst (λ (ps : List Place). all ↔ Apart (places_of w) ps) (sym left)
          (rest_decides all (places_of w) c.loop-rest.rest.places (places_of part) part.len c.front-part.ensures.front.places
          c.loop-rest.invariant.decides
          ((windows_decide w part c.requires.some any).0 yes));
    }

pub returns : goal.returns
returns c =
    let w = c.args.window.now in (
      λ yes. nothing_left (Apart (places_of w) (drop c.args.count (places c.args.windows.now))) (places_of w) c.loop-rest.rest.places
          c.loop-rest.invariant.decides
          (omega (arith, c.loop-rest-test.false, c.len.ensures.len)),
      λ a. refl,
    )
