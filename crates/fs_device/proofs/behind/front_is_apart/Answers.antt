use Rattle.std.proofs.Common.{◌≡◌, ◌≤◌, ◌∙◌, ◌-◌, true, List, ap, arith, drop, length, subst, sym, take, ◌↔◌, ℕ}
use Rattle.std.proofs.lemmas.List.{length-drop}
use Rattle.vm_memory_core.specs.Host.{Place}
use Rattle.vm_memory_core.specs.Window.{places, places_of}
use Rattle.plain_machine.specs.Apart.{Apart}
use Rattle.fs_device.specs.Behind.{RoomLeft}
use Rattle.plain_machine.proofs.ApartLemmas.{front_decides, front_denies}
use Rattle.fs_device.proofs.behind.front_is_apart.Goals as goal

pub returns-then-not-is_apart : goal.returns-then-not-is_apart
returns-then-not-is_apart c =
    let ps = places c.args.windows.now in
    let part = c.front-part.result in
    let le : part.len ≤ c.loop-left.left = omega (arith, c.front-part.ensures.front.len) in (
      λ no. absurd (cc),
      λ a. absurd (front_denies (Apart (take c.args.count ps) (drop c.args.count ps)) c.loop-left.front.places (drop c.args.count ps)
          (places_of part) part.len c.loop-left.left le
          c.front-part.ensures.front.places c.loop-left.invariant.decides
          (λ p. let yes : c.is_apart.result ≡ true = c.is_apart.ensures.1 p in let no = c.if-not-is_apart.true in absurd (cc)) a),
    )

pub loop-left-preserved : goal.loop-left-preserved
loop-left-preserved c =
    let ps = places c.args.windows.now in
    let part = c.front-part.result in
    let all = Apart (take c.args.count ps) (drop c.args.count ps) in
    let le : part.len ≤ c.loop-left.left = omega (arith, c.front-part.ensures.front.len) in
    let left : c.advance.new.self.places ≡ drop part.len c.loop-left.front.places =
    c.advance.ensures.places ∙ ap (λ n. drop n c.front-part.new.self.places) c.len.ensures.len
    ∙ ap (λ (r : RoomLeft). drop part.len r.places) c.front-part.ensures.same in
    let fewer : c.loop-left.left - part.len ≡ c.loop-left.left - c.len-left.result =
    ap (λ n. c.loop-left.left - n) (sym c.len-left.ensures.len) in
    record {
      enough = omega (arith, c.loop-left.invariant.enough, fewer, le, ap length left, length-drop part.len c.loop-left.front.places);
      decides = subst (λ (l : List Place). all ↔ Apart (take (c.loop-left.left - c.len-left.result) l) (drop c.args.count ps)) (sym left)
          (subst (λ (n : ℕ). all ↔ Apart (take n (drop part.len c.loop-left.front.places)) (drop c.args.count ps)) fewer
          (front_decides all c.loop-left.front.places (drop c.args.count ps) (places_of part) part.len c.loop-left.left le
          c.front-part.ensures.front.places c.loop-left.invariant.decides
          (c.is_apart.ensures.0 c.if-not-is_apart.false)));
    }
