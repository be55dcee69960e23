use Rattle.std.proofs.Common.{arith, ap, sym, ◌∙◌, ◌+◌, ◌-◌, ◌++◌, ◌≡◌, length, take, drop, length-append, append_assoc}
use Rattle.std.proofs.lemmas.List.{length-take-le}
use Rattle.std.proofs.Math.Nat.{add-mul}
use Rattle.vm_values.specs.Fields.{spelled}
use Rattle.vm_memory_core.specs.Parts.{spelled_all}
use Rattle.vm_memory_core.proofs.ValueLemmas.{spelled-more, put_more}
use Rattle.vm_memory_core.proofs.copy.put_values.Goals as goal

pub loop-k-preserved : goal.loop-k-preserved
loop-k-preserved g c =
    let f = g.T.ByteValued.fields in
    let size = g.T.ByteValued.SIZE in
    let xs = c.args.values.now in
    let k = c.loop-k.k in
    let v = c.index-values-k.result in
    let next = add-mul k 1 size in
    let front = take c.args.at c.args.buffer.now in
    let n = length-take-le c.args.at c.args.buffer.now (omega arith) in
    let done = spelled_all f (take k xs) in
    let more : spelled_all f (take (k + 1) xs) ≡ done ++ spelled (f v) = spelled-more f xs k v (omega arith) c.index-values-k.is in
    let part : length (spelled (f v)) ≡ size = ap length (sym c.put_bytes.ensures.bytes) ∙ omega (arith, c.put_bytes.auto.out) in
    let both = length-append front done in
    let all = length-append done (spelled (f v)) in
    let one : c.loop-k.place + c.SIZE.result - c.loop-k.place ≡ c.SIZE-place.result = omega arith in
    let rest = drop (c.loop-k.place + c.SIZE-place.result) c.args.buffer.now in
    record {
      place = omega arith;
      count = ap length more ∙ all ∙ omega arith;
      stored = put_more (front ++ done) c.loop-k.buffer c.args.buffer.now c.put_bytes.new.out c.loop-k.place _ (omega arith)
          c.loop-k.invariant.stored
          ∙ ap (λ m. ((front ++ done) ++ c.put_bytes.new.out) ++ drop (c.loop-k.place + m) c.args.buffer.now) one
          ∙ ap (λ o. ((front ++ done) ++ o) ++ rest) c.put_bytes.ensures.bytes
          ∙ ap (λ b. b ++ rest) (append_assoc front done (spelled (f v)) ∙ ap (λ b. front ++ b) (sym more));
    }
