use Rattle.std.proofs.Common.{◌≡◌, ◌≢◌, ◌++◌, ◌∷◌, ◌-◌, ◌+◌, ◌*◌, ◌<◌, ◌≤◌, false, true, [], length, arith, ap, sym, ◌∙◌, rules}
use Rattle.std.proofs.lemmas.List.{map-append}
use Rattle.fuse_fs.specs.Answers.{pair_numbers}
use Rattle.server_requests.proofs.ForgetLemmas.{many_next, many_end, many_short, many_few, pairs_there, pair_read, pair_short}
use Rattle.server_requests.proofs.forgets.read_pairs.Goals as goal

pub returns-then-available_bytes-count-clause-err :
    goal.returns-then-available_bytes-count-clause-err
returns-then-available_bytes-count-clause-err g c = λ other.
    let few : length c.args.r.now.left < c.args.count * 16 =
    omega (arith, c.available_bytes.ensures.left, c.if-available_bytes-count.true) in
    sym (many_few c.args.count c.args.r.now.left few)

pub returns-in_default-clause-memory : goal.returns-in_default-clause-memory
returns-in_default-clause-memory g c = λ none.
    let enough : c.args.count * 16 ≤ length c.args.r.now.left =
    omega (arith, c.available_bytes.ensures.left, c.if-available_bytes-count.false) in
    let some : c.args.count ≢ 0 = λ z. (let wrong : false ≡ true = c.in_default.ensures.succeeds z in absurd (cc)) in
    absurd (let pairs = pairs_there c.args.count c.args.r.now.left enough (omega (arith, some)) in cc)

pub returns-in-Err-clause-err : goal.returns-in-Err-clause-err
returns-in-Err-clause-err g c = λ other.
    many_short _ (c.args.count - (c.loop.counter + 1)) _ _ _ _ (omega (arith, c.loop-test.true)) c.loop.invariant.pairs
    (pair_short _ _ c.in-Err.ensures.reads)

pub loop-preserved : goal.loop-preserved
loop-preserved g c =
    let number = g.I.FileNumber.number in
    let pushed : c.push.new.self.items ≡ c.loop.pairs.items ++ (c.numbered.result, c.in-Ok-read_record.one.nlookup) ∷ [] =
    rw c.unwrap.ensures at c.push.ensures.items in
    let pairs : pair_numbers number c.push.new.self.items ≡ pair_numbers number c.loop.pairs.items
    ++ (c.in-Ok-read_record.one.nodeid, c.in-Ok-read_record.one.nlookup) ∷ [] =
    ap (pair_numbers number) pushed ∙ map-append _ c.loop.pairs.items _
    ∙ ap (λ n. pair_numbers number c.loop.pairs.items ++ (n, c.in-Ok-read_record.one.nlookup) ∷ []) c.numbered.ensures in
    record {
      count = Prim.search rules;
      most = omega (arith, c.loop-test.true);
      room = Prim.search rules;
      pairs = rw pairs (many_next _ (c.args.count - (c.loop.counter + 1)) _ _ _ _ _ (omega (arith, c.loop-test.true)) c.loop.invariant.pairs
          (pair_read _ _ _ c.in-Ok-read_record.ensures.reads));
    }

pub returns-clause-ok : goal.returns-clause-ok
returns-clause-ok g c = many_end _ _ _ _ (omega (arith, c.loop-test.false)) c.loop.invariant.pairs
