use Rattle.std.proofs.Common.{◌++◌, ◌∙◌, List, ℕ, ap}
use Rattle.fs_chain_c.proofs.RecordLemmas.{never_full}
use Rattle.fs_chain_c.proofs.record_place.record_of.Goals as goal

pub unreachable-requires : goal.unreachable-requires
unreachable-requires c =
    let out = c.in-Err.ensures.leaves in
    let sink = c.save_record.new.sink in
    never_full c.args.page_size c.args.limit c.args.options.0 c.args.queues.now sink.bytes.items out.0 out.1 sink.is_full c.requires.few
    sink.full out.5
    out.2 out.3 (out.4 ∙ ap (λ (l : List ℕ). l ++ out.0) c.empty-place.ensures.0)
