use Rattle.fs_regions.proofs.stretch.stretch_len.Goals as goal

pub returns-clause-most : goal.returns-clause-most
returns-clause-most c = λ there n few inside may.
    c.entries_in_region.ensures.most there n (c.most_entries.ensures.most n few inside (λ one. (may one).1)) (λ one. (may one).0)
