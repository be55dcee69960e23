-- a journal's first entries lead to a state from which the others lead on
use Rattle.std.proofs.Common.{suc, ◌∷◌, refl}
use Rattle.fs_shared.specs.JournalPages.{JournalsSplit}
use Rattle.fs_shared.specs.Replay.{Replays}

pub journals_split : JournalsSplit
unfolding Replays
journals_split start after (suc n) (e ∷ es) (mid, plays, options, rest) =
    let later = journals_split mid after n es rest in (later.0, (mid, plays, options, later.1), later.2)
journals_split start after _ _ replays = (start, refl, replays)
