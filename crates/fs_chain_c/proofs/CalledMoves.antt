-- Calls of the exports meet the hypotheses of `law_moves`.
use Rattle.std.proofs.Common.{◌≡◌, ◌++◌, ℕ, All, List, [], ◌∷◌, drop, subst, sym, take, take-append-drop}
use Rattle.std.specs.List.{AllByRecursion}
use Rattle.std.proofs.lemmas.List.Elements.{All-head, All-tail}
use Rattle.fs_chain.specs.declared.queue.QueueState.{QueueState}
use Rattle.fs_chain_c.specs.declared.device.FsDevice.{FsDevice}
use Rattle.fs_chain_c.specs.declared.queue.FsQueue.{FsQueue}
use Rattle.fs_chain_c.specs.Moving.{AreQueueStates, HasItsWidths, HasState, MovesByRecord, RestoresARecord, SavesARecord}
use Rattle.fs_chain_c.specs.MovesCalled.{MovesQueues, RestoresQueues, SavesQueues}
use Rattle.fs_chain_c.specs.Records.{Restores, Saves}

pub queue_states : (qs : List FsQueue) → All HasState qs → (ks : List QueueState) × AreQueueStates qs ks
queue_states [] are = ([], tt)
queue_states (q ∷ qs) are =
    let one = All-head HasState q qs are in
    let rest = queue_states qs (All-tail HasState q qs are) in (one.0 ∷ rest.0, (one.1, rest.1))

pub all_one_by_one : (P : FsQueue → Type 0) (qs : List FsQueue) → All P qs → AllByRecursion P qs
all_one_by_one P [] all = tt
all_one_by_one P (q ∷ qs) all = (All-head P q qs all, all_one_by_one P qs (All-tail P q qs all))

pub saves_queues : SavesARecord → (d : FsDevice) (qs : List FsQueue) (buffer buffer' : List ℕ) (len status : ℕ)
    → All HasState qs → All HasItsWidths qs → Saves d qs buffer status len buffer' → status ≡ 0 → SavesQueues d qs buffer len buffer'
saves_queues law d qs buffer buffer' len status are fit saves done =
    let ks = queue_states qs are in
    let saved : Saves d qs buffer 0 len buffer' = subst (λ (n : ℕ). Saves d qs buffer n len buffer') done saves in
    let so = law d qs ks.0 buffer buffer' len saved (all_one_by_one HasItsWidths qs fit) ks.1 in
    (ks.0, ks.1, so.0, so.1, so.2, so.3, so.4, so.5)

pub restores_queues : RestoresARecord → (d d' : FsDevice) (queues queues' : List FsQueue) (saved : List ℕ) (count : ℕ)
    → Restores d queues saved 0 count d' queues' → All HasState (take count queues') → RestoresQueues d' queues' saved count
restores_queues law d d' queues queues' saved count restores are =
    let ks = queue_states (take count queues') are in
    let so = law d d' queues queues' ks.0 saved count restores ks.1 in
    (ks.0, ks.1, so.0, so.1, so.2, so.3, so.4, so.5, so.6)

pub moves_queues : MovesByRecord → (d there d' : FsDevice) (qs olds queues' : List FsQueue) (buffer saved : List ℕ)
    (len count status : ℕ) → All HasState qs → All HasItsWidths qs → Saves d qs buffer status len saved → status ≡ 0
    → Restores there olds saved 0 count d' queues' → All HasState (take count queues') → MovesQueues d qs d' queues' count
moves_queues law d there d' qs olds queues' buffer saved len count status are fit saves done restores back =
    let here = queue_states qs are in
    let ks = queue_states (take count queues') back in
    let made : Saves d qs buffer 0 len saved = subst (λ (n : ℕ). Saves d qs buffer n len saved) done saves in
    let rest = drop len saved in
    let restored : Restores there olds (take len saved ++ rest) 0 count d' queues' =
    subst (λ (bytes : List ℕ). Restores there olds bytes 0 count d' queues') (sym (take-append-drop len saved)) restores in
    let so = law d there d' qs olds queues' here.0 ks.0 buffer saved rest len count made (all_one_by_one HasItsWidths qs fit) here.1
    restored ks.1 in
    (here.0, ks.0, here.1, ks.1, so.0, so.1, so.2, so.3, so.4, so.5, so.6, so.7)
