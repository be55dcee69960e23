-- Calls of the exports meet the hypotheses of `law_log`.
use Rattle.std.proofs.Common.{◌≡◌, ◌-◌, ◌^◌, ◌∙◌, ℕ, List, Option, Some, None, ap, drop, min, subst, sym, take}
use Rattle.std.proofs.lemmas.List.{take_at}
use Rattle.fs_chain.specs.declared.error.ChainError.TheVariants as error
use Rattle.fs_chain.specs.declared.chain_handle.ChainHandle.{ChainHandle}
use Rattle.fs_chain_c.specs.declared.pushing.FsStores.{FsStores}
use Rattle.fs_chain_c.specs.declared.queue.FsQueue.{FsQueue}
use Rattle.fs_chain_c.specs.declared.ranges.FsRange.{FsRange}
use Rattle.fs_chain_c.specs.Handles.{Pushes}
use Rattle.fs_chain_c.specs.Logging.{PushReportsAddresses, RangesAreRoom}
use Rattle.fs_chain_c.specs.LogsCalled.{AreItsAddresses, MarksReply, MarksUsed}
use Rattle.fs_chain_c.specs.Pushing.{PushesHandle}
use Rattle.fs_chain_c.specs.Ranges.{FillsRanges, ReportsRanges}
use Rattle.fs_chain_c.proofs.CalledLemmas.{no_error}

fills_by : RangesAreRoom → (b : ChainHandle) (from most count : ℕ) (ranges ranges' : List FsRange)
    → FillsRanges b from most ranges ranges' count → AreItsAddresses b from (take count ranges')
fills_by law b from most count ranges ranges' fills =
    let rs = fills.0 in
    let first : take count ranges' ≡ rs =
    ap (λ (l : List FsRange). take count l) fills.3 ∙ take_at rs (drop count ranges) count fills.1 in
    subst (λ (l : List FsRange). AreItsAddresses b from l) (sym first) (λ low. law b from most rs low fills.4)

pub marks_reply : RangesAreRoom → (before after : Option ChainHandle) (from most : ℕ) (ranges ranges' : List FsRange) (count : ℕ)
    → ReportsRanges before from most ranges count after ranges' → MarksReply before from count ranges'
marks_reply law None None from most ranges ranges' count reports = reports.0
marks_reply law (Some b) (Some b') from most ranges ranges' count reports =
    fills_by law b from (min most (2 ^ 64 - 1 - from)) count ranges ranges' reports.0
marks_reply law _ _ from most ranges ranges' count reports = absurd reports

pub marks_used : PushReportsAddresses → (before after : Option ChainHandle) (q q' : FsQueue) (front front' : List ℕ) (filled : FsStores)
    (status : ℕ) → Pushes before q front status filled after q' front' → status ≡ 0 → MarksUsed q filled
marks_used law None None q q' front front' filled status pushes done = absurd (no_error error.WrongOrder (sym done ∙ pushes.0))
marks_used law (Some b) (Some b') q q' front front' filled status pushes done =
    law b b' q q' front front' filled (subst (λ (n : ℕ). PushesHandle b q front filled n b' q' front') done pushes)
marks_used law _ _ q q' front front' filled status pushes done = absurd pushes
