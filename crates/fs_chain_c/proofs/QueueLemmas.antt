-- One queue of a record more over some; and queues that fit a record.
use Rattle.std.proofs.Common.{[], ◌≡◌, ◌∙◌, ℕ, zero, suc, ◌+◌, List, ◌∷◌, get_or, take, slice_get, slice_set, Some, refl, ap}
use Rattle.std.proofs.Common.{sym, subst, arith, inl, inr, ◌≤◌}
use Rattle.std.specs.Prelude.{◌<◌, length}
use Rattle.std.proofs.lemmas.Bool.{cases_lt}
use Rattle.std.proofs.lemmas.Option.{slice_get-get_or, slice_get_past, slice_get_read}
use Rattle.fs_queue.specs.Queue.{Queue}
use Rattle.live_machine.proofs.Queues.{same_some}
use Rattle.fs_chain_c.specs.declared.queue.FsQueue.{FsQueue}
use Rattle.fs_chain_c.specs.Queues.{IsQueue}
use Rattle.fs_chain_c.specs.Records.{FitBefore, FitRecord, HasUnfit, numbers_over, restored_over}
use Rattle.fs_chain_c.specs.Statuses.{queue_status}

over_suc : (olds : List FsQueue) (qs : List Queue) (k : ℕ) (old : FsQueue) (q : Queue)
    → slice_get (restored_over olds (take k qs)) k ≡ Some old → slice_get qs k ≡ Some q
    → slice_set (restored_over olds (take k qs)) k (numbers_over old q) ≡ restored_over olds (take (suc k) qs)
over_suc (o ∷ olds) (p ∷ qs) zero old q was is =
    ap (λ (x : FsQueue). numbers_over x q ∷ olds) (sym (same_some o old was))
    ∙ ap (λ (x : Queue). numbers_over o x ∷ olds) (sym (same_some p q is))
over_suc (o ∷ olds) (p ∷ qs) (suc k) old q was is = ap (λ (l : List FsQueue). numbers_over o p ∷ l) (over_suc olds qs k old q was is)
over_suc olds [] k old q was is = absurd (cc)
over_suc [] (p ∷ qs) zero old q was is = absurd (cc)
over_suc [] (p ∷ qs) (suc k) old q was is = absurd (cc)

-- it stands over the next of some queues
pub over_next : (olds now : List FsQueue) (qs : List Queue) (k : ℕ) (old fresh : FsQueue) (q : Queue) → now ≡ restored_over olds (take k qs)
    → k < length now → k < length qs
    → q ≡ get_or qs k q → fresh ≡ numbers_over (get_or now k old) q → slice_set now k fresh ≡ restored_over olds (take (k + 1) qs)
over_next olds now qs k old fresh q is_now low there is_q is_fresh =
    let next : suc k ≡ k + 1 = omega arith in
    let was = subst (λ (l : List FsQueue). slice_get l k ≡ Some (get_or now k old)) is_now (slice_get-get_or now k old low) in
    ap (λ (x : FsQueue). slice_set now k x) is_fresh ∙ ap (λ (l : List FsQueue). slice_set l k (numbers_over (get_or now k old) q)) is_now
    ∙ over_suc olds qs k (get_or now k old) q was (slice_get_read qs (length qs) k q refl there is_q)
    ∙ ap (λ (n : ℕ). restored_over olds (take n qs)) next

-- ---- queues that fit a record

pub none_fits : (olds : List FsQueue) (qs : List Queue) → FitBefore olds qs 0
none_fits olds qs k old q less was is = absurd (omega (arith, less))

pub next_fits : (olds : List FsQueue) (qs : List Queue) (k : ℕ) (old fresh : FsQueue) (q : Queue)
    → k < length olds → k < length qs → q ≡ get_or qs k q → fresh ≡ numbers_over (get_or olds k old) q → IsQueue fresh
    → FitBefore olds qs k → FitBefore olds qs (k + 1)
next_fits olds qs k old fresh q low there is_q is_fresh fits before j older queue less was is = elim (cases_lt j k) [
  | inl earlier ↦ before j older queue earlier was is
  | inr last ↦
      let same : j ≡ k = omega (arith, less, last) in
      let was' : slice_get olds k ≡ Some older = subst (λ (n : ℕ). slice_get olds n ≡ Some older) same was in
      let is' : slice_get qs k ≡ Some queue = subst (λ (n : ℕ). slice_get qs n ≡ Some queue) same is in
      let old_is : get_or olds k old ≡ older = same_some (get_or olds k old) older (sym (slice_get-get_or olds k old low) ∙ was') in
      let queue_is : q ≡ queue = same_some q queue (sym (slice_get_read qs (length qs) k q refl there is_q) ∙ is') in
      subst IsQueue
      (is_fresh ∙ ap (λ (x : FsQueue). numbers_over x q) old_is ∙ ap (λ (x : Queue). numbers_over older x) queue_is) fits
]

pub all_fit : (olds : List FsQueue) (qs : List Queue) (n : ℕ) → length qs ≤ n → FitBefore olds qs n → FitRecord olds qs
all_fit olds qs n few fit k old q was is = elim (cases_lt k (length qs)) [
  | inl low ↦ fit k old q (omega (arith, low, few)) was is
  | inr past ↦ absurd (cc (sym is ∙ slice_get_past qs k past))
]

pub one_unfit : (olds : List FsQueue) (qs : List Queue) (k : ℕ) (old fresh : FsQueue) (q : Queue) (status : ℕ)
    → k < length olds → k < length qs → q ≡ get_or qs k q → fresh ≡ numbers_over (get_or olds k old) q → (IsQueue fresh → ⊥)
    → status ≡ queue_status fresh → FitBefore olds qs k → HasUnfit olds qs status
one_unfit olds qs k old fresh q status low there is_q is_fresh unfit why before = record {
  at = k;
  old = get_or olds k old;
  queue = q;
  was = slice_get-get_or olds k old low;
  is = slice_get_read qs (length qs) k q refl there is_q;
  before = before;
  unfit = λ fit. unfit (subst IsQueue (sym is_fresh) fit);
  why = why ∙ ap queue_status is_fresh;
}
