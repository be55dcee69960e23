-- A call of one of the handles in a list, and calls one behind another.
use Rattle.std.proofs.Common.{inl, inr, ◌≡◌, ◌⊎◌, ◌<◌, ◌≤◌, ◌+◌, ℕ, zero, suc, List, [], ◌∷◌, ◌++◌, Some, None, arith, false, get_or}
use Rattle.std.proofs.Common.{slice_set, take, drop, zero-le, Option, length, slice_get, refl, subst, sym, ap, ◌∙◌, append-nil}
use Rattle.fs_chain.specs.Orders.{is_out}
use Rattle.fs_driven.proofs.Handles.{CallsSeen, carries_on, none_some, not_free, same_first, same_rest}
use Rattle.fs_driven.proofs.Pops.{idle_may}
use Rattle.vm_memory_core.specs.Host.{changed_at}
use Rattle.fs_chain.specs.Holds.{Pop}
use Rattle.fs_driven.specs.Drivers.{BeginsDriven, PushUnderWay, Driver, HasRun, driver, no_pop, with_pop, with_push, with_queue}
use Rattle.fs_driven.specs.Events.{Called, Drives, DrivesOne, EventsOfAll, Unseen, call_of, calls_of, IsMissing, is_of_queue, seen_of}
use Rattle.fs_chain.specs.Together.{with_handle}
use Rattle.fs_chain.specs.declared.chain_handle.ChainHandle.{ChainHandle}
use Rattle.fs_driven.specs.declared.commands.DriverCall.{DriverCall}
use Rattle.fs_driven.specs.declared.commands.Results.{Results}
use Rattle.fs_driven.specs.declared.commands.Results.TheVariants as gives
use Rattle.fs_chain.specs.declared.queue.QueueState.{QueueState}

pub set_changed : {A : Type 0} (xs : List A) (k : ℕ) (x : A) → slice_set xs k x ≡ changed_at xs k (λ _. x)
set_changed {A} (y ∷ ys) (suc k) x = ap (λ (l : List A). y ∷ l) (set_changed ys k x)
set_changed _ _ x = refl

-- one call
pub single : (zs : List CallsSeen) (c : Called) → seen_of zs ≡ c ∷ [] → (u : Unseen) × (zs ≡ (c, u) ∷ [])
single [] c is = absurd (none_some c [] is)
single (z ∷ []) c is = (z.1, ap (λ (x : Called). (x, z.1) ∷ []) (same_first z.0 c [] [] is))
single (z ∷ y ∷ zs) c is =
    absurd (none_some y.0 (seen_of zs) (sym (same_rest z.0 c (y.0 ∷ seen_of zs) [] is)))

pub at_place : (on : List ℕ) (page_size : ℕ) (ws : List ChainHandle) (k : ℕ) (w new : ChainHandle)
    (qs : List QueueState) (i : ℕ) (q q' : QueueState) (command : DriverCall) (returned : Results) →
    slice_get ws k ≡ Some w → slice_get on k ≡ Some i → slice_get qs i ≡ Some q →
    is_of_queue command ≡ false →
    DrivesOne page_size w new q q' command returned →
    Drives on page_size ws (slice_set ws k new) qs (slice_set qs i q') (call_of k command returned ∷ [])
unfolding DrivesOne Drives
at_place on page_size ws k w new qs i q q' command returned there number queue mine one zs is s os pops pushes all =
    let z = single zs (call_of k command returned) is in
    let a = one ws k there on qs i number queue z.0 s os pops pushes all in
    let d : Driver = driver s ws qs os pops pushes in
    let pops' : ℕ → Pop = with_pop pops k a.3 in
    let pushes' : ℕ → Option PushUnderWay = with_push pushes i a.4 in
    let end : Driver = driver a.1 (with_handle ws k new) (with_queue qs i q') a.2 pops' pushes' in
    subst (λ (l : List ChainHandle). HasRun s on page_size (slice_set qs i q') l
    (λ es e. EventsOfAll on page_size d zs es e)) (sym (set_changed ws k new))
    (subst (λ (l : List QueueState). HasRun s on page_size l (with_handle ws k new)
    (λ es e. EventsOfAll on page_size d zs es e)) (sym (set_changed qs i q')) (
      a.0,
      a.1,
      a.2,
      pops',
      pushes',
      a.5,
      a.6,
      subst (λ (l : List CallsSeen). EventsOfAll on page_size d l a.0 end) (sym z.1) (
        a.0,
        [],
        end,
        sym (append-nil a.0),
        (a.5, a.6),
        inl (
          mine,
          record {
            queue = i;
            was = w;
            now = new;
            before = q;
            after = q';
            handle = there;
            number = number;
            there = queue;
            handles = refl;
            queues = refl;
            pop = a.3;
            pops = refl;
            push = a.4;
            pushes = refl;
            under_way = a.7;
            reports = a.8;
          },
        ),
        (refl, refl),
      ),
    ))

pub nowhere : {A : Type 0} (xs : List A) (k : ℕ) → length xs ≤ k → slice_get xs k ≡ None
nowhere [] k past = refl
nowhere {A} (y ∷ ys) zero past = absurd (omega arith)
nowhere {A} (y ∷ ys) (suc k) past = let more : length ys ≤ k = omega arith in nowhere ys k more

-- the element at an index within a list
pub got : {A : Type 0} (xs : List A) (k : ℕ) (x : A) → k < length xs → x ≡ get_or xs k x →
    slice_get xs k ≡ Some x
got {A} [] k x less is = absurd (omega arith)
got {A} (y ∷ ys) zero x less is = ap (λ (z : A). Some z) (sym is)
got {A} (y ∷ ys) (suc k) x less is = let more : k < length ys = omega arith in got ys k x more is

-- a number at an index within a list
pub number_at : (ks : List ℕ) (n : ℕ) → n < length ks → get_or ks n 0 ≡ get_or ks n (get_or ks n 0)
number_at [] n less = absurd (omega arith)
number_at (k ∷ ks) zero less = refl
number_at (k ∷ ks) (suc n) less = let more : n < length ks = omega arith in number_at ks n more

-- there is no such handle, or it has no queue
missing : (on : List ℕ) (page_size : ℕ) (ws : List ChainHandle) (k : ℕ) (qs : List QueueState) (command : DriverCall)
    → ((d : Driver) → d.handles ≡ ws → d.queues ≡ qs → IsMissing on d k) → is_of_queue command ≡ false
    → Drives on page_size ws ws qs qs (call_of k command gives.NoHandle ∷ [])
unfolding Drives
missing on page_size ws k qs command none mine zs is s os pops pushes all =
    let z = single zs (call_of k command gives.NoHandle) is in
    let d : Driver = driver s ws qs os pops pushes in (
      [],
      s,
      os,
      pops,
      pushes,
      refl,
      all,
      subst (λ (l : List CallsSeen). EventsOfAll on page_size d l [] d) (sym z.1)
          ([], [], d, refl, (refl, all), inr (inl (mine, none d refl refl, refl, refl, refl)), (refl, refl)),
    )

pub no_place : (on : List ℕ) (page_size : ℕ) (ws : List ChainHandle) (k : ℕ) (qs : List QueueState)
    (command : DriverCall) → length ws ≤ k → is_of_queue command ≡ false
    → Drives on page_size ws ws qs qs (call_of k command gives.NoHandle ∷ [])
no_place on page_size ws k qs command past mine =
    missing on page_size ws k qs command
    (λ d ws_is qs_is. inl (ap (λ (l : List ChainHandle). slice_get l k) ws_is ∙ nowhere ws k past)) mine

pub no_number : (on : List ℕ) (page_size : ℕ) (ws : List ChainHandle) (k : ℕ) (qs : List QueueState)
    (command : DriverCall) → length on ≤ k → is_of_queue command ≡ false
    → Drives on page_size ws ws qs qs (call_of k command gives.NoHandle ∷ [])
no_number on page_size ws k qs command past mine =
    missing on page_size ws k qs command (λ d ws_is qs_is. inr (inl (nowhere on k past))) mine

pub no_queue : (on : List ℕ) (page_size : ℕ) (ws : List ChainHandle) (k : ℕ) (qs : List QueueState)
    (command : DriverCall) → k < length on → length qs ≤ get_or on k 0 → is_of_queue command ≡ false
    → Drives on page_size ws ws qs qs (call_of k command gives.NoHandle ∷ [])
no_queue on page_size ws k qs command less past mine =
    missing on page_size ws k qs command
    (λ d ws_is qs_is. inr (inr (
      get_or on k 0,
      got on k (get_or on k 0) less (number_at on k less),
      ap (λ (l : List QueueState). slice_get l (get_or on k 0)) qs_is ∙ nowhere qs (get_or on k 0) past,
    ))) mine

-- no calls
pub at_none : (on : List ℕ) (page_size : ℕ) (ws : List ChainHandle) (qs : List QueueState) →
    Drives on page_size ws ws qs qs []
unfolding Drives
at_none on page_size ws qs zs is s os pops pushes all =
    ([], s, os, pops, pushes, refl, all, by_list zs is)
  where
    by_list : (l : List CallsSeen) → seen_of l ≡ [] →
        EventsOfAll on page_size (driver s ws qs os pops pushes) l [] (driver s ws qs os pops pushes)
    by_list [] none = (refl, refl)
    by_list (z ∷ l) none = absurd (none_some z.0 (seen_of l) (sym none))

-- ---- the loop

-- the calls so far, and the commands that are left
pub record DrivenSoFar (on : List ℕ) (page_size : ℕ) (ws0 ws : List ChainHandle) (q0 q : List QueueState) (ks : List ℕ)
    (before now : List DriverCall) (rs : List Results) (n : ℕ) : Type 0 where
  pub drives : Drives on page_size ws0 ws q0 q (calls_of (take n ks) (take n before) (take n rs))
  pub left : drop n now ≡ drop n before
  pub whole : length now ≡ length before

pub none_so_far : (on : List ℕ) (page_size : ℕ) (ws : List ChainHandle) (q : List QueueState) (ks : List ℕ)
    (commands : List DriverCall) (rs : List Results) →
    DrivenSoFar on page_size ws ws q q ks commands commands rs 0
none_so_far on page_size ws q ks commands rs =
    record { drives = at_none on page_size ws q; left = refl; whole = refl }

one_more : (ks : List ℕ) (before now : List DriverCall) (rs : List Results) (n k : ℕ) (x : DriverCall)
    (r : Results) → n < length ks → n < length now → n < length rs → k ≡ get_or ks n k → x ≡ get_or now n x
    → drop n now ≡ drop n before → length now ≡ length before
    → calls_of (take (suc n) ks) (take (suc n) before) (take (suc n) (slice_set rs n r))
    ≡ calls_of (take n ks) (take n before) (take n rs) ++ call_of k x r ∷ []
one_more (j ∷ ks) [] (b ∷ now) rs n k x r in_ks in_now in_rs is_k is_x left whole =
    absurd (omega (arith, whole))
one_more (j ∷ ks) (a ∷ before) (b ∷ now) (s ∷ rs) zero k x r in_ks in_now in_rs is_k is_x left whole =
    let same : x ≡ a = is_x ∙ same_first b a now before left in
    ap (λ (c : DriverCall). call_of j c r ∷ []) (sym same) ∙ ap (λ (i : ℕ). call_of i x r ∷ []) (sym is_k)
one_more (j ∷ ks) (a ∷ before) (b ∷ now) (s ∷ rs) (suc n) k x r in_ks in_now in_rs is_k is_x left whole =
    let less_k : n < length ks = omega arith in
    let less_now : n < length now = omega arith in
    let less_r : n < length rs = omega arith in
    let same : length now ≡ length before = omega (arith, whole) in
    ap (λ (l : List Called). call_of j a s ∷ l)
    (one_more ks before now rs n k x r less_k less_now less_r is_k is_x left same)
one_more _ _ _ _ n k x r in_ks in_now in_rs is_k is_x left whole = absurd (omega arith)

left_then : (before now : List DriverCall) (n : ℕ) (y : DriverCall) → drop n now ≡ drop n before →
    length now ≡ length before → drop (suc n) (slice_set now n y) ≡ drop (suc n) before
left_then [] [] n y left whole = refl
left_then (a ∷ before) (b ∷ now) zero y left whole = same_rest b a now before left
left_then (a ∷ before) (b ∷ now) (suc n) y left whole =
    let same : length now ≡ length before = omega (arith, whole) in left_then before now n y left same
left_then _ _ n y left whole = absurd (omega (arith, whole))

pub set_length : {A : Type 0} (now : List A) (n : ℕ) (y : A) → length (slice_set now n y) ≡ length now
set_length (b ∷ now) (suc n) y = ap suc (set_length now n y)
set_length _ _ y = refl

pub more_so_far : (on : List ℕ) (page_size : ℕ) (ws0 ws ws' : List ChainHandle) (q0 q q' : List QueueState) (ks : List ℕ)
    (before now : List DriverCall) (rs : List Results) (n k : ℕ) (x y : DriverCall) (r : Results)
    → DrivenSoFar on page_size ws0 ws q0 q ks before now rs n
    → n < length ks → n < length now → n < length rs → k ≡ get_or ks n k → x ≡ get_or now n x
    → Drives on page_size ws ws' q q' (call_of k x r ∷ [])
    → DrivenSoFar on page_size ws0 ws' q0 q' ks before (slice_set now n y) (slice_set rs n r) (n + 1)
more_so_far on page_size ws0 ws ws' q0 q q' ks before now rs n k x y r so in_ks in_now in_rs is_k is_x one =
    let next : suc n ≡ n + 1 = omega arith in
    let more : DrivenSoFar on page_size ws0 ws' q0 q' ks before (slice_set now n y) (slice_set rs n r) (suc n) = record {
      drives = subst (λ (l : List Called). Drives on page_size ws0 ws' q0 q' l)
          (sym (one_more ks before now rs n k x r in_ks in_now in_rs is_k is_x so.left so.whole))
          (carries_on on page_size ws0 ws ws' q0 q q' (calls_of (take n ks) (take n before) (take n rs))
          (call_of k x r ∷ []) so.drives one);
      left = left_then before now n y so.left so.whole;
      whole = set_length now n y ∙ so.whole;
    } in
    subst (λ (m : ℕ). DrivenSoFar on page_size ws0 ws' q0 q' ks before (slice_set now n y) (slice_set rs n r) m) next
    more

-- once one of the lists ends
all_taken : (ks : List ℕ) (cs : List DriverCall) (rs : List Results) (n : ℕ)
    → (length ks ≤ n) ⊎ ((length cs ≤ n) ⊎ (length rs ≤ n))
    → calls_of (take n ks) (take n cs) (take n rs) ≡ calls_of ks cs rs
all_taken [] cs rs zero past = refl
all_taken (k ∷ ks) [] rs zero past = refl
all_taken (k ∷ ks) (c ∷ cs) [] zero past = refl
all_taken (k ∷ ks) (c ∷ cs) (r ∷ rs) zero (inl past) = absurd (omega arith)
all_taken (k ∷ ks) (c ∷ cs) (r ∷ rs) zero (inr (inl past)) = absurd (omega arith)
all_taken (k ∷ ks) (c ∷ cs) (r ∷ rs) zero (inr (inr past)) = absurd (omega arith)
all_taken (k ∷ ks) (c ∷ cs) (r ∷ rs) (suc n) (inl past) =
    let less : length ks ≤ n = omega arith in
    ap (λ (l : List Called). call_of k c r ∷ l) (all_taken ks cs rs n (inl less))
all_taken (k ∷ ks) (c ∷ cs) (r ∷ rs) (suc n) (inr (inl past)) =
    let less : length cs ≤ n = omega arith in
    ap (λ (l : List Called). call_of k c r ∷ l) (all_taken ks cs rs n (inr (inl less)))
all_taken (k ∷ ks) (c ∷ cs) (r ∷ rs) (suc n) (inr (inr past)) =
    let less : length rs ≤ n = omega arith in
    ap (λ (l : List Called). call_of k c r ∷ l) (all_taken ks cs rs n (inr (inr less)))
all_taken _ _ _ _ past = refl

pub all_so_far : (on : List ℕ) (page_size : ℕ) (ws0 ws : List ChainHandle) (q0 q : List QueueState) (ks : List ℕ)
    (before now : List DriverCall) (rs : List Results) (n : ℕ)
    → DrivenSoFar on page_size ws0 ws q0 q ks before now rs n
    → (length ks ≤ n) ⊎ ((length now ≤ n) ⊎ (length rs ≤ n))
    → Drives on page_size ws0 ws q0 q (calls_of ks before rs)
all_so_far on page_size ws0 ws q0 q ks before now rs n so past =
    subst (λ (l : List Called). Drives on page_size ws0 ws q0 q l) (all_taken ks before rs n (by_end past))
    so.drives
  where
    by_end : (length ks ≤ n) ⊎ ((length now ≤ n) ⊎ (length rs ≤ n))
        → (length ks ≤ n) ⊎ ((length before ≤ n) ⊎ (length rs ≤ n))
    by_end (inl past) = inl past
    by_end (inr (inl past)) = inr (inl (subst (λ (m : ℕ). m ≤ n) so.whole past))
    by_end (inr (inr past)) = inr (inr past)

-- ---- the beginning

-- free handles over the run's memory, while no chain is in flight
pub starts : BeginsDriven
starts s on page_size qs ws none queues page small free =
    record {
      all = record { chains = none; held = tt; once = tt };
      queues = queues;
      page = page;
      small = small;
      mine = λ k w c there m. absurd m;
      outs = λ k w there out. absurd (not_free (is_out w.state) out (ap is_out (free k w there).0));
      fits = λ k w i q there number queue. ((free k w there).1, (free k w there).2, idle_may s.limit q no_pop w (free k w there).0);
      left = λ c m. absurd m;
      still = λ i q there pushing. refl;
      counts = λ i q there few small. zero-le;
    }
