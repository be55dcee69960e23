-- Entries are brought to a listing one behind another.
use Rattle.std.proofs.Common.{inl, inr, ◌≡◌, ◌⊎◌, ◌<◌, ◌^◌, ◌+◌, ℕ, suc, Bool, true, false, List, [], ◌∷◌, ◌++◌, length, Option}
use Rattle.std.proofs.Common.{Some, None, arith, refl, subst, sym, ap, ◌∙◌, append-nil, append_assoc}
use Rattle.std.specs.Prelude.{drop, take, Result, Ok, Err, IfOk, ◌==◌, if◌then◌else◌}
use Rattle.std.specs.List.{AllByRecursion}
use Rattle.std.specs.Option.{option_or}
use Rattle.std.proofs.lemmas.Bool.{ne_eqb}
use Rattle.live_machine.proofs.Alone.{all_both}
use Rattle.fuse_fs.specs.declared.answers.Entry.{Entry}
use Rattle.server_replies.specs.Entries.{no_node}
use Rattle.server_phases.specs.Gathering.{Brought, added_found, added_plain, Holds}
use Rattle.server_phases.specs.declared.listing.Listing.{Listing}
use Rattle.server_phases.specs.declared.listing.NotAdded.{NotAdded}
use Rattle.live_machine.specs.Live.{InFlightChain}
use Rattle.server_phases.specs.declared.session.Session.{Session}
use Rattle.fs_chain.specs.Holds.{IsDecodedIn}
use Rattle.fs_chain.specs.HoldsListings.{AddsEntryInRun, HoldsListing}
use Rattle.fs_chain.specs.Listings.{Adds, AddsTo, adding_error, list_error, added_of}
use Rattle.fs_chain.specs.Orders.{is_listing}
use Rattle.fs_chain.specs.Tickets.{UnlessRefused, ticket_error}
use Rattle.fs_chain.specs.Walks.{IsAllButPlace}
use Rattle.fs_chain.specs.declared.chain_handle.ChainHandle.{ChainHandle}
use Rattle.fs_chain.specs.declared.error.ChainError.{ChainError}
use Rattle.fs_chain.specs.declared.listing.AddOutcome.{AddOutcome}
use Rattle.fs_chain.specs.declared.listing.AddOutcome.TheVariants as added
use Rattle.fs_chain.specs.declared.state.ChainState as state
use Rattle.fs_chain.specs.declared.state.ChainState.TheVariants as at
use Rattle.fs_driven.specs.Adding.{BringsAll, BringsNothing, BringsOne, BringsSo, HasGathered, HasNumber, IsGathering}
use Rattle.fs_driven.specs.Entries.{added_as, all_brought, brought_of, listed_as, refused_by}
use Rattle.fs_driven.specs.Kept.{IsSameHeld}
use Rattle.fs_driven.specs.declared.entries.ListedEntry.{ListedEntry}
use Rattle.fs_driven.proofs.Calls.{no_error}
use Rattle.fs_driven.proofs.Decoding.{items_same}

-- ---- one entry

-- by what `add` ensures
pub brings_plain : (old new : ChainHandle) (ticket : ℕ) (list list' : List ℕ) (e : ListedEntry) (name : List ℕ)
    (result : Result AddOutcome ChainError)
    → e.node ≡ None
    → UnlessRefused {A = AddOutcome} (adding_error old ticket (length list)) result ((new ≡ old) × (list' ≡ list))
    (AddsTo old.state new.state list list' (listed_as e name, no_node (listed_as e name))
    (λ l. added_plain l (length list) (length name)) result)
    → IsAllButPlace old new
    → IfOk result (λ why. AddsEntryInRun old new list list' (listed_as e name, no_node (listed_as e name)) why)
    → BringsOne old new ticket list list' e name result
brings_plain old new ticket list list' e name result is so stays step =
    let small : 0 < 2 ^ 64 = omega arith in
    let plain : BringsOne old new ticket list list' (record e { node = None }) name result =
    record { step = step; so = so; stays = stays; number = small } in
    subst (λ (o : Option (Entry ℕ)). BringsOne old new ticket list list' (record e { node = o }) name result) (sym is)
    plain

-- by what `add_with_node` ensures
pub brings_found : (old new : ChainHandle) (ticket : ℕ) (list list' : List ℕ) (e : ListedEntry) (name : List ℕ)
    (given node : Entry ℕ) (result : Result AddOutcome ChainError)
    → e.node ≡ Some given
    → node ≡ given
    → node.inode < 2 ^ 64
    → UnlessRefused {A = AddOutcome} (adding_error old ticket (length list)) result ((new ≡ old) × (list' ≡ list))
    (AddsTo old.state new.state list list' (listed_as e name, node)
    (λ l. added_found l (length list) (length name)) result)
    → IsAllButPlace old new
    → IfOk result (λ why. AddsEntryInRun old new list list' (listed_as e name, node) why)
    → BringsOne old new ticket list list' e name result
brings_found old new ticket list list' e name given node result is same number so stays step =
    let found : BringsOne old new ticket list list' (record e { node = Some node }) name result =
    record { step = step; so = so; stays = stays; number = number } in
    subst (λ (o : Option (Entry ℕ)). BringsOne old new ticket list list' (record e { node = o }) name result)
    (ap (λ (n : Entry ℕ). Some n) same ∙ sym is) found

not_in_error : (result : AddOutcome) (e : ChainError) → Ok result ≡ Err e → ⊥
not_in_error result e is = cc

-- an entry that was looked at
looked_at : (old new : ChainHandle) (ticket : ℕ) (list list' : List ℕ) (e : ListedEntry) (name : List ℕ) (result : AddOutcome)
    → BringsSo old new ticket list list' e name (Ok result)
    → (adding_error old ticket (length list) ≡ None)
    × AddsTo old.state new.state list list' (brought_of e name)
    (λ l. added_as e.node l (length list) (length name)) (Ok result)
looked_at old new ticket list list' e name result (inl refused) = absurd (not_in_error result refused.0 refused.2)
looked_at old new ticket list list' e name result (inr is) = is

-- only a listing takes it, and it gathers on
abbrev GathersOn : (st new : state.ChainState) → (mine ticket : ℕ) → Type 0
GathersOn st new mine ticket =
    (is_listing st ≡ true) × (is_listing new ≡ true) × (ticket_error new mine ticket ≡ ticket_error st mine ticket)

gathers_on : (st new : state.ChainState) (mine ticket : ℕ) (list list' : List ℕ) (e : Brought)
    (outcome : Listing → Result (Unit {0}) NotAdded) (result : AddOutcome)
    → AddsTo st new list list' e outcome (Ok result) → GathersOn st new mine ticket
gathers_on (at.Listing out l) new mine ticket list list' e outcome result adds =
    (refl, ap is_listing adds.1.1, ap (λ (s : state.ChainState). ticket_error s mine ticket) adds.1.1)
gathers_on _ new mine ticket list list' e outcome result adds = absurd (not_in_error result _ adds.0)

first_none : (a b : Option ChainError) → option_or a b ≡ None → a ≡ None
first_none None b is = refl
first_none (Some x) b is = absurd (no_error x is)

-- the listing gathers on, and it did
brings_on : (old new : ChainHandle) (ticket : ℕ) (list list' : List ℕ) (e : ListedEntry) (name : List ℕ) (result : AddOutcome)
    → BringsOne old new ticket list list' e name (Ok result)
    → IsGathering new ticket × (is_listing old.state ≡ true)
brings_on old new ticket list list' e name result one =
    let looked = looked_at old new ticket list list' e name result one.so in
    let on = gathers_on old.state new.state new.ticket ticket list list' (brought_of e name)
    (λ l. added_as e.node l (length list) (length name)) result looked.1 in
    let was : ticket_error old.state old.ticket ticket ≡ None =
    first_none (ticket_error old.state old.ticket ticket) (list_error old.state old.list_len (length list)) looked.0
    in
    let same : ticket_error old.state new.ticket ticket ≡ ticket_error old.state old.ticket ticket =
    ap (λ (n : ℕ). ticket_error old.state n ticket) one.stays.0.2 in
    ((on.1, on.2 ∙ same ∙ was), on.0)

-- what stays in two calls
pub stays_then : (old mid new : ChainHandle) → IsAllButPlace old mid → IsAllButPlace mid new → IsAllButPlace old new
stays_then old mid new a b = ((b.0.0 ∙ a.0.0, b.0.1 ∙ a.0.1, b.0.2 ∙ a.0.2), b.1 ∙ a.1, b.2 ∙ a.2, b.3 ∙ a.3)

-- ---- none

brought_none : (w : ChainHandle) (ticket : ℕ) (list names : List ℕ) →
    BringsAll w w ticket list list [] names 0 (Ok added.In)
brought_none w ticket list names = record {
  few = omega arith;
  step = λ page_size c es held numbers.
      subst (λ (l : List Brought). HasGathered page_size c l [] list (Ok added.In) w) (sym (append-nil es))
      (held, numbers, refl);
  stays = ((refl, refl, refl), refl, refl, refl);
  moved = inr (refl, refl, refl);
}

pub brings_none : (w : ChainHandle) (ticket : ℕ) (list names : List ℕ) (entries : List ListedEntry) →
    length entries ≡ 0 → BringsAll w w ticket list list entries names 0 (Ok added.In)
brings_none w ticket list names [] none = brought_none w ticket list names
brings_none w ticket list names (e ∷ entries) none = absurd (omega (arith, none))

-- ---- one that is added, and more

gathers_more : (page_size : ℕ) (c : InFlightChain) (es left : List Brought) (e : Brought) (more : List Brought)
    (list : List ℕ) (result : Result AddOutcome ChainError) (w : ChainHandle)
    → HasGathered page_size c ((es ++ e ∷ []) ++ more) left list result w
    → HasGathered page_size c (es ++ e ∷ more) left list result w
gathers_more page_size c es left e more list result w came =
    subst (λ (l : List Brought). HasGathered page_size c l left list result w) (append_assoc es (e ∷ []) more) came

more_moved : (old new : ChainHandle) (ticket : ℕ) (list list' : List ℕ) (entries : List ListedEntry) (names : List ℕ)
    (n : ℕ) (result : Result AddOutcome ChainError)
    → IsGathering old ticket → BringsNothing old new ticket list list' entries names n result → IsGathering new ticket
more_moved old new ticket list list' [] names n (Ok added.In) is nothing =
    subst (λ (w : ChainHandle). IsGathering w ticket) (sym nothing.1) is
more_moved old new ticket list list' (e ∷ entries) names n (Err x) is nothing = (
  ap is_listing nothing.1.0 ∙ is.0,
  ap (λ (s : state.ChainState). ticket_error s new.ticket ticket) nothing.1.0
      ∙ ap (λ (k : ℕ). ticket_error old.state k ticket) nothing.2
      ∙ is.1,
)
more_moved old new ticket list list' _ names n _ is nothing = absurd nothing

not_first : (n : ℕ) (result : Result AddOutcome ChainError) → refused_by (suc n) result ≡ None
not_first n (Ok result) = refl
not_first n (Err x) =
    let isnt : (suc n == 0) ≡ false = ne_eqb (suc n) 0 (λ is. absurd (omega (arith, is))) in
    ap (λ (b : Bool). if b then Some x else None) isnt

one_more : (old mid new : ChainHandle) (ticket : ℕ) (list middle list' : List ℕ) (e : ListedEntry)
    (entries : List ListedEntry) (names : List ℕ) (n : ℕ) (result : Result AddOutcome ChainError)
    → BringsOne old mid ticket list middle e (take e.name_len names) (Ok added.In)
    → BringsAll mid new ticket middle list' entries (drop e.name_len names) n result
    → BringsAll old new ticket list list' (e ∷ entries) names (suc n) result
unfolding AddsEntryInRun
one_more old mid new ticket list middle list' e entries names n result one more =
    record {
      few = omega (arith, more.few);
      step = λ page_size c es held numbers.
          gathers_more page_size c es (drop n (all_brought entries others)) first
          (take n (all_brought entries others)) list' result new
          (more.step page_size c (es ++ first ∷ []) (one.step page_size c es [] held)
          (all_both HasNumber es (first ∷ []) numbers (one.number, tt)));
      stays = stays_then old mid new one.stays more.stays;
      moved = inl (by_moved more.moved, on.1, not_first n result);
    }
  where
    others : List ℕ
    others = drop e.name_len names

    first : Brought
    first = brought_of e (take e.name_len names)

    on : IsGathering mid ticket × (is_listing old.state ≡ true)
    on = brings_on old mid ticket list middle e (take e.name_len names) added.In one

    by_moved : (IsGathering new ticket × (is_listing mid.state ≡ true) × (refused_by n result ≡ None))
        ⊎ BringsNothing mid new ticket middle list' entries others n result
        → IsGathering new ticket
    by_moved (inl is) = is.0
    by_moved (inr nothing) = more_moved mid new ticket middle list' entries others n result on.0 nothing

pub brings_more : (old mid new : ChainHandle) (ticket : ℕ) (list middle list' : List ℕ)
    (entries : List ListedEntry) (e : ListedEntry) (more : List ListedEntry) (names name others : List ℕ)
    (one_ended : Result AddOutcome ChainError) (n : ℕ) (result : Result AddOutcome ChainError)
    → entries ≡ e ∷ more
    → name ≡ take e.name_len names
    → others ≡ drop e.name_len names
    → BringsOne old mid ticket list middle e name one_ended
    → one_ended ≡ Ok added.In
    → BringsAll mid new ticket middle list' more others n result
    → BringsAll old new ticket list list' entries names (n + 1) result
brings_more old mid new ticket list middle list' entries e more names name others one_ended n result are first rest one is
    all =
    let next : suc n ≡ n + 1 = omega arith in
    let whole : BringsAll old new ticket list list' (e ∷ more) names (suc n) result =
    one_more old mid new ticket list middle list' e more names n result
    (subst (λ (l : List ℕ). BringsOne old mid ticket list middle e l (Ok added.In)) first
    (subst (λ (r : Result AddOutcome ChainError). BringsOne old mid ticket list middle e name r) is one))
    (subst (λ (l : List ℕ). BringsAll mid new ticket middle list' more l n result) rest all) in
    subst (λ (l : List ListedEntry). BringsAll old new ticket list list' l names (n + 1) result) (sym are)
    (subst (λ (m : ℕ). BringsAll old new ticket list list' (e ∷ more) names m result) next whole)

-- ---- one that isn't

not_more : (page_size : ℕ) (c : InFlightChain) (es left : List Brought) (list : List ℕ) (result : Result AddOutcome ChainError)
    (w : ChainHandle) → HasGathered page_size c es left list result w → HasGathered page_size c (es ++ []) left list result w
not_more page_size c es left list result w came =
    subst (λ (l : List Brought). HasGathered page_size c l left list result w) (sym (append-nil es)) came

left_out : (old new : ChainHandle) (ticket : ℕ) (list list' : List ℕ) (e : ListedEntry) (name : List ℕ)
    (more : List Brought) (why : AddOutcome) → (why ≡ added.In → ⊥)
    → BringsOne old new ticket list list' e name (Ok why)
    → (page_size : ℕ) (c : InFlightChain) (es : List Brought) → HoldsListing page_size c es [] list old
    → AllByRecursion HasNumber es
    → HasGathered page_size c es (brought_of e name ∷ more) list' (Ok why) new
unfolding AddsEntryInRun
left_out old new ticket list list' e name more added.In isnt one page_size c es held numbers = absurd (isnt refl)
left_out old new ticket list list' e name more why isnt one page_size c es held numbers =
    let r = one.step page_size c es [] held in
    subst (λ (l : List ℕ). HasGathered page_size c es (brought_of e name ∷ more) l (Ok why) new) (sym r.2)
    (r.0, numbers, r.1, one.number)

by_left : (old new : ChainHandle) (ticket : ℕ) (list list' : List ℕ) (e : ListedEntry)
    (entries : List ListedEntry) (names : List ℕ) (why : AddOutcome) → (why ≡ added.In → ⊥)
    → BringsOne old new ticket list list' e (take e.name_len names) (Ok why)
    → BringsAll old new ticket list list' (e ∷ entries) names 0 (Ok why)
by_left old new ticket list list' e entries names why isnt one =
    let on = brings_on old new ticket list list' e (take e.name_len names) why one in
    record {
      few = omega arith;
      step = λ page_size c es held numbers.
          not_more page_size c es (all_brought (e ∷ entries) names) list' (Ok why) new
          (left_out old new ticket list list' e (take e.name_len names) (all_brought entries (drop e.name_len names))
          why isnt one page_size c es held numbers);
      stays = one.stays;
      moved = inl (on.0, on.1, refl);
    }

-- a refused entry changes nothing
abbrev Unmoved : (old new : ChainHandle) (list list' : List ℕ) → Type 0
Unmoved old new list list' = (new.state ≡ old.state) × (list' ≡ list)

unmoved : (st new : state.ChainState) (list list' : List ℕ) (e : Brought)
    (outcome : Listing → Result (Unit {0}) NotAdded) (x : ChainError) → AddsTo st new list list' e outcome (Err x)
    → (new ≡ st) × (list' ≡ list)
unmoved (at.Listing out l) new list list' e outcome x adds = by_outcome (outcome l) adds.0 adds.1.2
  where
    by_outcome : (r : Result (Unit {0}) NotAdded) → Err x ≡ added_of r → Adds l adds.1.0 list list' e r
        → (new ≡ at.Listing out l) × (list' ≡ list)
    by_outcome (Ok done) result is = absurd (not_in_error added.In x (sym result))
    by_outcome (Err why) result is = (adds.1.1 ∙ ap (λ (k : Listing). at.Listing out k) (is.same why refl).0, (is.same why refl).1)
unmoved _ new list list' e outcome x adds = (adds.1, adds.2)

refused_same : (old new : ChainHandle) (ticket : ℕ) (list list' : List ℕ) (e : ListedEntry) (name : List ℕ) (x : ChainError)
    → BringsSo old new ticket list list' e name (Err x) → Unmoved old new list list'
refused_same old new ticket list list' e name x (inl refused) =
    (ap (λ (w : ChainHandle). w.state) refused.3.0, refused.3.1)
refused_same old new ticket list list' e name x (inr is) =
    unmoved old.state new.state list list' (brought_of e name)
    (λ l. added_as e.node l (length list) (length name)) x is.1

held_still : (page_size : ℕ) (c : InFlightChain) (es : List Brought) (list list' : List ℕ) (old new : ChainHandle)
    → IsSameHeld old new → list' ≡ list → HoldsListing page_size c es [] list old
    → HoldsListing page_size c es [] list' new
held_still page_size c es list list' old new same is h = record {
  out = h.out;
  listing = h.listing;
  state = same.0 ∙ h.state;
  is_out = h.is_out;
  request = h.request;
  options = h.options;
  session = subst (λ (s : Session). IsDecodedIn page_size h.options s) (sym same.1) h.session;
  unique = h.unique;
  asked = h.asked;
  means = h.means;
  is_for = h.is_for;
  holds = subst (λ (l : List ℕ). Holds h.listing l es) (sym is) h.holds;
  phase = h.phase;
}

by_error : (old new : ChainHandle) (ticket : ℕ) (list list' : List ℕ) (e : ListedEntry)
    (entries : List ListedEntry) (names : List ℕ) (x : ChainError)
    → BringsOne old new ticket list list' e (take e.name_len names) (Err x)
    → BringsAll old new ticket list list' (e ∷ entries) names 0 (Err x)
by_error old new ticket list list' e entries names x one =
    let same = refused_same old new ticket list list' e (take e.name_len names) x one.so in
    let held_same : IsSameHeld old new =
    (same.0, one.stays.2, one.stays.0.0, one.stays.0.1, items_same old new one.stays.1) in
    record {
      few = omega arith;
      step = λ page_size c es held numbers.
          not_more page_size c es (all_brought (e ∷ entries) names) list' (Err x) new
          (held_still page_size c es list list' old new held_same same.1 held, numbers);
      stays = one.stays;
      moved = inr (refl, held_same, one.stays.0.2, same.1, one.so);
    }

pub ok_is : (result : Result AddOutcome ChainError) (a b : AddOutcome) → result ≡ Ok a → a ≡ b → result ≡ Ok b
ok_is result a b is same = is ∙ ap (λ (x : AddOutcome). Ok x) same

-- the result isn't that of an entry that is added
abbrev pub IsNotIn : Result AddOutcome ChainError → Type 0
IsNotIn (Ok added.In) = ⊥
IsNotIn result = Unit {0}

brought_not : (old new : ChainHandle) (ticket : ℕ) (list list' : List ℕ) (e : ListedEntry)
    (more : List ListedEntry) (names : List ℕ) (result : Result AddOutcome ChainError) → IsNotIn result
    → BringsOne old new ticket list list' e (take e.name_len names) result
    → BringsAll old new ticket list list' (e ∷ more) names 0 result
brought_not old new ticket list list' e more names (Ok added.In) isnt one = absurd isnt
brought_not old new ticket list list' e more names (Ok added.Full) isnt one =
    by_left old new ticket list list' e more names added.Full
    (λ is. subst (λ (a : AddOutcome). IsNotIn (Ok a)) is tt) one
brought_not old new ticket list list' e more names (Ok added.NoRoom) isnt one =
    by_left old new ticket list list' e more names added.NoRoom
    (λ is. subst (λ (a : AddOutcome). IsNotIn (Ok a)) is tt) one
brought_not old new ticket list list' e more names (Ok added.TooLong) isnt one =
    by_left old new ticket list list' e more names added.TooLong
    (λ is. subst (λ (a : AddOutcome). IsNotIn (Ok a)) is tt) one
brought_not old new ticket list list' e more names (Err x) isnt one = by_error old new ticket list list' e more names x one

pub brings_not : (old new : ChainHandle) (ticket : ℕ) (list list' : List ℕ) (entries : List ListedEntry)
    (e : ListedEntry) (more : List ListedEntry) (names name : List ℕ) (one_ended result : Result AddOutcome ChainError)
    → entries ≡ e ∷ more
    → name ≡ take e.name_len names
    → BringsOne old new ticket list list' e name one_ended
    → one_ended ≡ result
    → IsNotIn result
    → BringsAll old new ticket list list' entries names 0 result
brings_not old new ticket list list' entries e more names name one_ended result are first one is isnt =
    subst (λ (l : List ListedEntry). BringsAll old new ticket list list' l names 0 result) (sym are)
    (brought_not old new ticket list list' e more names result isnt
    (subst (λ (l : List ℕ). BringsOne old new ticket list list' e l result) first
    (subst (λ (r : Result AddOutcome ChainError). BringsOne old new ticket list list' e name r) is one)))
