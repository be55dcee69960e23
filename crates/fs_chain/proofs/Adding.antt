-- What an entry changes in a listing, by what its call ensures.
use Rattle.std.proofs.Common.{◌≡◌, ◌∙◌, ℕ, Bool, true, false, List, [], ◌∷◌, ◌++◌, Some, Result, Ok, Err, OnOk, OnErr, IfErr, refl, sym}
use Rattle.std.proofs.Common.{subst, if◌then◌else◌}
use Rattle.server_phases.specs.declared.listing.Listing.{Listing}
use Rattle.server_phases.specs.declared.listing.NotAdded as reason
use Rattle.server_phases.specs.declared.listing.NotAdded.TheVariants as not_added
use Rattle.server_phases.specs.Gathering.{Brought, EndsList, FailsList, Holds, StaysBut, added_found, added_plain, bytes_of, error_of}
use Rattle.server_phases.specs.Gathering.{placed, put_at}
use Rattle.fs_chain.specs.Listings.{Adds}

-- an entry without its node is in a READDIR alone, one with its node in a READDIRPLUS
pub plain_kind : (l : Listing) (list_len name_len : ℕ) → added_plain l list_len name_len ≡ Ok tt → l.with_nodes ≡ false
plain_kind l list_len name_len ok = by_kind l.with_nodes (placed l list_len name_len) ok
  where
    by_kind : (b : Bool) (r : Result (Unit {0}) reason.NotAdded) → (if b then Err not_added.OtherKind else r) ≡ Ok tt → b ≡ false
    by_kind true r ok = cc
    by_kind false r ok = refl

pub found_kind : (l : Listing) (list_len name_len : ℕ) → added_found l list_len name_len ≡ Ok tt → l.with_nodes ≡ true
found_kind l list_len name_len ok = by_kind l.with_nodes (placed l list_len name_len) ok
  where
    by_kind : (b : Bool) (r : Result (Unit {0}) reason.NotAdded) → (if b then r else Err not_added.OtherKind) ≡ Ok tt → b ≡ true
    by_kind true r ok = refl
    by_kind false r ok = cc

-- the clauses of a call that brought an entry, for what came of it
pub adds_by : (old new : Listing) (list after : List ℕ) (e : Brought) (kind : Bool) (result outcome : Result (Unit {0}) reason.NotAdded)
    → result ≡ outcome
    → (outcome ≡ Ok tt → old.with_nodes ≡ kind)
    → OnOk result (after ≡ put_at old.len (bytes_of kind e) list)
    → OnOk result ((es : List Brought) → Holds old list es → Holds new after (es ++ e ∷ []))
    → (result ≡ Err not_added.Full → EndsList old list e)
    → IfErr result (λ why. (errno : ℕ) → error_of why ≡ Some errno → FailsList old list e errno)
    → OnErr result ((new ≡ old) × (after ≡ list))
    → StaysBut old new → Adds old new list after e outcome
adds_by old new list after e kind result outcome came of_kind put holds full fails same stays =
    let P : Result (Unit {0}) reason.NotAdded → Type 0 = λ o. Adds old new list after e o in
    subst P came (record {
      put = λ ok. rw (of_kind (sym came ∙ ok)) (rw ok at put);
      holds = λ ok. rw ok at holds;
      full = full;
      fails = λ why errno err. (rw err at fails) errno;
      same = λ why err. rw err at same;
      stays = stays;
    })
