-- The data that a caller stores in a reply buffer.
use Rattle.std.proofs.Common.{arith, ◌≡◌, ◌≤◌, ◌+◌, ◌-◌, ℕ, zero, suc, List, [], ◌∷◌, append-nil, length, map, take, drop, zip, Option}
use Rattle.std.proofs.Common.{option_and_then, option_map, Some, refl, subst, sym, ap, ◌∙◌, take-append-drop}
use Rattle.std.specs.List.{AllByRecursion, Contains}
use Rattle.std.proofs.lemmas.List.{take-take, take_at}
use Rattle.std.proofs.lemmas.List.Elements.{Contains-append_left, Contains-append_right}
use Rattle.vm_iotlb.specs.declared.permissions.Permissions.{Permissions}
use Rattle.vm_iotlb.specs.declared.permissions.Permissions.TheVariants.{Write}
use Rattle.vm_memory_core.specs.Host.{Place}
use Rattle.vm_memory_core.specs.Window.{places_of}
use Rattle.vm_memory.specs.Memory.{addresses, located, location}
use Rattle.vm_memory.proofs.Places.{addresses-append, length-addresses}
use Rattle.fs_queue.specs.Chain.{Descriptor}
use Rattle.fs_queue.specs.Taking.{addresses_of, writable}
use Rattle.fs_regions.specs.Places.{places_in}
use Rattle.server_meanings.specs.Serving.{May}
use Rattle.plain_machine.specs.StepBy.{byte_store}
use Rattle.fs_chain.specs.Filling.{HandleFillsBuffer, HandleFillsRange, HasRoom}
use Rattle.live_machine.specs.Live.{Abandoned, IsStoredIn, Phase, PoppedFaulty, room_of_phase, room_of}
use Rattle.live_machine.proofs.Queues.{same_some}

-- ---- in the reply buffer

front_in : (n : ℕ) (xs : List ℕ) (a : ℕ) → Contains (take n xs) a → Contains xs a
front_in n xs a is =
    subst (λ (l : List ℕ). Contains l a) (take-append-drop n xs) (Contains-append_left (take n xs) (drop n xs) a is)

back_in : (n : ℕ) (xs : List ℕ) (a : ℕ) → Contains (drop n xs) a → Contains xs a
back_in n xs a is =
    subst (λ (l : List ℕ). Contains l a) (take-append-drop n xs) (Contains-append_right (take n xs) (drop n xs) a is)

each_in : (xs target : List ℕ) → ((a : ℕ) → Contains xs a → Contains target a) → AllByRecursion (λ (a : ℕ). Contains target a) xs
each_in [] target there = tt
each_in (a ∷ xs) target there = (
  there a (Contains-append_left (a ∷ []) xs a (0, omega arith, refl)),
  each_in xs target (λ b in_rest. there b (Contains-append_right (a ∷ []) xs b in_rest)),
)

each_stored : (as' xs target : List ℕ) → ((a : ℕ) → Contains as' a → Contains target a) →
    AllByRecursion (IsStoredIn target) (map byte_store (zip as' xs))
unfolding addresses
each_stored (a ∷ as') (x ∷ xs) target there = (
  (there a (Contains-append_left (a ∷ []) as' a (0, omega arith, refl)), tt),
  each_stored as' xs target (λ b in_rest. there b (Contains-append_right (a ∷ []) as' b in_rest)),
)
each_stored _ _ target there = tt

room_is : (p : Phase) (ds : List Descriptor) → HasRoom p → room_of_phase p ds ≡ addresses_of (writable ds)
room_is (PoppedFaulty why) ds has = absurd has
room_is (Abandoned fault) ds has = absurd has
room_is p ds has = refl

-- ---- the places of a part

located_step : (n : ℕ) (f : ℕ → Option Place) (p : Option Place) (rest front : Option (List Place)) (ps : List Place)
    → ((qs : List Place) → rest ≡ Some qs → front ≡ Some (take n qs))
    → option_and_then (λ q. option_map (λ qs. q ∷ qs) rest) p ≡ Some ps
    → option_and_then (λ q. option_map (λ qs. q ∷ qs) front) p ≡ Some (take (suc n) ps)
located_step n f (Some q) (Some qs) front ps more is =
    ap (λ (r : Option (List Place)). option_map (λ ks. q ∷ ks) r) (more qs refl)
    ∙ ap (λ (ks : List Place). Some (take (suc n) ks)) (same_some (q ∷ qs) ps is)
located_step n f _ _ front ps more is = cc

located_front : (n : ℕ) (xs : List ℕ) (f : ℕ → Option Place) (ps : List Place) → located f xs ≡ Some ps →
    located f (take n xs) ≡ Some (take n ps)
unfolding located
located_front zero xs f ps is = refl
located_front (suc n) [] f ps is = ap (λ (qs : List Place). Some (take (suc n) qs)) (same_some [] ps is)
located_front (suc n) (x ∷ xs) f ps is =
    located_step n f (f x) (located f xs) (located f (take n xs)) ps (λ qs e. located_front n xs f qs e) is

addresses_front : (a n len : ℕ) → n ≤ len → addresses a n ≡ take n (addresses a len)
addresses_front a n len few =
    let both : n + (len - n) ≡ len = omega (arith, few) in
    sym (take_at (addresses a n) (addresses (a + n) (len - n)) n (length-addresses n a))
    ∙ ap (λ (l : List ℕ). take n l) (sym (addresses-append n (len - n) a) ∙ ap (λ (k : ℕ). addresses a k) both)

-- ---- the events

pub handle_fills : {F : Type 0} (may : May F) → HandleFillsBuffer may
handle_fills {F} may s c before behind w from v bytes out has same mapped window few =
    let n = length bytes in
    let room = room_of c in
    let where_is = location (places_in w.regions) Write in
    let room_of_handle : addresses_of (writable w.descriptors.items) ≡ room =
    sym (room_is c.phase c.descriptors has ∙ ap (λ (ds : List Descriptor). addresses_of (writable ds)) same) in
    let front = located_front n (take v.len (drop from (addresses_of (writable w.descriptors.items)))) where_is (places_of v) window.2 in
    let part = take-take n v.len (drop from (addresses_of (writable w.descriptors.items))) few in (
      record {
        before = before;
        behind = behind;
        out = out;
        within = each_stored (drop from room) bytes room (λ a is. back_in from room a is);
        state = refl;
      },
      ap (λ (f : Permissions → ℕ → Option Place). located (f Write) (take n (drop from room))) (sym mapped)
          ∙ ap (λ (l : List ℕ). located where_is (take n (drop from l))) (sym room_of_handle)
          ∙ ap (located where_is) (sym part)
          ∙ front,
    )

pub handle_fills_range : {F : Type 0} (may : May F) → HandleFillsRange may
handle_fills_range {F} may s c before behind w from guest len bytes out has same range few =
    let n = length bytes in
    let room = room_of c in
    let a = range.1 in
    let room_of_handle : addresses_of (writable w.descriptors.items) ≡ room =
    sym (room_is c.phase c.descriptors has ∙ ap (λ (ds : List Descriptor). addresses_of (writable ds)) same) in
    let are : addresses a n ≡ take n (drop from room) =
    addresses_front a n len few ∙ ap (λ (l : List ℕ). take n l) (sym range.3)
    ∙ take-take n len (drop from (addresses_of (writable w.descriptors.items))) few
    ∙ ap (λ (l : List ℕ). take n (drop from l)) room_of_handle in (
      a,
      range.2,
      (
        record {
          before = before;
          behind = behind;
          out = out;
          within = (
            subst (λ (l : List ℕ). AllByRecursion (λ (b : ℕ). Contains room b) l) (sym are)
                (each_in (take n (drop from room)) room (λ b is. back_in from room b (front_in n (drop from room) b is))),
            tt,
          );
          state = refl;
        },
        append-nil (addresses a n) ∙ are,
      ),
    )
