-- stores at I/O addresses, window by window
use Rattle.std.proofs.Common.{◌≡◌, ℕ, ◌+◌, ◌-◌, ◌%◌, ◌^◌, ◌<◌, ◌≤◌, List, [], ◌∷◌, ◌++◌, length, take, drop, refl, ap, sym, ◌∙◌, arith, suc}
use Rattle.std.proofs.Common.{Option, Some, None, length-drop}
use Rattle.std.specs.Prelude.{option_map}
use Rattle.std.specs.Option.{option_and_then}
use Rattle.std.specs.List.{zip}
use Rattle.std.proofs.lemmas.List.{drop-drop}
use Rattle.vm_iotlb.specs.declared.permissions.Permissions.{Permissions}
use Rattle.vm_iotlb.specs.declared.range.IotlbRange.{IotlbRange}
use Rattle.vm_memory_core.specs.Host.{Host, IoAddress, Place}
use Rattle.vm_memory_core.specs.Window.{put_all, put_byte}
use Rattle.vm_memory_core.proofs.WindowLemmas.{put_all-append, zip-append}
use Rattle.vm_memory.specs.Layout.{Region}
use Rattle.vm_memory.specs.Memory.{addresses, circular, io_memory, located, location, table_in}
use Rattle.vm_memory.specs.Bytes.{and_after, places_at}
use Rattle.vm_memory.proofs.Places.{Where, circular_done, circular_head, circular_step, length-addresses, parts}

-- ---- stores keep tables, so each address stays where it is

with_tables : (h : Host) (p : Place) (x : ℕ) (io : Option IoAddress) → p.io ≡ io → (put_byte h p x).tables ≡ h.tables
with_tables h p x None e = rw e refl
with_tables h p x (Some a) e = rw e refl

pub all_tables : (ws : List (Place × ℕ)) (h : Host) → (put_all h ws).tables ≡ h.tables
unfolding put_all
all_tables [] h = refl
all_tables (w ∷ ws) h = all_tables ws (put_byte h w.0 w.1) ∙ with_tables h w.0 w.1 w.0.io refl

pub same_table : (h g : Host) (table : ℕ) → g.tables ≡ h.tables → table_in g table ≡ table_in h table
same_table h g table e = ap (λ (t : List (List IotlbRange)). table_in (record h { tables = t }) table) e

pub same_location : (h g : Host) (l : List Region) (table set : ℕ) (access : Permissions) → g.tables ≡ h.tables →
    location (io_memory g l table set) access ≡ location (io_memory h l table set) access
same_location h g l table set access e =
    ap (λ (t : List (List IotlbRange)). location (io_memory (record h { tables = t }) l table set) access) e

-- ---- one window further

places_step : (o : Option Place) (r : Option (List Place)) (rest whole ps more : List Place) →
    option_and_then (λ (p : Place). option_map (λ (qs : List Place). p ∷ qs) r) o ≡ Some ps →
    ((qs : List Place) → r ≡ Some qs → whole ≡ qs ++ more) →
    and_after o whole ≡ ps ++ more
places_step None r rest whole ps more e h = absurd (cc)
places_step (Some p) None rest whole ps more e h = absurd (cc)
places_step (Some p) (Some qs) rest whole ps more e h =
    let all : p ∷ qs ≡ ps = cc in
    ap (λ (l : List Place). p ∷ l) (h qs refl) ∙ ap (λ (l : List Place). l ++ more) all

-- addresses in two parts, of which the first has its places
places_at-append : (xs ys : List ℕ) (f : Where) (ps : List Place) → located f xs ≡ Some ps → places_at f (xs ++ ys) ≡ ps ++ places_at f ys
unfolding located places_at
places_at-append [] ys f ps e = let none : [] ≡ ps = cc in rw (← none) refl
places_at-append (x ∷ xs) ys f ps e =
    places_step (f x) (located f xs) [] (places_at f (xs ++ ys)) ps (places_at f ys) e (λ qs h. places_at-append xs ys f qs h)

length-located : (xs : List ℕ) (f : Where) (ps : List Place) → located f xs ≡ Some ps → length ps ≡ length xs
unfolding located
length-located [] f ps e = let none : [] ≡ ps = cc in rw (← none) refl
length-located (x ∷ xs) f ps e =
    let s = parts (f x) (located f xs) ps e in
    ap length s.4 ∙ ap suc (length-located xs f s.1 s.3)

-- the places of what is left of a range once a window at its front was found
pub places_left : (f : Where) (addr done len n x : ℕ) (ps : List Place) → x ≡ (addr + done) % 2 ^ 64 → x + n ≤ 2 ^ 64 → done + n ≤ len →
    located f (addresses x n) ≡ Some ps →
    places_at f (circular (addr + done) (len - done)) ≡ ps ++ places_at f (circular (addr + (done + n)) (len - (done + n)))
places_left f addr done len n x ps e h le at =
    ap (places_at f) (circular_step addr done n len x e h le)
    ∙ places_at-append (addresses x n) (circular (addr + (done + n)) (len - (done + n))) f ps at

-- what is still to be stored, after a window at its front was
pub put_step : (f : Where) (addr done len n x : ℕ) (ps : List Place) (h g : Host) (bytes piece : List ℕ) → x ≡ (addr + done) % 2 ^ 64 →
    x + n ≤ 2 ^ 64 → done + n ≤ len → len ≡ length bytes →
    located f (addresses x n) ≡ Some ps → piece ≡ take n (drop done bytes) → g ≡ put_all h (zip ps piece) →
    put_all g (zip (places_at f (circular (addr + (done + n)) (len - (done + n)))) (drop (done + n) bytes))
    ≡ put_all h (zip (places_at f (circular (addr + done) (len - done))) (drop done bytes))
put_step f addr done len n x ps h g bytes piece e fits le size at cut put =
    let rest : List Place = places_at f (circular (addr + (done + n)) (len - (done + n))) in
    let count = length-located (addresses x n) f ps at ∙ length-addresses n x in
    let left = length-drop done bytes in
    ap (λ (k : Host). put_all k (zip rest (drop (done + n) bytes))) (put ∙ ap (λ (l : List ℕ). put_all h (zip ps l)) cut)
    ∙ sym (put_all-append (zip ps (take n (drop done bytes))) (zip rest (drop (done + n) bytes)) h)
    ∙ ap (λ (l : List ℕ). put_all h (zip ps (take n (drop done bytes)) ++ zip rest l)) (sym (drop-drop n done bytes))
    ∙ ap (put_all h) (sym (zip-append ps rest (drop done bytes) n (omega (arith, count, left))))
    ∙ ap (λ (l : List Place). put_all h (zip l (drop done bytes))) (sym (places_left f addr done len n x ps e fits le at))

none_left : (f : Where) (x : ℕ) (rest : List ℕ) → f x ≡ None → places_at f (x ∷ rest) ≡ []
unfolding places_at
none_left f x rest e = rw e refl

-- nothing is stored from an address on that has no place
pub put_none : (f : Where) (addr done len x : ℕ) (h : Host) (bytes : List ℕ) → x ≡ (addr + done) % 2 ^ 64 → done < len → f x ≡ None →
    put_all h (zip (places_at f (circular (addr + done) (len - done))) bytes) ≡ h
unfolding put_all
put_none f addr done len x h bytes e below at =
    let head = circular_head addr done len x e below in
    ap (λ (l : List Place). put_all h (zip l bytes)) (ap (places_at f) head.1 ∙ none_left f x head.0 at)

pub put_end : (f : Where) (addr done len : ℕ) (h : Host) (bytes : List ℕ) → len ≤ done →
    put_all h (zip (places_at f (circular (addr + done) (len - done))) bytes) ≡ h
unfolding put_all places_at
put_end f addr done len h bytes le = ap (λ (l : List ℕ). put_all h (zip (places_at f l) bytes)) (circular_done addr done len le)
