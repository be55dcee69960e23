-- requests by what stands at their places
use Rattle.std.proofs.Common.{◌≡◌, ℕ, Bool, List, ◌++◌, length, map, Some, Ok, take, drop, take-append-drop, take_all, ap, sym, ◌∙◌, arith}
use Rattle.std.proofs.lemmas.List.{map-append}
use Rattle.vm_memory_core.specs.Host.{Host, Place}
use Rattle.vm_memory_core.specs.Window.{byte_in, places}
use Rattle.vm_memory.specs.Memory.{Memory}
use Rattle.fs_queue.specs.declared.chain.Chain.{Chain}
use Rattle.fs_queue.specs.Taking.{RequestAndRoom, IsRequest, CannotFetch}
use Rattle.fs_queue.specs.Windows.{HoldsChain}
use Rattle.server_meanings.specs.Serving.{May}
use Rattle.fs_device.specs.declared.returned.Returned.{Returned}
use Rattle.fs_device.specs.DeviceView.{request_of}
use Rattle.fs_device.specs.Returned.{StepReturned, returned_exchange}
use Rattle.plain_machine.specs.Step.{State, Exchange, Exchanged, Calls, Step}

-- a chain's windows hold the request's bytes
pub request_held : (m : Memory) (h : Host) (fetched : RequestAndRoom) (c : Chain) → m.host ≡ h → HoldsChain m fetched (Ok c) →
    map (byte_in h) (places c.readable.items) ≡ request_of fetched
request_held m h (IsRequest request room) c same held = ap (λ x. map (byte_in x) (places c.readable.items)) (sym same) ∙ sym held.0
request_held m h (CannotFetch why) c same held = absurd held

-- the first bytes of what stands at some places, and the rest
pub front_and_rest : (h : Host) (ps : List Place) (front : List ℕ) → front ≡ map (byte_in h) (take (length front) ps) →
    front ++ map (byte_in h) (drop (length front) ps) ≡ map (byte_in h) ps
front_and_rest h ps front is =
    let n = length front in
    ap (λ l. l ++ map (byte_in h) (drop n ps)) is ∙ sym (map-append (byte_in h) (take n ps) (drop n ps))
    ∙ ap (map (byte_in h)) (take-append-drop n ps)

-- all of them, where they are as many
pub front_is_all : (h : Host) (ps : List Place) (front : List ℕ) → front ≡ map (byte_in h) (take (length front) ps) →
    length front ≡ length ps → front ≡ map (byte_in h) ps
front_is_all h ps front is all = is ∙ ap (map (byte_in h)) (take_all (length front) ps (omega (arith, all)))

-- a step that exchanged, told by its head, its lengths, its fault and its notice
pub returned_step : {F : Type 0} (may : May F) (before : State F) (i : ℕ) (x : Exchange) (notice : Bool) (after : State F) (r : Returned) →
    (calls : Calls) × Step may before i calls (Exchanged x notice) after → r.head ≡ x.head → r.request_len ≡ length x.request →
    r.reply_len ≡ length x.reply →
    r.fault ≡ x.fault → r.notify ≡ notice → StepReturned may before i (Ok (Some r)) after
returned_step may before i x notice after r step head request reply fault exchanged =
    let same : r ≡ returned_exchange x notice =
    λ j. record { head = head j; request_len = request j; reply_len = reply j; fault = fault j; notify = exchanged j } in
    (step.0, Exchanged x notice, step.1, ap (λ y. Ok (Some y)) same)
