-- what the server's answer says
use Rattle.std.proofs.Common.{◌≡◌, ℕ, false, List, [], length, map, ap, sym, ◌∙◌, refl, subst, Option, Some, None, Ok, Err}
use Rattle.vm_memory_core.specs.Window.{places}
use Rattle.vm_iotlb.specs.declared.permissions.Permissions.TheVariants.{Write}
use Rattle.vm_memory.specs.Memory.{Memory, location}
use Rattle.fs_queue.specs.declared.chain.Chain.{Chain}
use Rattle.fs_queue.specs.Taking.{RequestAndRoom, IsRequest, CannotFetch}
use Rattle.fs_queue.specs.Windows.{HoldsChain}
use Rattle.fs_queue.proofs.TakeLemmas.{length-located}
use Rattle.server_segments.specs.declared.error.Error.{Error}
use Rattle.server_meanings.specs.Grammar.{meaning}
use Rattle.server_meanings.specs.Serving.{May, setting, served_of, Handles, is_memory}
use Rattle.server_meanings.specs.Serving as server
use Rattle.plain_machine.specs.declared.fault.Fault.{Fault}
use Rattle.plain_machine.specs.declared.fault.Fault.TheVariants as fault
use Rattle.plain_machine.specs.Step.{Exchange, Calls, ServesRequest}
use Rattle.fs_device.specs.DeviceView.{request_of, ServesChain, AnswersRequest}

-- a reply that was written whole
pub replied_ok :
    {F : Type 0} (may : May F) (page options room : ℕ) (request : List ℕ) (before after : F) (n : ℕ) (written : List ℕ) (agreed : ℕ) →
    Handles may (setting page options room) (meaning options request room) before (Ok n) written agreed after →
    (calls : Calls) × AnswersRequest may page (options, before) request room calls written None (agreed, after)
replied_ok may page options room request before after n written agreed h = (
  h.steps,
  (
    served_of (map (λ step. step.0) h.steps) agreed (Ok n) written,
    record { gives = sym h.gives; asks = refl; run = h.run },
    refl,
    refl,
    refl,
  ),
)

-- a fault
pub replied_err : {F : Type 0} (may : May F) (page options room : ℕ) (request : List ℕ) (before after : F) (e : Error) (written : List ℕ)
    (agreed : ℕ) → is_memory e ≡ false →
    Handles may (setting page options room) (meaning options request room) before (Err e) written agreed after →
    (calls : Calls) × AnswersRequest may page (options, before) request room calls [] (Some (fault.Served e)) (agreed, after)
replied_err {F} may page options room request before after e written agreed is h =
    let s : server.Serves may (setting page options room) (meaning options request room) before (Err e) written agreed after =
    rw is at h in (
      s.steps,
      (
        served_of (map (λ step. step.0) s.steps) agreed (Err e) written,
        record { gives = sym s.gives; asks = refl; run = s.run },
        refl,
        refl,
        refl,
      ),
    )

abbrev exchange : (head : ℕ) → (request reply : List ℕ) → Option Fault → Exchange
exchange head request reply fault = record { head = head; request = request; reply = reply; fault = fault }

-- the code's exchange is the one that the chain's request and room ask for
pub served_chain : {F : Type 0} (may : May F) (page : ℕ) (old new : ℕ × F) (m : Memory) (fetched : RequestAndRoom) (c : Chain) (head at : ℕ)
    (request : List ℕ)
    (fault : Option Fault) (reply : List ℕ) (calls : Calls) →
    HoldsChain m fetched (Ok c) → at ≡ head → request ≡ request_of fetched →
    AnswersRequest may page old request (length (places c.writable.items)) calls reply fault new →
    ServesChain may page old head fetched calls (exchange at request reply fault) new
served_chain may page old new m (CannotFetch why) c head at request fault reply calls held a e r = absurd held
served_chain {F} may page old new m (IsRequest bytes room) c head at request fault reply calls held a same r =
    let count : length (places c.writable.items) ≡ length room = length-located room (location m Write) (places c.writable.items) held.1 in
    let serves = subst (λ (n : ℕ). ServesRequest may page old.0 bytes n old.1 calls r.0 new.1) count
    (subst (λ (x : List ℕ). ServesRequest may page old.0 x (length (places c.writable.items)) old.1 calls r.0 new.1) same r.1) in (
      r.0,
      serves,
      ap (λ n. exchange n request reply fault) a
          ∙ ap (λ (x : List ℕ). exchange head x reply fault) same
          ∙ ap (λ (x : List ℕ). exchange head bytes x fault) r.2 ∙ ap (exchange head bytes _) r.3,
      r.4,
    )
