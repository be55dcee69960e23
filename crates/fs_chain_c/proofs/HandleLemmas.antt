-- What is done with the `ChainHandle` of a handle, by what the handle holds before and after.
use Rattle.std.proofs.Common.{◌≡◌, ℕ, List, Option, Some, inr, refl, sym, subst}
use Rattle.vm_memory.specs.Layout.{Region}
use Rattle.fs_chain.specs.declared.error.ChainError.{ChainError}
use Rattle.fs_chain.specs.Orders.{memory_error}
use Rattle.fs_chain.specs.declared.chain_handle.ChainHandle.{ChainHandle}
use Rattle.fs_chain_c.specs.declared.device.FsDevice.{FsDevice}
use Rattle.fs_chain_c.specs.declared.memory.FsRegion.{FsRegion}
use Rattle.fs_chain_c.specs.declared.status.StatusRefusal.TheVariants.{Of}
use Rattle.fs_chain_c.specs.Handles.{ProceedsOver, OnHandle, RefusesMemory, SetsHandle, SetsMemory}
use Rattle.fs_chain_c.specs.Memory.{IsDevice, IsMemory}

pub on_handle : (Does : ChainHandle → ChainHandle → Type 0) (Nothing : Type 0) (before after : Option ChainHandle) (b b' : ChainHandle)
    → before ≡ Some b → after ≡ Some b' → Does b b' → OnHandle Does Nothing before after
on_handle Does Nothing before after b b' was is does =
    subst (λ (o : Option ChainHandle). OnHandle Does Nothing o after) (sym was)
    (subst (λ (o : Option ChainHandle). OnHandle Does Nothing (Some b) o) (sym is) does)

-- a handle's memory is set with that of its `ChainHandle`
pub sets_memory : (d : FsDevice) (regions : List FsRegion) (status : ℕ) (before after : Option ChainHandle) (b b' : ChainHandle)
    → before ≡ Some b → after ≡ Some b' → SetsHandle b d regions status b' → SetsMemory before d regions status after
sets_memory d regions status before after b b' was is sets =
    subst (λ (o : Option ChainHandle). SetsMemory o d regions status after) (sym was)
    (subst (λ (o : Option ChainHandle). SetsMemory (Some b) d regions status o) (sym is) sets)

-- the same `ChainHandle` is told the same
pub proceeds_along : (b : ChainHandle) (d : FsDevice) (regions : List FsRegion) (b' b'' : ChainHandle) → b'' ≡ b'
    → ProceedsOver b d regions b' →
    ProceedsOver b d regions b''
proceeds_along b d regions b' b'' same proceeds =
    let P : ChainHandle → Type 0 = λ x. ProceedsOver b d regions x in subst P (sym same) proceeds

-- where the chain is is looked at behind the device's numbers and the regions
pub state_refuses : (b : ChainHandle) (d : FsDevice) (regions : List FsRegion) (memory : List Region) (e : ChainError)
    → IsDevice d → IsMemory regions memory → memory_error b.state d.limit ≡ Some e → RefusesMemory b d regions (Of e)
state_refuses b d regions memory e device is why = inr (inr (device, (memory, is), e, refl, why))
