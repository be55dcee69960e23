-- The parts that an optional value keeps from one state to the next.
use Rattle.std.specs.Prelude.{Option, Some, None}

-- the option stays None, or it stays Some and its old and new value satisfy Keeps
abbrev pub KeepsIf : {B : Type 0} → (B → B → Type 0) → Option B → Option B → Type 0
KeepsIf Keeps None None = Unit {0}
KeepsIf Keeps None (Some new) = ⊥
KeepsIf Keeps (Some old) None = ⊥
KeepsIf Keeps (Some old) (Some new) = Keeps old new

-- an unchanged option is kept: a proof that the trait cites, of which nothing has to be believed
pub KeepsIf-same :
    {B : Type 0} (Keeps : B → B → Type 0) → ((b : B) → Keeps b b) → (o : Option B) → KeepsIf Keeps o o
KeepsIf-same Keeps same None = tt
KeepsIf-same Keeps same (Some b) = same b
