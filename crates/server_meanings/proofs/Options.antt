-- Options as numbers.
use Rattle.std.proofs.Common.{◌≡◌, ℕ, bit_and, refl, sym, ap, ◌∙◌}
use Rattle.std.proofs.lemmas.Nat.{and_assoc}
use lib.Bits.{and_comm, and_self}
use Rattle.bitflags.specs.Sets.{known_bits, known_from}
use Rattle.fuse_base.specs.Flags.{fs_options}
use Rattle.server_meanings.specs.Grammar.{known_options}

pub known_bits_are : known_bits fs_options ≡ known_options
unfolding known_from
known_bits_are = refl

-- of known options all are known
pub known_twice : (bits : ℕ) → bit_and (bit_and bits known_options) known_options ≡ bit_and bits known_options
known_twice bits = and_assoc known_options bits known_options ∙ ap (bit_and bits) (and_self known_options)

-- and so are some of them
pub some_known : (a b : ℕ) → bit_and a known_options ≡ a → bit_and (bit_and a b) known_options ≡ bit_and a b
some_known a b known =
    and_assoc known_options a b ∙ ap (bit_and a) (and_comm b known_options) ∙ sym (and_assoc b a known_options)
    ∙ ap (λ x. bit_and x b) known
