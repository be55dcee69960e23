-- Flags as numbers.
use Rattle.std.proofs.Common.{◌≡◌, refl}
use Rattle.bitflags.specs.Sets.{known_bits, known_from}
use Rattle.fuse_base.specs.Flags.{setattr_valid, setxattr_flags}
use Rattle.server_calls.specs.Requests.{known_setattr, known_setxattr}

pub known_setattr_are : known_bits setattr_valid ≡ known_setattr
unfolding known_from
known_setattr_are = refl

pub known_setxattr_are : known_bits setxattr_flags ≡ known_setxattr
unfolding known_from
known_setxattr_are = refl
