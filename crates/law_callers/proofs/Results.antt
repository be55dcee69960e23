-- What holds of a result.
use Rattle.std.proofs.Common.{Err, IfOk, Ok, Result}

pub if_ok : {A E : Type 0} (r : Result A E) (P Q : A → Type 0) → ((a : A) → P a → Q a) → IfOk r P → IfOk r Q
if_ok (Ok a) P Q more p = more a p
if_ok (Err e) P Q more p = tt

pub if_ok_both : {A E : Type 0} (r : Result A E) (P Q S : A → Type 0) → ((a : A) → P a → Q a → S a) → IfOk r P → IfOk r Q → IfOk r S
if_ok_both (Ok a) P Q S more p q = more a p q
if_ok_both (Err e) P Q S more p q = tt
