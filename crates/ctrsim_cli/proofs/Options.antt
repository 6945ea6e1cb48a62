-- An answer that is there and one that isn't.
use Rattle.std.proofs.Common.{◌≡◌, ℕ, List, [], None, Some, unwrap_or, ap}
use Rattle.std.specs.declared.option.Option.{Option}

pub some_is_none : {X : Type 0} (x : X) → None ≡ Some x → ⊥
some_is_none x e = cc

-- equal answers hold equal lists
pub held_is : (x y : List ℕ) → Some x ≡ Some y → x ≡ y
held_is x y e = ap (λ (o : Option (List ℕ)). unwrap_or o []) e

pub same_held : {X : Type 0} (x y : X) → Some x ≡ Some y → x ≡ y
same_held {X} x y e = ap (λ (o : Option X). unwrap_or o x) e
