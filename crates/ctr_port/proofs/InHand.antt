-- Readers that keep bytes in hand: what a read changes, and one step of a reading after another.
use Rattle.std.proofs.Common.{◌≡◌, ℕ, List, ◌++◌, Option, None, Some, sym, ap, ◌∙◌, append_assoc, subst}
use Rattle.std.proofs.KnownBytes.{Keeps-refl, Keeps-trans}
use Rattle.std.specs.Io.KnownBytes.{Keeps, Consumes}
use Rattle.ctr_port.specs.InHand.{text_of, Same, Of}

pub same_self : (hand : List ℕ) (left : Option (List ℕ)) → Same hand left hand left
same_self hand left = Keeps-refl (text_of hand left)

given : (hand hand' piece : List ℕ) (left left' : Option (List ℕ)) → hand' ≡ hand ++ piece → Consumes left left' piece → Same hand left hand' left'
given hand hand' piece None left' e p = tt
given hand hand' piece (Some xs) None e p = absurd p
given hand hand' piece (Some xs) (Some ys) e p = ap (λ (t : List ℕ). t ++ ys) e ∙ append_assoc hand piece ys ∙ ap (λ (t : List ℕ). hand ++ t) (sym p)

-- a read that gave a piece put it behind what was in hand
pub same_given : (hand0 hand hand' piece : List ℕ) (left0 left left' : Option (List ℕ)) → Same hand0 left0 hand left → hand' ≡ hand ++ piece → Consumes left left' piece → Same hand0 left0 hand' left'
same_given hand0 hand hand' piece left0 left left' p e q = Keeps-trans (text_of hand0 left0) (text_of hand left) (text_of hand' left') p (given hand hand' piece left left' e q)

kept : (hand : List ℕ) (left left' : Option (List ℕ)) → Keeps left left' → Same hand left hand left'
kept hand None left' p = tt
kept hand (Some xs) None p = absurd p
kept hand (Some xs) (Some ys) p = ap (λ (t : List ℕ). hand ++ t) p

-- a read that took nothing changed nothing
pub same_kept : (hand0 hand hand' : List ℕ) (left0 left left' : Option (List ℕ)) → Same hand0 left0 hand left → hand' ≡ hand → Keeps left left' → Same hand0 left0 hand' left'
same_kept hand0 hand hand' left0 left left' p e q =
    Keeps-trans (text_of hand0 left0) (text_of hand left) (text_of hand' left') p (subst (λ (h : List ℕ). Same hand left h left') (sym e) (kept hand left left' q))

-- what holds of each text before and after
pub of_map : (text text' : Option (List ℕ)) (P Q : List ℕ → List ℕ → Type 0) → Of text text' P → ((t t' : List ℕ) → P t t' → Q t t') → Of text text' Q
of_map None text' P Q h f = tt
of_map (Some t) None P Q h f = absurd h
of_map (Some t) (Some t') P Q h f = f t t' h

-- one step of a reading after another
pub of_then : (a b c : Option (List ℕ)) (P Q R : List ℕ → List ℕ → Type 0) → Of a b P → Of b c Q → ((x y z : List ℕ) → P x y → Q y z → R x z) → Of a c R
of_then None b c P Q R h k f = tt
of_then (Some x) None c P Q R h k f = absurd h
of_then (Some x) (Some y) None P Q R h k f = absurd k
of_then (Some x) (Some y) (Some z) P Q R h k f = f x y z h k

-- nothing lost and nothing added: the text is the same
pub of_same : (hand hand' : List ℕ) (left left' : Option (List ℕ)) → Same hand left hand' left' → Of (text_of hand left) (text_of hand' left') (λ t t'. t' ≡ t)
of_same hand hand' None left' p = tt
of_same hand hand' (Some xs) None p = absurd p
of_same hand hand' (Some xs) (Some ys) p = p
