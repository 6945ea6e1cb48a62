-- Before the first command.
use Rattle.std.proofs.Common.{◌≡◌, refl, sym, ◌∙◌, ap, ℕ, zero, suc, ◌<◌, List, [], ◌∷◌}
use Rattle.std.proofs.Common.{length, map, replicate, arith}
use Rattle.std.specs.Prelude.{slice_get, Option, Some, None}
use Rattle.std.proofs.lemmas.List.{length-map, length-replicate}
use Rattle.std.proofs.lemmas.Option.{none-some, slice_get_within}
use Rattle.rv_hart.specs.Hart.{fresh_hart, fresh_harts}
use Rattle.replay_engine.specs.Tasks.{TaskState, present_state}
use Rattle.replay_engine.specs.Tasks.{present_states, place_of, places, resident_of, residents}
use Rattle.replay_engine.specs.View.{Plan, view_of, steps_of, accesses_of}
use Rattle.replay_engine.specs.Stands.{ViewStandsFor}
use Rattle.replay_engine.proofs.Items.{some_of}

pub map_replicate : {A B : Type 0} (f : A → B) (n : ℕ) (x : A) → map f (replicate n x)
    ≡ replicate n (f x)
map_replicate f zero x = refl
map_replicate f (suc n) x = ap (λ (ys : List _). f x ∷ ys) (map_replicate f n x)

pub get_replicate : {A : Type 0} (n i : ℕ) (x : A) → i < n → slice_get (replicate n x) i ≡ Some x
get_replicate zero i x h = absurd (omega (arith, h))
get_replicate (suc n) zero x h = refl
get_replicate (suc n) (suc i) x h = get_replicate n i x (omega (arith, h))

pub got_replicate : {A : Type 0} (n i : ℕ) (x y : A) → slice_get (replicate n x) i ≡ Some y → x ≡ y
got_replicate zero i x y e = absurd (none-some y e)
got_replicate (suc n) zero x y e = some_of x y e
got_replicate (suc n) (suc i) x y e = got_replicate n i x y e

got_none : (n t : ℕ) (xs : List (Option ℕ)) (h : ℕ) → xs ≡ replicate n None → slice_get xs t
    ≡ Some (Some h) → ⊥
got_none n t xs h is e = none-some h
    (got_replicate n t None (Some h) (ap (λ (ys : List (Option ℕ)). slice_get ys t) (sym is) ∙ e))

pub begins : (plan : Plan) (ts : List TaskState) → places ts ≡ replicate (length ts) None →
    length plan.tasks ≡ length ts →
    ViewStandsFor plan (present_states ts fresh_harts) [] (view_of ts fresh_harts)
begins plan ts nowhere size =
    let free : residents fresh_harts ≡ replicate 16 None =
    map_replicate resident_of 16 fresh_hart in
    record {
      inverse = record {
        placed = λ t h e. absurd (got_none (length ts) t (places ts) h nowhere e);
        resides = λ h t e. absurd (got_none 16 h (residents fresh_harts) t free e);
      };
      size = length-map ts place_of ∙ sym (length-map ts (present_state fresh_harts));
      orders = size ∙ sym (length-map ts (present_state fresh_harts));
      sixteen = let none : Option ℕ = None in ap length free ∙ length-replicate 16 none;
      present_states = λ t p o e f. e;
      places = λ t p e.
          ap (λ (ps : List (Option ℕ)). slice_get ps t) nowhere
          ∙ get_replicate (length ts) t None
          (omega (
            arith,
            slice_get_within (present_states ts fresh_harts) t p e,
            length-map ts
                (present_state fresh_harts),
          ));
      residents = λ h few. ap (λ (rs : List (Option ℕ)). slice_get rs h) free
          ∙ get_replicate 16 h None few;
      steps = λ h few. ap (λ (xs : List ℕ). slice_get xs h) (map_replicate steps_of 16 fresh_hart)
          ∙ get_replicate 16 h 0 few;
      accesses = λ h few. ap (λ (xs : List ℕ). slice_get xs h)
          (map_replicate accesses_of 16 fresh_hart) ∙ get_replicate 16 h 0 few;
    }
