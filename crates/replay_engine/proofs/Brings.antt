-- What a task brought to a hart makes of each place, each resident and each count.
use Rattle.std.proofs.Common.{◌≡◌, refl, sym, ◌∙◌, ap, subst, ℕ, ◌+◌, ◌*◌, List, inl, inr, nat_eq}
use Rattle.std.proofs.Common.{Bool, true, false, cond, arith, length}
use Rattle.std.proofs.lemmas.List.{length-set}
use Rattle.std.specs.Prelude.{slice_get, slice_set, Option, Some, None}
use Rattle.std.proofs.lemmas.Bool.{cases_Bool, eqb-true}
use Rattle.std.proofs.lemmas.Option.{none-some}
use Rattle.ctr_csrs.specs.Depths.{entries_of}
use Rattle.replay_engine.specs.Tasks.{PresentState, AreInverse}
use Rattle.replay_engine.specs.View.{View, add_at, after_leaving_by}
use Rattle.replay_engine.specs.View.{after_arriving_by, after_arriving, after_freeing_by}
use Rattle.replay_engine.specs.View.{after_freeing, after_parting_by, after_parting, is_at, is_on}
use Rattle.replay_engine.specs.View.{after_bringing}
use Rattle.replay_engine.specs.Stands.{bringing}
use Rattle.replay_engine.proofs.Items.{get_set, get_add, get_set_other}
use Rattle.replay_engine.proofs.Items.{some_of}

abbrev pub depth_at : PresentState → ℕ
depth_at p = entries_of p.state.unit.stack.depth

-- what is known before: the task's present state and place, the hart's resident, and the depths of
-- both
pub record Before (t h : ℕ) (q r : Option ℕ) (depth : ℕ → ℕ) (v : View) : Type 0 where
  pub inverse : AreInverse v.places v.residents
  pub p : PresentState
  pub state : slice_get v.present_states t ≡ Some p
  pub deep : depth_at p ≡ depth t
  pub place : slice_get v.places t ≡ Some q
  pub resident : slice_get v.residents h ≡ Some r
  pub other : (w : ℕ) → r ≡ Some w → (u : PresentState) × (slice_get v.present_states w ≡ Some u)
      × (depth_at u ≡ depth w)

pub record After (t h : ℕ) (q r : Option ℕ) (depth : ℕ → ℕ) (v v' : View) : Type 0 where
  pub size : length v'.places ≡ length v.places
  pub homes : length v'.residents ≡ length v.residents
  pub present_states : v'.present_states ≡ v.present_states
  pub steps : v'.steps ≡ v.steps
  pub places : (u : ℕ) (p : Option ℕ) → slice_get v.places u ≡ Some p → slice_get v'.places u
      ≡ Some (cond (nat_eq u t) (Some h) (cond (is_at p h) None p))
  pub residents : (k : ℕ) (s : Option ℕ) → slice_get v.residents k ≡ Some s →
      slice_get v'.residents k ≡ Some (cond (nat_eq k h) (Some t) (cond (is_at s t) None s))
  pub accesses : (k n : ℕ) → slice_get v.accesses k ≡ Some n → slice_get v'.accesses k
      ≡ Some (n + bringing depth q r t h k)

abbrev Half : List (Option ℕ) → List (Option ℕ) → Type 0
Half ps rs = (t h : ℕ) → slice_get ps t ≡ Some (Some h) → slice_get rs h ≡ Some (Some t)

-- which item a place names
pub at_same : (p : Option ℕ) (h : ℕ) → is_at p h ≡ true → p ≡ Some h
at_same None h e = absurd (cc e)
at_same (Some g) h e = ap Some (sym (eqb-true h g e))

not_at : (p : Option ℕ) (h : ℕ) → (p ≡ Some h → ⊥) → is_at p h ≡ false
not_at p h ne = elim (cases_Bool (is_at p h)) [
  | inl same ↦ absurd (ne (at_same p h same))
  | inr other ↦ other
]

-- nothing is changed where the task is there
stays : (ps rs : List (Option ℕ)) (t h : ℕ) → Half ps rs → slice_get ps t ≡ Some (Some h)
    → (u : ℕ) (p : Option ℕ) → slice_get ps u ≡ Some p → p
    ≡ cond (nat_eq u t) (Some h) (cond (is_at p h) None p)
stays ps rs t h half at u p e = elim (cases_Bool (nat_eq u t)) [
  | inl same ↦ rw same (some_of p (Some h) (sym e ∙ ap (slice_get ps) (eqb-true u t same) ∙ at))
  | inr other ↦
      let away : p ≡ Some h → ⊥ = λ here.
      let is : u ≡ t = some_of u t
      (some_of (Some u) (Some t) (sym (half u h (e ∙ ap Some here)) ∙ half t h at)) in
      grind (arith, other, is) in
      rw (other, not_at p h away) refl
]

-- the item that resides there is the one whose place it is
pub leaves : (ps rs : List (Option ℕ)) (w h : ℕ) → Half ps rs → Half rs ps → slice_get rs h
    ≡ Some (Some w)
    → (u : ℕ) (p : Option ℕ) → slice_get ps u ≡ Some p → cond (nat_eq u w) None p
    ≡ cond (is_at p h) None p
leaves ps rs w h half other_half at u p e = elim (cases_Bool (nat_eq u w)) [
  | inl same ↦
      let is : p ≡ Some h = some_of p (Some h) (sym e ∙ ap (slice_get ps) (eqb-true u w same)
      ∙ other_half h w at) in
      let same_h : nat_eq h h ≡ true = grind arith in
      rw (same, is, same_h) refl
  | inr other ↦
      let away : p ≡ Some h → ⊥ = λ here.
      let is : u ≡ w = some_of u w
      (some_of (Some u) (Some w) (sym (half u h (e ∙ ap Some here)) ∙ at)) in
      grind (arith, other, is) in
      rw (other, not_at p h away) refl
]

nobody : (ps rs : List (Option ℕ)) (h : ℕ) → Half ps rs → slice_get rs h ≡ Some None →
    (u : ℕ) (p : Option ℕ) → slice_get ps u ≡ Some p → p ≡ cond (is_at p h) None p
nobody ps rs h half free u p e =
    rw (not_at p h (λ here. none-some u
    (some_of None (Some u) (sym free ∙ half u h (e ∙ ap Some here))))) refl

-- a later change of the same item counts
twice : (b : Bool) (x y : Option ℕ) → cond b x (cond b None y) ≡ cond b x y
twice true x y = refl
twice false x y = refl

middle : (b : Bool) (x y z : Option ℕ) (c : Bool) → cond c None z ≡ y →
    cond b x (cond c None (cond b None z)) ≡ cond b x y
middle true x y z c e = refl
middle false x y z c e = e

both : (b : Bool) (x y z : Option ℕ) → z ≡ y → cond b x z ≡ cond b x y
both true x y z e = refl
both false x y z e = e

sum_of : (n a b c d : ℕ) (k g : Bool) → a ≡ c → b ≡ d → n + cond k a 0 + cond g b 0
    ≡ n + (cond k c 0 + cond g d 0)
sum_of n a b c d true true e f = omega (arith, e, f)
sum_of n a b c d true false e f = omega (arith, e, f)
sum_of n a b c d false true e f = omega (arith, e, f)
sum_of n a b c d false false e f = omega (arith, e, f)

sum_one : (n b d : ℕ) (g : Bool) → b ≡ d → n + cond g b 0 ≡ n + (0 + cond g d 0)
sum_one n b d true e = omega (arith, e)
sum_one n b d false e = omega (arith, e)

sum_two : (n a b c d : ℕ) (g : Bool) → a + b ≡ d → n + cond g a 0 + cond g b 0 ≡ n + cond g d 0
sum_two n a b c d true e = omega (arith, e)
sum_two n a b c d false e = omega (arith, e)

-- the four moves
from_none_to_free : (t h : ℕ) (depth : ℕ → ℕ) (v : View) → Before t h None None depth v →
    After t h None None depth v (after_arriving t h (after_freeing h (after_parting t v)))
from_none_to_free t h depth v b =
    let made : after_arriving t h (after_freeing h (after_parting t v))
    ≡ after_arriving_by (Some b.p) t h v
    = ap (λ (o : Option (Option ℕ)). after_arriving t h (after_freeing h (after_parting_by o t v)))
    b.place
    ∙ ap (λ (o : Option (Option ℕ)). after_arriving t h (after_freeing_by o h v)) b.resident
    ∙ ap (λ (o : Option PresentState). after_arriving_by o t h v) b.state in
    subst (After t h None None depth v) (sym made) (record {
      size = length-set v.places t (Some h);
      homes = length-set v.residents h (Some t);
      present_states = refl;
      steps = refl;
      places = λ u p e. get_set v.places t u p (Some h) e
          ∙ ap Some (both (nat_eq u t) (Some h) _ p
          (nobody v.places v.residents h b.inverse.placed b.resident u p e));
      residents = λ k s e. get_set v.residents h k s (Some t) e
          ∙ ap Some (both (nat_eq k h) (Some t) _ s
          (nobody v.residents v.places t b.inverse.resides b.place k s e));
      accesses = λ k n e. get_add v.accesses h k n (6 + 4 * depth_at b.p) e
          ∙ ap Some (sum_one n _ _ (nat_eq k h) (omega (arith, b.deep)));
    })

from_none_to_taken : (t h w : ℕ) (depth : ℕ → ℕ) (v : View) → Before t h None (Some w) depth v →
    After t h None (Some w) depth v (after_arriving t h (after_freeing h (after_parting t v)))
from_none_to_taken t h w depth v b =
    let other = b.other w refl in
    let left_it = after_leaving_by (Some other.0) w h v in
    let made : after_arriving t h (after_freeing h (after_parting t v))
    ≡ after_arriving_by (Some b.p) t h left_it
    = ap (λ (o : Option (Option ℕ)). after_arriving t h (after_freeing h (after_parting_by o t v)))
    b.place
    ∙ ap (λ (o : Option (Option ℕ)). after_arriving t h (after_freeing_by o h v)) b.resident
    ∙ ap (λ (o : Option PresentState). after_arriving t h (after_leaving_by o w h v)) other.1
    ∙ ap (λ (o : Option PresentState). after_arriving_by o t h left_it) b.state in
    subst (After t h None (Some w) depth v) (sym made) (record {
      size = length-set (slice_set v.places w None) t (Some h) ∙ length-set v.places w None;
      homes = length-set (slice_set v.residents h None) h (Some t) ∙ length-set v.residents h None;
      present_states = refl;
      steps = refl;
      places = λ u p e. get_set (slice_set v.places w None) t u _ (Some h)
          (get_set v.places w u p None e)
          ∙ ap Some (both (nat_eq u t) (Some h) _ _
          (leaves v.places v.residents w h b.inverse.placed b.inverse.resides b.resident u p
          e));
      residents = λ k s e. get_set (slice_set v.residents h None) h k _ (Some t)
          (get_set v.residents h k s None e)
          ∙ ap Some (twice (nat_eq k h) (Some t) s
          ∙ both (nat_eq k h) (Some t) _ s
          (nobody v.residents v.places t b.inverse.resides b.place k s e));
      accesses = λ k n e. get_add (add_at v.accesses h (5 + 4 * depth_at other.0)) h k _
          (6 + 4 * depth_at b.p) (get_add v.accesses h k n (5 + 4 * depth_at other.0) e)
          ∙ ap Some (sum_two n (5 + 4 * depth_at other.0) (6 + 4 * depth_at b.p) 0
          (5 + 4 * depth w + (6 + 4 * depth t)) (nat_eq k h) (omega (arith, b.deep, other.2))
          ∙ omega arith);
    })

from_taken_to_free : (t h g : ℕ) (depth : ℕ → ℕ) (v : View) → is_at (Some g) h ≡ false →
    Before t h (Some g) None depth v →
    After t h (Some g) None depth v (after_arriving t h (after_freeing h (after_parting t v)))
from_taken_to_free t h g depth v away b =
    let apart : h ≡ g → ⊥ = λ e. grind (arith, away, e) in
    let gone = after_leaving_by (Some b.p) t g v in
    let free : slice_get gone.residents h ≡ Some None = get_set_other v.residents g h None apart
    ∙ b.resident in
    let made : after_arriving t h (after_freeing h (after_parting t v))
    ≡ after_arriving_by (Some b.p) t h gone
    = ap (λ (o : Option (Option ℕ)). after_arriving t h (after_freeing h (after_parting_by o t v)))
    b.place
    ∙ ap (λ (o : Option PresentState). after_arriving t h
    (after_freeing h (after_leaving_by o t g v))) b.state
    ∙ ap (λ (o : Option (Option ℕ)). after_arriving t h (after_freeing_by o h gone)) free
    ∙ ap (λ (o : Option PresentState). after_arriving_by o t h gone) b.state in
    subst (After t h (Some g) None depth v) (sym made) (record {
      size = length-set (slice_set v.places t None) t (Some h) ∙ length-set v.places t None;
      homes = length-set (slice_set v.residents g None) h (Some t) ∙ length-set v.residents g None;
      present_states = refl;
      steps = refl;
      places = λ u p e. get_set (slice_set v.places t None) t u _ (Some h)
          (get_set v.places t u p None e)
          ∙ ap Some (twice (nat_eq u t) (Some h) p
          ∙ both (nat_eq u t) (Some h) _ p
          (nobody v.places v.residents h b.inverse.placed b.resident u p e));
      residents = λ k s e. get_set (slice_set v.residents g None) h k _ (Some t)
          (get_set v.residents g k s None e)
          ∙ ap Some (both (nat_eq k h) (Some t) _ _
          (leaves v.residents v.places g t b.inverse.resides b.inverse.placed b.place k s e));
      accesses = λ k n e. get_add (add_at v.accesses g (5 + 4 * depth_at b.p)) h k _
          (6 + 4 * depth_at b.p) (get_add v.accesses g k n (5 + 4 * depth_at b.p) e)
          ∙ ap Some (sum_of n (5 + 4 * depth_at b.p) (6 + 4 * depth_at b.p) (5 + 4 * depth t)
          (0 + (6 + 4 * depth t)) (nat_eq k g) (nat_eq k h) (omega (arith, b.deep))
          (omega (arith, b.deep)) ∙ sym (rw away refl));
    })

from_taken_to_taken : (t h g w : ℕ) (depth : ℕ → ℕ) (v : View) → is_at (Some g) h ≡ false →
    Before t h (Some g) (Some w) depth v →
    After t h (Some g) (Some w) depth v (after_arriving t h (after_freeing h (after_parting t v)))
from_taken_to_taken t h g w depth v away b =
    let apart : h ≡ g → ⊥ = λ e. grind (arith, away, e) in
    let other = b.other w refl in
    let gone = after_leaving_by (Some b.p) t g v in
    let left_it = after_leaving_by (Some other.0) w h gone in
    let there : slice_get gone.residents h ≡ Some (Some w) =
    get_set_other v.residents g h None apart ∙ b.resident in
    let made : after_arriving t h (after_freeing h (after_parting t v))
    ≡ after_arriving_by (Some b.p) t h left_it
    = ap (λ (o : Option (Option ℕ)). after_arriving t h (after_freeing h (after_parting_by o t v)))
    b.place
    ∙ ap (λ (o : Option PresentState). after_arriving t h
    (after_freeing h (after_leaving_by o t g v))) b.state
    ∙ ap (λ (o : Option (Option ℕ)). after_arriving t h (after_freeing_by o h gone)) there
    ∙ ap (λ (o : Option PresentState). after_arriving t h (after_leaving_by o w h gone)) other.1
    ∙ ap (λ (o : Option PresentState). after_arriving_by o t h left_it) b.state in
    subst (After t h (Some g) (Some w) depth v) (sym made) (record {
      size = length-set (slice_set (slice_set v.places t None) w None) t (Some h)
          ∙ length-set (slice_set v.places t None) w None ∙ length-set v.places t None;
      homes = length-set (slice_set (slice_set v.residents g None) h None) h (Some t)
          ∙ length-set (slice_set v.residents g None) h None ∙ length-set v.residents g None;
      present_states = refl;
      steps = refl;
      places = λ u p e. get_set (slice_set (slice_set v.places t None) w None) t u _ (Some h)
          (get_set (slice_set v.places t None) w u _ None (get_set v.places t u p None e))
          ∙ ap Some (middle (nat_eq u t) (Some h) _ p (nat_eq u w)
          (leaves v.places v.residents w h b.inverse.placed b.inverse.resides b.resident u p
          e));
      residents = λ k s e. get_set (slice_set (slice_set v.residents g None) h None) h k _ (Some t)
          (get_set (slice_set v.residents g None) h k _ None (get_set v.residents g k s None e))
          ∙ ap Some (twice (nat_eq k h) (Some t) _
          ∙ both (nat_eq k h) (Some t) _ _
          (leaves v.residents v.places g t b.inverse.resides b.inverse.placed b.place k s e));
      accesses = λ k n e. get_add (add_at (add_at v.accesses g (5 + 4 * depth_at b.p)) h
          (5 + 4 * depth_at other.0)) h k _ (6 + 4 * depth_at b.p)
          (get_add (add_at v.accesses g (5 + 4 * depth_at b.p)) h k _ (5 + 4 * depth_at other.0)
          (get_add v.accesses g k n (5 + 4 * depth_at b.p) e))
          ∙ ap Some (sum_two (n + cond (nat_eq k g) (5 + 4 * depth_at b.p) 0) _ _ 0
          (5 + 4 * depth w + (6 + 4 * depth t)) (nat_eq k h) (omega (arith, b.deep, other.2))
          ∙ sum_of n (5 + 4 * depth_at b.p) (5 + 4 * depth w + (6 + 4 * depth t)) (5 + 4 * depth t)
          (5 + 4 * depth w + (6 + 4 * depth t)) (nat_eq k g) (nat_eq k h)
          (omega (arith, b.deep)) refl ∙ sym (rw away refl));
    })

moves : (t h : ℕ) (q r : Option ℕ) (depth : ℕ → ℕ) (v : View) → is_at q h ≡ false →
    Before t h q r depth v →
    After t h q r depth v (after_arriving t h (after_freeing h (after_parting t v)))
moves t h None None depth v away b = from_none_to_free t h depth v b
moves t h None (Some w) depth v away b = from_none_to_taken t h w depth v b
moves t h (Some g) None depth v away b = from_taken_to_free t h g depth v away b
moves t h (Some g) (Some w) depth v away b = from_taken_to_taken t h g w depth v away b

no_move : (t h : ℕ) (q r : Option ℕ) (depth : ℕ → ℕ) (v : View) → is_at q h ≡ true →
    Before t h q r depth v → After t h q r depth v v
no_move t h q r depth v on b =
    let here : slice_get v.places t ≡ Some (Some h) = b.place ∙ ap Some (at_same q h on) in
    record {
      size = refl;
      homes = refl;
      present_states = refl;
      steps = refl;
      places = λ u p e. e ∙ ap Some (stays v.places v.residents t h b.inverse.placed here u p e);
      residents = λ k s e. e
          ∙ ap Some (stays v.residents v.places h t b.inverse.resides (b.inverse.placed t h here)
          k s e);
      accesses = λ k n e. e ∙ ap Some (rw on (omega arith));
    }

pub brings : (t h : ℕ) (q r : Option ℕ) (depth : ℕ → ℕ) (v : View) → Before t h q r depth v →
    After t h q r depth v (after_bringing t h v)
brings t h q r depth v b =
    subst (After t h q r depth v)
    (sym (ap (λ (o : Option (Option ℕ)). cond (is_on o h) v
    (after_arriving t h (after_freeing h (after_parting t v)))) b.place))
    (elim (cases_Bool (is_at q h)) [
      | inl on ↦ rw on (no_move t h q r depth v on b)
      | inr away ↦ rw away (moves t h q r depth v away b)
    ])
