-- The images of tasks, one behind the other, and their memories.
use Rattle.std.proofs.Common.{◌≡◌, ◌⊎◌, inl, inr, refl, sym, ap, ◌∙◌, subst, arith, ℕ, zero, suc}
use Rattle.std.proofs.Common.{◌+◌, ◌-◌, ◌<◌, ◌≤◌, List, [], ◌∷◌, ◌++◌, length, take, drop, map}
use Rattle.std.proofs.Common.{get_or, replicate, length-append, drop-drop}
use Rattle.std.proofs.lemmas.List.{length-replicate}
use Rattle.std.proofs.Common.{if◌then◌else◌, Bool, true, false, nat_lt}
use Rattle.std.specs.Prelude.{slice_get, Option, Some, None, Result, Ok}
use Rattle.std.proofs.lemmas.List.{map-append, length-drop, take_more, take_all, length-take-le}
use Rattle.std.proofs.lemmas.List.Sums.{sum_by_more}
use Rattle.std.proofs.lemmas.Option.{none-some, same_Some}
use Rattle.ctr_port.specs.InHand.{Of}
use Rattle.ctr_port.proofs.InHand.{of_map, of_then}
use Rattle.replay_engine.specs.Start.{AreMemories, memories, size_of, mem_of}
use Rattle.std.proofs.lemmas.List.Elements.{All-nil, All-push}
use Rattle.rv_hart.specs.Facts.{AreBytes}
use Rattle.rv_hart.specs.Memory.{memory_of}
use Rattle.sched_text.specs.Header.{refuse}
use Rattle.sched_text.specs.Images.{image_at}
use Rattle.sched_text.specs.Outcomes.{total, IsBehind, IsImage}
use Rattle.sched_text.specs.declared.faults.LineFault.{LineFault}
use Rattle.sched_text.specs.declared.faults.Reason.TheVariants as reason
use Rattle.sched_text.specs.declared.schedule.TaskLine.{TaskLine}
use Rattle.sched_text.proofs.FrontLaws.{parts}
use Rattle.sched_text.proofs.JoinLaws.{image_is}
use Rattle.ctrsim_cli.specs.Parts.{HasImages, FirstMemories, MemoriesRead}

-- a memory has the size that was asked for
pub filled : (i : List ℕ) (n : ℕ) → length i ≤ n → length (memory_of i n) ≡ n
filled i n fits =
    let none : ℕ = 0 in
    omega (arith, fits, length-append i (replicate (n - length i) none), length-replicate (n - length i) none)

-- one more memory
pub memories_more : (ls : List TaskLine) (is : List (List ℕ)) (l : TaskLine) (i : List ℕ) →
    length is ≡ length ls →
    memories (ls ++ l ∷ []) (is ++ i ∷ []) ≡ memories ls is ++ memory_of i l.mem ∷ []
memories_more [] [] l i e = refl
memories_more [] (y ∷ is) l i e = absurd (omega (arith, e))
memories_more (x ∷ ls) [] l i e = absurd (omega (arith, e))
memories_more (x ∷ ls) (y ∷ is) l i e =
    ap (λ (ms : List (List ℕ)). memory_of y x.mem ∷ ms) (memories_more ls is l i (omega (arith, e)))

pub sizes_more : (ls : List TaskLine) (ms : List (List ℕ)) (l : TaskLine) (m : List ℕ) →
    AreMemories ls ms → length m ≡ l.mem → AreMemories (ls ++ l ∷ []) (ms ++ m ∷ [])
sizes_more ls ms l m are size =
    map-append size_of ms (m ∷ []) ∙ ap (λ (ns : List ℕ). ns ++ length m ∷ []) are
    ∙ ap (λ (n : ℕ). map mem_of ls ++ n ∷ []) size ∙ sym (map-append mem_of ls (l ∷ []))

-- the item that is last, or one before it
pub got_last : {A : Type 0} (xs : List A) (y z : A) (k : ℕ) → slice_get (xs ++ y ∷ []) k ≡ Some z →
    (slice_get xs k ≡ Some z) ⊎ ((k ≡ length xs) × (z ≡ y))
got_last [] y z zero e = inr (refl, sym (same_Some y z e))
got_last [] y z (suc k) e = absurd (none-some z e)
got_last (x ∷ xs) y z zero e = inl e
got_last (x ∷ xs) y z (suc k) e = after_one (got_last xs y z k e)
  where
    after_one : (slice_get xs k ≡ Some z) ⊎ ((k ≡ length xs) × (z ≡ y)) →
        (slice_get xs k ≡ Some z) ⊎ ((suc k ≡ suc (length xs)) × (z ≡ y))
    after_one (inl p) = inl p
    after_one (inr p) = inr (ap suc p.0, p.1)

-- an image that was read
taken_by : (b : Bool) (line len : ℕ) (t t' image : List ℕ) → nat_lt (length t) len ≡ b
    → ◌≡◌ {A = Result (List ℕ × List ℕ) LineFault} (if b then refuse line reason.Cut else Ok (take len t, drop len t)) (Ok (image, t'))
    → (len ≤ length t) × (t' ≡ drop len t)
taken_by true line len t t' image is e = absurd cc
taken_by false line len t t' image is e =
    (grind (arith, is), sym (parts (take len t) image (drop len t) t' e).1)

pub no_images : (tasks : List TaskLine) (a : Option (List ℕ)) → Of a a (HasImages tasks [] 0)
no_images tasks None = tt
no_images tasks (Some t) = record {
  behind = (omega arith, refl);
  each = λ i image e. absurd (none-some image e);
}

images_so : (line i : ℕ) (d : TaskLine) (tasks : List TaskLine) (images : List (List ℕ)) (image : List ℕ) (t t' t'' : List ℕ)
    → i < length tasks → length images ≡ i → HasImages tasks images (total (take i tasks)) t t'
    → image_at line (get_or tasks i d).image t' ≡ Ok (image, t'') → HasImages tasks (images ++ image ∷ []) (total (take (i + 1) tasks)) t t''
images_so line i d tasks images image t t' t'' less size has e =
    let len = (get_or tasks i d).image in
    let before = total (take i tasks) in
    let both : total (take (i + 1) tasks) ≡ before + len = sum_by_more (λ (t : TaskLine). t.image) tasks i d less in
    let s = taken_by (nat_lt (length t') len) line len t' t'' image refl e in
    let left : length t' ≡ length t - before = ap length has.behind.1 ∙ length-drop before t in
    let here : IsImage tasks i image t = image_is line i d tasks image (Some t) (Some t') (Some t'') less has.behind e in
    record {
      behind = (
        omega (arith, both, left, s.0, has.behind.0),
        s.1 ∙ ap (drop len) has.behind.1 ∙ drop-drop len before t ∙ ap (λ (k : ℕ). drop k t) (omega (arith, both)),
      );
      each = λ k x got. one_of k x (got_last images image x k got) here;
    }
  where
    one_of : (k : ℕ) (x : List ℕ) → (slice_get images k ≡ Some x) ⊎ ((k ≡ length images) × (x ≡ image)) → IsImage tasks i image t → IsImage tasks k x t
    one_of k x (inl old) here = has.each k x old
    one_of k x (inr new) here = subst (λ (j : ℕ). IsImage tasks j x t) (sym (new.0 ∙ size)) (subst (λ (y : List ℕ). IsImage tasks i y t) (sym new.1) here)

pub images_more : (line i : ℕ) (d : TaskLine) (tasks : List TaskLine) (images : List (List ℕ)) (image : List ℕ) (a b c : Option (List ℕ))
    → i < length tasks → length images ≡ i → Of a b (HasImages tasks images (total (take i tasks)))
    → Of b c (λ t t'. image_at line (get_or tasks i d).image t ≡ Ok (image, t')) → Of a c (HasImages tasks (images ++ image ∷ []) (total (take (i + 1) tasks)))
images_more line i d tasks images image a b c less size has given =
    of_then a b c (HasImages tasks images (total (take i tasks))) (λ t t'. image_at line (get_or tasks i d).image t ≡ Ok (image, t')) (HasImages tasks (images ++ image ∷ []) (total (take (i + 1) tasks))) has given
    (λ x y z p q. images_so line i d tasks images image x y z less size p q)

pub only_behind : (tasks : List TaskLine) (images : List (List ℕ)) (n : ℕ) (a b : Option (List ℕ)) → Of a b (HasImages tasks images n) → Of a b (IsBehind n)
only_behind tasks images n a b has = of_map a b (HasImages tasks images n) (IsBehind n) has (λ t t' p. p.behind)

pub first_none : (tasks : List TaskLine) (mems : List (List ℕ)) (a : Option (List ℕ)) → mems ≡ [] → FirstMemories tasks 0 mems a a
first_none tasks mems a none = record {
  images = [];
  bytes = All-nil AreBytes;
  size = refl;
  are = none;
  sizes = ap (map size_of) none;
  there = no_images tasks a;
}

-- one more image, and its memory
pub one_more : (line i : ℕ) (d : TaskLine) (tasks : List TaskLine) (mems mems' : List (List ℕ)) (image : List ℕ) (a b c : Option (List ℕ))
    → i < length tasks → length image ≤ (get_or tasks i d).mem → FirstMemories tasks i mems a b
    → Of b c (λ t t'. image_at line (get_or tasks i d).image t ≡ Ok (image, t'))
    → mems' ≡ mems ++ memory_of image (get_or tasks i d).mem ∷ [] → AreBytes image → FirstMemories tasks (i + 1) mems' a c
one_more line i d tasks mems mems' image a b c less fits f given made bytes =
    let l = get_or tasks i d in
    let more : take (i + 1) tasks ≡ take i tasks ++ l ∷ [] = take_more tasks i d less in
    let m = memory_of image l.mem in
    record {
      images = f.images ++ image ∷ [];
      bytes = All-push AreBytes f.images image f.bytes bytes;
      size = omega (arith, length-append f.images (image ∷ []), f.size);
      are = made ∙ ap (λ (ms : List (List ℕ)). ms ++ m ∷ []) f.are
          ∙ sym (memories_more (take i tasks) f.images l image (omega (arith, f.size, length-take-le i tasks (omega (arith, less)))))
          ∙ ap (λ (ls : List TaskLine). memories ls (f.images ++ image ∷ [])) (sym more);
      sizes = subst (λ (ls : List TaskLine). AreMemories ls mems') (sym more)
          (subst (AreMemories (take i tasks ++ l ∷ [])) (sym made) (sizes_more (take i tasks) mems l m f.sizes (filled image l.mem fits)));
      there = images_more line i d tasks f.images image a b c less f.size f.there given;
    }

pub all_read : (tasks : List TaskLine) (n : ℕ) (mems : List (List ℕ)) (a b : Option (List ℕ)) → n ≡ length tasks → FirstMemories tasks n mems a b → MemoriesRead tasks mems a b
all_read tasks n mems a b is f =
    let all : take n tasks ≡ tasks = take_all n tasks (omega (arith, is)) in
    record {
      images = f.images;
      bytes = f.bytes;
      size = f.size ∙ is;
      are = f.are ∙ ap (λ (ls : List TaskLine). memories ls f.images) all;
      sizes = subst (λ (ls : List TaskLine). AreMemories ls mems) all f.sizes;
      there = subst (λ (ls : List TaskLine). Of a b (HasImages tasks f.images (total ls))) all f.there;
    }
