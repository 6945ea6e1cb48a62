-- The counts of a history as a balance that is carried from event to event, and back.
use Rattle.std.proofs.Common.{◌≡◌, ℕ, zero, suc, ◌+◌, ◌<◌, ◌≤◌, ◌⊎◌, inl, inr, List, [], ◌∷◌, cond, get_or, take, refl, sym, ◌∙◌, ap, arith}
use Rattle.std.proofs.lemmas.List.Sums.{sum_by-cons}
use Rattle.ctr_buffer.specs.declared.event.Event.{Event}
use Rattle.ctr_buffer.specs.declared.event.Event.TheVariants.{Push, Swap, Pop, Clear, SetDepth, Turn, Poke}
use Rattle.ctr_buffer.specs.Entry.{Entry}
use Rattle.ctr_buffer.specs.History.{is_push, is_pop}
use Rattle.ctr_buffer.specs.Visible.{IsVisibleAt, IsLeft, OneIsVisible, HasRecord, pops, pushes}

-- from a balance on, these events keep a transfer and end at a balance
abbrev pub Keep : ℕ → ℕ → List Event → ℕ → Type 0
Keep size balance [] end = balance ≡ end
Keep size balance (Push _ ∷ later) end = (suc balance < size) × Keep size (suc balance) later end
Keep size zero (Pop ∷ later) end = ⊥
Keep size (suc balance) (Pop ∷ later) end = Keep size balance later end
Keep size zero (Swap _ ∷ later) end = ⊥
Keep size (suc balance) (Swap _ ∷ later) end = Keep size (suc balance) later end
Keep size balance (Clear ∷ later) end = Keep size balance later end
Keep size balance (SetDepth _ ∷ later) end = Keep size balance later end
Keep size balance (Turn _ ∷ later) end = Keep size balance later end
Keep size balance (Poke _ _ _ ∷ later) end = Keep size balance later end

-- the same as counts, with a balance to begin with
pub record IsBalanceFrom (size balance : ℕ) (events : List Event) : Type 0 where
  pub least : pops events ≤ balance + pushes events
  pub most : balance + pushes events < pops events + size

pub record IsLeftFrom (size balance : ℕ) (later : List Event) (k : ℕ) : Type 0 where
  pub balanced : (n : ℕ) → IsBalanceFrom size balance (take n later)
  pub swaps : (n : ℕ) (e : Entry) → get_or later n Clear ≡ Swap e
      → pops (take n later) < balance + pushes (take n later)
  pub end : balance + pushes later ≡ pops later + k

pub from_none : (size : ℕ) (later : List Event) (k : ℕ) → IsLeft size later k
    → IsLeftFrom size 0 later k
from_none size later k h = record {
  balanced =
      λ n. record {
        least = omega (arith, (h.balanced n).least);
        most = omega
            (arith, (h.balanced n).most);
      };
  swaps = λ n e is. omega (arith, h.swaps n e is);
  end = omega (arith, h.end);
}

pub to_none : (size : ℕ) (later : List Event) (k : ℕ) → IsLeftFrom size 0 later k
    → IsLeft size later k
to_none size later k h = record {
  balanced =
      λ n. record {
        least = omega (arith, (h.balanced n).least);
        most = omega
            (arith, (h.balanced n).most);
      };
  swaps = λ n e is. omega (arith, h.swaps n e is);
  end = omega (arith, h.end);
}

-- an event moves the balance from b to c
abbrev pub Moves : Event → ℕ → ℕ → Type 0
Moves x b c = (xs : List Event) → b + pushes (x ∷ xs) + pops xs ≡ c + pushes xs + pops (x ∷ xs)

pub pushed_one : (e : Entry) (xs : List Event) → pushes (Push e ∷ xs) ≡ 1 + pushes xs
pushed_one e xs = sum_by-cons (λ x. cond (is_push x) 1 0) (Push e) xs

pub popped_one : (xs : List Event) → pops (Pop ∷ xs) ≡ 1 + pops xs
popped_one xs = sum_by-cons (λ x. cond (is_pop x) 1 0) Pop xs

pub push_moves : (e : Entry) (b : ℕ) → Moves (Push e) b (suc b)
push_moves e b xs = omega (arith, pushed_one e xs)

pub pop_moves : (b : ℕ) → Moves Pop (suc b) b
pop_moves b xs = omega (arith, popped_one xs)

-- what the first event leaves is kept by the others
pub behind : (size b c : ℕ) (x : Event) (xs : List Event) (k : ℕ) → Moves x b c
    → IsLeftFrom size b (x ∷ xs) k → IsLeftFrom size c xs k
behind size b c x xs k moves h = record {
  balanced = λ n.
      record {
        least = omega (arith, moves (take n xs), (h.balanced (suc n)).least);
        most = omega (arith, moves (take n xs), (h.balanced (suc n)).most);
      };
  swaps = λ n e is. omega (arith, moves (take n xs), h.swaps (suc n) e is);
  end = omega (arith, moves xs, h.end);
}

pub balanced_from : (size b c : ℕ) (x : Event) (xs : List Event) (n : ℕ) → b < size → Moves x b c
    → ((m : ℕ) → IsBalanceFrom size c (take m xs))
    → IsBalanceFrom size b (take n (x ∷ xs))
balanced_from size b c x xs zero below moves rest =
    record { least = omega arith; most = omega (arith, below) }
balanced_from size b c x xs (suc n) below moves rest =
    record {
      least = omega (arith, moves (take n xs), (rest n).least);
      most = omega
          (arith, moves (take n xs), (rest n).most);
    }

pub unswapped : (b c : ℕ) (x : Event) (xs : List Event) (n : ℕ) (e : Entry) → Moves x b c
    → ((f : Entry) → x ≡ Swap f → 0 < b)
    → ((m : ℕ) (f : Entry) → get_or xs m Clear ≡ Swap f → pops (take m xs) < c + pushes (take m xs))
    → get_or (x ∷ xs) n Clear ≡ Swap e
    → pops (take n (x ∷ xs)) < b + pushes (take n (x ∷ xs))
unswapped b c x xs zero e moves first rest is = omega (arith, first e is)
unswapped b c x xs (suc n) e moves first rest is = omega (arith, moves (take n xs), rest n e is)

pub before : (size b c : ℕ) (x : Event) (xs : List Event) (k : ℕ) → b < size → Moves x b c
    → ((e : Entry) → x ≡ Swap e → 0 < b)
    → IsLeftFrom size c xs k → IsLeftFrom size b (x ∷ xs) k
before size b c x xs k below moves swaps h = record {
  balanced = λ n. balanced_from size b c x xs n below moves h.balanced;
  swaps = λ n e is. unswapped b c x xs n e moves swaps h.swaps is;
  end = omega (arith, moves xs, h.end);
}

pub to_keep : (size b : ℕ) (later : List Event) (k : ℕ) → IsLeftFrom size b later k
    → Keep size b later k
to_keep size b [] k h = omega (arith, h.end)
to_keep size b (Push e ∷ later) k h = (
  omega (arith, (h.balanced 1).most),
  to_keep size (suc b) later k
      (behind size b (suc b) (Push e) later k (push_moves e b) h),
)
to_keep size zero (Pop ∷ later) k h = absurd (omega (arith, (h.balanced 1).least))
to_keep size (suc b) (Pop ∷ later) k h =
    to_keep size b later k (behind size (suc b) b Pop later k (pop_moves b) h)
to_keep size zero (Swap e ∷ later) k h = absurd (omega (arith, h.swaps 0 e refl))
to_keep size (suc b) (Swap e ∷ later) k h =
    to_keep size (suc b) later k (behind size (suc b) (suc b) (Swap e) later k (λ xs. refl) h)
to_keep size b (Clear ∷ later) k h =
    to_keep size b later k (behind size b b Clear later k (λ xs. refl) h)
to_keep size b (SetDepth d ∷ later) k h =
    to_keep size b later k (behind size b b (SetDepth d) later k (λ xs. refl) h)
to_keep size b (Turn w ∷ later) k h =
    to_keep size b later k (behind size b b (Turn w) later k (λ xs. refl) h)
to_keep size b (Poke i part value ∷ later) k h =
    to_keep size b later k (behind size b b (Poke i part value) later k (λ xs. refl) h)

pub none_balanced : (size b n : ℕ) → b < size → IsBalanceFrom size b (take n [])
none_balanced size b zero below = record { least = omega arith; most = omega (arith, below) }
none_balanced size b (suc n) below = record { least = omega arith; most = omega (arith, below) }

pub none_swaps : (b n : ℕ) (e : Entry) → get_or [] n Clear ≡ Swap e
    → pops (take n []) < b + pushes (take n [])
none_swaps b zero e is = absurd (cc is)
none_swaps b (suc n) e is = absurd (cc is)

pub from_keep : (size b : ℕ) (later : List Event) (k : ℕ) → b < size → Keep size b later k
    → IsLeftFrom size b later k
from_keep size b [] k below h =
    record {
      balanced = λ n. none_balanced size b n below;
      swaps = none_swaps b;
      end = omega
          (arith, h);
    }
from_keep size b (Push e ∷ later) k below h =
    before size b (suc b) (Push e) later k below (push_moves e b) (λ f is. absurd (cc is))
    (from_keep size (suc b) later k h.0 h.1)
from_keep size zero (Pop ∷ later) k below h = absurd h
from_keep size (suc b) (Pop ∷ later) k below h =
    before size (suc b) b Pop later k below (pop_moves b) (λ f is. absurd (cc is))
    (from_keep size b later k (omega (arith, below)) h)
from_keep size zero (Swap e ∷ later) k below h = absurd h
from_keep size (suc b) (Swap e ∷ later) k below h =
    before size (suc b) (suc b) (Swap e) later k below (λ xs. refl) (λ f is. omega arith)
    (from_keep size (suc b) later k below h)
from_keep size b (Clear ∷ later) k below h =
    before size b b Clear later k below (λ xs. refl) (λ f is. absurd (cc is))
    (from_keep size b later k below h)
from_keep size b (SetDepth d ∷ later) k below h =
    before size b b (SetDepth d) later k below (λ xs. refl) (λ f is. absurd (cc is))
    (from_keep size b later k below h)
from_keep size b (Turn w ∷ later) k below h =
    before size b b (Turn w) later k below (λ xs. refl) (λ f is. absurd (cc is))
    (from_keep size b later k below h)
from_keep size b (Poke i part value ∷ later) k below h =
    before size b b (Poke i part value) later k below (λ xs. refl) (λ f is. absurd (cc is))
    (from_keep size b later k below h)

-- some event records r, and those after it keep it
abbrev pub VisibleIn : ℕ → List Event → ℕ → Entry → Type 0
VisibleIn size [] k r = ⊥
VisibleIn size (e ∷ later) k r = (HasRecord e r × Keep size 0 later k) ⊎ VisibleIn size later k r

abbrev pub SomeVisible : ℕ → List Event → ℕ → Entry → Type 0
SomeVisible size events k r = (at : ℕ) × IsVisibleAt size events k r at

pub nothing_visible : {A : Type 0} (size k : ℕ) (r : Entry) (at : ℕ) → IsVisibleAt size [] k r at
    → A
nothing_visible size k r zero h = absurd h.records
nothing_visible size k r (suc at) h = absurd h.records

pub visible_behind : (size : ℕ) (x : Event) (xs : List Event) (k : ℕ) (r : Entry) (at : ℕ)
    → IsVisibleAt size (x ∷ xs) k r (suc at) → IsVisibleAt size xs k r at
visible_behind size x xs k r at h = record { records = h.records; left = h.left }

pub to_visible_in : (size : ℕ) (events : List Event) (k : ℕ) (r : Entry) (at : ℕ)
    → IsVisibleAt size events k r at → VisibleIn size events k r
to_visible_in size [] k r at h = nothing_visible size k r at h
to_visible_in size (x ∷ xs) k r zero h =
    inl (h.records, to_keep size 0 xs k (from_none size xs k h.left))
to_visible_in size (x ∷ xs) k r (suc at) h =
    inr (to_visible_in size xs k r at (visible_behind size x xs k r at h))

pub later_visible : (size : ℕ) (x : Event) (xs : List Event) (k : ℕ) (r : Entry)
    → SomeVisible size xs k r → SomeVisible size (x ∷ xs) k r
later_visible size x xs k r (at, h) = (suc at, record { records = h.records; left = h.left })

pub from_visible_in : (size : ℕ) (events : List Event) (k : ℕ) (r : Entry) → 0 < size
    → VisibleIn size events k r → SomeVisible size events k r
from_visible_in size [] k r some v = absurd v
from_visible_in size (x ∷ xs) k r some (inl v) =
    (zero, record { records = v.0; left = to_none size xs k (from_keep size 0 xs k some v.1) })
from_visible_in size (x ∷ xs) k r some (inr v) =
    later_visible size x xs k r (from_visible_in size xs k r some v)

-- two balances that these events keep and that end alike began alike
pub same_start : (size a b : ℕ) (later : List Event) (k : ℕ) → IsLeftFrom size a later k
    → IsLeftFrom size b later k → a ≡ b
same_start size a b later k h g = omega (arith, h.end, g.end)

-- no event behind another one leaves its entry as deep
pub none_behind : {A : Type 0} (size b : ℕ) (later : List Event) (k : ℕ) (q : Entry) (at : ℕ)
    → Keep size b later k → IsLeftFrom size b later k
    → IsVisibleAt size later k q at → A
none_behind size b [] k q at h g v = nothing_visible size k q at v
none_behind size b (Push e ∷ later) k q zero h g v =
    let next = behind size b (suc b) (Push e) later k (push_moves e b) g in
    absurd (omega (arith, next.end, v.left.end))
none_behind size b (Push e ∷ later) k q (suc at) h g v =
    none_behind size (suc b) later k q at h.1
    (behind size b (suc b) (Push e) later k (push_moves e b) g)
    (visible_behind size (Push e) later k q at v)
none_behind size zero (Pop ∷ later) k q at h g v = absurd h
none_behind size (suc b) (Pop ∷ later) k q zero h g v = absurd v.records
none_behind size (suc b) (Pop ∷ later) k q (suc at) h g v =
    none_behind size b later k q at h (behind size (suc b) b Pop later k (pop_moves b) g)
    (visible_behind size Pop later k q at v)
none_behind size zero (Swap e ∷ later) k q at h g v = absurd h
none_behind size (suc b) (Swap e ∷ later) k q zero h g v =
    absurd (omega (arith, g.end, v.left.end))
none_behind size (suc b) (Swap e ∷ later) k q (suc at) h g v =
    none_behind size (suc b) later k q at h
    (behind size (suc b) (suc b) (Swap e) later k (λ xs. refl) g)
    (visible_behind size (Swap e) later k q at v)
none_behind size b (Clear ∷ later) k q zero h g v = absurd v.records
none_behind size b (Clear ∷ later) k q (suc at) h g v =
    none_behind size b later k q at h (behind size b b Clear later k (λ xs. refl) g)
    (visible_behind size Clear later k q at v)
none_behind size b (SetDepth d ∷ later) k q zero h g v = absurd v.records
none_behind size b (SetDepth d ∷ later) k q (suc at) h g v =
    none_behind size b later k q at h (behind size b b (SetDepth d) later k (λ xs. refl) g)
    (visible_behind size (SetDepth d) later k q at v)
none_behind size b (Turn w ∷ later) k q zero h g v = absurd v.records
none_behind size b (Turn w ∷ later) k q (suc at) h g v =
    none_behind size b later k q at h (behind size b b (Turn w) later k (λ xs. refl) g)
    (visible_behind size (Turn w) later k q at v)
none_behind size b (Poke i part value ∷ later) k q zero h g v = absurd v.records
none_behind size b (Poke i part value ∷ later) k q (suc at) h g v =
    none_behind size b later k q at h (behind size b b (Poke i part value) later k (λ xs. refl) g)
    (visible_behind size (Poke i part value) later k q at v)

pub none_later : {A : Type 0} (size : ℕ) (later : List Event) (k : ℕ) (q : Entry) (at : ℕ)
    → IsLeft size later k → IsVisibleAt size later k q at → A
none_later size later k q at h v =
    let g = from_none size later k h in
    none_behind size 0 later k q at (to_keep size 0 later k g) g v

pub same_record : (x : Event) (r q : Entry) → HasRecord x r → HasRecord x q → r ≡ q
same_record (Push e) r q h g = sym h ∙ g
same_record (Swap e) r q h g = sym h ∙ g
same_record Pop r q h g = absurd h
same_record Clear r q h g = absurd h
same_record (SetDepth d) r q h g = absurd h
same_record (Turn w) r q h g = absurd h
same_record (Poke i part value) r q h g = absurd h

pub one_is_visible : OneIsVisible
one_is_visible size [] k r q i j h g = nothing_visible size k r i h
one_is_visible size (x ∷ xs) k r q zero zero h g = (refl, same_record x r q h.records g.records)
one_is_visible size (x ∷ xs) k r q zero (suc j) h g =
    none_later size xs k q j h.left (visible_behind size x xs k q j g)
one_is_visible size (x ∷ xs) k r q (suc i) zero h g =
    none_later size xs k r i g.left (visible_behind size x xs k r i h)
one_is_visible size (x ∷ xs) k r q (suc i) (suc j) h g =
    let same =
    one_is_visible size xs k r q i j (visible_behind size x xs k r i h)
    (visible_behind size x xs k q j g) in
    (ap (λ (n : ℕ). suc n) same.0, same.1)
