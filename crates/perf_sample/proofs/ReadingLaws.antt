-- Bytes taken from a source, and how reading stops.
use Rattle.std.proofs.Common.{◌≡◌, ℕ, ◌+◌, ◌-◌, ◌≤◌, ◌<◌, min, lt-ltb, List, [], ◌++◌, length, take, drop, arith, length-append, Option, None, Some, inr, refl, sym, ap, ◌∙◌, subst}
use Rattle.std.specs.Io.KnownBytes.{Consumes, Keeps}
use Rattle.std.proofs.lemmas.List.{length-take, length-take-le, length-drop, drop_all}
use borrow.Rule.Slice.PartMut.{put_mid, post_of}
use Rattle.ctr_port.specs.InHand.{Of}
use Rattle.ctr_port.proofs.PieceLaws.{taken_nothing, taken_then}
use Rattle.perf_sample.specs.Format.{Cause, OfRead, OfCount, OfBytes, FaultKinds, Break, StoppedBy, Stops, IsCut, BreaksBy, BrokeBy, Broke}
use Rattle.perf_sample.specs.Reading.{sample_faults, cut_at}
use Rattle.perf_sample.proofs.BreakLaws.{not_empty}
use Rattle.perf_sample.specs.declared.faults.SampleFault.{SampleFault}
use Rattle.perf_sample.specs.declared.faults.SampleFault.TheVariants as fault
use Rattle.perf_sample.specs.declared.faults.Place.{Place}
use Rattle.perf_sample.specs.Breaks.{At}

-- bytes were taken, and then none
pub taken_kept : (a b c : Option (List ℕ)) (x : List ℕ) → Consumes a b x → Keeps b c → Consumes a c x
taken_kept None b c x p q = tt
taken_kept (Some xs) None c x p q = absurd p
taken_kept (Some xs) (Some ys) None x p q = absurd q
taken_kept (Some xs) (Some ys) (Some zs) x p q = p ∙ ap (λ (t : List ℕ). x ++ t) (sym q)

-- a read into a buffer from a place on gives no more than fits there, and the buffer keeps its length
pub read_room : (at k n : ℕ) (buf ys : List ℕ) → at ≤ length buf → k ≡ length buf - at → length ys ≡ length (take k (drop at buf)) → n ≤ length ys → at + n ≤ length buf
read_room at k n buf ys within room len most =
    let part : length (drop at buf) ≡ length buf - at = length-drop at buf in
    let all : length (take k (drop at buf)) ≡ min k (length (drop at buf)) = length-take k (drop at buf) in
    omega (arith, within, room, len, most, part, all)

pub read_length : (at k : ℕ) (buf ys : List ℕ) → at ≤ length buf → k ≡ length buf - at → length ys ≡ length (take k (drop at buf)) → length (put_mid at k buf ys) ≡ length buf
read_length at k buf ys within room len =
    let part : length (drop at buf) ≡ length buf - at = length-drop at buf in
    let all : length (take k (drop at buf)) ≡ min k (length (drop at buf)) = length-take k (drop at buf) in
    let front = take at buf in
    let rest = post_of at k buf in
    let none : rest ≡ [] = drop_all k (drop at buf) (omega (arith, part, room)) in
    omega (arith, within, room, len, part, all, ap length none, length-take-le at buf within, length-append front (ys ++ rest), length-append ys rest)

-- bytes that are cut short within what follows others are cut short
stops_by : {F : Type 0} (kinds : FaultKinds F) (s : Cause) (a b c : Option (List ℕ)) (y : List ℕ)
    (p q : List ℕ → Break F) (f : F) → Consumes a b y
    → ((z : List ℕ) (r : F × List ℕ) → p z ≡ Some r → q (y ++ z) ≡ Some r)
    → StoppedBy kinds s p b c f → StoppedBy kinds s q a c f
stops_by kinds OfCount a b c y p q f took all h = absurd h
stops_by kinds OfRead a b c y p q f took all (x, then, (g, short, e)) =
    (y ++ x, taken_then a b c y x took then, (g, short, all x (g, []) e))
stops_by kinds OfBytes None b c y p q f took all h = tt
stops_by kinds OfBytes (Some t) None c y p q f took all h = absurd took
stops_by kinds OfBytes (Some t) (Some u) None y p q f took all h = absurd h
stops_by kinds OfBytes (Some t) (Some u) (Some v) y p q f took all h = rw took (all u (f, v) h)

-- reading stopped in fields that follow others
pub stops_after : {F : Type 0} (kinds : FaultKinds F) (a b c : Option (List ℕ)) (y : List ℕ)
    (p q : List ℕ → Break F) (f : F) → Consumes a b y
    → ((z : List ℕ) (r : F × List ℕ) → p z ≡ Some r → q (y ++ z) ≡ Some r)
    → Stops kinds p b c f → Stops kinds q a c f
stops_after kinds a b c y p q f took all h =
    stops_by kinds (kinds.cause_of f) a b c y p q f took all h

-- the same where nothing comes before
pub stops_as : {F : Type 0} (kinds : FaultKinds F) (a b : Option (List ℕ)) (p q : List ℕ → Break F)
    (f : F) → ((z : List ℕ) (r : F × List ℕ) → p z ≡ Some r → q z ≡ Some r)
    → Stops kinds p a b f → Stops kinds q a b f
stops_as kinds a b p q f all h = stops_after kinds a a b [] p q f (taken_nothing a) all h

-- and in fields of one record that follow others of it
broke_by : {F : Type 0} (kinds : FaultKinds F) (s : Cause) (a b c : Option (List ℕ)) (y : List ℕ)
    (p q : List ℕ → Break F) (f : F) → 0 < length y → Consumes a b y
    → ((z : List ℕ) (r : F × List ℕ) → p z ≡ Some r → q (y ++ z) ≡ Some r)
    → StoppedBy kinds s p b c f → BrokeBy kinds s q a c f
broke_by kinds OfCount a b c y p q f some took all h = absurd h
broke_by kinds OfRead a b c y p q f some took all (x, next, (g, short, e)) = (
  y ++ x,
  taken_then a b c y x took next,
  inr (g, short, record { some = not_empty y x some; first = all x (g, []) e }),
)
broke_by kinds OfBytes None b c y p q f some took all h = tt
broke_by kinds OfBytes (Some t) None c y p q f some took all h = absurd took
broke_by kinds OfBytes (Some t) (Some u) None y p q f some took all h = absurd h
broke_by kinds OfBytes (Some t) (Some u) (Some v) y p q f some took all h =
    rw took (record { some = not_empty y u some; first = all u (f, v) h })

pub broke_after : {F : Type 0} (kinds : FaultKinds F) (a b c : Option (List ℕ)) (y : List ℕ)
    (p q : List ℕ → Break F) (f : F) → 0 < length y → Consumes a b y
    → ((z : List ℕ) (r : F × List ℕ) → p z ≡ Some r → q (y ++ z) ≡ Some r)
    → Stops kinds p b c f → Broke kinds q a c f
broke_after kinds a b c y p q f some took all h =
    broke_by kinds (kinds.cause_of f) a b c y p q f some took all h

-- a read that failed in a field
pub cut_short : (a b : Option (List ℕ)) (p : Place) → ((x : List ℕ) × (length x < 8) × Consumes a b x) → (x : List ℕ) × Consumes a b x × IsCut sample_faults (cut_at (At p)) x
cut_short a b p (x, short, took) =
    (x, took, (fault.Short p, refl, rw (lt-ltb (length x) 8 short) (ap (λ (t : List ℕ). Some (fault.Short p, t)) (drop_all 8 x (omega (arith, short))))))

-- bytes that were taken stood in front of those that are left
pub of_taken : (a b : Option (List ℕ)) (x : List ℕ) (P : List ℕ → List ℕ → Type 0) → Consumes a b x → ((z : List ℕ) → P (x ++ z) z) → Of a b P
of_taken None b x P took all = tt
of_taken (Some t) None x P took all = absurd took
of_taken (Some t) (Some u) x P took all = subst (λ (s : List ℕ). P s u) (sym took) (all u)
