-- What a record buffer keeps to by every event.
use Rattle.std.proofs.Common.{ℕ, zero, suc, ◌+◌, ◌-◌, ◌%◌, List, [], ◌∷◌, take, arith, lit<}
use Rattle.std.specs.Prelude.{slice_index_or}
use Rattle.std.specs.List.{All, range_with_len}
use Rattle.std.proofs.lemmas.List.Elements.{All-nil, All-cons, All-head, All-tail, All-take, All-append, All-set, All-replicate, All-map}
use Rattle.ctr_csrs.specs.Depths.{entries_of}
use Rattle.ctr_buffer.specs.declared.event.Event.{Event}
use Rattle.ctr_buffer.specs.declared.event.Event.TheVariants.{Push, Swap, Pop, Clear, SetDepth, Turn, Poke}
use Rattle.ctr_buffer.specs.declared.slot.Part.{Part}
use Rattle.ctr_buffer.specs.declared.slot.Part.TheVariants.{Source, Target, Kind}
use Rattle.ctr_buffer.specs.Entry.{Entry, FitsPart, IsEntry, zero_entry, unlinked, with_part}
use Rattle.ctr_buffer.specs.Facts.{IsEvent, BuffersStay}
use Rattle.ctr_buffer.specs.History.{after}
use Rattle.ctr_buffer.specs.HistoryLaws.{stays}
use Rattle.ctr_buffer.specs.Stack.{Stack, size_of, first_last, entry_at}

pub zero_is : IsEntry zero_entry
zero_is = (lit< tt, lit< tt, lit< tt)

pub unlinked_is : (e : Entry) → IsEntry e → IsEntry (unlinked e)
unlinked_is e h = (omega (arith, h.0), h.1, h.2)

pub item_or : {X : Type 0} (P : X → Type 0) (xs : List X) (i : ℕ) (d : X) → All P xs → P d → P (slice_index_or xs i d)
item_or P [] i d h p = p
item_or P (x ∷ xs) zero d h p = All-head P x xs h
item_or P (x ∷ xs) (suc i) d h p = item_or P xs i d (All-tail P x xs h) p

pub first_last_is : (xs : List Entry) → All IsEntry xs → All IsEntry (first_last xs)
first_last_is [] h = All-nil IsEntry
first_last_is (e ∷ older) h =
    let last : IsEntry (unlinked e) = unlinked_is e (All-head IsEntry e older h) in
    All-append IsEntry older (unlinked e ∷ []) (All-tail IsEntry e older h)
    (All-cons IsEntry (unlinked e) [] last (All-nil IsEntry))

pub part_is : (e : Entry) (part : Part) (value : ℕ) → IsEntry e → FitsPart part value → IsEntry (with_part e part value)
part_is e Source value h fits = (fits, h.1, h.2)
part_is e Target value h fits = (h.0, fits, h.2)
part_is e Kind value h fits = (h.0, h.1, fits)

pub after_slots : (s : Stack) (e : Event) → All IsEntry s.slots → IsEvent e → All IsEntry (after s e).slots
after_slots s (Push e) h fits = All-cons IsEntry e (take (size_of s - 1) s.slots) fits.entry (All-take IsEntry (size_of s - 1) s.slots h)
after_slots s (Swap e) h fits = All-set IsEntry s.slots 0 e fits.entry h
after_slots s Pop h fits = first_last_is s.slots h
after_slots s Clear h fits = All-replicate IsEntry (size_of s) zero_entry zero_is
after_slots s (SetDepth d) h fits = All-replicate IsEntry (entries_of d) zero_entry zero_is
after_slots s (Turn w) h fits =
    All-map IsEntry (λ i. slice_index_or s.slots ((s.pointer + size_of s - w % size_of s + i) % size_of s) zero_entry) (range_with_len 0 (size_of s))
    (λ k d lt. item_or IsEntry s.slots _ zero_entry h zero_is)
after_slots s (Poke i part value) h fits =
    All-set IsEntry s.slots i (with_part (entry_at s i) part value) (part_is (entry_at s i) part value (item_or IsEntry s.slots i zero_entry h zero_is) fits) h

pub buffers_stay : BuffersStay
buffers_stay s e h fits = record { stack = stays s e h.stack; slots = after_slots s e h.slots fits }
