-- What reads and writes of registers by number keep of the facts of the registers: a line for each
-- row.
use Rattle.std.proofs.Common.{ℕ, ◌≡◌, ◌≢◌, ◌/◌, ◌%◌, ◌^◌, ◌<◌, Bool, true, false, cond, nat_eq, List, [], ◌∷◌, bit_and, bit_or, refl, sym, ◌∙◌, ap, arith, lit<}
use Rattle.std.proofs.lemmas.Nat.{and_le_l, and_le_r, and_mask, or_lt}
use Rattle.ctr_bits.specs.Field.{field_of, with_field}
use Rattle.ctr_bits.specs.Mask.{with_masked}
use Rattle.ctr_bits.specs.MaskBits.{mask_twice, merged_stays_within}
use Rattle.guest_modes.specs.declared.causes.TheConstants.{INTERRUPTS}
use Rattle.guest_modes.specs.declared.registers.Priv.{Priv}
use Rattle.guest_modes.specs.Registers.{Row, row_in, row_of, machine_registers, supervisor_registers, hypervisor_registers, virtual_registers, fixed, shown, lowered, lifted}
use Rattle.guest_modes.specs.Words.{IsWithin, IsStatus, status_written}
use Rattle.guest_modes.specs.WordLemmas.{under_part, status_in_part, status_rewritten, shown_within}
use Rattle.guest_modes.specs.Facts.{IsPriv, Kept, keeps, kept, IsKept, WrittenKeeps, ReadFits}
use Rattle.std.specs.Prelude.{slice_index_or, slice_set}
use Rattle.std.specs.List.{All}
use Rattle.std.proofs.lemmas.List.Elements.{All-set, All-nil, All-cons}

pub either : {A : Type 0} (P : A → Type 0) (b : Bool) (x y : A) → P x → P y → P (cond b x y)
either P true x y at_x at_y = at_x
either P false x y at_x at_y = at_y

-- sizes
pub small_within : (mask w : ℕ) → mask < 2 ^ 64 → IsWithin mask w → w < 2 ^ 64
small_within mask w m h = omega (arith, and_le_r w mask, h, m)

pub small_left : (a b : ℕ) → a < 2 ^ 64 → bit_and a b < 2 ^ 64
small_left a b p = omega (arith, and_le_l a b, p)

pub small_right : (a b : ℕ) → b < 2 ^ 64 → bit_and a b < 2 ^ 64
small_right a b p = omega (arith, and_le_r a b, p)

pub small_or : (a b : ℕ) → a < 2 ^ 64 → b < 2 ^ 64 → bit_or a b < 2 ^ 64
small_or a b p q = or_lt 64 a b p q

pub small_lowered : (w : ℕ) → lowered w < 2 ^ 64
small_lowered w =
    small_or (bit_and w 0x444 / 2) (bit_and w 0x2000) (omega (arith, and_le_r w 0x444))
    (small_right w 0x2000 (lit< tt))

pub full : (w : ℕ) → w < 2 ^ 64 → IsWithin 0xFFFFFFFFFFFFFFFF w
full w p =
    let is : bit_and w 0xFFFFFFFFFFFFFFFF ≡ w % 2 ^ 64 = and_mask w 64 in
    omega (arith, is, p)

-- the fact of the register at a place, and all facts with another word there
pub is : (n : ℕ) (p : Priv) → n < 28 → IsPriv p → IsKept (slice_index_or (kept p) n (keeps 0 0))
is n p lt h = h.words n (keeps 0 0) lt

pub set : (n : ℕ) (k : Kept) (p : Priv) → IsKept k → IsPriv p → All IsKept (slice_set (kept p) n k)
set n k p fits h = All-set IsKept (kept p) n k fits h.words

-- a register at a place of the list, after a write of the bits of its mask, of a whole word, and of
-- a part
pub masked : (n mask : ℕ) (p : Priv) (v : ℕ) → IsPriv p
    → All IsKept (slice_set (kept p) n (keeps mask (bit_and v mask)))
masked n mask p v h = set n (keeps mask (bit_and v mask)) p (mask_twice mask v) h

pub whole : (n : ℕ) (p : Priv) (v : ℕ) → v < 2 ^ 64 → IsPriv p
    → All IsKept (slice_set (kept p) n (keeps 0xFFFFFFFFFFFFFFFF v))
whole n p v fits h = set n (keeps 0xFFFFFFFFFFFFFFFF v) p (full v fits) h

abbrev pub at : ℕ → Priv → Kept
at n p = slice_index_or (kept p) n (keeps 0 0)

pub merges : (n part : ℕ) (p : Priv) (v : ℕ) → n < 28 → bit_and part (at n p).mask ≡ part → IsPriv p
    → All IsKept (slice_set (kept p) n (keeps (at n p).mask (with_masked part (at n p).word v)))
merges n part p v lt wider h =
    let k = at n p in
    set n (keeps k.mask (with_masked part k.word v)) p
    (merged_stays_within part k.mask k.word v wider (is n p lt h)) h

pub small : (n : ℕ) (p : Priv) → n < 28 → (at n p).mask < 2 ^ 64 → IsPriv p → (at n p).word < 2 ^ 64
small n p lt most h = small_within (at n p).mask (at n p).word most (is n p lt h)

-- the rows
pub record RowKeeps (r : Row) : Type 0 where
  pub writes : (p : Priv) (v : ℕ) → v < 2 ^ 64 → IsPriv p → IsPriv (r.writes p v)
  pub reads : (p : Priv) → IsPriv p → r.reads p < 2 ^ 64

-- a fact of each element, written one after another
infixr 5 ◌⊕◌
pub data Each {A : Type 0} (P : A → Type 0) : List A → Type 0 where
  done : Each P []
  ◌⊕◌ : {x : A} {xs : List A} → P x → Each P xs → Each P (x ∷ xs)

pub all_of : {A : Type 0} (P : A → Type 0) (xs : List A) → Each P xs → All P xs
all_of P [] done = All-nil P
all_of P (x ∷ xs) (here ⊕ later) = All-cons P x xs here (all_of P xs later)

pub found_keeps : (rs : List Row) (n : ℕ) (other : Row) → Each RowKeeps rs → RowKeeps other
    → RowKeeps (row_in rs n other)
found_keeps [] n other done h = h
found_keeps (r ∷ rs) n other (keep ⊕ rest) h =
    either RowKeeps (nat_eq r.number n) r (row_in rs n other) keep (found_keeps rs n other rest h)

pub fixed_keeps : (n v : ℕ) → v < 2 ^ 64 → RowKeeps (fixed n v)
fixed_keeps n v small = record { writes = λ p w s h. h; reads = λ p h. small }

pub status_either : (b : Bool) (kept new : ℕ) → (b ≡ false → IsStatus kept) → IsStatus new
    → IsStatus (cond b new kept)
status_either true kept new off on = on
status_either false kept new off on = off refl

pub unequal : (a : ℕ) → nat_eq a 2 ≡ false → a ≢ 2
unequal a e same = let wrong : false ≡ true = sym e ∙ ap (λ (n : ℕ). nat_eq n 2) same in cc

pub status_is_written : (old v : ℕ) → IsStatus old → IsStatus (status_written old v)
status_is_written old v h =
    let kept = bit_and v 0x80000019AA in
    status_either (nat_eq (field_of 11 2 kept) 2) kept (with_field 11 2 kept (field_of 11 2 old))
    (λ e. record { kept = mask_twice 0x80000019AA v; known = unequal (field_of 11 2 kept) e })
    (status_rewritten old v h)

pub machine_keeps : Each RowKeeps machine_registers
machine_keeps =
    record {
      writes = λ p v s h. record {
        status = status_is_written p.mstatus v h.status;
        words = h.words;
      };
      reads = λ p h. small_or p.mstatus 0xA00000000
          (small_within 0x80000019AA p.mstatus (lit< tt) h.status.kept) (lit< tt);
    }
    ⊕ fixed_keeps 0x301 0x8000000000141180 (lit< tt)
    ⊕ record {
      writes = λ p v s h. record { status = h.status; words = masked 0 0x4007FF p v h };
      reads = λ p h. small 0 p (lit< tt) (lit< tt) h;
    }
    ⊕ record {
      writes = λ p v s h. record { status = h.status; words = masked 1 0x2222 p v h };
      reads = λ p h. small_or p.mideleg 0x444 (small 1 p (lit< tt) (lit< tt) h) (lit< tt);
    }
    ⊕ record {
      writes = λ p v s h. record { status = h.status; words = masked 2 INTERRUPTS p v h };
      reads = λ p h. small 2 p (lit< tt) (lit< tt) h;
    }
    ⊕ record {
      writes = λ p v s h. record { status = h.status; words = masked 4 0xFFFFFFFFFFFFFFFD p v h };
      reads = λ p h. small 4 p (lit< tt) (lit< tt) h;
    }
    ⊕ record {
      writes = λ p v s h. record { status = h.status; words = whole 5 p v s h };
      reads = λ p h. small 5 p (lit< tt) (lit< tt) h;
    }
    ⊕ record {
      writes = λ p v s h. record { status = h.status; words = masked 6 0xFFFFFFFFFFFFFFFC p v h };
      reads = λ p h. small 6 p (lit< tt) (lit< tt) h;
    }
    ⊕ record {
      writes = λ p v s h. record { status = h.status; words = whole 7 p v s h };
      reads = λ p h. small 7 p (lit< tt) (lit< tt) h;
    }
    ⊕ record {
      writes = λ p v s h. record { status = h.status; words = whole 8 p v s h };
      reads = λ p h. small 8 p (lit< tt) (lit< tt) h;
    }
    ⊕ record {
      writes = λ p v s h. record {
        status = h.status;
        words =
            merges 3 0x2226 p v (lit< tt) refl h;
      };
      reads = λ p h. small 3 p (lit< tt) (lit< tt) h;
    }
    ⊕ record {
      writes = λ p v s h. record { status = h.status; words = whole 9 p v s h };
      reads = λ p h. small 9 p (lit< tt) (lit< tt) h;
    }
    ⊕ record {
      writes = λ p v s h. record { status = h.status; words = whole 10 p v s h };
      reads = λ p h. small 10 p (lit< tt) (lit< tt) h;
    }
    ⊕ fixed_keeps 0xF11 0 (lit< tt)
    ⊕ fixed_keeps 0xF12 0 (lit< tt)
    ⊕ fixed_keeps 0xF13 0 (lit< tt)
    ⊕ fixed_keeps 0xF14 0 (lit< tt)
    ⊕ fixed_keeps 0xF15 0 (lit< tt)
    ⊕ done

pub supervisor_keeps : Each RowKeeps supervisor_registers
supervisor_keeps =
    record {
      writes = λ p v s h. record { status = status_in_part p.mstatus v h.status; words = h.words };
      reads = λ p h. small_or (bit_and p.mstatus 0x122) 0x200000000
          (small_right p.mstatus 0x122 (lit< tt)) (lit< tt);
    }
    ⊕ record {
      writes = λ p v s h. record {
        status = h.status;
        words =
            merges 2 (bit_and p.mideleg 0x2222) p v (lit< tt)
            (under_part INTERRUPTS 0x2222 p.mideleg refl) h;
      };
      reads = λ p h. small_left p.mie (bit_and p.mideleg 0x2222) (small 2 p (lit< tt) (lit< tt) h);
    }
    ⊕ record {
      writes = λ p v s h. record {
        status = h.status;
        words =
            merges 3 (bit_and p.mideleg 0x2002) p v (lit< tt)
            (under_part INTERRUPTS 0x2002 p.mideleg refl) h;
      };
      reads = λ p h. small_left p.mip (bit_and p.mideleg 0x2222) (small 3 p (lit< tt) (lit< tt) h);
    }
    ⊕ record {
      writes = λ p v s h. record { status = h.status; words = masked 11 0xFFFFFFFFFFFFFFFD p v h };
      reads = λ p h. small 11 p (lit< tt) (lit< tt) h;
    }
    ⊕ record {
      writes = λ p v s h. record { status = h.status; words = whole 12 p v s h };
      reads = λ p h. small 12 p (lit< tt) (lit< tt) h;
    }
    ⊕ record {
      writes = λ p v s h. record { status = h.status; words = masked 13 0xFFFFFFFFFFFFFFFC p v h };
      reads = λ p h. small 13 p (lit< tt) (lit< tt) h;
    }
    ⊕ record {
      writes = λ p v s h. record { status = h.status; words = whole 14 p v s h };
      reads = λ p h. small 14 p (lit< tt) (lit< tt) h;
    }
    ⊕ record {
      writes = λ p v s h. record { status = h.status; words = whole 15 p v s h };
      reads = λ p h. small 15 p (lit< tt) (lit< tt) h;
    }
    ⊕ fixed_keeps 0x180 0 (lit< tt)
    ⊕ done

pub hypervisor_keeps : Each RowKeeps hypervisor_registers
hypervisor_keeps =
    record {
      writes = λ p v s h. record { status = h.status; words = masked 16 0x180 p v h };
      reads = λ p h. small_or p.hstatus 0x200000000 (small 16 p (lit< tt) (lit< tt) h) (lit< tt);
    }
    ⊕ record {
      writes = λ p v s h. record { status = h.status; words = masked 17 0x1FF p v h };
      reads = λ p h. small 17 p (lit< tt) (lit< tt) h;
    }
    ⊕ record {
      writes = λ p v s h. record { status = h.status; words = masked 18 0x2444 p v h };
      reads = λ p h. small 18 p (lit< tt) (lit< tt) h;
    }
    ⊕ record {
      writes = λ p v s h. record { status = h.status; words = merges 2 0x444 p v (lit< tt) refl h };
      reads = λ p h. small_right p.mie 0x444 (lit< tt);
    }
    ⊕ record {
      writes = λ p v s h. record { status = h.status; words = merges 3 0x4 p v (lit< tt) refl h };
      reads = λ p h. small_right p.mip 0x444 (lit< tt);
    }
    ⊕ record {
      writes = λ p v s h. record { status = h.status; words = merges 3 0x444 p v (lit< tt) refl h };
      reads = λ p h. small_right p.mip 0x444 (lit< tt);
    }
    ⊕ record {
      writes = λ p v s h. record { status = h.status; words = whole 19 p v s h };
      reads = λ p h. small 19 p (lit< tt) (lit< tt) h;
    }
    ⊕ record {
      writes = λ p v s h. record { status = h.status; words = whole 20 p v s h };
      reads = λ p h. small 20 p (lit< tt) (lit< tt) h;
    }
    ⊕ fixed_keeps 0x680 0 (lit< tt)
    ⊕ done

pub virtual_keeps : Each RowKeeps virtual_registers
virtual_keeps =
    record {
      writes = λ p v s h. record { status = h.status; words = masked 21 0x122 p v h };
      reads = λ p h. small_or p.vsstatus 0x200000000 (small 21 p (lit< tt) (lit< tt) h) (lit< tt);
    }
    ⊕ record {
      writes = λ p v s h. record {
        status = h.status;
        words =
            merges 2 (shown p) p (lifted v) (lit< tt) (shown_within p) h;
      };
      reads = λ p h. small_lowered (bit_and p.mie (shown p));
    }
    ⊕ record {
      writes = λ p v s h. record {
        status = h.status;
        words =
            merges 3 (bit_and (shown p) 0x2004) p (lifted v) (lit< tt)
            (under_part INTERRUPTS 0x2004 (shown p) refl) h;
      };
      reads = λ p h. small_lowered (bit_and p.mip (shown p));
    }
    ⊕ record {
      writes = λ p v s h. record { status = h.status; words = masked 22 0xFFFFFFFFFFFFFFFD p v h };
      reads = λ p h. small 22 p (lit< tt) (lit< tt) h;
    }
    ⊕ record {
      writes = λ p v s h. record { status = h.status; words = whole 23 p v s h };
      reads = λ p h. small 23 p (lit< tt) (lit< tt) h;
    }
    ⊕ record {
      writes = λ p v s h. record { status = h.status; words = masked 24 0xFFFFFFFFFFFFFFFC p v h };
      reads = λ p h. small 24 p (lit< tt) (lit< tt) h;
    }
    ⊕ record {
      writes = λ p v s h. record { status = h.status; words = whole 25 p v s h };
      reads = λ p h. small 25 p (lit< tt) (lit< tt) h;
    }
    ⊕ record {
      writes = λ p v s h. record { status = h.status; words = whole 26 p v s h };
      reads = λ p h. small 26 p (lit< tt) (lit< tt) h;
    }
    ⊕ fixed_keeps 0x280 0 (lit< tt)
    ⊕ done

pub row_keeps : (number : ℕ) → RowKeeps (row_of number)
row_keeps number =
    let none = fixed number 0 in
    let virtual = row_in virtual_registers number none in
    let hypervisor = row_in hypervisor_registers number virtual in
    let supervised = row_in supervisor_registers number hypervisor in
    found_keeps machine_registers number supervised machine_keeps
    (found_keeps supervisor_registers number hypervisor supervisor_keeps
    (found_keeps hypervisor_registers number virtual hypervisor_keeps
    (found_keeps virtual_registers number none virtual_keeps (fixed_keeps number 0 (lit< tt)))))

pub written_keeps : WrittenKeeps
written_keeps number v p s h = (row_keeps number).writes p v s h

pub read_fits : ReadFits
read_fits number p h = (row_keeps number).reads p h
