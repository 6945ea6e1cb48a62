use Rattle.std.proofs.Common.{ℕ, [], ◌∷◌, bit_and, lit<, refl}
use Rattle.std.proofs.lemmas.List.Elements.{All-from_recursion}
use Rattle.guest_modes.specs.Registers.{shown, lifted}
use Rattle.guest_modes.specs.Numbers.{is_in}
use Rattle.guest_modes.specs.Views.{ReadsItsBits, WritesItsBits, guest_bits, readings, supervisor_bits, views}
use Rattle.guest_modes.proofs.ViewLemmas.{merged_inside, merged_outside, part_fits, shown_fits, guest_view, is_lifted, part_bit, whole_bit, masked_bit, delegated_bit, status_places, supervisor_places, guest_places, one_length, both_lengths}
use Rattle.guest_modes.proofs.laws.privilege_laws.Goals as goal

pub returns-clause-views_write_their_bits : goal.returns-clause-views_write_their_bits
returns-clause-views_write_their_bits c = λ p v. All-from_recursion (WritesItsBits p v) views (
  record { changed = λ i q e. merged_inside 0x122 p.mstatus v i (lit< tt) q e; others = λ i q e. merged_outside 0x122 p.mstatus v i (lit< tt) q e },
  (
    record { changed = λ i q e. merged_inside (bit_and p.mideleg 0x2222) p.mie v i (part_fits p.mideleg 0x2222 (lit< tt)) q e; others = λ i q e. merged_outside (bit_and p.mideleg 0x2222) p.mie v i (part_fits p.mideleg 0x2222 (lit< tt)) q e },
    (
      record { changed = λ i q e. merged_inside (bit_and p.mideleg 0x2002) p.mip v i (part_fits p.mideleg 0x2002 (lit< tt)) q e; others = λ i q e. merged_outside (bit_and p.mideleg 0x2002) p.mip v i (part_fits p.mideleg 0x2002 (lit< tt)) q e },
      (
        record { changed = λ i q e. merged_inside 0x2226 p.mip v i (lit< tt) q e; others = λ i q e. merged_outside 0x2226 p.mip v i (lit< tt) q e },
        (
          record { changed = λ i q e. merged_inside 0x444 p.mie v i (lit< tt) q e; others = λ i q e. merged_outside 0x444 p.mie v i (lit< tt) q e },
          (
            record { changed = λ i q e. merged_inside 0x4 p.mip v i (lit< tt) q e; others = λ i q e. merged_outside 0x4 p.mip v i (lit< tt) q e },
            (
              record { changed = λ i q e. merged_inside 0x444 p.mip v i (lit< tt) q e; others = λ i q e. merged_outside 0x444 p.mip v i (lit< tt) q e },
              (
                record { changed = λ i q e. merged_inside (shown p) p.mie (lifted v) i (shown_fits p) q e; others = λ i q e. merged_outside (shown p) p.mie (lifted v) i (shown_fits p) q e },
                (
                  record { changed = λ i q e. merged_inside (bit_and (shown p) 0x2004) p.mip (lifted v) i (part_fits (shown p) 0x2004 (lit< tt)) q e; others = λ i q e. merged_outside (bit_and (shown p) 0x2004) p.mip (lifted v) i (part_fits (shown p) 0x2004 (lit< tt)) q e },
                  tt,
                ),
              ),
            ),
          ),
        ),
      ),
    ),
  ),
)

pub returns-clause-guest_sees_its_interrupts : goal.returns-clause-guest_sees_its_interrupts
returns-clause-guest_sees_its_interrupts c = λ p. (guest_view p.mideleg p.hideleg p.mip, guest_view p.mideleg p.hideleg p.mie)

pub returns-clause-guest_bits_are_lifted : goal.returns-clause-guest_bits_are_lifted
returns-clause-guest_bits_are_lifted c = is_lifted

pub returns-clause-views_read_their_bits : goal.returns-clause-views_read_their_bits
returns-clause-views_read_their_bits c = λ p. All-from_recursion (ReadsItsBits p) readings (
  λ (i : ℕ). whole_bit p.mstatus 0xA00000000 i (is_in i (33 ∷ 35 ∷ [])) (both_lengths i),
  (
    λ (i : ℕ). part_bit p.mstatus 0x122 0x200000000 i (is_in i (1 ∷ 5 ∷ 8 ∷ [])) (is_in i (33 ∷ [])) (status_places i) (one_length i),
    (
      λ (i : ℕ). whole_bit p.hstatus 0x200000000 i (is_in i (33 ∷ [])) (one_length i),
      (
        λ (i : ℕ). whole_bit p.vsstatus 0x200000000 i (is_in i (33 ∷ [])) (one_length i),
        (
          λ (i : ℕ). whole_bit p.mideleg 0x444 i (is_in i guest_bits) (guest_places i),
          (
            λ (i : ℕ). delegated_bit p.mie p.mideleg 0x2222 i (is_in i supervisor_bits) (supervisor_places i),
            (
              λ (i : ℕ). delegated_bit p.mip p.mideleg 0x2222 i (is_in i supervisor_bits) (supervisor_places i),
              (
                λ (i : ℕ). refl,
                (
                  λ (i : ℕ). masked_bit p.mie 0x444 i (is_in i guest_bits) (guest_places i),
                  (
                    λ (i : ℕ). masked_bit p.mip 0x444 i (is_in i guest_bits) (guest_places i),
                    (λ (i : ℕ). masked_bit p.mip 0x444 i (is_in i guest_bits) (guest_places i), tt),
                  ),
                ),
              ),
            ),
          ),
        ),
      ),
    ),
  ),
)
