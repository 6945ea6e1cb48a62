-- The words of an entry read back.
use Rattle.std.proofs.Common.{ℕ, ◌≡◌, ◌+◌, ◌%◌, Bool, true, false, nat_eq, refl, ap, arith}
use Rattle.ctr_buffer.specs.Entry.{Entry, address_in, flag_in, with_flag}
use Rattle.ctr_buffer.specs.EntryLaws.{ReadsBack, KeepsAllButV}

pub flag_back : (address : ℕ) (flag : Bool) → address % 2 ≡ 0 → flag_in (with_flag address flag) ≡ flag
flag_back address true even =
    let one : (address + 1) % 2 ≡ 1 = omega (arith, even) in
    ap (λ (n : ℕ). nat_eq n 1) one
flag_back address false even = ap (λ (n : ℕ). nat_eq n 1) even

pub address_back : (address : ℕ) (flag : Bool) → address % 2 ≡ 0 → address_in (with_flag address flag) ≡ address
address_back address true even = omega (arith, even)
address_back address false even = omega (arith, even)

pub reads_back : (source target : ℕ) (misp : Bool) (kind : ℕ) → source % 2 ≡ 0 → target % 2 ≡ 0 → ReadsBack source target misp kind
reads_back source target misp kind even_source even_target = record {
  valid = flag_back source true even_source;
  mispredicted = flag_back target misp even_target;
  source = address_back source true even_source;
  target = address_back target misp even_target;
  type = refl;
}

pub keeps_all_but_v : (e : Entry) → KeepsAllButV e
keeps_all_but_v e =
    let even : address_in e.source % 2 ≡ 0 = omega arith in
    record {
      valid = ap (λ (n : ℕ). nat_eq n 1) even;
      mispredicted = refl;
      source = omega arith;
      target = refl;
      kind = refl;
    }
