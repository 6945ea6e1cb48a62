-- What accesses and a monitor's writes keep of the facts of units and registers: one lemma a function of the definitions.
use Rattle.std.proofs.Common.{ℕ, ◌≡◌, ◌-◌, ◌%◌, ◌^◌, ◌<◌, ◌≤◌, Bool, true, false, cond, nat_eq, nat_lt, List, [], ◌∷◌, Option, Some, None, Result, Ok, Err, bit_and, arith, lit<, lit≤, refl}
use Rattle.std.specs.Option.{IfSome}
use Rattle.std.proofs.lemmas.Bool.{cond_both, ltb-true, eqb-false}
use Rattle.ctr_bits.specs.Field.{field_of}
use Rattle.ctr_csrs.specs.RegisterLaws.{least_entries}
use Rattle.std.proofs.lemmas.Nat.{and_le_l, and_le_r, and_mask, or_lt, mod_below}
use Rattle.ctr_bits.specs.MaskBits.{mask_twice, merged_stays_within}
use Rattle.ctr_csrs.specs.ControlFigure.{m_mask, s_mask}
use Rattle.ctr_csrs.specs.declared.depth.Depth.{Depth}
use Rattle.ctr_csrs.specs.declared.depth.Depth.TheVariants.{D16, D32, D64, D128, D256}
use Rattle.ctr_csrs.specs.declared.mode.Mode.{Mode}
use Rattle.ctr_csrs.specs.Depths.{code_of, depth_at, entries_of}
use Rattle.ctr_csrs.specs.StatusFigure.{pointer_in}
use Rattle.ctr_buffer.specs.declared.event.Event.{Event}
use Rattle.ctr_buffer.specs.declared.event.Event.TheVariants.{Turn, SetDepth, Poke}
use Rattle.ctr_buffer.specs.declared.slot.Part.{Part}
use Rattle.ctr_buffer.specs.declared.slot.Part.TheVariants as parts
use Rattle.ctr_buffer.specs.Entry.{Entry, FitsPart, IsEntry, part_of, zero_entry}
use Rattle.ctr_buffer.specs.Stack.{Stack, size_of}
use Rattle.ctr_buffer.specs.Facts.{IsBuffer, IsEvent}
use Rattle.ctr_buffer.specs.FactLemmas.{zero_is, item_or, buffers_stay}
use Rattle.guest_modes.specs.declared.gating.CsrFault.{CsrFault}
use Rattle.guest_modes.specs.declared.registers.Priv.{Priv}
use Rattle.guest_modes.specs.Gate.{gate_answer}
use Rattle.guest_modes.specs.Numbers.{is_register}
use Rattle.guest_modes.specs.Facts.{IsPriv, keeps}
use Rattle.guest_modes.specs.RowFacts.{written_keeps, read_fits, small_within, is, set}
use Rattle.indirect_regs.specs.declared.accessing.CsrUse.{CsrUse}
use Rattle.indirect_regs.specs.declared.accessing.CsrUse.TheVariants.{Read, Write, Set, Clear}
use Rattle.indirect_regs.specs.declared.port.PortReg.{PortReg}
use Rattle.indirect_regs.specs.declared.port.PortReg.TheVariants.{Mctrctl, Vsctrctl, Depth as Depths, Status, Select, From, To, Kind}
use Rattle.indirect_regs.specs.Unit.{UnitState, HasControls, IsUnit, after_any, CanTakeAny}
use Rattle.indirect_regs.specs.Ports.{read, part_kept, entry_named, number_named, names_entry, depth_written, part_written, event_of, changed, after_write}
use Rattle.indirect_regs.specs.Table.{Row, direct, by_siselect, by_vsiselect, indirect, unused, sctrctl, guest_select, kept, no_register, transfer_rows, row_in, row_of}
use Rattle.indirect_regs.specs.Facts.{IsWholeUnit, UseFits, IsAccessed}
use Rattle.indirect_regs.specs.Access.{is_write, new_value, put_in, used, passed, access_of}

pub unit_of : (u : UnitState) → IsWholeUnit u → IsUnit u
unit_of u h = record { controls = h.controls; stack = h.buffer.stack }

pub any_keeps : (s : Stack) (e : Option Event) → IsBuffer s → IfSome e IsEvent → IsBuffer (after_any s e)
any_keeps s None h fits = h
any_keeps s (Some e) h fits = buffers_stay s e h fits

-- reads
pub part_small : (part : Part) (e : Entry) → IsEntry e → part_of part e < 2 ^ 64
part_small parts.Source e h = h.0
part_small parts.Target e h = h.1
part_small parts.Kind e h = omega (arith, h.2)

pub named_is : (u : UnitState) (select : ℕ) → IsWholeUnit u → IsEntry (entry_named u.stack select)
named_is u select h = item_or IsEntry u.stack.slots (number_named select) zero_entry h.buffer.slots zero_is

pub few_entries : (d : Depth) → entries_of d ≤ 256
few_entries D16 = lit≤ tt
few_entries D32 = lit≤ tt
few_entries D64 = lit≤ tt
few_entries D128 = lit≤ tt
few_entries D256 = lit≤ tt

pub code_small : (d : Depth) → code_of d < 2 ^ 64
code_small D16 = lit< tt
code_small D32 = lit< tt
code_small D64 = lit< tt
code_small D128 = lit< tt
code_small D256 = lit< tt

pub bit_small : (b : Bool) → cond b 1 0 < 2
bit_small true = lit< tt
bit_small false = lit< tt

pub read_small : (reg : PortReg) (u : UnitState) → IsWholeUnit u → read reg u < 2 ^ 64
read_small Mctrctl u h = small_within m_mask u.m (lit< tt) h.controls.m
read_small Vsctrctl u h = small_within s_mask u.vs (lit< tt) h.controls.vs
read_small Depths u h = code_small u.stack.depth
read_small Status u h = omega (arith, h.buffer.stack.within, few_entries u.stack.depth, bit_small u.frozen)
read_small Select u h = omega (arith, h.controls.select)
read_small From u h = part_small parts.Source (entry_named u.stack u.select) (named_is u u.select h)
read_small To u h = part_small parts.Target (entry_named u.stack u.select) (named_is u u.select h)
read_small Kind u h = part_small parts.Kind (entry_named u.stack u.select) (named_is u u.select h)

pub some_if : (P : ℕ → Type 0) (b : Bool) (n : ℕ) → P n → IfSome (cond b (Some n) None) P
some_if P true n p = p
some_if P false n p = tt

-- events of writes
pub event_if : (b : Bool) (e : Event) → IsEvent e → IfSome (cond b (Some e) None) IsEvent
event_if true e p = p
event_if false e p = tt

pub event_unless : (b : Bool) (e : Event) → IsEvent e → IfSome (cond b None (Some e)) IsEvent
event_unless true e p = tt
event_unless false e p = p

pub part_kept_is : (part : Part) (v : ℕ) → v < 2 ^ 64 → FitsPart part (part_kept part v)
part_kept_is parts.Source v p = p
part_kept_is parts.Target v p = p
part_kept_is parts.Kind v p = mod_below v 16 (lit< tt)

pub part_written_is : (s : Stack) (select : ℕ) (part : Part) (v : ℕ) → v < 2 ^ 64 → IfSome (part_written s select part v) IsEvent
part_written_is s select part v p =
    event_if (nat_lt (number_named select) (size_of s)) (Poke (number_named select) part (part_kept part v)) (part_kept_is part v p)

pub depth_written_is : (s : Stack) (d : Option Depth) → IfSome (depth_written s d) IsEvent
depth_written_is s None = tt
depth_written_is s (Some d) = event_unless (nat_eq (entries_of d) (size_of s)) (SetDepth d) tt

pub event_is : (reg : PortReg) (u : UnitState) (v : ℕ) → v < 2 ^ 64 → IfSome (event_of reg u v) IsEvent
event_is Mctrctl u v p = tt
event_is Vsctrctl u v p = tt
event_is Depths u v p = depth_written_is u.stack (depth_at (v % 8))
event_is Status u v p =
    let pointer = pointer_in v u.stack.depth in
    event_unless (nat_eq pointer u.stack.pointer) (Turn pointer) tt
event_is Select u v p = tt
event_is From u v p = part_written_is u.stack u.select parts.Source v p
event_is To u v p = part_written_is u.stack u.select parts.Target v p
event_is Kind u v p = part_written_is u.stack u.select parts.Kind v p

-- every event of an access can be taken
pub turn_can : (v : ℕ) (d : Depth) → pointer_in v d < entries_of d
turn_can v d = mod_below (field_of 0 8 v) (entries_of d) (omega (arith, least_entries d))

pub part_can : (s : Stack) (select : ℕ) (part : Part) (v : ℕ) → v < 2 ^ 64 → CanTakeAny s (part_written s select part v)
part_can s select part v p =
    let n = number_named select in
    cond_both (nat_lt n (size_of s)) (Some (Poke n part (part_kept part v))) None (CanTakeAny s)
    (λ e. (ltb-true n (size_of s) e, part_kept_is part v p)) (λ e. tt)

pub depth_can : (s : Stack) (d : Option Depth) → CanTakeAny s (depth_written s d)
depth_can s None = tt
depth_can s (Some d) =
    cond_both (nat_eq (entries_of d) (size_of s)) None (Some (SetDepth d)) (CanTakeAny s) (λ e. tt) (λ e. eqb-false (entries_of d) (size_of s) e)

pub event_can : (reg : PortReg) (u : UnitState) (v : ℕ) → v < 2 ^ 64 → CanTakeAny u.stack (event_of reg u v)
event_can Mctrctl u v p = tt
event_can Vsctrctl u v p = tt
event_can Depths u v p = depth_can u.stack (depth_at (v % 8))
event_can Status u v p =
    let pointer = pointer_in v u.stack.depth in
    cond_both (nat_eq pointer u.stack.pointer) None (Some (Turn pointer)) (CanTakeAny u.stack) (λ e. tt)
    (λ e. (turn_can v u.stack.depth, eqb-false pointer u.stack.pointer e))
event_can Select u v p = tt
event_can From u v p = part_can u.stack u.select parts.Source v p
event_can To u v p = part_can u.stack u.select parts.Target v p
event_can Kind u v p = part_can u.stack u.select parts.Kind v p

pub changed_is : (reg : PortReg) (u : UnitState) (v : ℕ) → HasControls u → HasControls (changed reg u v)
changed_is Mctrctl u v h = record { m = mask_twice m_mask v; vs = h.vs; select = h.select }
changed_is Vsctrctl u v h = record { m = h.m; vs = mask_twice s_mask v; select = h.select }
changed_is Depths u v h = h
changed_is Status u v h = record { m = h.m; vs = h.vs; select = h.select }
changed_is Select u v h = record { m = h.m; vs = h.vs; select = mod_below v 4096 (lit< tt) }
changed_is From u v h = h
changed_is To u v h = h
changed_is Kind u v h = h

-- the same words with another record buffer
pub with_stack : (u : UnitState) (s : Stack) → HasControls u → IsBuffer s → IsWholeUnit (record u { stack = s })
with_stack u s h b = record { controls = record { m = h.m; vs = h.vs; select = h.select }; buffer = b }

pub port_keeps : (reg : PortReg) (v : ℕ) (u : UnitState) → v < 2 ^ 64 → IsWholeUnit u → IsWholeUnit (after_write reg v u)
port_keeps reg v u p h =
    with_stack (changed reg u v) (after_any u.stack (event_of reg u v)) (changed_is reg u v h.controls)
    (any_keeps u.stack (event_of reg u v) h.buffer (event_is reg u v p))

-- the rows of registers
pub record RowKeeps (r : Row) : Type 0 where
  pub reads : (u : UnitState) (p : Priv) → IsWholeUnit u → IsPriv p → IfSome (r.reads u p) (λ n. n < 2 ^ 64)
  pub event : (u : UnitState) (p : Priv) (v : ℕ) → v < 2 ^ 64 → IfSome (r.event u p v) IsEvent
  pub can : (u : UnitState) (p : Priv) (v : ℕ) → v < 2 ^ 64 → CanTakeAny u.stack (r.event u p v)
  pub unit : (u : UnitState) (v : ℕ) → HasControls u → HasControls (r.unit u v)
  pub registers : (p : Priv) (v : ℕ) → v < 2 ^ 64 → IsPriv p → IsPriv (r.registers p v)

pub direct_keeps : (n : ℕ) (reg : PortReg) → RowKeeps (direct n reg)
direct_keeps n reg = record {
  reads = λ u p h q. read_small reg u h;
  event = λ u p v s. event_is reg u v s;
  can = λ u p v s. event_can reg u v s;
  unit = λ u v h. changed_is reg u v h;
  registers = λ p v s h. h;
}

pub indirect_keeps : (n : ℕ) (select : UnitState → Priv → ℕ) (part : Part) → RowKeeps (indirect n select part)
indirect_keeps n select part = record {
  reads = λ u p h q. some_if (λ k. k < 2 ^ 64) (names_entry (select u p)) (part_of part (entry_named u.stack (select u p))) (part_small part (entry_named u.stack (select u p)) (named_is u (select u p) h));
  event = λ u p v s. part_written_is u.stack (select u p) part v s;
  can = λ u p v s. part_can u.stack (select u p) part v s;
  unit = λ u v h. h;
  registers = λ p v s h. h;
}

pub unused_keeps : (n : ℕ) (select : UnitState → Priv → ℕ) → RowKeeps (unused n select)
unused_keeps n select = record {
  reads = λ u p h q. some_if (λ k. k < 2 ^ 64) (names_entry (select u p)) 0 (lit< tt);
  event = λ u p v s. tt;
  can = λ u p v s. tt;
  unit = λ u v h. h;
  registers = λ p v s h. h;
}

pub sctrctl_keeps : (n : ℕ) → RowKeeps (sctrctl n)
sctrctl_keeps n = record {
  reads = λ u p h q. omega (arith, and_le_r u.m s_mask);
  event = λ u p v s. tt;
  can = λ u p v s. tt;
  unit = λ u v h. record { m = merged_stays_within s_mask m_mask u.m v refl h.m; vs = h.vs; select = h.select };
  registers = λ p v s h. h;
}

pub guest_select_keeps : (n : ℕ) → RowKeeps (guest_select n)
guest_select_keeps n = record {
  reads = λ u p h q. small_within 0xFFF p.vsiselect (lit< tt) (is 27 p (lit< tt) q);
  event = λ u p v s. tt;
  can = λ u p v s. tt;
  unit = λ u v h. h;
  registers = λ p v s h. record { status = h.status; words = set 27 (keeps 0xFFF (v % 4096)) p (select_within v) h };
}
  where
    select_within : (v : ℕ) → bit_and (v % 4096) 0xFFF ≡ v % 4096
    select_within v =
        let is : bit_and (v % 4096) 0xFFF ≡ (v % 4096) % 2 ^ 12 = and_mask (v % 4096) 12 in
        omega (arith, is)

pub kept_keeps : (n : ℕ) → RowKeeps (kept n)
kept_keeps n = record {
  reads = λ u p h q. read_fits n p q;
  event = λ u p v s. tt;
  can = λ u p v s. tt;
  unit = λ u v h. h;
  registers = λ p v s h. written_keeps n v p s h;
}

pub none_keeps : (n : ℕ) → RowKeeps (no_register n)
none_keeps n = record { reads = λ u p h q. tt; event = λ u p v s. tt; can = λ u p v s. tt; unit = λ u v h. h; registers = λ p v s h. h }

pub either : (P : Row → Type 0) (b : Bool) (x y : Row) → P x → P y → P (cond b x y)
either P true x y at_x at_y = at_x
either P false x y at_x at_y = at_y

abbrev pub RowsKeep : List Row → Type 0
RowsKeep [] = Unit {0}
RowsKeep (r ∷ rs) = RowKeeps r × RowsKeep rs

pub found_keeps : (rs : List Row) (n : ℕ) → RowsKeep rs → RowKeeps (row_in rs n)
found_keeps [] n all = none_keeps n
found_keeps (r ∷ rs) n all = either RowKeeps (nat_eq r.number n) r (row_in rs n) all.0 (found_keeps rs n all.1)

pub rows_keep : RowsKeep transfer_rows
rows_keep = (
  direct_keeps 0x34E Mctrctl,
  (
    sctrctl_keeps 0x14E,
    (
      direct_keeps 0x24E Vsctrctl,
      (
        direct_keeps 0x14F Status,
        (
          direct_keeps 0x15F Depths,
          (
            direct_keeps 0x150 Select,
            (
              indirect_keeps 0x151 by_siselect parts.Source,
              (
                indirect_keeps 0x152 by_siselect parts.Target,
                (
                  indirect_keeps 0x153 by_siselect parts.Kind,
                  (
                    unused_keeps 0x155 by_siselect,
                    (
                      unused_keeps 0x156 by_siselect,
                      (
                        unused_keeps 0x157 by_siselect,
                        (
                          guest_select_keeps 0x250,
                          (
                            indirect_keeps 0x251 by_vsiselect parts.Source,
                            (
                              indirect_keeps 0x252 by_vsiselect parts.Target,
                              (
                                indirect_keeps 0x253 by_vsiselect parts.Kind,
                                (
                                  unused_keeps 0x255 by_vsiselect,
                                  (
                                    unused_keeps 0x256 by_vsiselect,
                                    (
                                      unused_keeps 0x257 by_vsiselect,
                                      tt,
                                    ),
                                  ),
                                ),
                              ),
                            ),
                          ),
                        ),
                      ),
                    ),
                  ),
                ),
              ),
            ),
          ),
        ),
      ),
    ),
  ),
)

pub row_keeps : (n : ℕ) → RowKeeps (row_of n)
row_keeps n = either RowKeeps (is_register n) (kept n) (row_in transfer_rows n) (kept_keeps n) (found_keeps transfer_rows n rows_keep)

-- accesses
pub new_small : (op : CsrUse) (old : ℕ) → old < 2 ^ 64 → UseFits op → IfSome (new_value op old) (λ n. n < 2 ^ 64)
new_small Read old p q = tt
new_small (Write v) old p q = q
new_small (Set v) old p q = or_lt 64 old v p q
new_small (Clear v) old p q = omega (arith, and_le_l old (2 ^ 64 - 1 - v), p)

pub put_keeps : (r : Row) (u : UnitState) (p : Priv) (old : ℕ) (value : Option ℕ) → RowKeeps r → IsWholeUnit u → IsPriv p → old < 2 ^ 64
    → IfSome value (λ n. n < 2 ^ 64) → IsAccessed u (put_in r u p old value)
put_keeps r u p old None k h q small fits = record { answer = small; unit = h; registers = q; event = tt; can = tt }
put_keeps r u p old (Some v) k h q small fits = record {
  answer = small;
  unit = with_stack (r.unit u v) (after_any u.stack (r.event u p v)) (k.unit u v h.controls) (any_keeps u.stack (r.event u p v) h.buffer (k.event u p v fits));
  registers = k.registers p v fits q;
  event = k.event u p v fits;
  can = k.can u p v fits;
}

pub used_keeps : (r : Row) (u : UnitState) (p : Priv) (op : CsrUse) (o : Option ℕ) → RowKeeps r → IsWholeUnit u → IsPriv p → UseFits op
    → IfSome o (λ n. n < 2 ^ 64) → IsAccessed u (used r u p op o)
used_keeps r u p op None k h q fits small = record { answer = tt; unit = h; registers = q; event = tt; can = tt }
used_keeps r u p op (Some old) k h q fits small = put_keeps r u p old (new_value op old) k h q small (new_small op old small fits)

pub passed_keeps : (u : UnitState) (p : Priv) (op : CsrUse) (r : Result ℕ CsrFault) → IsWholeUnit u → IsPriv p → UseFits op → IsAccessed u (passed u p op r)
passed_keeps u p op (Err f) h q fits = record { answer = tt; unit = h; registers = q; event = tt; can = tt }
passed_keeps u p op (Ok n) h q fits =
    used_keeps (row_of n) u p op ((row_of n).reads u p) (row_keeps n) h q fits ((row_keeps n).reads u p h q)

pub accessed_keeps : (u : UnitState) (p : Priv) (mode : Mode) (csr : ℕ) (op : CsrUse) → IsWholeUnit u → IsPriv p → UseFits op → IsAccessed u (access_of u p mode csr op)
accessed_keeps u p mode csr op h q fits = passed_keeps u p op (gate_answer mode csr (is_write op)) h q fits
