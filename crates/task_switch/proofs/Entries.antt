-- Writing the parts of an entry, and the entries one after another.
use Rattle.std.proofs.Common.{◌≡◌, ℕ, ◌+◌, ◌%◌, ◌<◌, List, ◌∷◌, [], ◌++◌, length, take, drop, get_or, slice_set, refl, sym, ◌∙◌, ap, subst, arith}
use Rattle.std.proofs.Math.Nat.{mod-eq_of_lt}
use Rattle.std.proofs.Math.Numerals.{suc-eq-add-one}
use Rattle.std.proofs.lemmas.List.{set-set, get_or-set_same, drop_more, take_more, set_at, append_assoc, length-take-le}
use Rattle.ctr_buffer.specs.declared.slot.Part.{Part}
use Rattle.ctr_buffer.specs.declared.slot.Part.TheVariants.{Source, Target, Kind}
use Rattle.ctr_buffer.specs.Entry.{Entry, with_part, zero_entry}
use Rattle.ctr_buffer.specs.Stack.{Stack, entry_at, after_poke}
use Rattle.indirect_regs.specs.Unit.{UnitState}
use Rattle.indirect_regs.specs.Ports.{after_write}
use Rattle.indirect_regs.specs.declared.port.PortReg.TheVariants.{Select}
use Rattle.task_switch.specs.WhilePassing.{select_after, filled}

-- a part of entry i is after_write
abbrev pub part_put : ℕ → Part → ℕ → Stack → Stack
part_put i part value s = after_poke s i (with_part (entry_at s i) part value)

-- the next part of an entry that was after_write
pub next_part : (s : Stack) (i : ℕ) (e : Entry) (part : Part) (value : ℕ) → i < length s.slots
    → part_put i part value (after_poke s i e) ≡ after_poke s i (with_part e part value)
next_part s i e part value there =
    ap (λ (d : Entry). after_poke (after_poke s i e) i (with_part d part value)) (get_or-set_same s.slots i e zero_entry there)
    ∙ ap (λ (l : List Entry). record { depth = s.depth; slots = l; pointer = s.pointer }) (set-set s.slots i e (with_part e part value))

-- three parts are the entry
pub parts_put : (s : Stack) (i : ℕ) (e : Entry) → i < length s.slots
    → part_put i Kind e.kind (part_put i Target e.target (part_put i Source e.source s)) ≡ after_poke s i e
parts_put s i e there =
    let first = with_part (entry_at s i) Source e.source in
    ap (λ (t : Stack). part_put i Kind e.kind t) (next_part s i first Target e.target there)
    ∙ next_part s i (with_part first Target e.target) Kind e.kind there

abbrev pub unit_put : ℕ → Part → ℕ → UnitState → UnitState
unit_put i part value u = record u { stack = part_put i part value u.stack }

abbrev pub with_entry : UnitState → ℕ → Stack → UnitState
with_entry u select s = record u { select = select; stack = s }

-- the unit after the select and three parts were after_write
pub entry_put : (u0 u1 u2 u3 u4 : UnitState) (i : ℕ) (e : Entry) → i < length u0.stack.slots → i < 256
    → u1 ≡ after_write Select (512 + i) u0
    → u2 ≡ unit_put i Source e.source u1
    → u3 ≡ unit_put i Target e.target u2
    → u4 ≡ unit_put i Kind e.kind u3
    → u4 ≡ with_entry u0 (512 + i) (after_poke u0.stack i e)
entry_put u0 u1 u2 u3 u4 i e there small e1 e2 e3 e4 =
    let few : 512 + i < 4096 = omega arith in
    let s = part_put i Kind e.kind (part_put i Target e.target (part_put i Source e.source u0.stack)) in
    let all : u4 ≡ with_entry u0 ((512 + i) % 4096) s =
    e4 ∙ ap (λ (u : UnitState). unit_put i Kind e.kind u)
    (e3 ∙ ap (λ (u : UnitState). unit_put i Target e.target u) (e2 ∙ ap (λ (u : UnitState). unit_put i Source e.source u) e1)) in
    all
    ∙ ap (λ (n : ℕ). with_entry u0 n s) (mod-eq_of_lt few)
    ∙ ap (λ (t : Stack). with_entry u0 (512 + i) t) (parts_put u0.stack i e there)

-- the select after one more entry
pub selected : (i s : ℕ) → select_after (i + 1) s ≡ 512 + i
selected i s = subst (λ (n : ℕ). select_after n s ≡ 512 + i) (suc-eq-add-one i) refl

-- one more entry is after_write
pub fill_more : (xs ys : List Entry) (i : ℕ) → i < length xs → i < length ys
    → slice_set (take i xs ++ drop i ys) i (get_or xs i zero_entry) ≡ take (i + 1) xs ++ drop (i + 1) ys
fill_more xs ys i in_xs in_ys =
    let x = get_or xs i zero_entry in
    let front = take i xs in
    ap (λ (l : List Entry). slice_set (front ++ l) i x) (drop_more ys i zero_entry in_ys)
    ∙ set_at front (get_or ys i zero_entry) (drop (i + 1) ys) x i (length-take-le i xs (omega arith))
    ∙ sym (append_assoc front (x ∷ []) (drop (i + 1) ys))
    ∙ ap (λ (l : List Entry). l ++ drop (i + 1) ys) (sym (take_more xs i zero_entry in_xs))

-- the unit after one more entry was after_write
pub filled_more : (u0 u1 u2 : UnitState) (i j : ℕ) (xs : List Entry) (x : Entry) → i ≡ j → x ≡ get_or xs j zero_entry
    → j < length xs → j < length u0.stack.slots
    → u1 ≡ filled j xs u0 → u2 ≡ with_entry u1 (512 + i) (after_poke u1.stack i x)
    → u2 ≡ filled (j + 1) xs u0
filled_more u0 u1 u2 i j xs x at is in_xs in_ys e1 e2 =
    let slots = take j xs ++ drop j u0.stack.slots in
    let unit = λ (select : ℕ) (l : List Entry). with_entry u0 select (record { depth = u0.stack.depth; slots = l; pointer = u0.stack.pointer }) in
    let put : u2 ≡ unit (512 + i) (slice_set slots i x) = e2 ∙ ap (λ (u : UnitState). with_entry u (512 + i) (after_poke u.stack i x)) e1 in
    put
    ∙ ap (λ (k : ℕ). unit (512 + k) (slice_set slots k x)) at
    ∙ ap (λ (y : Entry). unit (512 + j) (slice_set slots j y)) is
    ∙ ap (λ (n : ℕ). unit n (slice_set slots j (get_or xs j zero_entry))) (sym (selected j u0.select))
    ∙ ap (λ (l : List Entry). unit (select_after (j + 1) u0.select) l) (fill_more xs u0.stack.slots j in_xs in_ys)
