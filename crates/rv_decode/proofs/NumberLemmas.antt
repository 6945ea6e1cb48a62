-- What a row gives has its numbers in range: each register is a field of five bits, the number of a
-- CSR one of twelve, and each immediate a field or an extended one.
use Rattle.std.proofs.Common.{ℕ, ◌≡◌, ◌+◌, ◌*◌, ◌<◌, ◌≤◌, ◌/◌, ◌^◌, List, [], ◌∷◌, Option, None, Some, IfSome, refl, sym, subst, inl, inr, arith}
use Rattle.std.proofs.lemmas.Nat.{mod_below, pow_pos}
use Rattle.ctr_bits.specs.Field.{field_of}
use Rattle.ctr_bits.specs.SextLaws.{extended_fits}
use Rattle.rv_decode.specs.declared.instruction.Instr.{Instr}
use Rattle.rv_decode.specs.Formats.{imm_i_of, imm_s_of, imm_b_of, imm_u_of, imm_j_of}
use Rattle.rv_decode.specs.Table.{Rule, table, rd_of, rs1_of, rs2_of, csr_of}
use Rattle.rv_decode.specs.Rows.{RowIn, Row, instruction_of}
use Rattle.rv_decode.specs.Numbers.{NumbersFit}
use Rattle.rv_decode.specs.WordFits.{WordsFit}
use Rattle.rv_decode.specs.Laws.{RowsFit, RowWordsFit, DecodedWordsFit}
use Rattle.rv_decode.proofs.TableLemmas.{decoded_row}

abbrev pub Fits : Instr → Type 0
Fits i = NumbersFit i × WordsFit i

abbrev pub AllFit : List Rule → ℕ → Type 0
AllFit [] w = Unit {0}
AllFit (r ∷ rs) w = Fits (r.gives w) × AllFit rs w

pub field_fits : (lo len w : ℕ) → 2 ^ len ≤ 2 ^ 64 → field_of lo len w < 2 ^ 64
field_fits lo len w p = omega (arith, mod_below (w / 2 ^ lo) (2 ^ len) (pow_pos len), p)

pub imm_i_fits : (w : ℕ) → imm_i_of w < 2 ^ 64
imm_i_fits w = extended_fits 12 (field_of 20 12 w) (omega arith) (omega arith)

pub imm_s_fits : (w : ℕ) → imm_s_of w < 2 ^ 64
imm_s_fits w =
    extended_fits 12 (field_of 25 7 w * 2 ^ 5 + field_of 7 5 w) (omega arith) (omega arith)

pub imm_b_fits : (w : ℕ) → imm_b_of w < 2 ^ 64
imm_b_fits w =
    let high = field_of 31 1 w * 2 ^ 12 + field_of 7 1 w * 2 ^ 11 in
    extended_fits 13 (high + field_of 25 6 w * 2 ^ 5 + field_of 8 4 w * 2)
    (omega arith) (omega arith)

pub imm_u_fits : (w : ℕ) → imm_u_of w < 2 ^ 64
imm_u_fits w = extended_fits 32 (field_of 12 20 w * 2 ^ 12) (omega arith) (omega arith)

pub imm_j_fits : (w : ℕ) → imm_j_of w < 2 ^ 64
imm_j_fits w =
    let high = field_of 31 1 w * 2 ^ 20 + field_of 12 8 w * 2 ^ 12 in
    extended_fits 21 (high + field_of 20 1 w * 2 ^ 11 + field_of 21 10 w * 2)
    (omega arith) (omega arith)

pub table_fits : (w : ℕ) → AllFit table w
table_fits w =
    let rd : rd_of w < 32 = mod_below (w / 2 ^ 7) (2 ^ 5) (pow_pos 5) in
    let rs1 : rs1_of w < 32 = mod_below (w / 2 ^ 15) (2 ^ 5) (pow_pos 5) in
    let rs2 : rs2_of w < 32 = mod_below (w / 2 ^ 20) (2 ^ 5) (pow_pos 5) in
    let csr : csr_of w < 4096 = mod_below (w / 2 ^ 20) (2 ^ 12) (pow_pos 12) in
    let imm_i : imm_i_of w < 2 ^ 64 = imm_i_fits w in
    let imm_s : imm_s_of w < 2 ^ 64 = imm_s_fits w in
    let imm_b : imm_b_of w < 2 ^ 64 = imm_b_fits w in
    let imm_u : imm_u_of w < 2 ^ 64 = imm_u_fits w in
    let imm_j : imm_j_of w < 2 ^ 64 = imm_j_fits w in
    let shift : field_of 20 6 w < 2 ^ 64 = field_fits 20 6 w (omega arith) in
    let shift_32 : field_of 20 5 w < 2 ^ 64 = field_fits 20 5 w (omega arith) in
    let small : rs1_of w < 2 ^ 64 = field_fits 15 5 w (omega arith) in
    assumption (rd, rs1, rs2, csr, imm_i, imm_s, imm_b, imm_u, imm_j, shift, shift_32, small)

pub fit_in : (rs : List Rule) (w : ℕ) (i : Instr) → AllFit rs w → RowIn rs w i → Fits i
fit_in [] w i all q = absurd q
fit_in (r ∷ rs) w i all q = elim q [
  | inl here ↦ subst (λ (j : Instr). Fits j) (sym here.1) all.0
  | inr later ↦ fit_in rs w i all.1 later
]

pub row_fits : (w : ℕ) (i : Instr) → Row w i → Fits i
unfolding Row
row_fits w i q = fit_in table w i (table_fits w) q

pub rows_fit : RowsFit
rows_fit w i q = (row_fits w i q).0

pub row_words_fit : RowWordsFit
row_words_fit w i q = (row_fits w i q).1

pub found_fits : (w : ℕ) (found : Option Instr) → found ≡ instruction_of w → IfSome found (λ i. NumbersFit i)
found_fits w None e = tt
found_fits w (Some i) e = rows_fit w i (decoded_row w i (sym e))

pub found_words_fit : (w : ℕ) (found : Option Instr) → found ≡ instruction_of w
    → IfSome found (λ i. WordsFit i)
found_words_fit w None e = tt
found_words_fit w (Some i) e = row_words_fit w i (decoded_row w i (sym e))

pub decoded_words_fit : DecodedWordsFit
decoded_words_fit w = found_words_fit w (instruction_of w) refl
