-- The immediates of the base formats (Unprivileged ISA, base instruction formats), each a signed number of its width.
use Rattle.std.specs.Prelude.{ℕ, ◌+◌, ◌*◌, ◌^◌}
use Rattle.ctr_bits.specs.Field.{field_of}
use Rattle.ctr_bits.specs.Sext.{sign_extension}

-- bits 31:20 are imm[11:0]
abbrev pub imm_i_of : ℕ → ℕ
imm_i_of w = sign_extension 12 (field_of 20 12 w)

-- bits 31:25 are imm[11:5], and 11:7 imm[4:0]
abbrev pub imm_s_of : ℕ → ℕ
imm_s_of w = sign_extension 12 (field_of 25 7 w * 2 ^ 5 + field_of 7 5 w)

-- bit 31 is imm[12], bit 7 imm[11], bits 30:25 imm[10:5], and 11:8 imm[4:1]
abbrev pub imm_b_of : ℕ → ℕ
imm_b_of w = sign_extension 13 (field_of 31 1 w * 2 ^ 12 + field_of 7 1 w * 2 ^ 11 + field_of 25 6 w * 2 ^ 5 + field_of 8 4 w * 2)

-- bits 31:12 are imm[31:12]
abbrev pub imm_u_of : ℕ → ℕ
imm_u_of w = sign_extension 32 (field_of 12 20 w * 2 ^ 12)

-- bit 31 is imm[20], bits 19:12 imm[19:12], bit 20 imm[11], and bits 30:21 imm[10:1]
abbrev pub imm_j_of : ℕ → ℕ
imm_j_of w = sign_extension 21 (field_of 31 1 w * 2 ^ 20 + field_of 12 8 w * 2 ^ 12 + field_of 20 1 w * 2 ^ 11 + field_of 21 10 w * 2)
