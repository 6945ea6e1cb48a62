-- How long a spelling is, and that its header tells.
use Rattle.std.proofs.Common.{◌≡◌, ℕ, ◌*◌, ◌<◌, ◌≤◌, ◌^◌, List, [], ◌∷◌, ◌++◌, length, drop, refl, sym, ap, ◌∙◌, subst, arith, length-append, append_assoc}
use Rattle.std.proofs.Math.Seq.{drop-append_seam}
use Rattle.std.proofs.lemmas.List.{drop-append-le, length-drop}
use Rattle.std.specs.List.{flat_map}
use Rattle.byteorder.specs.Endian.{little_number}
use Rattle.byteorder.specs.Numbers.{little_number-reads_back, little_from-append}
use Rattle.perf_sample.specs.declared.sample.Branch.{Branch}
use Rattle.perf_sample.specs.declared.sample.Sample.{Sample}
use Rattle.perf_sample.specs.Layout.{LayoutWords, fields_in, fixed_len}
use Rattle.perf_sample.specs.Fields.{all_fields}
use Rattle.perf_sample.specs.Spelling.{le, fields_bytes, branch_bytes, size_of, spelling, Spells}
use Rattle.perf_sample.proofs.BreakLaws.{length_le}
use Rattle.perf_sample.proofs.FieldLaws.{length_fields, in_most}

pub length_branches : (bs : List Branch) → length (flat_map branch_bytes bs) ≡ 24 * length bs
length_branches [] = refl
length_branches (b ∷ bs) =
    omega (
      arith,
      length-append (branch_bytes b) (flat_map branch_bytes bs),
      length-append (le 8 b.from ++ le 8 b.to) (le 8 b.flags),
      length-append (le 8 b.from) (le 8 b.to),
      length_le 8 b.from,
      length_le 8 b.to,
      length_le 8 b.flags,
      length_branches bs,
    )

-- what stands before the size, and behind it
abbrev before : Sample → List ℕ
before s = le 4 9 ++ le 2 s.misc

abbrev behind : LayoutWords → Sample → List ℕ
behind layout s = fields_bytes s (fields_in layout all_fields) ++ flat_map branch_bytes s.branches

parts : (layout : LayoutWords) (s : Sample) → spelling layout s ≡ before s ++ (le 2 (size_of layout s) ++ behind layout s)
unfolding spelling
parts layout s =
    let a = before s in
    let b = le 2 (size_of layout s) in
    let c = fields_bytes s (fields_in layout all_fields) in
    let e = flat_map branch_bytes s.branches in
    append_assoc (a ++ b) c e ∙ append_assoc a b (c ++ e)

pub length_spelling : (layout : LayoutWords) (s : Sample) → length (spelling layout s) ≡ size_of layout s
unfolding fixed_len
length_spelling layout s =
    let a = before s in
    let b = le 2 (size_of layout s) in
    let c = fields_bytes s (fields_in layout all_fields) in
    let e = flat_map branch_bytes s.branches in
    omega (
      arith,
      ap length (parts layout s),
      length-append a (b ++ (c ++ e)),
      length-append b (c ++ e),
      length-append c e,
      length-append (le 4 9) (le 2 s.misc),
      length_le 4 9,
      length_le 2 s.misc,
      length_le 2 (size_of layout s),
      length_fields s (fields_in layout all_fields),
      length_branches s.branches,
    )

pub fixed_most : (layout : LayoutWords) → fixed_len layout ≤ 96
unfolding fixed_len
fixed_most layout = omega (arith, in_most layout all_fields)

-- the size field
pub size_at : List ℕ → ℕ
size_at bytes = little_number 2 (drop 6 bytes)

behind_before : (s : Sample) (rest : List ℕ) → drop 6 (before s ++ rest) ≡ rest
behind_before s rest =
    let six : length (before s) ≡ 6 = omega (arith, length-append (le 4 9) (le 2 s.misc), length_le 4 9, length_le 2 s.misc) in
    subst (λ (n : ℕ). drop n (before s ++ rest) ≡ rest) six (drop-append_seam (before s) rest)

told : (layout : LayoutWords) (s : Sample) (bytes : List ℕ) → Spells layout s bytes → size_at bytes ≡ size_of layout s
unfolding size_at le
told layout s bytes spells =
    let small : size_of layout s < 256 ^ 2 = omega (arith, fixed_most layout, spells.few) in
    ap (λ (b : List ℕ). little_number 2 (drop 6 b)) (spells.bytes_are ∙ parts layout s)
    ∙ ap (little_number 2) (behind_before s (le 2 (size_of layout s) ++ behind layout s))
    ∙ little_number-reads_back 2 (size_of layout s) (behind layout s) small

-- it is the length of the bytes, and tells it whatever follows
pub length_told : (layout : LayoutWords) (s : Sample) (bytes : List ℕ) → Spells layout s bytes → length bytes ≡ size_at bytes
length_told layout s bytes spells = ap length spells.bytes_are ∙ length_spelling layout s ∙ sym (told layout s bytes spells)

pub size_stays : (bytes more : List ℕ) → 8 ≤ length bytes → size_at (bytes ++ more) ≡ size_at bytes
unfolding size_at
size_stays bytes more enough =
    ap (little_number 2) (drop-append-le 6 bytes more (omega (arith, enough)))
    ∙ little_from-append 2 (drop 6 bytes) more (omega (arith, length-drop 6 bytes, enough))

nothing_more : (more : List ℕ) → length more ≡ 0 → more ≡ []
nothing_more [] e = refl
nothing_more (x ∷ more) e = absurd (omega (arith, e))

pub prefix_free : (layout : LayoutWords) (a b : Sample) (bytes more : List ℕ) → Spells layout a bytes → Spells layout b (bytes ++ more) → more ≡ []
unfolding fixed_len
prefix_free layout a b bytes more first second =
    let len : length bytes ≡ size_of layout a = ap length first.bytes_are ∙ length_spelling layout a in
    let enough : 8 ≤ length bytes = omega (arith, len) in
    nothing_more more (omega (arith, length_told layout a bytes first, length_told layout b (bytes ++ more) second, size_stays bytes more enough, length-append bytes more))
