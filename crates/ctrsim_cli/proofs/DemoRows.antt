-- The lines of `demo`, read back.
use Rattle.std.proofs.Common.{◌≡◌, refl, sym, ap, ◌∙◌, arith, ℕ, zero, suc, ◌+◌, ◌*◌, ◌/◌, ◌%◌, ◌^◌, ◌<◌, ◌≤◌, min}
use Rattle.std.proofs.Common.{List, [], ◌∷◌, ◌++◌, length, take, drop, Bool, true, false, ◌&&◌, nat_eq, nat_lt, nat_le, append-nil, length-append}
use Rattle.std.specs.Prelude.{Ok, Some, codes}
use Rattle.std.specs.List.{list_all, position_or_len}
use Rattle.std.proofs.Math.Seq.{take-append_seam, drop-append-add}
use Rattle.std.proofs.lemmas.List.Folds.{list_all-append}
use Rattle.sched_text.specs.Lines.{Line, put_front, line_within, line_at, is_space, words}
use Rattle.sched_text.specs.Numbers.{digit_value, number, kept}
use Rattle.sched_text.specs.Rows.{command_of}
use Rattle.sched_text.specs.declared.schedule.Command.TheVariants.{Run, Sample as Sampled}
use Rattle.sched_text.proofs.WordLaws.{words_whole, words_first}
use Rattle.ctrsim_cli.specs.SampleText.{dec}
use Rattle.ctrsim_cli.specs.Demo.{run_row, sample_row}
use Rattle.ctrsim_cli.proofs.TextDigits.{dec_step, dec_digit}

-- each byte is at least this
abbrev pub from : ℕ → List ℕ → Bool
from k bytes = list_all (λ b. nat_le k b) bytes

pub parts : (a b : Bool) → (a && b) ≡ true → (a ≡ true) × (b ≡ true)
parts true true e = (refl, refl)
parts true false e = absurd (cc e)
parts false b e = absurd (cc e)

both : (a b : Bool) → a ≡ true → b ≡ true → (a && b) ≡ true
both a b p q = rw (p, q) refl

-- words
solid : (b : ℕ) → nat_le 33 b ≡ true → is_space b ≡ false
solid b e = grind (arith, e)

place : (w rest : List ℕ) → from 33 w ≡ true → position_or_len is_space (w ++ 32 ∷ rest) ≡ length w
place [] rest e = refl
place (b ∷ w) rest e =
    let p = parts (nat_le 33 b) (from 33 w) e in
    rw (solid b p.0) (omega (arith, place w rest p.1))

place_last : (w : List ℕ) → from 33 w ≡ true → position_or_len is_space w ≡ length w
place_last [] e = refl
place_last (b ∷ w) e =
    let p = parts (nat_le 33 b) (from 33 w) e in
    rw (solid b p.0) (omega (arith, place_last w p.1))

pub first_word : (w rest : List ℕ) → from 33 w ≡ true → words (w ++ 32 ∷ rest) ≡ w ∷ words rest
first_word w rest e =
    let line = w ++ 32 ∷ rest in
    let at = place w rest e in
    words_first line (omega (arith, at, length-append w (32 ∷ rest)))
    ∙ ap (λ (k : ℕ). take k line ∷ words (drop (k + 1) line)) at
    ∙ ap (λ (u : List ℕ). u ∷ words (drop (length w + 1) line)) (take-append_seam w (32 ∷ rest))
    ∙ ap (λ (u : List ℕ). w ∷ words u) (drop-append-add w (32 ∷ rest) 1)

pub last_word : (w : List ℕ) → from 33 w ≡ true → words w ≡ w ∷ []
last_word w e = words_whole w (place_last w e)

-- lines
pub line_of : (room : ℕ) (w rest : List ℕ) → length w < room → from 32 w ≡ true → line_within room (w ++ 10 ∷ rest) ≡ Line w rest
unfolding line_within
line_of zero w rest less e = absurd (omega (arith, less))
line_of (suc room) [] rest less e = refl
line_of (suc room) (b ∷ w) rest less e =
    let p = parts (nat_le 32 b) (from 32 w) e in
    let other : nat_eq b 10 ≡ false = grind (arith, p.0) in
    rw (other) (ap (put_front b) (line_of room w rest (omega (arith, less)) p.1))

-- digits
digit : (a : ℕ) → a < 10 → digit_value (48 + a) ≡ a
digit a less =
    let low : nat_lt (48 + a) 48 ≡ false = grind arith in
    let high : nat_lt (48 + a) 58 ≡ true = grind (arith, less) in
    rw (low, high) (omega arith)

one_digit : (a : ℕ) → a < 10 → number 10 ((48 + a) ∷ []) ≡ Some a
one_digit a less =
    let is = digit a less in
    let yes : nat_lt a 10 ≡ true = grind (arith, less) in
    let value : min (0 * 10 + a) (2 ^ 64) ≡ a = grind (arith, less) in
    rw (is, yes, value) refl

two_digits : (a b : ℕ) → a < 10 → b < 10 → number 10 ((48 + a) ∷ ((48 + b) ∷ [])) ≡ Some (10 * a + b)
two_digits a b p q =
    let ya : nat_lt a 10 ≡ true = grind (arith, p) in
    let yb : nat_lt b 10 ≡ true = grind (arith, q) in
    let value : min ((0 * 10 + a) * 10 + b) (2 ^ 64) ≡ 10 * a + b = grind (arith, p, q) in
    rw (digit a p, digit b q, ya, yb, value) refl

-- a number of two digits at most, as it is written and read
pub record IsShort (n : ℕ) : Type 0 where
  pub solid : from 33 (dec n) ≡ true
  pub clear : from 32 (dec n) ≡ true
  pub few : length (dec n) ≤ 2
  pub read : number 10 (dec n) ≡ Some n

pub dec_one : (n : ℕ) → n < 10 → dec n ≡ (48 + n) ∷ []
dec_one n less = sym (append-nil (dec n)) ∙ sym (dec_digit n [] less)

dec_two : (n : ℕ) → 10 ≤ n → n < 100 → dec n ≡ (48 + n / 10) ∷ ((48 + n % 10) ∷ [])
dec_two n many less =
    sym (append-nil (dec n)) ∙ sym (dec_step n [] many (omega (arith, less)))
    ∙ ap (λ (u : List ℕ). u ++ ((48 + n % 10) ∷ [])) (dec_one (n / 10) (grind (arith, less)))

short_by : (n : ℕ) (b : Bool) → nat_lt n 10 ≡ b → n < 100 → IsShort n
short_by n true is less =
    let small : n < 10 = grind (arith, is) in
    let e = dec_one n small in
    let k33 : nat_le 33 (48 + n) ≡ true = grind arith in
    let k32 : nat_le 32 (48 + n) ≡ true = grind arith in
    record {
      solid = ap (from 33) e ∙ rw (k33) refl;
      clear = ap (from 32) e ∙ rw (k32) refl;
      few = omega (arith, ap length e);
      read = ap (number 10) e ∙ one_digit n small;
    }
short_by n false is less =
    let many : 10 ≤ n = grind (arith, is) in
    let a = n / 10 in
    let b = n % 10 in
    let e = dec_two n many less in
    let pa : a < 10 = grind (arith, less) in
    let pb : b < 10 = grind arith in
    let a33 : nat_le 33 (48 + a) ≡ true = grind arith in
    let b33 : nat_le 33 (48 + b) ≡ true = grind arith in
    let a32 : nat_le 32 (48 + a) ≡ true = grind arith in
    let b32 : nat_le 32 (48 + b) ≡ true = grind arith in
    let value : 10 * a + b ≡ n = grind arith in
    record {
      solid = ap (from 33) e ∙ rw (a33, b33) refl;
      clear = ap (from 32) e ∙ rw (a32, b32) refl;
      few = omega (arith, ap length e);
      read = ap (number 10) e ∙ two_digits a b pa pb ∙ ap Some value;
    }

pub short : (n : ℕ) → n < 100 → IsShort n
short n less = short_by n (nat_lt n 10) refl less

-- a line of commands
run_says : (row h t s : List ℕ) (a b c : ℕ) → words row ≡ codes "run" ∷ (h ∷ (t ∷ (s ∷ []))) → number 10 h ≡ Some a → number 10 t ≡ Some b → number 10 s ≡ Some c → nat_le c 1000000000 ≡ true → command_of row ≡ Ok (Run (kept a) (kept b) c)
run_says row h t s a b c e p q r few = rw (e, p, q, r, few) refl

sample_says : (row t : List ℕ) (b : ℕ) → words row ≡ codes "sample" ∷ (t ∷ []) → number 10 t ≡ Some b → command_of row ≡ Ok (Sampled (kept b))
sample_says row t b e q = rw (e, q) refl

kept_is : (n : ℕ) → n < 100 → kept n ≡ n
kept_is n less = grind (arith, less)

pub run_read : (h t s : ℕ) → h < 100 → t < 100 → s < 100 → command_of (run_row h t s) ≡ Ok (Run h t s)
run_read h t s p q r =
    let a = short h p in
    let b = short t q in
    let c = short s r in
    let few : nat_le s 1000000000 ≡ true = grind (arith, r) in
    let split : words (run_row h t s) ≡ codes "run" ∷ (dec h ∷ (dec t ∷ (dec s ∷ []))) =
    first_word (codes "run") (dec h ++ (32 ∷ (dec t ++ (32 ∷ dec s)))) refl
    ∙ ap (λ (ws : List (List ℕ)). codes "run" ∷ ws) (first_word (dec h) (dec t ++ (32 ∷ dec s)) a.solid
    ∙ ap (λ (ws : List (List ℕ)). dec h ∷ ws) (first_word (dec t) (dec s) b.solid ∙ ap (λ (ws : List (List ℕ)). dec t ∷ ws) (last_word (dec s) c.solid))) in
    run_says (run_row h t s) (dec h) (dec t) (dec s) h t s split a.read b.read c.read few
    ∙ ap (λ (k : ℕ). Ok (Run k (kept t) s)) (kept_is h p) ∙ ap (λ (k : ℕ). Ok (Run h k s)) (kept_is t q)

pub sample_read : (t : ℕ) → t < 100 → command_of (sample_row t) ≡ Ok (Sampled t)
sample_read t q =
    let b = short t q in
    sample_says (sample_row t) (dec t) t (first_word (codes "sample") (dec t) refl ∙ ap (λ (ws : List (List ℕ)). codes "sample" ∷ ws) (last_word (dec t) b.solid)) b.read
    ∙ ap (λ (k : ℕ). Ok (Sampled k)) (kept_is t q)

pub from_append : (k : ℕ) (xs ys : List ℕ) → from k xs ≡ true → from k ys ≡ true → from k (xs ++ ys) ≡ true
from_append k xs ys p q = list_all-append (λ (b : ℕ). nat_le k b) xs ys ∙ both (from k xs) (from k ys) p q

pub run_line : (h t s : ℕ) (rest : List ℕ) → h < 100 → t < 100 → s < 100 → line_at (run_row h t s ++ 10 ∷ rest) ≡ Line (run_row h t s) rest
run_line h t s rest p q r =
    let a = short h p in
    let b = short t q in
    let c = short s r in
    let last = 32 ∷ dec s in
    let two = dec t ++ last in
    let clear : from 32 (run_row h t s) ≡ true =
    from_append 32 (codes "run ") (dec h ++ (32 ∷ two)) refl (from_append 32 (dec h) (32 ∷ two) a.clear (from_append 32 (dec t) last b.clear c.clear)) in
    line_of 256 (run_row h t s) rest
    (omega (arith, length-append (dec h) (32 ∷ two), length-append (dec t) last, a.few, b.few, c.few)) clear

pub sample_line : (t : ℕ) (rest : List ℕ) → t < 100 → line_at (sample_row t ++ 10 ∷ rest) ≡ Line (sample_row t) rest
sample_line t rest q =
    let b = short t q in
    line_of 256 (sample_row t) rest (omega (arith, b.few)) (from_append 32 (codes "sample ") (dec t) refl b.clear)
