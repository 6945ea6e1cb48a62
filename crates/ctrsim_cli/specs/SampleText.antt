-- The text of one sample, as the word `show` writes it.
use Rattle.std.specs.Prelude.{ℕ, zero, suc, ◌+◌, ◌*◌, ◌/◌, ◌%◌, ◌^◌, false, List, [], ◌∷◌, ◌++◌}
use Rattle.std.specs.Prelude.{length, get_or, if◌then◌else◌, codes}
use Rattle.std.specs.Fmt.{decimal, digit_glyph}
use Rattle.std.specs.List.{flat_map}
use Rattle.perf_sample.specs.declared.faults.Place.{Place}
use Rattle.perf_sample.specs.declared.faults.Place.TheVariants as place
use Rattle.perf_sample.specs.declared.sample.Branch.{Branch}
use Rattle.perf_sample.specs.declared.sample.Sample.{Sample}
use Rattle.perf_sample.specs.Layout.{LayoutWords, has, fixed_len}

-- a number in decimal, without leading zeros
unfoldable pub dec : ℕ → List ℕ
dec n = decimal n

-- so many hexadecimal digits: that of place k is bits 4 * k to 4 * k + 3
unfoldable pub hex_digits : ℕ → ℕ → List ℕ
hex_digits zero n = []
hex_digits (suc k) n = digit_glyph false (n / 2 ^ (4 * k) % 16) ∷ hex_digits k n

-- 0x and sixteen digits
abbrev pub hex16 : ℕ → List ℕ
hex16 n = codes "0x" ++ hex_digits 16 n

abbrev pub LF : List ℕ
LF = 10 ∷ []

-- the names of the branch types 0 to 15 (`perf_event.h`, PERF_BR_UNKNOWN and on)
abbrev pub type_names : List (List ℕ)
type_names =
    codes "unknown" ∷ codes "cond" ∷ codes "uncond" ∷ codes "ind" ∷ codes "call" ∷ codes "ind_call"
    ∷ codes "ret" ∷ codes "syscall" ∷ codes "sysret" ∷ codes "cond_call" ∷ codes "cond_ret"
    ∷ codes "eret" ∷ codes "irq" ∷ codes "serror" ∷ codes "no_tx" ∷ codes "extend_abi" ∷ []

unfoldable pub type_name : ℕ → List ℕ
type_name kind = get_or type_names kind []

-- the word that begins the line of a field
unfoldable pub field_word : Place → List ℕ
field_word place.Identifier = codes "identifier "
field_word place.Ip = codes "ip "
field_word place.Time = codes "time "
field_word place.Addr = codes "addr "
field_word place.Id = codes "id "
field_word place.StreamId = codes "stream_id "
field_word place.Cpu = codes "cpu "
field_word place.Period = codes "period "
field_word place.HwIndex = codes "hw_index "
field_word _ = []

-- a line of a word and a number, where the layout has the field
unfoldable pub hex_line : LayoutWords → Place → ℕ → List ℕ
hex_line layout p n = if has layout p then field_word p ++ hex16 n ++ LF else []

unfoldable pub dec_line : LayoutWords → Place → ℕ → List ℕ
dec_line layout p n = if has layout p then field_word p ++ dec n ++ LF else []

unfoldable pub thread_line : LayoutWords → ℕ → ℕ → List ℕ
thread_line layout pid tid =
    if has layout place.Tid then codes "pid " ++ dec pid ++ codes " tid " ++ dec tid ++ LF else []

-- the fields before the number of branches
unfoldable pub shown_fields : LayoutWords → Sample → List ℕ
shown_fields layout s =
    hex_line layout place.Identifier s.identifier
    ++ hex_line layout place.Ip s.ip
    ++ thread_line layout s.pid s.tid
    ++ dec_line layout place.Time s.time
    ++ hex_line layout place.Addr s.addr
    ++ hex_line layout place.Id s.id
    ++ hex_line layout place.StreamId s.stream_id
    ++ dec_line layout place.Cpu s.cpu
    ++ dec_line layout place.Period s.period

-- from, to, the name of the type in bits 20 to 23 of the flags, and the flags
abbrev pub shown_branch : Branch → List ℕ
shown_branch b =
    hex16 b.from ++ codes " " ++ hex16 b.to ++ codes " " ++ type_name (b.flags / 2 ^ 20 % 16)
    ++ codes " " ++ hex16 b.flags ++ LF

-- the lines of a sample that begins at this offset
unfoldable pub shown_sample : LayoutWords → ℕ → Sample → List ℕ
shown_sample layout offset s =
    codes "sample " ++ dec offset ++ codes " misc " ++ dec s.misc ++ codes " size "
    ++ dec (fixed_len layout + 24 * length s.branches) ++ LF
    ++ shown_fields layout s
    ++ codes "branches " ++ dec (length s.branches) ++ LF
    ++ hex_line layout place.HwIndex s.hw_index
    ++ flat_map shown_branch s.branches
