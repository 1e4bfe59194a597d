-- Laws of `specs/Report.antt`: writes one behind the other, digits, hex, lines, and how long a text can be.
-- Assumes nothing.
use mathlib.Core.Path.{◌≡◌, refl, sym, ap, subst, ◌∙◌}
use mathlib.Core.List.{List, [], ◌∷◌, ◌++◌, append_assoc, append-nil}
use mathlib.Core.Logic.{⊎_elim}
use Prim.Native.Nat.{ℕ, zero, suc, ◌+◌, ◌-◌, ◌*◌, ◌/◌, ◌%◌, ◌^◌, ◌≤◌, ◌<◌, min}
use native.Mathlib.Nat.{suc-mul, mul-le-mul}
use native.Mathlib.Numerals.{add-one}
use native.Mathlib.Omega.{arith}
use lib.ListN.{length, get_or, take, drop, length-append, length-take, length-drop, drop_of_length-le}
use lib.Seq.{sets, length-sets, take-append_seam, drop-append_seam, take_all, drop-cons}
use borrow.Author.Tests.{lt-ltb, le-ltb}
use Rattle.std.proofs.Math.Nat.{add-div_left, mul-div_cancel}
use Rattle.std.proofs.lemmas.Bool.{cases_lt}
use Rattle.std.proofs.lemmas.Nat.{div_below}
use Rattle.std.proofs.lemmas.List.{drop-take, take-take, length-take-le}
use Rattle.std.proofs.lemmas.Fmt.{AppendsLastDigit, decimal_from_appends, length-decimal-le}
use Rattle.std.specs.Fmt.{decimal as std_decimal}
use Rattle.fiber_bytes.specs.Bytes.{part}
use Rattle.fiber_bytes.proofs.BytesLaws.{sets_append, sets_out}
use Rattle.std.specs.Prelude.{Result, Ok, Err}
use Rattle.fiber_refusal.specs.declared.Refusal.{Refusal}
use Rattle.fiber_refusal.specs.declared.Refusal.TheVariants.{WitnessShort, TlcCut, SharesCut, UnlockCut, UnlockUnknown, SettledTwice, LengthZero, ScaledAbove, ArgsShort, NoDelay, TooManyTlcs, OutputShort, NotWell}
use Rattle.fiber_refusal.specs.Rows.{number_of, place_of}
use Rattle.fiber_refusal.specs.Rows as Rows
use Rattle.fiber_types.specs.Records.{unwritten}
use Rattle.fiber_witness.specs.Update.{updated}
use Rattle.fiber_witness.proofs.LeftLaws as LeftCase
use Rattle.fiber_witness.specs.Witness.{chunks, record_len}
use Rattle.report.specs.declared.Text.{Text}
use Rattle.report.specs.Report.{digits_within, decimal, hex, hex_highest, tlc_line, tlc_lines, share_line, refused_text, state_text, reported, ascii, of_input, text_of}
use Rattle.fiber_witness.proofs.WitnessLaws.{records_none, records_more}
use Rattle.report.specs.inner.Written.{written}

-- ---- writes, one behind the other

-- the output's length is what it was
pub written_room : (t : Text) (s : List ℕ) → length (written t s).out.now ≡ length t.out.now
unfolding written
written_room t s = length-sets t.out.now t.len s

-- a write, and another right behind it: where the count has stopped there is no room either
pub written_more : (t : Text) (a b : List ℕ) → length t.out.now < 2 ^ 64 → written (written t a) b ≡ written t (a ++ b)
unfolding written
written_more t a b h =
    rw (length-append a b, sets_append a b t.out.now t.len, place) (grind arith)
  where
    o : List ℕ
    o = sets t.out.now t.len a

    place : sets o (t.len + min (length a) (2 ^ 64 - 1 - t.len)) b ≡ sets o (t.len + length a) b
    place = ⊎_elim
        (λ g. sets_out b o _ (omega (arith, length-sets t.out.now t.len a)) ∙ sym (sets_out b o _ (omega (arith, length-sets t.out.now t.len a))))
        (λ g. let e : min (length a) (2 ^ 64 - 1 - t.len) ≡ length a = omega arith in ap (λ (n : ℕ). sets o (t.len + n) b) e)
        (cases_lt (2 ^ 64 - 1 - t.len) (length a))

written_none : (t : Text) → written t [] ≡ t
unfolding written
written_none t =
    let e : t.len + min 0 (2 ^ 64 - 1 - t.len) ≡ t.len = omega arith in
    ap (λ (n : ℕ). record t { len = n }) e

-- behind nothing, no text that the program prints reaches the end of the count
pub written_len : (t : Text) (s : List ℕ) → t.len ≡ 0 → length s ≤ 65536 → (written t s).len ≡ length s
unfolding written
written_len t s e h = omega arith

-- what is left to write behind the text so far gives what the whole gives
abbrev pub Left : Text → List ℕ → Text → List ℕ → Type 0
Left t s o all = (length t.out.now < 2 ^ 64) × (written t s ≡ written o all)

-- its front is written
pub left_more : (t : Text) (a b : List ℕ) (o : Text) (all : List ℕ) → Left t (a ++ b) o all → {u : Text} → u ≡ written t a → Left u b o all
left_more t a b o all e f = rw f (rw (written_room t a) e.0, rw (written_more t a b e.0) e.1)

-- nothing is left
pub left_none : (t o : Text) (all : List ℕ) → Left t [] o all → t ≡ written o all
left_none t o all e = sym (written_none t) ∙ e.1

-- ---- digits

-- a number is printed as the library prints it
pub decimal_is : (x : ℕ) → x < 2 ^ 64 → decimal x ≡ std_decimal x
unfolding decimal digits_within
decimal_is x h = decimal_from_appends digits_within ends 20 x h (length-decimal-le 20 x (omega arith) (omega arith) h)
  where
    ends : AppendsLastDigit digits_within
    ends = record { one = λ k n l. rw (lt-ltb n 10 l); more = λ k n l. rw (le-ltb n 10 l) }

-- never more digits than the fuel
digits_short : (f x : ℕ) → length (digits_within f x) ≤ f
unfolding digits_within
digits_short zero x = omega arith
digits_short (suc f) x = ⊎_elim
    (λ h. rw (lt-ltb x 10 h) (omega arith))
    (λ h. rw (le-ltb x 10 h) (omega (arith, length-append (digits_within f (x / 10)) ((48 + x % 10) ∷ []), digits_short f (x / 10))))
    (cases_lt x 10)

-- 20 digits at most
pub decimal_short : (x : ℕ) → length (decimal x) ≤ 20
unfolding decimal
decimal_short x = digits_short 20 x

-- ---- hex

-- two digits to a byte
pub hex_length : (s : List ℕ) → length (hex s) ≡ 2 * length s
unfolding hex
hex_length [] = refl
hex_length (b ∷ s) = omega (arith, hex_length s)

-- the last byte is written first
highest_last : (s : List ℕ) (b : ℕ) → hex_highest (s ++ (b ∷ [])) ≡ hex (b ∷ []) ++ hex_highest s
unfolding hex_highest
highest_last [] b = sym (append-nil (hex (b ∷ [])))
highest_last (a ∷ s) b = ap (λ (l : List ℕ). l ++ hex (a ∷ [])) (highest_last s b) ∙ append_assoc (hex (b ∷ [])) (hex_highest s) (hex (a ∷ []))

pub highest_length : (s : List ℕ) → length (hex_highest s) ≡ 2 * length s
unfolding hex_highest
highest_length [] = refl
highest_length (b ∷ s) = omega (arith, length-append (hex_highest s) (hex (b ∷ [])), hex_length (b ∷ []), highest_length s)

-- the next byte is written first
pub hex_turn : (s : List ℕ) (i : ℕ) → i < length s → hex (drop i s) ≡ hex (get_or s i 0 ∷ []) ++ hex (drop (i + 1) s)
unfolding hex
hex_turn s i h = rw (drop-cons s i 0 h, add-one i)

pub hex_end : (s : List ℕ) (i : ℕ) → length s ≤ i → hex (drop i s) ≡ []
unfolding hex
hex_end s i h = rw (drop_of_length-le s h)

pub highest_turn : (s t : List ℕ) (b : ℕ) → s ≡ t ++ (b ∷ []) → hex_highest s ≡ hex (b ∷ []) ++ hex_highest t
highest_turn s t b e = rw e (highest_last t b)

pub highest_end : (s : List ℕ) → length s ≡ 0 → hex_highest s ≡ []
unfolding hex_highest
highest_end [] e = refl
highest_end (b ∷ s) e = absurd (omega arith)

-- ---- lines

pub tlc_line_length : (i : ℕ) (r : List ℕ) → length (tlc_line i r) ≡ 6 + length (decimal i) + length (hex r)
unfolding tlc_line
tlc_line_length i r = simp length-append (omega arith)

pub tlc_line_is : (i : ℕ) (r : List ℕ) → tlc_line i r ≡ ascii "tlc " ++ decimal i ++ ascii " " ++ hex r ++ ascii "\n"
unfolding tlc_line
tlc_line_is i r = refl

pub refused_text_is : (number place : ℕ) → refused_text number place ≡ ascii "refused " ++ decimal number ++ ascii " at " ++ decimal place ++ ascii "\n"
unfolding refused_text
refused_text_is number place = refl

pub refused_text_length : (number place : ℕ) → length (refused_text number place) ≡ 13 + length (decimal number) + length (decimal place)
unfolding refused_text
refused_text_length number place = simp length-append (omega arith)

-- of 36 bytes, the first 20 and the others
pub share_line_is : (word s : List ℕ) → length s ≡ 36 → share_line word s ≡ word ++ hex (take 20 s) ++ ascii " " ++ hex_highest (drop 20 s) ++ ascii "\n"
unfolding share_line
share_line_is word s h = rw (take_all 16 (drop 20 s) (omega (arith, length-drop 20 s)))

-- the lines of the whole records in l, from the place i on
abbrev pub lines : ℕ → ℕ → List ℕ → List ℕ
lines size i l = tlc_lines i (chunks size (length l / size) l)

-- the next record's line comes first
pub lines_turn : (size k i j : ℕ) (l r t : List ℕ) → 0 < size → l ≡ r ++ t → length r ≡ size → i ≡ k → j ≡ k + 1 → lines size k l ≡ tlc_line i r ++ lines size j t
unfolding tlc_lines
lines_turn size k i j l r t p e h f g =
    let len : length l ≡ size + length t = rw (e, ← h) (length-append r t) in
    let n : length l / size ≡ suc (length t / size) = rw (len, add-div_left (length t) p) (add-one (length t / size)) in
    let front : take size (r ++ t) ≡ r = rw (← h) (take-append_seam r t) in
    let behind : drop size (r ++ t) ≡ t = rw (← h) (drop-append_seam r t) in
    rw (n, records_more size (length t / size) l, e, front, behind, f, g)

-- no whole record is left
pub lines_end : (size i : ℕ) (l : List ℕ) → length l < size → lines size i l ≡ []
unfolding tlc_lines
lines_end size i l h =
    let n : length l / size < 1 = div_below (length l) size 1 (omega arith) (omega arith) in
    let z : length l / size ≡ 0 = omega arith in
    rw (z, records_none size l)

-- ---- a state

-- records that are all there
chunks_take : (size n : ℕ) (l : List ℕ) → chunks size n (take (n * size) l) ≡ chunks size n l
chunks_take size zero l = records_none size (take (zero * size) l) ∙ sym (records_none size l)
chunks_take size (suc n) l =
    let m : suc n * size ≡ size + n * size = omega (arith, suc-mul n size) in
    rw (m, records_more size n (take (size + n * size) l), records_more size n l, take-take size (size + n * size) l (omega arith), drop-take size (n * size) l, chunks_take size n (drop size l))

-- its parts, one behind the other
pub state_text_is : (h : ℕ) (s : List ℕ) → 73 + get_or s 0 0 * record_len h ≤ length s
    → state_text h s ≡ ascii "tlcs " ++ decimal (get_or s 0 0) ++ ascii "\n" ++ lines (record_len h) 0 (take (get_or s 0 0 * record_len h) (drop 1 s))
    ++ share_line (ascii "remote ") (part s (1 + get_or s 0 0 * record_len h) 36) ++ share_line (ascii "local ") (part s (1 + get_or s 0 0 * record_len h + 36) 36)
unfolding state_text
state_text_is h s f =
    let n = get_or s 0 0 in
    let m = n * record_len h in
    let len : length (take m (drop 1 s)) ≡ m = length-take-le m (drop 1 s) (omega (arith, length-drop 1 s)) in
    let all : m / record_len h ≡ n = mul-div_cancel n (omega arith) in
    rw (len, all, chunks_take (record_len h) n (drop 1 s))

-- what a chain of writes needs
pub ruleset writes = (written_room, written_more, tlc_line_is, share_line_is, refused_text_is, state_text_is)

-- ---- the report, by its input

pub of_none : (input buffer : List ℕ) → length input ≡ 0 → of_input input buffer ≡ unwritten (Err NotWell) buffer
unfolding of_input
of_none [] buffer e = refl
of_none (h ∷ w) buffer e = absurd (omega arith)

pub of_long : (h : ℕ) (w buffer : List ℕ) → 65536 < 1 + length w → of_input (h ∷ w) buffer ≡ unwritten (Err NotWell) buffer
unfolding of_input
of_long h w buffer f = rw (lt-ltb 65536 (1 + length w) f)

pub of_taken : (h : ℕ) (w buffer : List ℕ) → 1 + length w ≤ 65536 → of_input (h ∷ w) buffer ≡ updated h w buffer
unfolding of_input
of_taken h w buffer f = rw (le-ltb 65536 (1 + length w) f)

-- the three cases of an input
pub ruleset cases = (of_none, of_long, of_taken)

-- where the update was taken there was an input
abbrev Nonempty : List ℕ → Result ℕ Refusal → Type 0
Nonempty input (Ok len) = 0 < length input
Nonempty input (Err r) = Unit {0}

of_some : (input buffer : List ℕ) → Nonempty input (of_input input buffer).answer
of_some [] buffer = rw (of_none [] buffer refl) tt
of_some (h ∷ w) buffer = go (of_input (h ∷ w) buffer).answer
  where
    go : (a : Result ℕ Refusal) → Nonempty (h ∷ w) a
    go (Ok len) = omega arith
    go (Err r) = tt

-- what it left is a whole state
of_left : (input buffer : List ℕ) → LeftCase.Left (get_or input 0 0) (of_input input buffer).bytes (of_input input buffer).answer
of_left [] buffer = rw (of_none [] buffer refl) tt
of_left (h ∷ w) buffer = ⊎_elim (λ f. rw (of_long h w buffer f) tt) (λ f. rw (of_taken h w buffer f) (LeftCase.left h w buffer)) (cases_lt 65536 (1 + length w))

module _ (input buffer : List ℕ) (len : ℕ) (e : Ok len ≡ (of_input input buffer).answer) where
  pub left_some : 0 < length input
  left_some = subst (Nonempty input) (sym e) (of_some input buffer)

  module _ (h : ℕ) (s t : List ℕ) (f : s ≡ (of_input input buffer).bytes) (g : t ≡ part s 0 len) (k : h ≡ get_or input 0 0) where
    pub left_whole : (h ≤ 32) × (73 + get_or t 0 0 * record_len h ≤ length t)
    left_whole =
        let u = subst (LeftCase.Left (get_or input 0 0) (of_input input buffer).bytes) (sym e) (of_left input buffer) in
        let v : LeftCase.Whole h t = rw (g, k, f) u in
        (v.small, omega (arith, v.size))

    pub says_state : (state_text h t ≡ (reported input buffer).answer) × (s ≡ (reported input buffer).bytes)
    unfolding reported text_of
    says_state = (rw (← e, k, g, f), f)

-- an answer that was turned down
pub says_refused : (input buffer s : List ℕ) (r : Refusal) → Err r ≡ (of_input input buffer).answer → s ≡ (of_input input buffer).bytes
    → (refused_text (number_of r) (place_of r) ≡ (reported input buffer).answer) × (s ≡ (reported input buffer).bytes)
unfolding reported text_of
says_refused input buffer s r e f = (rw (← e), f)

-- ---- a refusal

-- every row's number has 64 bits
number_small : (r : Refusal) → number_of r < 2 ^ 64
number_small (WitnessShort length) = omega arith
number_small (TlcCut at) = omega arith
number_small (SharesCut at) = omega arith
number_small (UnlockCut at) = omega arith
number_small (UnlockUnknown at) = omega arith
number_small (SettledTwice at) = omega arith
number_small LengthZero = omega arith
number_small ScaledAbove = omega arith
number_small ArgsShort = omega arith
number_small NoDelay = omega arith
number_small TooManyTlcs = omega arith
number_small (OutputShort needed) = omega arith
number_small NotWell = omega arith

joined : (a b c d e : List ℕ) → a ++ b ++ c ++ d ++ e ≡ (a ++ (b ++ (c ++ d))) ++ e
joined a b c d e = simp append_assoc

-- What is written of a refusal is what fiber_refusal prints of it, its row's number and its place, and the end of the line. A place has 64 bits, as in the
-- code, since `decimal` has room for 20 digits.
pub refused_is_row : (h : ℕ) (buffer : List ℕ) (r : Refusal) → place_of r < 2 ^ 64 → text_of h buffer (Err r) ≡ Rows.text_of r ++ ascii "\n"
unfolding text_of refused_text
refused_is_row h buffer r f =
    rw (decimal_is (number_of r) (number_small r), decimal_is (place_of r) f)
    (joined (ascii "refused ") (std_decimal (number_of r)) (ascii " at ") (std_decimal (place_of r)) (ascii "\n"))

-- ---- how long a text can be

-- why a witness was turned down is never cut
pub refused_short : (number place : ℕ) → length (refused_text number place) ≤ 65536
refused_short number place = omega (arith, refused_text_length number place, decimal_short number, decimal_short place)

-- n lines of records of size bytes: 20 digits and 6 characters besides the record's own digits in each
tlc_lines_short : (size n i : ℕ) (l : List ℕ) → length (tlc_lines i (chunks size n l)) ≤ n * (26 + 2 * size)
unfolding tlc_lines
tlc_lines_short size zero i l = rw (records_none size l) (omega arith)
tlc_lines_short size (suc n) i l =
    rw (records_more size n l)
    (omega (
      arith,
      suc-mul n (26 + 2 * size),
      length-append (tlc_line i (take size l)) (tlc_lines (i + 1) (chunks size n (drop size l))),
      tlc_line_length i (take size l),
      decimal_short i,
      hex_length (take size l),
      length-take size l,
      tlc_lines_short size n (i + 1) (drop size l),
    ))

-- 40 digits, 32 digits and 2 characters besides the word
pub share_line_short : (word s : List ℕ) → length (share_line word s) ≤ length word + 74
unfolding share_line
share_line_short word s =
    simp length-append (omega (arith, hex_length (part s 0 20), highest_length (part s 20 16), length-take 20 (drop 0 s), length-take 16 (drop 20 s)))

-- a state is never cut: 255 lines of 97 bytes are the most
pub text_short : (h : ℕ) (s : List ℕ) → h ≤ 32 → get_or s 0 0 ≤ 255 → length (state_text h s) ≤ 65536
unfolding state_text
text_short h s a b =
    let n = get_or s 0 0 in
    let each : 26 + 2 * record_len h ≤ 220 = omega arith in
    simp length-append
    (omega (
      arith,
      decimal_short n,
      tlc_lines_short (record_len h) n 0 (drop 1 s),
      mul-le-mul b each,
      share_line_short (ascii "remote ") (part s (1 + n * record_len h) 36),
      share_line_short (ascii "local ") (part s (1 + n * record_len h + 36) 36),
    ))
