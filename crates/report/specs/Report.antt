-- The text that the program `settle` prints; docs/SCOPE.md, "Edges". Text is a list of character codes.
use Rattle.std.specs.Prelude.{ℕ, zero, suc, ◌+◌, ◌*◌, ◌/◌, ◌%◌, ◌≡◌, cond, List, [], ◌∷◌, ◌++◌, length, get_or, take, drop, ltb, Result, Ok, Err}
use Prim.Native.Char.{code}
use Prim.Native.String.{String, [] as []ˢ, ◌∷◌ as ◌∷ˢ◌}
use Rattle.std.proofs.lemmas.List.Edits.{sets}
use Rattle.fiber_bytes.specs.Bytes.{part}
use Rattle.fiber_refusal.specs.declared.Refusal.{Refusal}
use Rattle.fiber_refusal.specs.declared.Refusal.TheVariants.{NotWell}
use Rattle.fiber_refusal.specs.Rows.{number_of, place_of}
use Rattle.fiber_types.specs.Records.{Outcome, unwritten}
use Rattle.fiber_witness.specs.Witness.{record_len, chunks}
use Rattle.fiber_witness.specs.Update.{updated}

-- the character codes of a text
abbrev pub ascii : String → List ℕ
ascii []ˢ = []
ascii (c ∷ˢ s) = code c ∷ ascii s

-- ---- numbers

-- the digits of a number, highest first; the fuel is how many there may be
unfoldable pub digits_within : ℕ → ℕ → List ℕ
digits_within zero x = []
digits_within (suc fuel) x =
    let high = digits_within fuel (x / 10) in
    cond (ltb x 10) ((48 + x) ∷ []) (high ++ ((48 + x % 10) ∷ []))

-- 20 digits hold every number of 64 bits
unfoldable pub decimal : ℕ → List ℕ
decimal x = digits_within 20 x

-- 0 to 9, a to f
abbrev pub hex_digit : ℕ → ℕ
hex_digit x = cond (ltb x 10) (48 + x) (87 + x)

-- two digits to a byte
unfoldable pub hex : List ℕ → List ℕ
hex [] = []
hex (b ∷ bs) = hex_digit (b / 16) ∷ (hex_digit (b % 16) ∷ hex bs)

-- the last byte first: a number that is held lowest byte first, with its highest digit first
unfoldable pub hex_highest : List ℕ → List ℕ
hex_highest [] = []
hex_highest (b ∷ bs) = hex_highest bs ++ hex (b ∷ [])

-- ---- lines

-- a TLC, with its place in the updated list
unfoldable pub tlc_line : ℕ → List ℕ → List ℕ
tlc_line i r = ascii "tlc " ++ decimal i ++ ascii " " ++ hex r ++ ascii "\n"

unfoldable pub tlc_lines : ℕ → List (List ℕ) → List ℕ
tlc_lines i [] = []
tlc_lines i (r ∷ rs) = tlc_line i r ++ tlc_lines (i + 1) rs

-- a share: key hash, and the amount as 32 digits
unfoldable pub share_line : List ℕ → List ℕ → List ℕ
share_line word s = word ++ hex (part s 0 20) ++ ascii " " ++ hex_highest (part s 20 16) ++ ascii "\n"

-- number and place of a refusal
-- laws: ReportLaws.antt, `refused_is_row`: of each row this is the text that fiber_refusal prints of it, and the end of the line
unfoldable pub refused_text : ℕ → ℕ → List ℕ
refused_text number place = ascii "refused " ++ decimal number ++ ascii " at " ++ decimal place ++ ascii "\n"

-- a state of a channel whose hashes have h bytes
unfoldable pub state_text : ℕ → List ℕ → List ℕ
state_text h s =
    let n = get_or s 0 0 in
    let share_place = 1 + n * record_len h in
    ascii "tlcs "
    ++ decimal n
    ++ ascii "\n"
    ++ tlc_lines 0 (chunks (record_len h) n (drop 1 s))
    ++ share_line (ascii "remote ") (part s share_place 36)
    ++ share_line (ascii "local ") (part s (share_place + 36) 36)

-- ---- the report

-- the input: one byte h, then the witness; 14 at 0 above 65,536 bytes in all, or for none
unfoldable pub of_input : List ℕ → List ℕ → Outcome (Result ℕ Refusal)
of_input [] buffer = unwritten (Err NotWell) buffer
of_input (h ∷ w) buffer = cond (ltb 65536 (1 + length w)) (unwritten (Err NotWell) buffer) (updated h w buffer)

unfoldable pub text_of : ℕ → List ℕ → Result ℕ Refusal → List ℕ
text_of h buffer (Ok len) = state_text h (take len buffer)
text_of h buffer (Err r) = refused_text (number_of r) (place_of r)

-- the text, and the buffer for the updated state as it is left
unfoldable pub reported : List ℕ → List ℕ → Outcome (List ℕ)
reported input buffer =
    let o = of_input input buffer in
    record { answer = text_of (get_or input 0 0) o.bytes o.answer; bytes = o.bytes }

-- a text's length, the output with it at its front, and that buffer
abbrev pub Prints : Outcome (List ℕ) → List ℕ → ℕ → List ℕ → List ℕ → Type 0
Prints o out r after buffer = (r ≡ length o.answer) × ((after ≡ sets out 0 o.answer) × (buffer ≡ o.bytes))
