-- Which call a line is, by its word and its numbers.
use Rattle.std.specs.Prelude.{ℕ, cond, List, [], ◌∷◌, Result, Ok, Err}
use Rattle.list_commands.specs.declared.Command.{Command}
use Rattle.list_commands.specs.declared.Command.TheVariants.{Fresh, Asks, Unreadable}
use Rattle.list_commands.specs.declared.Request.TheVariants.{Open, Take, Withdraw, Store, Begin, End, Trim, Safe, Lose, Roll, Restart, Show, Frames}
use Rattle.list_commands.specs.Calls.{as_fix, as_sheet, as_vote}
use Rattle.list_words.specs.declared.Malformed.{Malformed}
use Rattle.list_words.specs.declared.Figures.{Figures}
use Rattle.list_words.specs.declared.Figures.TheVariants.{Zero, One, Two, Three}
use Rattle.base_search.specs.Search.{same}

-- ---- the names of the calls, as bytes

abbrev pub fresh_name : List ℕ
fresh_name = 102 ∷ 114 ∷ 101 ∷ 115 ∷ 104 ∷ []

abbrev pub open_name : List ℕ
open_name = 111 ∷ 112 ∷ 101 ∷ 110 ∷ []

abbrev pub vote_name : List ℕ
vote_name = 118 ∷ 111 ∷ 116 ∷ 101 ∷ []

abbrev pub take_name : List ℕ
take_name = 116 ∷ 97 ∷ 107 ∷ 101 ∷ []

abbrev pub withdraw_name : List ℕ
withdraw_name = 119 ∷ 105 ∷ 116 ∷ 104 ∷ 100 ∷ 114 ∷ 97 ∷ 119 ∷ []

abbrev pub store_name : List ℕ
store_name = 115 ∷ 116 ∷ 111 ∷ 114 ∷ 101 ∷ []

abbrev pub begin_name : List ℕ
begin_name = 98 ∷ 101 ∷ 103 ∷ 105 ∷ 110 ∷ []

abbrev pub end_name : List ℕ
end_name = 101 ∷ 110 ∷ 100 ∷ []

abbrev pub trim_name : List ℕ
trim_name = 116 ∷ 114 ∷ 105 ∷ 109 ∷ []

abbrev pub safe_name : List ℕ
safe_name = 115 ∷ 97 ∷ 102 ∷ 101 ∷ []

abbrev pub lose_name : List ℕ
lose_name = 108 ∷ 111 ∷ 115 ∷ 101 ∷ []

abbrev pub fix_name : List ℕ
fix_name = 102 ∷ 105 ∷ 120 ∷ []

abbrev pub roll_name : List ℕ
roll_name = 114 ∷ 111 ∷ 108 ∷ 108 ∷ []

abbrev pub sheet_name : List ℕ
sheet_name = 115 ∷ 104 ∷ 101 ∷ 101 ∷ 116 ∷ []

abbrev pub restart_name : List ℕ
restart_name = 114 ∷ 101 ∷ 115 ∷ 116 ∷ 97 ∷ 114 ∷ 116 ∷ []

abbrev pub show_name : List ℕ
show_name = 115 ∷ 104 ∷ 111 ∷ 119 ∷ []

abbrev pub frames_name : List ℕ
frames_name = 102 ∷ 114 ∷ 97 ∷ 109 ∷ 101 ∷ 115 ∷ []

-- ---- the calls, by how many numbers they have

abbrev pub parse_bare : List ℕ → Command
parse_bare w = cond (same w trim_name) (Asks Trim) (cond (same w restart_name) (Asks Restart) (cond (same w show_name) (Asks Show) Unreadable))

abbrev pub parse_one : List ℕ → ℕ → Command
parse_one w a =
    cond (same w fresh_name) (Fresh a)
    (cond (same w withdraw_name) (Asks (Withdraw a))
    (cond (same w safe_name) (Asks (Safe a))
    (cond (same w lose_name) (Asks (Lose a))
    (cond (same w roll_name) (Asks (Roll a))
    (cond (same w frames_name) (Asks (Frames a)) Unreadable)))))

abbrev pub parse_two : List ℕ → (a b : ℕ) → Command
parse_two w a b =
    cond (same w open_name) (Asks (Open a b))
    (cond (same w take_name) (Asks (Take a b))
    (cond (same w store_name) (Asks (Store a b))
    (cond (same w begin_name) (Asks (Begin a b))
    (cond (same w end_name) (Asks (End a b))
    (cond (same w fix_name) (as_fix a b)
    (cond (same w sheet_name) (as_sheet a b) Unreadable))))))

abbrev pub parse_three : List ℕ → (a b c : ℕ) → Command
parse_three w a b c = cond (same w vote_name) (as_vote a b c) Unreadable

abbrev pub parse_with : List ℕ → Result Figures Malformed → Command
parse_with w (Ok Zero) = parse_bare w
parse_with w (Ok (One a)) = parse_one w a
parse_with w (Ok (Two a b)) = parse_two w a b
parse_with w (Ok (Three a b c)) = parse_three w a b c
parse_with w (Err e) = Unreadable
