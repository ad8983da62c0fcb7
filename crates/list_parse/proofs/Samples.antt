-- The definitions at lines that are written out. Assumes nothing.
use Rattle.std.specs.Prelude.{Some, None}
use Prim.Native.Nat.{ℕ}
use mathlib.Core.Path.{◌≡◌, refl}
use mathlib.Core.Bool.{true}
use mathlib.Core.List.{List, [], ◌∷◌, ◌++◌}
use Rattle.list_commands.specs.declared.Command.TheVariants.{Asks, Unreadable}
use Rattle.list_commands.specs.declared.Request.TheVariants.{Open, Vote, Trim, Fix, Frames}
use Rattle.list_names.specs.Names.{open_name, vote_name, trim_name, fix_name, frames_name}
use Rattle.list_parse.specs.Lines.{parse_line, token_at}

-- "open 01 0" is an opening that reads card 0, since leading zeros are digits; "open  1 0", "open 1" and "open 1 0 " are none
open_zeros : parse_line (open_name ++ (32 ∷ 48 ∷ 49 ∷ 32 ∷ 48 ∷ [])) ≡ Asks (Open 1 0)
open_zeros = refl

two_spaces : parse_line (open_name ++ (32 ∷ 32 ∷ 49 ∷ 32 ∷ 48 ∷ [])) ≡ Unreadable
two_spaces = refl

missing_word : parse_line (open_name ++ (32 ∷ 49 ∷ [])) ≡ Unreadable
missing_word = refl

last_space : parse_line (open_name ++ (32 ∷ 49 ∷ 32 ∷ 48 ∷ 32 ∷ [])) ≡ Unreadable
last_space = refl

-- "vote 1 0 01" is a yes, and "vote 1 0 2" is unreadable
vote_yes : parse_line (vote_name ++ (32 ∷ 49 ∷ 32 ∷ 48 ∷ 32 ∷ 48 ∷ 49 ∷ [])) ≡ Asks (Vote 1 0 true)
vote_yes = refl

vote_two : parse_line (vote_name ++ (32 ∷ 49 ∷ 32 ∷ 48 ∷ 32 ∷ 50 ∷ [])) ≡ Unreadable
vote_two = refl

-- "trim" with a byte 13 after it, and an empty line
trim_return : parse_line (trim_name ++ (13 ∷ [])) ≡ Unreadable
trim_return = refl

empty_line : parse_line [] ≡ Unreadable
empty_line = refl

-- "fix 16 776" and "fix 17 0"
fix_most : parse_line (fix_name ++ (32 ∷ 49 ∷ 54 ∷ 32 ∷ 55 ∷ 55 ∷ 54 ∷ [])) ≡ Asks (Fix 16 776)
fix_most = refl

fix_over : parse_line (fix_name ++ (32 ∷ 49 ∷ 55 ∷ 32 ∷ 48 ∷ [])) ≡ Unreadable
fix_over = refl

-- "frames 3" looks at card 3, and "frames" at none
frames_of_lem : parse_line (frames_name ++ (32 ∷ 51 ∷ [])) ≡ Asks (Frames 3)
frames_of_lem = refl

frames_bare : parse_line frames_name ≡ Unreadable
frames_bare = refl

-- two lines, the last with no byte 10
abbrev two : List ℕ
two = trim_name ++ (10 ∷ trim_name)

first_line : token_at two 0 ≡ Some ((Asks Trim), 5)
first_line = refl

last_line : token_at two 5 ≡ Some ((Asks Trim), 9)
last_line = refl

no_line_lem : token_at two 9 ≡ None
no_line_lem = refl
