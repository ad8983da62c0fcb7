-- `sheet_digits::is_digit` tells the digits from the other bytes. Assumes nothing.
use borrow.Author.Rules.{rules}
use Rattle.sheet_digits.specs.Digits.{is_numeral, is_letter, is_digit}
use Rattle.sheet_digits.proofs.is_digit.Goals as goal

pub returns-then-is_ascii_digit : goal.returns-then-is_ascii_digit
unfolding is_digit is_numeral is_letter
returns-then-is_ascii_digit c = search rules

pub returns-else-is_ascii_digit : goal.returns-else-is_ascii_digit
unfolding is_digit is_numeral is_letter
returns-else-is_ascii_digit c = search rules
