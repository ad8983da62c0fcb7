-- `sheet_digits::value_of` gives a digit's value. Assumes nothing.
use borrow.Author.Rules.{rules}
use Rattle.sheet_digits.specs.Digits.{is_numeral, is_letter, digit_value}
use Rattle.sheet_digits.proofs.value_of.Goals as goal

pub returns-in-48-to-57-clause-value : goal.returns-in-48-to-57-clause-value
unfolding digit_value is_numeral is_letter
returns-in-48-to-57-clause-value c = search rules

pub returns-in-65-to-70-clause-value : goal.returns-in-65-to-70-clause-value
unfolding digit_value is_numeral is_letter
returns-in-65-to-70-clause-value c = search rules

pub returns-in_default-clause-value : goal.returns-in_default-clause-value
unfolding digit_value is_numeral is_letter
returns-in_default-clause-value c = search rules

pub returns-in_default-2-clause-value : goal.returns-in_default-2-clause-value
unfolding digit_value is_numeral is_letter
returns-in_default-2-clause-value c = search rules

pub returns-in_default-3-clause-value : goal.returns-in_default-3-clause-value
unfolding digit_value is_numeral is_letter
returns-in_default-3-clause-value c = search rules
