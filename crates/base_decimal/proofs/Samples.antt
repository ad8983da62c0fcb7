-- The digits of numbers that are written out. Assumes nothing.
use mathlib.Core.Path.{◌≡◌, refl}
use mathlib.Core.List.{[], ◌∷◌}
use Rattle.base_decimal.specs.Digits.{decimal}

-- 0 is "0", 60000 is "60000", and the greatest number of 32 bits has ten digits
zero_text : decimal 0 ≡ 48 ∷ []
zero_text = refl

limit_text : decimal 60000 ≡ 54 ∷ 48 ∷ 48 ∷ 48 ∷ 48 ∷ []
limit_text = refl

greatest_text : decimal 4294967295 ≡ 52 ∷ 50 ∷ 57 ∷ 52 ∷ 57 ∷ 54 ∷ 55 ∷ 50 ∷ 57 ∷ 53 ∷ []
greatest_text = refl
