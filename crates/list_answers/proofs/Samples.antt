-- The definitions at answers that are written out. Assumes nothing.
use mathlib.Core.Path.{◌≡◌, refl}
use mathlib.Core.List.{[], ◌∷◌}
use Rattle.base_refusal.specs.declared.Refusal.TheVariants.{WrongPhase, Barred}
use Rattle.theory_protocol.specs.Plan.{fixed, accepted, refused, opened}
use Rattle.list_answers.specs.Texts.{reply_text}

-- "change 12", "refused 20" and "refused 21 3"
change_12 : reply_text (accepted (opened 12)) ≡ 99 ∷ 104 ∷ 97 ∷ 110 ∷ 103 ∷ 101 ∷ 32 ∷ 49 ∷ 50 ∷ 10 ∷ []
change_12 = refl

refused_20 : reply_text (refused WrongPhase) ≡ 114 ∷ 101 ∷ 102 ∷ 117 ∷ 115 ∷ 101 ∷ 100 ∷ 32 ∷ 50 ∷ 48 ∷ 10 ∷ []
refused_20 = refl

refused_21 : reply_text (refused (Barred 3)) ≡ 114 ∷ 101 ∷ 102 ∷ 117 ∷ 115 ∷ 101 ∷ 100 ∷ 32 ∷ 50 ∷ 49 ∷ 32 ∷ 51 ∷ 10 ∷ []
refused_21 = refl

-- "fixed 1 1", "0 2 1", "lost 5": one card, stored 2, line 1, and change 5 lost
fixed_one : reply_text (accepted (fixed (record { card = 0; stored = 2; line = 1 } ∷ []) (5 ∷ [])))
    ≡ 102 ∷ 105 ∷ 120 ∷ 101 ∷ 100 ∷ 32 ∷ 49 ∷ 32 ∷ 49 ∷ 10 ∷ 48 ∷ 32 ∷ 50 ∷ 32 ∷ 49 ∷ 10 ∷ 108 ∷ 111 ∷ 115 ∷ 116 ∷ 32 ∷ 53 ∷ 10 ∷ []
fixed_one = refl
