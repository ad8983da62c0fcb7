-- Words for what holds below a bound: at every number, at some number, how many, the greatest, the list of values.
-- The definitions of the other crates are made of these.
use Rattle.std.specs.Prelude.{ℕ, zero, suc, ◌+◌, max, Bool, true, false, ◌&&◌, ◌||◌, cond, List, [], ◌∷◌, ◌++◌, eqb}

-- 1 where the test passes, and 0 where it fails
abbrev pub one_if : Bool → ℕ
one_if true = 1
one_if false = 0

-- the test passes at every number below n
abbrev pub all_below : ℕ → (ℕ → Bool) → Bool
all_below zero p = true
all_below (suc n) p = all_below n p && p n

-- the test passes at some number below n
abbrev pub any_below : ℕ → (ℕ → Bool) → Bool
any_below zero p = false
any_below (suc n) p = any_below n p || p n

-- at how many numbers below n the test passes
abbrev pub count_below : ℕ → (ℕ → Bool) → ℕ
count_below zero p = 0
count_below (suc n) p = count_below n p + one_if (p n)

-- the greatest of f at the numbers below n, and 0 where there is none
abbrev pub greatest : ℕ → (ℕ → ℕ) → ℕ
greatest zero f = 0
greatest (suc n) f = max (greatest n f) (f n)

-- f at the numbers below n, as a list
abbrev pub tabulate : {A : Type 0} → ℕ → (ℕ → A) → List A
tabulate zero f = []
tabulate (suc n) f = tabulate n f ++ (f n ∷ [])

-- f at those numbers below n at which the test passes, as a list
abbrev pub selected : {A : Type 0} → ℕ → (ℕ → Bool) → (ℕ → A) → List A
selected zero p f = []
selected (suc n) p f = selected n p f ++ cond (p n) (f n ∷ []) []

-- the first number below n at which the test passes, and n where there is none
abbrev pub first_below : ℕ → (ℕ → Bool) → ℕ
first_below zero p = 0
first_below (suc n) p = cond (p 0) 0 (suc (first_below n (λ i. p (suc i))))

-- how often k stands in a list
abbrev pub occurs : ℕ → List ℕ → ℕ
occurs k [] = 0
occurs k (x ∷ xs) = one_if (eqb x k) + occurs k xs
