-- Loops as functions. A loop of the program that runs k from i up to n is `loop (n - i) i`; its invariant says that the loop continued from the
-- present state gives what the loop from the start gives.
-- A recursive call that may not be needed is bound by `let`, since antt computes an argument before the call.
use Rattle.std.specs.Prelude.{ℕ, zero, suc, ◌+◌, ◌-◌, ◌%◌, Bool, true, false, cond, ◌&&◌, ◌||◌, List, [], ◌∷◌, ◌++◌, length, drop, Option, Some, None}

-- n steps, at k, k + 1, ..
unfoldable pub loop : {S : Type 0} → (ℕ → S → S) → ℕ → ℕ → S → S
loop f zero k s = s
loop f (suc n) k s = loop f n (suc k) (f k s)

-- the first of the n numbers k, k + 1, .. that passes the test, as `find` of a range gives it
unfoldable pub first : (ℕ → Bool) → ℕ → ℕ → Option ℕ
first p zero k = None
first p (suc n) k = let later = first p n (suc k) in cond (p k) (Some k) later

-- every element passes the test; some element does
unfoldable pub every : {A : Type 0} → (A → Bool) → List A → Bool
every p [] = true
every p (x ∷ xs) = let rest = every p xs in p x && rest

unfoldable pub some : {A : Type 0} → (A → Bool) → List A → Bool
some p [] = false
some p (x ∷ xs) = let rest = some p xs in p x || rest

-- a left fold
unfoldable pub fold : {A S : Type 0} → (S → A → S) → S → List A → S
fold f s [] = s
fold f s (x ∷ xs) = fold f (f s x) xs

-- f k, f (k + 1), .. : n elements
unfoldable pub list : {A : Type 0} → (ℕ → A) → ℕ → ℕ → List A
list f zero k = []
list f (suc n) k = f k ∷ list f n (suc k)

-- the elements of each list, in order
unfoldable pub join : {A B : Type 0} → (A → List B) → List A → List B
join f [] = []
join f (x ∷ xs) = f x ++ join f xs

unfoldable pub sum_of : {A : Type 0} → (A → ℕ) → List A → ℕ
sum_of f [] = 0
sum_of f (x ∷ xs) = f x + sum_of f xs

-- how many elements pass the test
unfoldable pub count_of : {A : Type 0} → (A → Bool) → List A → ℕ
count_of p [] = 0
count_of p (x ∷ xs) = cond (p x) 1 0 + count_of p xs

-- the list without its element at i
unfoldable pub remove_at : {A : Type 0} → ℕ → List A → List A
remove_at i [] = []
remove_at zero (x ∷ xs) = xs
remove_at (suc i) (x ∷ xs) = x ∷ remove_at i xs

-- the place after place i of a ring of n, and the place before it
abbrev pub next : ℕ → ℕ → ℕ
next n i = (i + 1) % n

abbrev pub previous : ℕ → ℕ → ℕ
previous n i = (i + n - 1) % n

-- what a buffer holds after `written` was written to it from its start: beyond that it keeps its contents
unfoldable pub over : {A : Type 0} → List A → List A → List A
over written buffer = written ++ drop (length written) buffer
