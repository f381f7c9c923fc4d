-- What printing answers: the whole text, or that the text would be too long to be read.
use Rattle.std.specs.Prelude.{◌≡◌, ℕ, Bool, true, false, ◌||◌, List, length, filter, ◌==◌, nat_lt, Result, Ok, Err}
use Rattle.cfg_print.specs.declared.refusal.PrintRefusal.{PrintRefusal}
use Rattle.cfg_print.specs.declared.refusal.PrintRefusal.TheVariants.{TooLong, Memory}

-- how many lines end
abbrev pub count_newlines : List ℕ → ℕ
count_newlines bs = length (filter (λ b. b == 10) bs)

-- more bytes or more lines than a text has that is read
unfoldable pub is_too_long : List ℕ → Bool
is_too_long bs = nat_lt 16777216 (length bs) || nat_lt 1000000 (count_newlines bs)

-- the bytes of what is given are the text, which is not too long; or it is too long; or memory ran out
abbrev pub Prints : {X : Type 0} → (X → List ℕ) → Result X PrintRefusal → List ℕ → Type 0
Prints bytes (Ok x) text = (bytes x ≡ text) × (is_too_long text ≡ false)
Prints bytes (Err TooLong) text = is_too_long text ≡ true
Prints bytes (Err Memory) text = Unit {0}
