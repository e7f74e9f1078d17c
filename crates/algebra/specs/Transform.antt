-- What the transforms leave in the bytes they are lent. The bytes hold 2 ^ low functions of n inputs side by side, in lanes: byte
-- q * 2 ^ low + o is function o at q. Each is transformed by itself; a single function is the case where low is 0.
use Rattle.std.specs.Prelude.{Bool, cond, ◌&&◌, List, ℕ, ◌+◌, ◌*◌, ◌/◌, ◌%◌, ◌^◌, eqb, leb, ltb, length}
use Rattle.numbers.specs.Bytes.{at, tabulate}
use Rattle.algebra.specs.Terms.{value}
use Rattle.algebra.specs.Coefficients.{coefficient}

-- the function o of those that stand side by side in g
abbrev pub lane : ℕ → (ℕ → ℕ) → ℕ → ℕ → ℕ
lane low g o q = g (q * 2 ^ low + o)

-- each lane of g put through h by itself
unfoldable pub in_lanes : ℕ → ((ℕ → ℕ) → ℕ → ℕ) → (ℕ → ℕ) → ℕ → ℕ
in_lanes low h g x = h (lane low g (x % 2 ^ low)) (x / 2 ^ low)

-- at most eight inputs and at most eight below them, a polarity over the inputs, and two lists of one byte for each lane and point
unfoldable pub fits : ℕ → ℕ → ℕ → ℕ → ℕ → Bool
fits low n w given lent = leb low 8 && (leb n 8 && (ltb w (2 ^ n) && (eqb given (2 ^ (low + n)) && eqb lent (2 ^ (low + n)))))

-- the coefficients under w of each function of `tables`, where the arguments fit, and else the lent bytes as they were
unfoldable pub coefficient_bytes : ℕ → ℕ → ℕ → List ℕ → List ℕ → List ℕ
coefficient_bytes low n w tables before =
    cond (fits low n w (length tables) (length before)) (tabulate (length before) (in_lanes low (coefficient n w) (at tables))) before

-- from the coefficients of each function under the polarity v to those under w, where the arguments fit, and else the bytes as they were
unfoldable pub changed_bytes : ℕ → ℕ → ℕ → ℕ → List ℕ → List ℕ
changed_bytes low n v w before =
    cond (fits low n v (length before) (length before) && ltb w (2 ^ n))
    (tabulate (length before) (in_lanes low (λ c. coefficient n w (value n (λ t. v) c)) (at before)))
    before

-- the value of the coefficients at each point, where the arguments fit and there is one function, and else the lent bytes as they were
unfoldable pub value_bytes : ℕ → ℕ → List ℕ → List ℕ → List ℕ
value_bytes n w coefficients before =
    cond (fits 0 n w (length coefficients) (length before)) (tabulate (2 ^ n) (value n (λ t. w) (at coefficients))) before
