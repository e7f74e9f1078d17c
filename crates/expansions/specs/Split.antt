-- The bits of a number at the inputs of a mask M, and those at the inputs outside it, each "closed up, lowest first"; and back.
use Rattle.std.specs.Prelude.{ℕ, zero, suc, ◌+◌, ◌-◌, ◌*◌, ◌/◌, ◌%◌}

-- the number x with the digit b put below its own, where the mask's digit m is 1; and x where m is 0
unfoldable pub put_digit : ℕ → ℕ → ℕ → ℕ
put_digit zero x b = x
put_digit (suc m) x b = x * 2 + b

-- the lowest digit of y, where the mask's digit m is 1; and 0 where m is 0
unfoldable pub low_digit : ℕ → ℕ → ℕ
low_digit zero y = 0
low_digit (suc m) y = y % 2

-- y without its lowest digit, where the mask's digit m is 1; and y where m is 0
unfoldable pub drop_digit : ℕ → ℕ → ℕ
drop_digit zero y = y
drop_digit (suc m) y = y / 2

-- the bits of x at the inputs of M, of n inputs: "closed up, lowest first"
unfoldable pub gather : ℕ → ℕ → ℕ → ℕ
gather zero M x = 0
gather (suc n) M x = put_digit (M % 2) (gather n (M / 2) (x / 2)) (x % 2)

-- the bits of y, lowest first, at the inputs of M, of n inputs, and 0 at the others
unfoldable pub spread : ℕ → ℕ → ℕ → ℕ
spread zero M y = 0
spread (suc n) M y = spread n (M / 2) (drop_digit (M % 2) y) * 2 + low_digit (M % 2) y

-- "the other inputs": those of n inputs that are not in M, as a mask
unfoldable pub outside : ℕ → ℕ → ℕ
outside zero M = 0
outside (suc n) M = outside n (M / 2) * 2 + (1 - M % 2)

-- the number, of n inputs, that has the bits of j outside M and those of r in M
unfoldable pub join : ℕ → ℕ → ℕ → ℕ → ℕ
join n M j r = spread n (outside n M) j + spread n M r
