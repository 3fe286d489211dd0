-- Numbers as bytes: groups of seven bits, the lowest first, with the top bit set on all bytes but the last, in the fewest bytes.
use Rattle.std.specs.Prelude.{ℕ, zero, suc, ◌+◌, ◌-◌, ◌*◌, ◌/◌, ◌%◌, cond, List, [], ◌∷◌, ◌==◌, nat_lt}
use Rattle.record.specs.Got.{Got, got, refused, refuse}

-- a number in at most k + 1 groups; what these cannot hold is left out
unfoldable pub groups : ℕ → ℕ → List ℕ
groups zero n = (n % 128) ∷ []
groups (suc k) n = cond (nat_lt n 128) (n ∷ []) ((128 + n % 128) ∷ groups k (n / 128))

-- the bytes of a number: five groups hold those below 2 ^ 35
abbrev pub number_bytes : ℕ → List ℕ
number_bytes n = groups 4 n

-- a byte with its top bit set before the rest of its number, which is more than 0 in the fewest bytes
abbrev pub carried : ℕ → Got ℕ → Got ℕ
carried b (got n rest) = cond (n == 0) (refuse 26) (got (b - 128 + 128 * n) rest)
carried b (refused t) = refused t

-- a number of at most k bytes: the last of them may not go on
unfoldable pub read_groups : ℕ → List ℕ → Got ℕ
read_groups zero bytes = refuse 26
read_groups (suc k) [] = refuse 25
read_groups (suc k) (b ∷ bytes) = cond (nat_lt b 128) (got b bytes) (carried b (read_groups k bytes))

-- what bytes read as, as a number
abbrev pub read_number : List ℕ → Got ℕ
read_number bytes = read_groups 5 bytes
