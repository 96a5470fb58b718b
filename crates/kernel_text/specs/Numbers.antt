-- The value of digits, and the Number that bytes begin with.
use Rattle.std.specs.Prelude.{ℕ, ◌&&◌, nat_le, List, take, Option, Some, None, if◌then◌else◌, ◌*◌, ◌+◌, ◌-◌, fold}
use Rattle.std.specs.List.{prefix_len}
use Rattle.std.specs.Char.{is_ascii_digit}

-- the value of decimal digits
abbrev pub value_of : List ℕ → ℕ
value_of = fold (λ value digit. 10 * value + (digit - 48)) 0

-- the value of the digits that the bytes begin with, where there is one at least and no more than so many
abbrev pub front_value : ℕ → List ℕ → Option ℕ
front_value most bytes =
    let digits = prefix_len is_ascii_digit bytes in
    if nat_le 1 digits && nat_le digits most then Some (value_of (take digits bytes)) else None
