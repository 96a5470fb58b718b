-- The values of expressions, over any way to keep arguments.
use Rattle.std.specs.Prelude.{ℕ, ◌^◌, Bool, true, false, nat_lt, if◌then◌else◌, ℤ, pos, negsuc, ◌+ℤ◌, ◌-ℤ◌, ◌*ℤ◌, neg_ℤ, int_lt, int_le, int_div, int_rem, not, List, get_or, Result, Ok, Err}
use Rattle.std.specs.Ordering.{int_eq}
use Rattle.job_base.specs.declared.Trap.{Trap}
use Rattle.job_base.specs.declared.Trap.TheVariants.{Overflow, ZeroDivisor}
use Rattle.frame_ast.specs.declared.kernel.Operator.{Operator}
use Rattle.frame_ast.specs.declared.kernel.Operator.TheVariants.{Equal, NotEqual, Less, LessEqual, Greater, GreaterEqual, Plus, Minus, Times, Divide, Remainder}
use Rattle.frame_ast.specs.declared.kernel.Expr.{Expr}
use Rattle.frame_ast.specs.declared.kernel.Expr.TheVariants.{Number, Index, Local, Value, Element', Length, Has', Count', Item', Negative', Not', And', Or', Binary'}
use Rattle.frame_ast.specs.Contents.{then_value}

-- What arguments are: how they are read and changed, by the number of a parameter. S is what they are kept in.
pub record Operations (S : Type 0) : Type 0 where
  -- an `int` or a `ref`
  pub value : ℕ → S → ℤ
  pub set_value : ℕ → ℤ → S → S
  pub len : ℕ → S → ℕ
  -- `x[e]` of an array, a list or a map
  pub get : ℕ → ℤ → S → Result ℤ Trap
  pub put : ℕ → ℤ → ℤ → S → Result S Trap
  -- lists
  pub add : ℕ → ℤ → S → Result S Trap
  pub remove_at : ℕ → ℤ → S → Result S Trap
  -- maps
  pub has : ℕ → ℤ → S → Bool
  pub add_pair : ℕ → ℤ → ℤ → S → Result S Trap
  pub remove_key : ℕ → ℤ → S → S
  -- lists and maps
  pub clear : ℕ → S → S
  -- streams: the number of items of an index, an item of it, and how an index is begun and written
  pub count : ℕ → ℤ → S → Result ℕ Trap
  pub item : ℕ → ℤ → ℤ → S → Result ℤ Trap
  pub begin : ℕ → ℤ → S → Result S Trap
  pub write : ℕ → ℤ → ℤ → S → Result S Trap

-- a number of 64 bits
abbrev pub is_i64 : ℤ → Bool
is_i64 (pos n) = nat_lt n (2 ^ 63)
is_i64 (negsuc n) = nat_lt n (2 ^ 63)

-- a result, which traps where it isn't a number of 64 bits
abbrev pub checked : ℤ → Result ℤ Trap
checked z = if is_i64 z then Ok z else Err Overflow

-- a quotient or remainder, which traps where the divisor is 0 or the quotient isn't a number of 64 bits
abbrev pub divided : ℤ → ℤ → ℤ → Result ℤ Trap
divided m n z = if int_eq n (pos 0) then Err ZeroDivisor else then_value (checked (int_div m n)) (λ q. Ok z)

abbrev pub one_if : Bool → ℤ
one_if true = pos 1
one_if false = pos 0

-- a condition holds where it isn't 0
abbrev pub holds : ℤ → Bool
holds z = not (int_eq z (pos 0))

abbrev pub operate : Operator → ℤ → ℤ → Result ℤ Trap
operate Equal m n = Ok (one_if (int_eq m n))
operate NotEqual m n = Ok (one_if (not (int_eq m n)))
operate Less m n = Ok (one_if (int_lt m n))
operate LessEqual m n = Ok (one_if (int_le m n))
operate Greater m n = Ok (one_if (int_lt n m))
operate GreaterEqual m n = Ok (one_if (int_le n m))
operate Plus m n = checked (m +ℤ n)
operate Minus m n = checked (m -ℤ n)
operate Times m n = checked (m *ℤ n)
operate Divide m n = divided m n (int_div m n)
operate Remainder m n = divided m n (int_rem m n)

-- the right side of `&&` and `||`, which is evaluated only where the left one doesn't decide
abbrev pub also : Bool → (Unit {0} → Result ℤ Trap) → Result ℤ Trap
also false right = Ok (pos 0)
also true right = then_value (right tt) (λ n. Ok (one_if (holds n)))

abbrev pub otherwise : Bool → (Unit {0} → Result ℤ Trap) → Result ℤ Trap
otherwise true right = Ok (pos 1)
otherwise false right = then_value (right tt) (λ n. Ok (one_if (holds n)))

-- the value of an expression, or its trap; parts are evaluated from left to right
abbrev pub value_of : {S : Type 0} → Operations S → ℕ → Expr → List ℤ → S → Result ℤ Trap
value_of operations index (Number n) locals s = Ok n
value_of operations index Index locals s = Ok (pos index)
value_of operations index (Local k) locals s = Ok (get_or locals k (pos 0))
value_of operations index (Value x) locals s = Ok (operations.value x s)
value_of operations index (Element' x p e) locals s =
    then_value (value_of operations index e locals s) (λ i. operations.get x i s)
value_of operations index (Length x) locals s = Ok (pos (operations.len x s))
value_of operations index (Has' x p e) locals s =
    then_value (value_of operations index e locals s) (λ k. Ok (one_if (operations.has x k s)))
value_of operations index (Count' x p e) locals s =
    then_value (value_of operations index e locals s) (λ i.
    then_value (operations.count x i s) (λ n. Ok (pos n)))
value_of operations index (Item' x p e f) locals s =
    then_value (value_of operations index e locals s) (λ i.
    then_value (value_of operations index f locals s) (λ k. operations.item x i k s))
value_of operations index (Negative' p e) locals s =
    then_value (value_of operations index e locals s) (λ n. checked (neg_ℤ n))
value_of operations index (Not' p e) locals s =
    then_value (value_of operations index e locals s) (λ n. Ok (one_if (not (holds n))))
value_of operations index (And' p e f) locals s =
    then_value (value_of operations index e locals s) (λ m.
    also (holds m) (λ _. value_of operations index f locals s))
value_of operations index (Or' p e f) locals s =
    then_value (value_of operations index e locals s) (λ m.
    otherwise (holds m) (λ _. value_of operations index f locals s))
value_of operations index (Binary' op p e f) locals s =
    then_value (value_of operations index e locals s) (λ m.
    then_value (value_of operations index f locals s) (λ n. operate op m n))
