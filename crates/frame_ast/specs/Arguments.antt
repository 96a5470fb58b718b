-- Arguments as contents, one for each parameter, and which places an index of a parallel job owns.
use Rattle.std.specs.Prelude.{ℕ, zero, ◌+◌, ◌*◌, Bool, true, false, ◌&&◌, nat_lt, nat_le, if◌then◌else◌, ℤ, pos, negsuc, List, [], length, get_or, set, Result, Ok, Err}
use Rattle.job_base.specs.declared.Trap.{Trap}
use Rattle.job_base.specs.declared.Trap.TheVariants.{Range, OwnIndex}
use Rattle.frame_ast.specs.Contents.{Contents, Cells, Single, Items, Pairs, Entries, with_single, then_value, place_in, item_at, set_at, add_item, swap_back, value_of_key, has_key, without_key, present_value, put_key, add_key, index_items, begin_index, write_index, cleared}
use Rattle.frame_ast.specs.Expressions.{Operations}

-- An index owns `width` places, and all of them where no rule holds, which is width 0.
abbrev pub owns : ℕ → ℕ → ℤ → Bool
owns zero index i = true
owns width index (pos i) = nat_le (index * width) i && nat_lt i (index * width + width)
owns width index (negsuc i) = false

abbrev pub if_owned : {A : Type 0} → ℕ → ℕ → ℤ → Result A Trap → Result A Trap
if_owned width index i r = then_value r (λ a. if owns width index i then Ok a else Err OwnIndex)

abbrev pub value_in : Contents → ℤ
value_in (Cells xs) = pos 0
value_in (Single z) = z
value_in (Items cap xs) = pos 0
value_in (Pairs cap ps) = pos 0
value_in (Entries room es) = pos 0

-- the length of an array or a list, the count of a map, the number of indexes of a stream
abbrev pub length_of : Contents → ℕ
length_of (Cells xs) = length xs
length_of (Single z) = 0
length_of (Items cap xs) = length xs
length_of (Pairs cap ps) = length ps
length_of (Entries room es) = length es

-- `x[e]`
abbrev pub get_in : ℕ → ℕ → ℤ → Contents → Result ℤ Trap
get_in width index i (Cells xs) = if_owned width index i (item_at xs i)
get_in width index i (Single z) = Err Range
get_in width index i (Items cap xs) = item_at xs i
get_in width index i (Pairs cap ps) = present_value (value_of_key ps i)
get_in width index i (Entries room es) = Err Range

-- `x[e] = f`
abbrev pub put_in : ℕ → ℕ → ℤ → ℤ → Contents → Result Contents Trap
put_in width index i v (Cells xs) = if_owned width index i (then_value (set_at xs i v) (λ ys. Ok (Cells ys)))
put_in width index i v (Single z) = Err Range
put_in width index i v (Items cap xs) = then_value (set_at xs i v) (λ ys. Ok (Items cap ys))
put_in width index i v (Pairs cap ps) = then_value (put_key cap ps i v) (λ qs. Ok (Pairs cap qs))
put_in width index i v (Entries room es) = Err Range

-- the pairs of a map, and a change of them; of a list and of a stream likewise
abbrev pub pairs_of : Contents → List (ℤ × ℤ)
pairs_of (Cells xs) = []
pairs_of (Single z) = []
pairs_of (Items cap xs) = []
pairs_of (Pairs cap ps) = ps
pairs_of (Entries room es) = []

abbrev pub on_items : (ℕ → List ℤ → Result (List ℤ) Trap) → Contents → Result Contents Trap
on_items f (Cells xs) = Err Range
on_items f (Single z) = Err Range
on_items f (Items cap xs) = then_value (f cap xs) (λ ys. Ok (Items cap ys))
on_items f (Pairs cap ps) = Err Range
on_items f (Entries room es) = Err Range

abbrev pub on_pairs : (ℕ → List (ℤ × ℤ) → Result (List (ℤ × ℤ)) Trap) → Contents → Result Contents Trap
on_pairs f (Cells xs) = Err Range
on_pairs f (Single z) = Err Range
on_pairs f (Items cap xs) = Err Range
on_pairs f (Pairs cap ps) = then_value (f cap ps) (λ qs. Ok (Pairs cap qs))
on_pairs f (Entries room es) = Err Range

abbrev pub without : ℤ → Contents → Contents
without k (Cells xs) = Cells xs
without k (Single z) = Single z
without k (Items cap xs) = Items cap xs
without k (Pairs cap ps) = Pairs cap (without_key ps k)
without k (Entries room es) = Entries room es

-- the items of an index
abbrev pub items_in : ℤ → Contents → Result (List ℤ) Trap
items_in i (Cells xs) = Err Range
items_in i (Single z) = Err Range
items_in i (Items cap xs) = Err Range
items_in i (Pairs cap ps) = Err Range
items_in i (Entries room es) = index_items es i

-- Range, else OwnIndex, else Written
abbrev pub begin_in : ℕ → ℕ → ℤ → Contents → Result Contents Trap
begin_in width index i (Cells xs) = Err Range
begin_in width index i (Single z) = Err Range
begin_in width index i (Items cap xs) = Err Range
begin_in width index i (Pairs cap ps) = Err Range
begin_in width index i (Entries room es) =
    then_value (if_owned width index i (place_in (length es) i)) (λ k.
    then_value (begin_index es i) (λ fs. Ok (Entries room fs)))

abbrev pub write_place : ℤ → Contents → ℤ → Result Contents Trap
write_place i (Cells xs) v = Err Range
write_place i (Single z) v = Err Range
write_place i (Items cap xs) v = Err Range
write_place i (Pairs cap ps) v = Err Range
write_place i (Entries room es) v =
    then_value (place_in (length es) i) (λ k. then_value (write_index room es k v) (λ fs. Ok (Entries room fs)))

-- the contents of parameter x, and the arguments with others in its place
abbrev pub argument : List Contents → ℕ → Contents
argument args x = get_or args x (Cells [])

abbrev pub changed : List Contents → ℕ → Result Contents Trap → Result (List Contents) Trap
changed args x r = then_value r (λ c. Ok (set args x c))

abbrev pub width_of : List ℕ → ℕ → ℕ
width_of widths x = get_or widths x 0

-- The own-index rule has a width for each parameter, 0 where it doesn't hold.
abbrev pub arguments : List ℕ → ℕ → Operations (List Contents)
arguments widths index = record {
  value = λ x args. value_in (argument args x);
  set_value = λ x v args. set args x (with_single v (argument args x));
  len = λ x args. length_of (argument args x);
  get = λ x i args. get_in (width_of widths x) index i (argument args x);
  put = λ x i v args. changed args x (put_in (width_of widths x) index i v (argument args x));
  add = λ x v args. changed args x (on_items (λ cap xs. add_item cap xs v) (argument args x));
  remove_at = λ x i args. changed args x (on_items (λ cap xs. swap_back xs i) (argument args x));
  has = λ x k args. has_key (pairs_of (argument args x)) k;
  add_pair = λ x k v args. changed args x (on_pairs (λ cap ps. add_key cap ps k v) (argument args x));
  remove_key = λ x k args. set args x (without k (argument args x));
  clear = λ x args. set args x (cleared (argument args x));
  count = λ x i args. then_value (items_in i (argument args x)) (λ xs. Ok (length xs));
  item = λ x i k args. then_value (items_in i (argument args x)) (λ xs. item_at xs k);
  begin = λ x i args. changed args x (begin_in (width_of widths x) index i (argument args x));
  write = λ x i v args. changed args x (write_place i (argument args x) v);
}
