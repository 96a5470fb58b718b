-- The word form: what each operation on an argument does to cells, by the word forms of the containers' calls.
use Rattle.std.specs.Prelude.{ℕ, Bool, false, ℤ, pos, List, Result, Ok, Err}
use Rattle.job_base.specs.declared.Trap.{Trap}
use Rattle.job_base.specs.declared.Trap.TheVariants.{Range, OwnIndex}
use Rattle.frame_ast.specs.Contents.{then_value, place_in}
use Rattle.frame_ast.specs.Expressions.{Operations}
use Rattle.frame_ast.specs.Arguments.{if_owned}
use Rattle.native_array.specs.Words.{get_words as array_get, set_words as array_set, value_words, set_value_words}
use Rattle.native_list.specs.Words.{len_words, get_words as list_get, set_words as list_set, add_words as list_add, remove_words as list_remove, clear_words as list_clear}
use Rattle.native_map.specs.Words.{get_words as map_get, has_words, put_words, add_words as map_add, try_add_words, remove_words as map_remove, clear_words as map_clear, count_words}
use Rattle.native_stream.specs.Words.{items_words, at_words, begin_words, write_words, clear_words as stream_clear}
use Rattle.kernel_exec.specs.declared.binds.Bind.{Bind}
use Rattle.kernel_exec.specs.declared.binds.Bind.TheVariants.{Int, Array, View, List as WholeList, Ref, Map, Stream}
use Rattle.kernel_exec.specs.Binds.{width_if, bind_at}

-- the cells after a call, or its trap
abbrev pub after_call : {A : Type 0} → Result A Trap × (ℕ → ℤ) → Result (ℕ → ℤ) Trap
after_call (Ok answer, cells) = Ok cells
after_call (Err trap, cells) = Err trap

-- An operation on a container of another kind finds no place, and changes nothing.

-- an `int` or a reference
abbrev pub value_word : Bind → (ℕ → ℤ) → ℤ
value_word (Int z) cells = z
value_word (Ref at) cells = value_words at cells
value_word _ cells = pos 0

abbrev pub set_value_word : ℤ → Bind → (ℕ → ℤ) → ℕ → ℤ
set_value_word v (Ref at) cells = set_value_words at cells v
set_value_word v _ cells = cells

abbrev pub length_word : Bind → (ℕ → ℤ) → ℕ
length_word (Int z) cells = 0
length_word (Array at own) cells = at.len
length_word (View at own) cells = len_words at cells
length_word (WholeList at) cells = len_words at cells
length_word (Ref at) cells = 0
length_word (Map at) cells = count_words at cells
length_word (Stream at own) cells = at.count

-- `x[e]` and `x[e] = f`
abbrev pub get_word : ℕ → ℤ → Bind → (ℕ → ℤ) → Result ℤ Trap
get_word index i (Array at own) cells = if_owned own index i (array_get at cells i)
get_word index i (View at own) cells = if_owned own index i (list_get at cells i)
get_word index i (WholeList at) cells = list_get at cells i
get_word index i (Map at) cells = map_get at cells i
get_word index i _ cells = Err Range

abbrev pub put_word : ℕ → ℤ → ℤ → Bind → (ℕ → ℤ) → Result (ℕ → ℤ) Trap
put_word index i v (Array at own) cells = if_owned own index i (after_call (array_set at cells i v))
put_word index i v (View at own) cells = if_owned own index i (after_call (list_set at cells i v))
put_word index i v (WholeList at) cells = after_call (list_set at cells i v)
put_word index i v (Map at) cells = after_call (put_words at cells i v)
put_word index i v _ cells = Err Range

-- lists
abbrev pub add_word : ℤ → Bind → (ℕ → ℤ) → Result (ℕ → ℤ) Trap
add_word v (WholeList at) cells = after_call (list_add at cells v)
add_word v _ cells = Err Range

abbrev pub remove_at_word : ℤ → Bind → (ℕ → ℤ) → Result (ℕ → ℤ) Trap
remove_at_word i (WholeList at) cells = after_call (list_remove at cells i)
remove_at_word i _ cells = Err Range

-- maps
abbrev pub has_word : ℤ → Bind → (ℕ → ℤ) → Bool
has_word k (Map at) cells = has_words at cells k
has_word k _ cells = false

abbrev pub add_pair_word : ℤ → ℤ → Bind → (ℕ → ℤ) → Result (ℕ → ℤ) Trap
add_pair_word k v (Map at) cells = after_call (map_add at cells k v)
add_pair_word k v _ cells = Err Range

abbrev pub remove_key_word : ℤ → Bind → (ℕ → ℤ) → ℕ → ℤ
remove_key_word k (Map at) cells = (map_remove at cells k).1
remove_key_word k _ cells = cells

-- lists, maps and streams
abbrev pub clear_word : Bind → (ℕ → ℤ) → ℕ → ℤ
clear_word (WholeList at) cells = list_clear at cells
clear_word (Map at) cells = map_clear at cells
clear_word (Stream at own) cells = stream_clear at cells
clear_word _ cells = cells

-- streams: Range, else OwnIndex, else Written
abbrev pub count_word : ℤ → Bind → (ℕ → ℤ) → Result ℕ Trap
count_word i (Stream at own) cells = items_words at cells i
count_word i _ cells = Err Range

abbrev pub item_word : ℤ → ℤ → Bind → (ℕ → ℤ) → Result ℤ Trap
item_word i k (Stream at own) cells = at_words at cells i k
item_word i k _ cells = Err Range

abbrev pub begin_word : ℕ → ℤ → Bind → (ℕ → ℤ) → Result (ℕ → ℤ) Trap
begin_word index i (Stream at own) cells =
    then_value (if_owned (width_if own) index i (place_in at.count i)) (λ k. after_call (begin_words at cells i))
begin_word index i _ cells = Err Range

abbrev pub write_word : ℤ → ℤ → Bind → (ℕ → ℤ) → Result (ℕ → ℤ) Trap
write_word i v (Stream at own) cells = then_value (place_in at.count i) (λ k. after_call (write_words at cells k v))
write_word i v _ cells = Err Range

-- What a kernel does to words, at an index.
abbrev pub words : List Bind → ℕ → Operations (ℕ → ℤ)
words binds index = record {
  value = λ x cells. value_word (bind_at binds x) cells;
  set_value = λ x v cells. set_value_word v (bind_at binds x) cells;
  len = λ x cells. length_word (bind_at binds x) cells;
  get = λ x i cells. get_word index i (bind_at binds x) cells;
  put = λ x i v cells. put_word index i v (bind_at binds x) cells;
  add = λ x v cells. add_word v (bind_at binds x) cells;
  remove_at = λ x i cells. remove_at_word i (bind_at binds x) cells;
  has = λ x k cells. has_word k (bind_at binds x) cells;
  add_pair = λ x k v cells. add_pair_word k v (bind_at binds x) cells;
  remove_key = λ x k cells. remove_key_word k (bind_at binds x) cells;
  clear = λ x cells. clear_word (bind_at binds x) cells;
  count = λ x i cells. count_word i (bind_at binds x) cells;
  item = λ x i k cells. item_word i k (bind_at binds x) cells;
  begin = λ x i cells. begin_word index i (bind_at binds x) cells;
  write = λ x i v cells. write_word i v (bind_at binds x) cells;
}

-- why a place of an array of that length, which the index doesn't own, is refused
abbrev pub refusal_at : Result ℕ Trap → Trap
refusal_at (Ok k) = OwnIndex
refusal_at (Err trap) = trap

-- `y = try_add(m, e, f)`: whether the key was added
abbrev pub try_add_word : ℤ → ℤ → Bind → (ℕ → ℤ) → Result Bool Trap × (ℕ → ℤ)
try_add_word k v (Map at) cells = try_add_words at cells k v
try_add_word k v _ cells = (Err Range, cells)
