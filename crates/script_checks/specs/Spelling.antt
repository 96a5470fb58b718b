-- Which statement of a script a statement's text says, where it has no fault. An unknown name has no place, and stands
-- as 0 here.
use Rattle.std.specs.Prelude.{◌≡◌, ℕ, Bool, true, false, Box, Vec, List, [], map, Option, None, Some, unwrap_or, position, slice_get, string_bytes}
use Rattle.std.specs.declared.alloc.Global.{Global}
use Rattle.std.specs.Option.{option_map}
use Rattle.std.specs.Str.{bytes_eq}
use Rattle.frame_ast.specs.declared.kernel.Param.{Param}
use Rattle.frame_ast.specs.declared.kernel.Kernel.{Kernel}
use Rattle.frame_ast.specs.declared.script.Arg.{Arg}
use Rattle.frame_ast.specs.declared.script.Arg.TheVariants as arg
use Rattle.frame_ast.specs.declared.script.NewJob.{NewJob}
use Rattle.frame_ast.specs.declared.script.Order.{Order}
use Rattle.frame_ast.specs.declared.script.Order.TheVariants as order
use Rattle.script_text.specs.declared.raw.RawNumber.{RawNumber}
use Rattle.script_text.specs.declared.raw.RawArg.{RawArg}
use Rattle.script_text.specs.declared.raw.RawArg.TheVariants.{Name, Number}
use Rattle.script_text.specs.declared.raw.RawSizes.{RawSizes}
use Rattle.script_text.specs.declared.raw.RawSizes.TheVariants as sizes
use Rattle.script_text.specs.declared.source.Source.{Source}
use Rattle.frame_ast.specs.declared.name_kind.NameKind.{NameKind}
use Rattle.script_text.specs.Raw.{OrderForm, NewArray, NewColumn, NewList, NewReference, NewMap, NewStream, Slice, View, Copy, Set, Add, Put, Remove, Clear, SetCapacity, Schedule, Combine, Complete, Dispose, DisposeAuto, Print, Flush, Frame, Repeat, When}
use Rattle.script_text.specs.Signs.{sign_in}
use Rattle.script_text.specs.Sources.{file_tokens, text_at, column_at, number_at, signed_at}
use Rattle.script_names.specs.Names.{Name as Known, place_in, with_name}
use Rattle.script_checks.specs.Faults.{made_by, kernel_in}

-- PLACES

abbrev pub place_of : Source → List Known → ℕ → ℕ
place_of s names at = unwrap_or (place_in names (text_at s at)) 0

abbrev pub kernel_place : List Kernel → List ℕ → ℕ
kernel_place kernels text = unwrap_or (position (λ k. bytes_eq text (string_bytes k.name)) kernels) 0

abbrev pub param_place : List Param → List ℕ → ℕ
param_place params text = unwrap_or (position (λ p. bytes_eq text (string_bytes p.name)) params) 0

abbrev pub params_of : Option Kernel → List Param
params_of None = []
params_of (Some k) = k.params.items

-- the parameters of the kernel that a schedule names
abbrev pub params_named : Source → List Kernel → ℕ → List Param
params_named s kernels at = params_of (kernel_in kernels (text_at s at))

-- PARTS

abbrev pub arg_of : Source → List Known → RawArg → Arg
arg_of s names (Name at) = arg.Name (place_of s names at)
arg_of s names (Number n) = arg.Number (signed_at s n)

abbrev pub cut_of : Source → RawSizes → Option (ℕ × ℕ)
cut_of s sizes.None = None
cut_of s (sizes.Length len batch) = Some (number_at s len, number_at s batch)
cut_of s (sizes.Defer list batch) = None

abbrev pub defer_of : Source → List Known → RawSizes → Option (ℕ × ℕ)
defer_of s names sizes.None = None
defer_of s names (sizes.Length len batch) = None
defer_of s names (sizes.Defer list batch) = Some (place_of s names list, number_at s batch)

-- the values of an array are a list of their own, whose number is that of the earlier ones
abbrev pub literal_of : ℕ → Option (List RawNumber) → Option ℕ
literal_of literals None = None
literal_of literals (Some values) = Some literals

abbrev pub complete_of : Bool → ℕ → Order
complete_of false name = order.Complete name
complete_of true name = order.CompleteAuto name

-- what a schedule says of its job
pub record SaysJob (s : Source) (names : List Known) (kernels : List Kernel) (auto : Bool) (handle kernel : ℕ)
    (args : List RawArg) (cut : RawSizes) (waive after : List ℕ) (job : NewJob) : Type 0 where
  pub auto_is : job.auto ≡ auto
  pub handle_is : job.handle ≡ place_of s names handle
  pub kernel_is : job.kernel ≡ kernel_place kernels (text_at s kernel)
  pub args_are : job.args.items ≡ map (arg_of s names) args
  pub cut_is : job.cut ≡ cut_of s cut
  pub defer_is : job.defer ≡ defer_of s names cut
  pub waive_are : job.waive.items ≡ map (λ at. param_place (params_named s kernels kernel) (text_at s at)) waive
  pub after_are : job.after.items ≡ map (place_of s names) after

-- STATEMENTS

-- where these names are known, these are the kernels and so many lists of values stand before it; `count` is how many
-- statements its block has, where it is a `when`
abbrev pub Says : Source → List Known → List Kernel → (literals count : ℕ) → OrderForm → Order → Type 0
Says s names kernels literals count (NewArray name len life values) o =
    o ≡ order.Array (place_of s names name) (number_at s len) life (literal_of literals values)
Says s names kernels literals count (NewColumn name column life) o =
    (bytes : Vec ℕ Global) × (bytes.items ≡ column_at s column) × (o ≡ order.Column (place_of s names name) bytes life)
Says s names kernels literals count (NewList name cap life) o =
    o ≡ order.List (place_of s names name) (number_at s cap) life
Says s names kernels literals count (NewReference name life value) o =
    o ≡ order.Reference (place_of s names name) life (option_map (signed_at s) value)
Says s names kernels literals count (NewMap name cap life) o =
    o ≡ order.Map (place_of s names name) (number_at s cap) life
Says s names kernels literals count (NewStream name indexes room life) o =
    o ≡ order.Stream (place_of s names name) (number_at s indexes) (number_at s room) life
Says s names kernels literals count (Slice name of start len) o =
    o ≡ order.Slice (place_of s names name) (place_of s names of) (number_at s start) (number_at s len)
Says s names kernels literals count (View name of) o = o ≡ order.View (place_of s names name) (place_of s names of)
Says s names kernels literals count (Copy name of) o = o ≡ order.Copy (place_of s names name) (place_of s names of)
Says s names kernels literals count (Set name at value) o =
    o ≡ order.Set (place_of s names name) (option_map (signed_at s) at) (signed_at s value)
Says s names kernels literals count (Add name one two) o =
    o ≡ order.Add (place_of s names name) (signed_at s one) (option_map (signed_at s) two)
Says s names kernels literals count (Put name key value) o =
    o ≡ order.Put (place_of s names name) (signed_at s key) (signed_at s value)
Says s names kernels literals count (Remove name at) o = o ≡ order.Remove (place_of s names name) (signed_at s at)
Says s names kernels literals count (Clear name) o = o ≡ order.Clear (place_of s names name)
Says s names kernels literals count (SetCapacity name cap) o =
    o ≡ order.SetCapacity (place_of s names name) (number_at s cap)
Says s names kernels literals count (Schedule auto handle kernel args cut waive after) o =
    (job : Box NewJob Global) × SaysJob s names kernels auto handle kernel args cut waive after job.value
    × (o ≡ order.Schedule job)
Says s names kernels literals count (Combine name of) o =
    (handles : Vec ℕ Global) × (handles.items ≡ map (place_of s names) of)
    × (o ≡ order.Combine (place_of s names name) handles)
Says s names kernels literals count (Complete auto name) o = o ≡ complete_of auto (place_of s names name)
Says s names kernels literals count (Dispose name after handle) o =
    (handles : Vec ℕ Global) × (handles.items ≡ map (place_of s names) after)
    × (o ≡ order.Dispose (place_of s names name) handles (option_map (place_of s names) handle))
Says s names kernels literals count (DisposeAuto name handle) o =
    o ≡ order.DisposeAuto (place_of s names name) (place_of s names handle)
Says s names kernels literals count (Print name) o = o ≡ order.Print (place_of s names name)
Says s names kernels literals count Flush o = o ≡ order.Flush
Says s names kernels literals count Frame o = o ≡ order.Frame
Says s names kernels literals count (Repeat n) o = ⊥
Says s names kernels literals count (When name test value) o =
    o ≡ order.When (place_of s names name) (sign_in (slice_get (file_tokens s) test)) (signed_at s value) count

-- the names known after a statement

abbrev pub names_with : Source → List Known → Option (ℕ × NameKind) → List Known
names_with s names None = names
names_with s names (Some m) = with_name names (text_at s m.0) m.1

abbrev pub names_after : Source → List Known → OrderForm → List Known
names_after s names form = names_with s names (made_by s names form)
