-- How the events of a statement, one after another, make its raw form.
use Rattle.std.specs.Prelude.{ℕ, ◌+◌, Bool, true, false, List, [], ◌∷◌, ◌++◌, Option, None, Some, take, drop, if◌then◌else◌}
use Rattle.frame_ast.specs.declared.script.Life.TheVariants.{Temp, TempJob, Persistent}
use Rattle.frame_grammar.specs.declared.symbols.Action.{Action}
use Rattle.frame_grammar.specs.declared.symbols.Action.TheVariants as action
use Rattle.frame_grammar.specs.declared.symbols.Event.{Event}
use Rattle.script_text.specs.declared.raw.RawNumber.{RawNumber}
use Rattle.script_text.specs.declared.raw.RawArg.{RawArg}
use Rattle.script_text.specs.declared.raw.RawArg.TheVariants as arg
use Rattle.script_text.specs.declared.raw.RawSizes.TheVariants as sizes
use Rattle.script_text.specs.declared.build_scalars.LastNames.{LastNames}
use Rattle.script_text.specs.declared.build_scalars.LastNumbers.{LastNumbers}
use Rattle.script_text.specs.declared.build_scalars.Scalars.{Scalars}
use Rattle.script_text.specs.declared.build.Reader.{Reader}
use Rattle.script_text.specs.Raw.{OrderForm, NewArray, NewColumn, NewList, NewReference, NewMap, NewStream, Slice, View, Copy, Set, Add, Put, Remove, Clear, SetCapacity, Schedule, Combine, Complete, Dispose, DisposeAuto, Print, Flush, Frame, Repeat, When, values_of}

-- the signed number, where there is one
abbrev pub signed_of : Option RawNumber → RawNumber
signed_of None = record { minus = false; at = 0 }
signed_of (Some n) = n

abbrev pub no_names : LastNames
no_names = record { before_last = 0; last = 0; opener = 0; handle = 0; kernel = 0 }

abbrev pub no_numbers : LastNumbers
no_numbers =
    record {
      before_last = 0;
      last = 0;
      operator_before = 0;
      operator = 0;
      signed_before = None;
      signed = None;
    }

abbrev pub no_scalars : Scalars
no_scalars =
    record {
      names = no_names;
      numbers = no_numbers;
      life = Persistent;
      auto = false;
      sizes = sizes.None;
      is_listing = false;
    }

abbrev pub with_name : ℕ → Scalars → Scalars
with_name q w = record w { names = record w.names { before_last = w.names.last; last = q } }

abbrev pub with_number : ℕ → Scalars → Scalars
with_number q w = record w { numbers = record w.numbers { before_last = w.numbers.last; last = q } }

abbrev pub with_operator : ℕ → Scalars → Scalars
with_operator q w = record w { numbers = record w.numbers { operator_before = w.numbers.operator; operator = q } }

abbrev pub with_signed : Option RawNumber → Scalars → Scalars
with_signed n w = record w { numbers = record w.numbers { signed_before = w.numbers.signed; signed = n } }

-- whether the event says a scalar of a statement outside its lists, or that one is left out
abbrev pub is_scalar : Action → Bool
is_scalar action.Name = true
is_scalar action.Number = true
is_scalar action.Text = true
is_scalar action.Operator = true
is_scalar action.MinusNumber = true
is_scalar action.PlainNumber = true
is_scalar action.NoNumber = true
is_scalar action.LifeNone = true
is_scalar action.LifeTemp = true
is_scalar action.LifeTempJob = true
is_scalar action.LifePersistent = true
is_scalar action.NoValues = true
is_scalar action.Auto = true
is_scalar action.NotAuto = true
is_scalar _ = false

-- what has been read, when this event comes at this place and says such a scalar
abbrev pub scalars_plainly_after : Action → ℕ → Scalars → Scalars
scalars_plainly_after action.Name q w = with_name q w
scalars_plainly_after action.Number q w = with_number q w
scalars_plainly_after action.Text q w = with_number q w
scalars_plainly_after action.Operator q w = with_operator q w
scalars_plainly_after action.MinusNumber q w = with_signed (Some (record { minus = true; at = w.numbers.last })) w
scalars_plainly_after action.PlainNumber q w = with_signed (Some (record { minus = false; at = w.numbers.last })) w
scalars_plainly_after action.NoNumber q w = with_signed None w
scalars_plainly_after action.LifeTemp q w = record w { life = Temp }
scalars_plainly_after action.LifeTempJob q w = record w { life = TempJob }
scalars_plainly_after action.Auto q w = record w { auto = true }
scalars_plainly_after _ q w = w

-- what has been read, when this event comes at this place
abbrev pub scalars_after : Action → ℕ → Scalars → Scalars
scalars_after action.OpenArguments q w =
    record w { names = record w.names { handle = w.names.before_last; kernel = w.names.last } }
scalars_after action.SizesLength q w = record w { sizes = sizes.Length w.numbers.before_last w.numbers.last }
scalars_after action.SizesDefer q w = record w { sizes = sizes.Defer w.names.last w.numbers.last }
scalars_after action.OpenNames q w = record w { names = record w.names { opener = w.names.last }; is_listing = true }
scalars_after action.Waived q w = record w { is_listing = false }
scalars_after action.After q w = record w { is_listing = false }
scalars_after a q w = scalars_plainly_after a q w

-- What has been read: its scalars, a schedule's arguments, the list of names that is being read or was last, and the
-- names after `waive`.
pub record Reading : Type 0 where
  pub scalars : Scalars
  pub args : List RawArg
  pub names : List ℕ
  pub waive : List ℕ

abbrev pub reading_of : Reader → Reading
reading_of r =
    record {
      scalars = r.scalars;
      args = r.args.items;
      names = r.names.items;
      waive = r.waive.items;
    }

-- these scalars, and no lists
abbrev pub only_scalars : Scalars → Reading
only_scalars w = record { scalars = w; args = []; names = []; waive = [] }

abbrev pub nothing_read : Reading
nothing_read = only_scalars no_scalars

-- what has been read, when this event comes at this place and leaves these scalars
abbrev pub lists_after : Action → ℕ → Scalars → Reading → Reading
lists_after action.Name q w r = record r { scalars = w; names = if w.is_listing then r.names ++ q ∷ [] else r.names }
lists_after action.NameArgument q w r = record r { scalars = w; args = r.args ++ arg.Name w.names.last ∷ [] }
lists_after action.NumberArgument q w r =
    record r { scalars = w; args = r.args ++ arg.Number (signed_of w.numbers.signed) ∷ [] }
lists_after action.Waived q w r = record r { scalars = w; names = r.waive; waive = r.names }
lists_after _ q w r = record r { scalars = w }

-- what has been read, when this event comes at this place
abbrev pub step : Action → ℕ → Reading → Reading
step a q r = lists_after a q (scalars_after a q r.scalars) r

-- whether a statement without lists that makes nothing but a handle is whole with this event
abbrev pub ends_use : Action → Bool
ends_use action.SetStatement = true
ends_use action.AddToStatement = true
ends_use action.PutStatement = true
ends_use action.RemoveFromStatement = true
ends_use action.ClearOutStatement = true
ends_use action.SetCapacityStatement = true
ends_use action.CompleteStatement = true
ends_use action.DisposeAutoStatement = true
ends_use action.PrintStatement = true
ends_use action.FlushStatement = true
ends_use action.FrameStatement = true
ends_use action.OpenRepeat = true
ends_use action.OpenWhen = true
ends_use _ = false

-- whether a statement without lists is whole with this event
abbrev pub ends_flat : Action → Bool
ends_flat action.ArrayStatement = true
ends_flat action.ColumnStatement = true
ends_flat action.ListStatement = true
ends_flat action.ReferenceStatement = true
ends_flat action.MapStatement = true
ends_flat action.StreamStatement = true
ends_flat action.SliceStatement = true
ends_flat action.ViewStatement = true
ends_flat action.CopyStatement = true
ends_flat a = ends_use a

-- whether a statement, or what stands before its brace, is whole with this event
abbrev pub ends : Action → Bool
ends action.ScheduleStatement = true
ends action.CombineStatement = true
ends action.DisposeStatement = true
ends action.DisposeAfterStatement = true
ends a = ends_flat a

abbrev pub operator_of : LastNumbers → ℕ
operator_of n = if (signed_of n.signed).minus then n.operator_before else n.operator

-- a statement without lists that makes nothing but a handle, when it is whole with this event
abbrev pub used : Action → Scalars → OrderForm
used action.SetStatement w = Set w.names.last w.numbers.signed_before (signed_of w.numbers.signed)
used action.AddToStatement w = Add w.names.last (signed_of w.numbers.signed_before) w.numbers.signed
used action.PutStatement w = Put w.names.last (signed_of w.numbers.signed_before) (signed_of w.numbers.signed)
used action.RemoveFromStatement w = Remove w.names.last (signed_of w.numbers.signed)
used action.ClearOutStatement w = Clear w.names.last
used action.SetCapacityStatement w = SetCapacity w.names.last w.numbers.last
used action.CompleteStatement w = Complete w.auto w.names.last
used action.DisposeAutoStatement w = DisposeAuto w.names.before_last w.names.last
used action.PrintStatement w = Print w.names.last
used action.FrameStatement w = Frame
used action.OpenRepeat w = Repeat w.numbers.last
used action.OpenWhen w = When w.names.last (operator_of w.numbers) (signed_of w.numbers.signed)
used _ w = Flush

-- a statement without lists
abbrev pub flat_form : Action → Scalars → OrderForm
flat_form action.ArrayStatement w = NewArray w.names.last w.numbers.last w.life None
flat_form action.ColumnStatement w = NewColumn w.names.last w.numbers.last w.life
flat_form action.ListStatement w = NewList w.names.last w.numbers.last w.life
flat_form action.ReferenceStatement w = NewReference w.names.last w.life w.numbers.signed
flat_form action.MapStatement w = NewMap w.names.last w.numbers.last w.life
flat_form action.StreamStatement w = NewStream w.names.last w.numbers.before_last w.numbers.last w.life
flat_form action.SliceStatement w = Slice w.names.before_last w.names.last w.numbers.before_last w.numbers.last
flat_form action.ViewStatement w = View w.names.before_last w.names.last
flat_form action.CopyStatement w = Copy w.names.before_last w.names.last
flat_form a w = used a w

-- the statement that is whole with this event
abbrev pub finished : Action → Reading → OrderForm
finished action.ScheduleStatement r =
    Schedule r.scalars.auto r.scalars.names.handle r.scalars.names.kernel r.args r.scalars.sizes r.waive r.names
finished action.CombineStatement r = Combine r.scalars.names.opener r.names
finished action.DisposeStatement r = Dispose r.scalars.names.last r.names None
finished action.DisposeAfterStatement r = Dispose r.scalars.names.opener r.names (Some r.scalars.names.last)
finished a r = flat_form a r.scalars

-- whether a signed number is whole with this event
abbrev pub ends_number : Action → Bool
ends_number action.MinusNumber = true
ends_number action.PlainNumber = true
ends_number _ = false

-- whether the values of an array stand behind this event
abbrev pub opens_values : Action → Bool
opens_values action.OpenValues = true
opens_values _ = false

-- whether the event closes the values of an array
abbrev pub closes_values : Action → Bool
closes_values action.CloseValues = true
closes_values _ = false

-- how many events stand before the first that closes the values of an array
abbrev pub values_len : List Event → ℕ
values_len [] = 0
values_len (e ∷ es) = if closes_values e.action then 0 else values_len es + 1

-- the array with the values that these events say, where those behind them begin with the one that closes its values
-- and the one that ends it; and the events behind it
abbrev pub array_with : Scalars → List Event → List Event → Option (OrderForm × List Event)
array_with w values (close ∷ end ∷ rest) =
    Some (NewArray w.names.last w.numbers.last w.life (Some (values_of values)), rest)
array_with w values _ = None

-- the statement that the events spell from here on, and the events behind it
abbrev pub order_from : Reading → List Event → Option (OrderForm × List Event)
order_from r [] = None
order_from r (e ∷ es) =
    if opens_values e.action then array_with r.scalars (take (values_len es) es) (drop (values_len es) es)
    else if ends e.action then Some (finished e.action r, es)
    else order_from (step e.action e.place r) es

-- whether the event closes a kernel
abbrev pub closes : Action → Bool
closes action.CloseKernel = true
closes _ = false

-- how many events stand up to the first that closes a kernel, with it; one more than all where none does
abbrev pub len_to_close : List Event → ℕ
len_to_close [] = 1
len_to_close (e ∷ es) = if closes e.action then 1 else len_to_close es + 1
